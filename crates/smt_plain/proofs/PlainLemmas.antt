-- What names are known to mean over definitions that are kept as their trees.
use Rattle.std.proofs.Common.{◌≡◌, ◌≤◌, ℕ, suc, ◌+◌, true, false, cond, List, [], ◌∷◌}
use Rattle.std.proofs.Common.{◌++◌, length, slice_index_or, take, Option, Some, None, Result, Ok, Err, refl, ap}
use Rattle.std.proofs.Common.{sym, ◌∙◌, subst, arith}
use Rattle.std.proofs.Math.Seq.{take-suc}
use Rattle.std.proofs.lemmas.List.{map-append}
use Rattle.std.specs.Bool.{◌==◌}
use Rattle.std.specs.Prelude.{bytes_eq, ok_or, option_map}
use Rattle.smt_trees.specs.Sexp.{Sexp, Sexps, Atom, Cons, Symbol, weight}
use Rattle.smt_trees.specs.View.{sexp_of}
use Rattle.smt_arrays.specs.Element.{Element}
use Rattle.smt_plain.specs.PlainTerm.{known_single, known_singles}
use Rattle.smt_values.specs.declared.value.Value.{Value}
use Rattle.smt_theory.specs.Index.{IndexView}
use Rattle.smt_theory.specs.declared.op.Op.{Op}
use Rattle.smt_theory.specs.declared.op.OpFault.{OpFault}
use Rattle.smt_theory.specs.declared.theories.Theories.{Theories}
use Rattle.smt_forms.specs.Identifier.{Identifier, Plain, Indexed, Qualified, all_indexes, indexed, operator_of}
use Rattle.smt_faults.specs.declared.term_flaw.TermFlaw.TheVariants.{Form}
use Rattle.smt_values.specs.Element.{Naming}
use Rattle.smt_terms.specs.Signature.{Entry}
use Rattle.smt_plain.specs.Internal.PlainEvaluation.{bodies_weight}
use Rattle.smt_plain.proofs.KnownLemmas.{known_of_no_name}
use Rattle.smt_eval.specs.Known.{KnownMeaning, known_after, known_defined, known_of_op, known_operators}
use Rattle.smt_eval.specs.Known.{other_known, with_known}
use Rattle.smt_plain.specs.PlainTerm.{entries_of, entry_of, origin_of, unless_array, without_arrays}
use Rattle.smt_plain.specs.declared.closed.Definition.{Definition}

-- the last of the first so many, and those before it
pub last_of_first : {A : Type 0} (xs : List A) (j n : ℕ) (x : A) → n ≡ suc j → n ≤ length xs
    → x ≡ slice_index_or xs j x → take n xs ≡ take j xs ++ x ∷ []
last_of_first xs j n x next within is =
    ap (λ k. take k xs) next ∙ take-suc xs j x (omega (arith, within, next)) ∙ ap (λ y. take j xs ++ y ∷ []) (sym is)

-- one more definition hides the earlier ones
known_after-last : (m : KnownMeaning) (es : List Entry) (e : Entry)
    → known_after m (es ++ e ∷ []) ≡ with_known (known_after m es) e
known_after-last m [] e = refl
known_after-last m (c ∷ es) e = known_after-last (with_known m c) es e

known_last : (m : KnownMeaning) (before all : List Definition) (d : Definition) (x : List ℕ)
    (args : List (Option Element)) → all ≡ before ++ d ∷ []
    → (known_after m (entries_of all)).gives (Plain x) args
    ≡ cond (bytes_eq x d.name.now) (known_defined (known_after m (entries_of before)) (origin_of d) args)
    ((known_after m (entries_of before)).gives (Plain x) args)
known_last m before all d x args is =
    ap (λ es. (known_after m es).gives (Plain x) args) (ap entries_of is ∙ map-append entry_of before (d ∷ []))
    ∙ ap (λ (k : KnownMeaning). k.gives (Plain x) args) (known_after-last m (entries_of before) (entry_of d))

-- the last definition is meant where it has the name
pub last_is_meant : (m : KnownMeaning) (before all : List Definition) (d : Definition) (x : List ℕ)
    (args : List (Option Element)) → all ≡ before ++ d ∷ [] → bytes_eq x d.name.now ≡ true
    → (known_after m (entries_of all)).gives (Plain x) args
    ≡ known_defined (known_after m (entries_of before)) (origin_of d) args
last_is_meant m before all d x args is named = known_last m before all d x args is ∙ ap
    (λ b. cond b (known_defined (known_after m (entries_of before)) (origin_of d) args)
    ((known_after m (entries_of before)).gives (Plain x) args)) named

-- and what was meant before it where it hasn't
pub last_is_not_meant : (m : KnownMeaning) (before all : List Definition) (d : Definition) (x : List ℕ)
    (args : List (Option Element)) → all ≡ before ++ d ∷ [] → bytes_eq x d.name.now ≡ false
    → (known_after m (entries_of all)).gives (Plain x) args ≡ (known_after m (entries_of before)).gives (Plain x) args
last_is_not_meant m before all d x args is named = known_last m before all d x args is ∙ ap
    (λ b. cond b (known_defined (known_after m (entries_of before)) (origin_of d) args)
    ((known_after m (entries_of before)).gives (Plain x) args)) named

-- the last body and those before it
pub weight-last : (before all : List Definition) (d : Definition) → all ≡ before ++ d ∷ []
    → bodies_weight all ≡ bodies_weight before + weight (sexp_of d.body)
weight-last before all d is = ap bodies_weight is ∙ by before
  where
    by : (ds : List Definition)
        → bodies_weight (ds ++ d ∷ []) ≡ bodies_weight ds + weight (sexp_of d.body)
    by [] = omega arith
    by (c ∷ ds) = let w = by ds in omega (arith, w)

-- nothing is known of what is no operator, applied to arguments
pub element_takes_none : (element : Naming) (op : Result Op OpFault) (fault : OpFault) (x : List ℕ) (args : List (Option Value))
    → op ≡ Err fault → false ≡ (length args == 0)
    → None ≡ unless_array (known_of_op element op (Plain x) (known_singles args))
element_takes_none element op fault x [] is some = cc
element_takes_none element op fault x (v ∷ vs) is some =
    sym (ap (λ o. unless_array (known_of_op element o (Plain x) (known_singles (v ∷ vs)))) is)

abbrev IsIndexed : Identifier → Type 0
IsIndexed (Indexed x indexes) = Unit {0}
IsIndexed _ = ⊥

-- an identifier by what stands behind a `_` has indexes
always_indexed : (f : Identifier) (parts : Sexps) → indexed parts ≡ Ok f → IsIndexed f
always_indexed f (Cons (Atom Symbol y) (Cons t ts)) h = by (all_indexes (Cons t ts)) h
  where
    by : (o : Option (List IndexView)) → ok_or (option_map (λ is. Indexed y is) o) Form ≡ Ok f → IsIndexed f
    by None h = cc
    by (Some is) h = let same : Indexed y is ≡ f = cc in subst IsIndexed same tt
always_indexed f _ h = cc

-- what has indexes is an operator
pub indexed_is_operator : (element : Naming) (theories : Theories) (es : List Entry) (f : Identifier) (parts : Sexps)
    (v : Option Value) (op : Result Op OpFault) → indexed parts ≡ Ok f → op ≡ operator_of theories f
    → ((x : List ℕ) (indexes : List IndexView)
    → known_single v ≡ unless_array (known_of_op element op (Indexed x indexes) []))
    → known_single v ≡ (known_after (without_arrays (known_operators element theories)) es).gives f []
indexed_is_operator element theories es (Indexed x indexes) parts v op is found given =
    given x indexes ∙ ap (λ o. unless_array (known_of_op element o (Indexed x indexes) [])) found
    ∙ sym (known_of_no_name (Indexed x indexes) tt (without_arrays (known_operators element theories)) es [])
indexed_is_operator element theories es (Plain x) parts v op is found given =
    absurd (always_indexed (Plain x) parts is)
indexed_is_operator element theories es (Qualified sort) parts v op is found given =
    absurd (always_indexed (Qualified sort) parts is)

-- a constant array is open, as each array is
pub constant_open : (element : Naming) (theories : Theories) (es : List Entry) (sort : Sexp) (args : List (Option Element))
    → None ≡ (known_after (without_arrays (known_operators element theories)) es).gives (Qualified sort) args
constant_open element theories es sort args =
    by args ∙ sym (known_of_no_name (Qualified sort) tt (without_arrays (known_operators element theories)) es args)
  where
    by : (args : List (Option Element)) → None ≡ unless_array (other_known element (Qualified sort) args)
    by [] = refl
    by (None ∷ []) = refl
    by (Some e ∷ []) = refl
    by (k ∷ l ∷ ks) = refl
