-- What is known of a term is true of its value.
use Rattle.std.proofs.Common.{◌≡◌, ℕ, Bool, true, false, cond, List, [], ◌∷◌, ◌++◌, Option, Some, None}
use Rattle.std.proofs.Common.{Result, Ok, Err, refl, ap, sym, subst}
use Rattle.std.specs.List.{zip}
use Rattle.std.specs.Prelude.{unwrap_or, bytes_eq, is_some, length, option_and_then, option_map, pos, nat_lt, ◌*◌, ◌^◌}
use Rattle.std.specs.Str.Parse.{digits_value}
use Rattle.smt_trees.specs.Sexp.{Sexp, Sexps, Atom, Reserved, Items, Nil, Cons, Symbol, Numeral, Decimal}
use Rattle.smt_trees.specs.Sexp.{Hexadecimal, Binary, Text, Keyword}
use Rattle.smt_trees.specs.declared.reserved.Word.TheVariants.{As, Bang, Let, Underscore}
use Rattle.smt_bits.specs.Literals.{constant, known_constant}
use Rattle.smt_theory.specs.Width.{width_of}
use Rattle.smt_theory.specs.Words.{look_up}
use Rattle.smt_theory.specs.declared.op.Op.{Op}
use Rattle.smt_theory.specs.declared.op.OpFault.{OpFault}
use Rattle.smt_theory.specs.declared.theories.Theories.{Theories}
use Rattle.smt_values.specs.Element.{Abstract, Integer, Vector}
use Rattle.smt_values.specs.Element as plain
use Rattle.smt_arrays.specs.Element.{Element, Filled, Plain as NoArray, Agrees, AllAgree}
use Rattle.smt_arrays.specs.Known.{known_step}
use Rattle.smt_values.specs.Decimals.{decimal_value}
use Rattle.smt_values.specs.Literals.{decimal_element, numeral_element}
use Rattle.smt_values.specs.Operations.{DivisionByZero}
use Rattle.smt_arrays.specs.Operations.{operate}
use Rattle.smt_forms.specs.ElementNames.{qualified_symbol, sort_of_element}
use Rattle.smt_forms.specs.Heads.{begins_indexed}
use Rattle.smt_forms.specs.Identifier.{Identifier, Plain, Indexed, Qualified, applied, indexed, operator_of}
use Rattle.smt_values.specs.Element.{Naming}
use Rattle.smt_terms.specs.Signature.{Entry, Origin, Declared, Defined, Signature}
use Rattle.smt_faults.specs.declared.term_flaw.TermFlaw.{TermFlaw}
use Rattle.smt_eval.specs.Agreement.{AgreeBoth, AgreesWith}
use Rattle.smt_eval.specs.Known.{KnownMeaning, by_name, known_by, known_of, knowns_bound, knowns_of, known_of_op}
use Rattle.smt_eval.specs.Known.{known_operators, known_defined, other_known, with_known, known_after, known_in}
use Rattle.smt_eval.specs.Meaning.{Meaning, element_by, value_of, values_bound, values_of, meaning_of_op}
use Rattle.smt_eval.specs.Meaning.{element_of_symbol, operators, other_meaning, defined_value, with_definition}
use Rattle.smt_eval.specs.Meaning.{meaning_after, meaning_in}
use Rattle.smt_eval.proofs.EvaluatorLemmas.{element_kept}

-- a variable in front agrees
in_front : (b : Bool) (k : Option Element) (e : Element) (o : Option (Option Element)) (p : Option Element)
    → Agrees k e → AgreeBoth o p → AgreeBoth (cond b (Some k) o) (cond b (Some e) p)
in_front true k e o p here rest = here
in_front false k e o p here rest = rest

-- what identifiers are known to mean is true of what they mean
abbrev pub Means : KnownMeaning → Meaning → Type 0
Means k m = (f : Identifier) (ks : List (Option Element)) (es : List Element) → AllAgree ks es
    → Agrees (k.gives f ks) (m f es)

-- the law of the operators
abbrev pub StepsAreTrue : Type 0
StepsAreTrue = (z : DivisionByZero) (op : Op) (ks : List (Option Element)) (es : List Element)
    → AllAgree ks es → Agrees (known_step op ks) (operate z op es)

-- the law of decimals
abbrev pub DecimalsAreTrue : Type 0
DecimalsAreTrue = (digits : List ℕ) (e : plain.Element) → decimal_element digits ≡ Some e → e ≡ decimal_value digits

-- an element is that of its name
abbrev pub NamesAreTrue : KnownMeaning → Type 0
NamesAreTrue k = (x : List ℕ) → k.element x ≡ Some (Abstract x)

-- also behind an `as`
symbol_true : (k : KnownMeaning) → NamesAreTrue k → (o : Option (List ℕ))
    → Agrees (option_map NoArray (option_and_then k.element o)) (element_of_symbol o)
symbol_true k named None = tt
symbol_true k named (Some x) = subst (λ o. Agrees (option_map NoArray o) (NoArray (Abstract x))) (sym (named x)) refl

-- and that of a symbol, if it has the form of one
form_true : (x : List ℕ) (o : Option (List ℕ))
    → Agrees (option_map NoArray (option_and_then (λ sort. by_name x) o)) (NoArray (Abstract x))
form_true x None = tt
form_true x (Some sort) = refl

-- and so is what is no operator
other_true : (f : Identifier) (ks : List (Option Element)) (es : List Element) → AllAgree ks es
    → Agrees (other_known by_name f ks) (other_meaning f es)
other_true (Plain x) [] [] h = form_true x (sort_of_element x)
other_true (Plain x) [] (e ∷ es) h = absurd h
other_true (Plain x) (k ∷ ks) es h = tt
other_true (Indexed x indexes) ks es h = tt
other_true (Qualified sort) [] es h = tt
other_true (Qualified sort) (k ∷ []) [] h = absurd h
other_true (Qualified sort) (None ∷ []) (e ∷ []) h = tt
other_true (Qualified sort) (Some k ∷ []) (e ∷ []) h = ap Filled h.0
other_true (Qualified sort) (k ∷ []) (e ∷ f ∷ es) h = absurd h.1
other_true (Qualified sort) (k ∷ l ∷ ks) es h = tt

-- what operators are known to mean is true
Means-operators : StepsAreTrue → (z : DivisionByZero) (theories : Theories)
    → Means (known_operators by_name theories) (operators z theories)
Means-operators law z theories f ks es h = by (operator_of theories f)
  where
    by : (o : Result Op OpFault) → Agrees (known_of_op by_name o f ks) (meaning_of_op z o f es)
    by (Err fault) = other_true f ks es h
    by (Ok op) = law z op ks es h

-- whether a list is no `let`, no annotated term and no identifier with its sort
abbrev pub is_plain_list : Sexp → Sexps → Bool
is_plain_list (Reserved As) parts = false
is_plain_list (Reserved Let) (Cons (Items bindings) (Cons body Nil)) = false
is_plain_list (Reserved Bang) (Cons term attributes) = false
is_plain_list _ _ = true

-- such a list with another head than `_`
pub known-other : (k : KnownMeaning) (r : List (List ℕ × Option Element)) (head : Sexp) (args : Sexps)
    → is_plain_list head args ≡ true → begins_indexed head ≡ false
    → known_of k r (Items (Cons head args)) ≡ known_by (applied head args) (λ f. k.gives f (knowns_of k r args))
known-other k r (Reserved Underscore) args p h = cc
known-other k r (Reserved As) args p h = cc
known-other k r (Reserved Let) (Cons (Items bindings) (Cons body Nil)) p h = cc
known-other k r (Reserved Bang) (Cons term attributes) p h = cc
known-other k r _ _ p h = refl

pub value-other : (m : Meaning) (r : List (List ℕ × Element)) (head : Sexp) (args : Sexps)
    → is_plain_list head args ≡ true → begins_indexed head ≡ false
    → value_of m r (Items (Cons head args)) ≡ element_by (applied head args) (λ f. m f (values_of m r args))
value-other m r (Reserved Underscore) args p h = cc
value-other m r (Reserved As) args p h = cc
value-other m r (Reserved Let) (Cons (Items bindings) (Cons body Nil)) p h = cc
value-other m r (Reserved Bang) (Cons term attributes) p h = cc
value-other m r _ _ p h = refl

-- a variable, or else a name
unwrap_or_true : (a : Option (Option Element)) (b : Option Element) (k : Option Element) (e : Element)
    → AgreeBoth a b → Agrees k e → Agrees (unwrap_or a k) (unwrap_or b e)
unwrap_or_true None None k e h i = i
unwrap_or_true None (Some f) k e h i = absurd h
unwrap_or_true (Some l) None k e h i = absurd h
unwrap_or_true (Some l) (Some f) k e h i = h

-- what an identifier gives, if the tree is one
by_true : (o : Result Identifier TermFlaw) (k : Identifier → Option Element) (m : Identifier → Element)
    → ((f : Identifier) → Agrees (k f) (m f)) → Agrees (known_by o k) (element_by o m)
by_true (Ok f) k m h = h f
by_true (Err fault) k m h = tt

-- a numeral that is known is the integer that it spells
numeral_true : (digits : List ℕ)
    → Agrees (option_map NoArray (numeral_element digits)) (NoArray (Integer (pos (digits_value 10 digits))))
numeral_true digits = by (nat_lt (digits_value 10 digits) (2 ^ 127)) refl
  where
    by : (b : Bool) → nat_lt (digits_value 10 digits) (2 ^ 127) ≡ b
        → Agrees (option_map NoArray (numeral_element digits)) (NoArray (Integer (pos (digits_value 10 digits))))
    by true h = rw h refl
    by false h = rw h tt

-- so is a decimal
decimal_true : DecimalsAreTrue → (digits : List ℕ)
    → Agrees (option_map NoArray (decimal_element digits)) (NoArray (decimal_value digits))
decimal_true law digits = by (decimal_element digits) refl
  where
    by : (o : Option plain.Element) → decimal_element digits ≡ o
        → Agrees (option_map NoArray o) (NoArray (decimal_value digits))
    by None is = tt
    by (Some e) is = ap NoArray (sym (law digits e is))

-- so is a bit vector
constant_true : (base bits : ℕ) (digits : List ℕ)
    → Agrees (option_map NoArray (option_map Vector (known_constant base bits digits)))
    (NoArray (Vector (constant base bits digits)))
constant_true base bits digits = by (is_some (width_of (bits * length digits)))
  where
    by : (b : Bool) → Agrees (option_map NoArray (option_map Vector (cond b (Some (constant base bits digits)) None)))
        (NoArray (Vector (constant base bits digits)))
    by true = refl
    by false = tt

-- what is known of a term is true of its value
module _ (decimals : DecimalsAreTrue) (k : KnownMeaning) (m : Meaning) (means : Means k m)
    (named : NamesAreTrue k) where
  list_true : (known : List (List ℕ × Option Element)) (r : List (List ℕ × Element)) (head : Sexp)
      (args : Sexps) → AllAgree (knowns_of k known args) (values_of m r args)
      → is_plain_list head args ≡ true → (b : Bool) → begins_indexed head ≡ b
      → Agrees (known_of k known (Items (Cons head args))) (value_of m r (Items (Cons head args)))
  list_true known r head args all plain false other =
      subst (λ o. Agrees o (value_of m r (Items (Cons head args))))
      (sym (known-other k known head args plain other))
      (subst (λ e. Agrees (known_by (applied head args) (λ f. k.gives f (knowns_of k known args))) e)
      (sym (value-other m r head args plain other))
      (by_true (applied head args) (λ f. k.gives f (knowns_of k known args)) (λ f. m f (values_of m r args))
      (λ f. means f (knowns_of k known args) (values_of m r args) all)))
  list_true known r (Reserved Underscore) args all plain true is =
      by_true (indexed args) (λ f. k.gives f []) (λ f. m f []) (λ f. means f [] [] tt)
  list_true known r _ args all plain true is = cc

  mutual
    pub term_true : (known : List (List ℕ × Option Element)) (r : List (List ℕ × Element))
        → AgreesWith known r → (t : Sexp) → Agrees (known_of k known t) (value_of m r t)
    term_true known r agrees (Atom Symbol x) = unwrap_or_true (look_up known x) (look_up r x) (k.gives (Plain x) [])
        (m (Plain x) []) (agrees x) (means (Plain x) [] [] tt)
    term_true known r agrees (Atom Numeral x) = numeral_true x
    term_true known r agrees (Atom Decimal x) = decimal_true decimals x
    term_true known r agrees (Atom Hexadecimal x) = constant_true 16 4 x
    term_true known r agrees (Atom Binary x) = constant_true 2 1 x
    term_true known r agrees (Atom Text x) = tt
    term_true known r agrees (Atom Keyword x) = tt
    term_true known r agrees (Reserved word) = tt
    term_true known r agrees (Items Nil) = tt
    term_true known r agrees (Items (Cons (Reserved As) parts)) =
        symbol_true k named (qualified_symbol parts)
    term_true known r agrees (Items (Cons (Reserved Let) (Cons (Items bindings) (Cons body Nil)))) =
        term_true (knowns_bound k known bindings ++ known) (values_bound m r bindings ++ r)
        (bound_true known r agrees bindings) body
    term_true known r agrees (Items (Cons (Reserved Bang) (Cons term attributes))) =
        term_true known r agrees term
    term_true known r agrees (Items (Cons head args)) =
        list_true known r head args (terms_true known r agrees args) refl (begins_indexed head) refl

    pub terms_true : (known : List (List ℕ × Option Element)) (r : List (List ℕ × Element))
        → AgreesWith known r → (ts : Sexps) → AllAgree (knowns_of k known ts) (values_of m r ts)
    terms_true known r agrees Nil = tt
    terms_true known r agrees (Cons t ts) = (term_true known r agrees t, terms_true known r agrees ts)

    bound_true : (known : List (List ℕ × Option Element)) (r : List (List ℕ × Element)) → AgreesWith known r
        → (ts : Sexps) → AgreesWith (knowns_bound k known ts ++ known) (values_bound m r ts ++ r)
    bound_true known r agrees (Cons (Items (Cons (Atom Symbol y) (Cons t Nil))) rest) x =
        in_front (bytes_eq x y) (known_of k known t) (value_of m r t)
        (look_up (knowns_bound k known rest ++ known) x) (look_up (values_bound m r rest ++ r) x)
        (term_true known r agrees t) (bound_true known r agrees rest x)
    bound_true known r agrees _ x = agrees x

-- arguments that agree make parameters that agree
AgreesWith-zip : (ps : List (List ℕ)) (ks : List (Option Element)) (es : List Element) → AllAgree ks es
    → AgreesWith (zip ps ks) (zip ps es)
AgreesWith-zip [] ks es h x = tt
AgreesWith-zip (p ∷ ps) [] [] h x = tt
AgreesWith-zip (p ∷ ps) [] (e ∷ es) h x = absurd h
AgreesWith-zip (p ∷ ps) (k ∷ ks) [] h x = absurd h
AgreesWith-zip (p ∷ ps) (k ∷ ks) (e ∷ es) h x = in_front (bytes_eq x p) k e (look_up (zip ps ks) x)
    (look_up (zip ps es) x) h.0 (AgreesWith-zip ps ks es h.1 x)

-- one more definition keeps that
Means-with : DecimalsAreTrue → (k : KnownMeaning) (m : Meaning) (e : Entry) → Means k m → NamesAreTrue k
    → Means (with_known k e) (with_definition m e)
Means-with decimals k m e means named (Indexed f indexes) ks es h = means (Indexed f indexes) ks es h
Means-with decimals k m e means named (Qualified sort) ks es h = means (Qualified sort) ks es h
Means-with decimals k m e means named (Plain f) ks es h = by (bytes_eq f e.name) e.origin
  where
    by : (b : Bool) (s : Origin)
        → Agrees (cond b (known_defined k s ks) (k.gives (Plain f) ks))
        (cond b (defined_value m s es) (m (Plain f) es))
    by true (Declared command) = tt
    by true (Defined ps body) =
        term_true decimals k m means named (zip ps ks) (zip ps es) (AgreesWith-zip ps ks es h) body
    by false s = means (Plain f) ks es h

-- and so do any
Means-after : DecimalsAreTrue → (k : KnownMeaning) (m : Meaning) (ds : List Entry) → Means k m → NamesAreTrue k
    → Means (known_after k ds) (meaning_after m ds)
Means-after decimals k m [] means named = means
Means-after decimals k m (d ∷ ds) means named =
    Means-after decimals (with_known k d) (with_definition m d) ds (Means-with decimals k m d means named) named

-- what is known is the value
pub known_is_true : StepsAreTrue → DecimalsAreTrue
    → (z : DivisionByZero) (definitions : Signature) (known : List (List ℕ × Option Element))
    (r : List (List ℕ × Element)) (term : Sexp)
    → AgreesWith known r → Agrees (known_of (known_in definitions) known term)
    (value_of (meaning_in z definitions) r term)
known_is_true law decimals z definitions known r term agrees =
    term_true decimals (known_in definitions) (meaning_in z definitions)
    (Means-after decimals (known_operators by_name definitions.theories) (operators z definitions.theories)
    definitions.entries
    (Means-operators law z definitions.theories) (λ x. refl))
    (λ x. ap (λ (f : Naming). f x) (element_kept (known_operators by_name definitions.theories) definitions.entries))
    known r agrees term
