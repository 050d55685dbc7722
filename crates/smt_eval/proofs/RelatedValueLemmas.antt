-- Values of one term are related where the values of the variables are, and the elements that are named are related to
-- themselves.
use Rattle.std.proofs.Common.{◌≡◌, ◌≤◌, ℕ, Bool, true, false, cond, ◌||◌, List, [], ◌∷◌, ◌++◌, map, length}
use Rattle.std.proofs.Common.{Option, Some, None, is_some, Result, Ok, Err, refl, sym, subst, arith}
use Rattle.std.specs.List.{zip}
use Rattle.std.specs.Prelude.{ℤ, bytes_eq, ok_or, option_map, unwrap_or}
use Rattle.smt_bits.specs.BitVector.{BitVector}
use Rattle.smt_ratios.specs.Operators.{decimal}
use Rattle.smt_ratios.specs.Rational as rational
use Rattle.smt_ratios.specs.Rational.{Rational}
use Rattle.smt_trees.specs.Sexp as sexp
use Rattle.smt_trees.specs.Sexp.{Sexp, Sexps, Atom, Reserved, Items, Nil, Cons, Symbol, Keyword, Numeral}
use Rattle.smt_trees.specs.Sexp.{Hexadecimal, Binary, count}
use Rattle.smt_trees.specs.declared.reserved.Word.TheVariants.{As, Bang, Let, Underscore}
use Rattle.smt_theory.specs.Index.{IndexView}
use Rattle.smt_theory.specs.Operators.{plain_op}
use Rattle.smt_theory.specs.Words.{look_up}
use Rattle.smt_theory.specs.declared.op.Op.{Op}
use Rattle.smt_theory.specs.declared.op.OpFault.{OpFault}
use Rattle.smt_theory.specs.declared.op.OpFault.TheVariants.{Unknown}
use Rattle.smt_theory.specs.declared.theories.Theories.{Theories}
use Rattle.smt_theory.specs.Sort.{Boolean as BooleanSort}
use Rattle.smt_theory.specs.declared.op.ArraysOp.TheVariants.{Const}
use Rattle.smt_theory.specs.declared.op.Op.TheVariants.{Arrays}
use Rattle.smt_values.specs.Element.{Integer, Fraction, Vector, Abstract}
use Rattle.smt_values.specs.Decimals.{decimal_digits, places}
use Rattle.smt_values.specs.Numbers.{element_of_number}
use Rattle.smt_values.specs.Operations.{DivisionByZero}
use Rattle.smt_arrays.specs.Element.{Element, Plain as NoArray}
use Rattle.smt_arrays.specs.Operations.{operate, truth}
use Rattle.smt_faults.specs.declared.term_flaw.TermFlaw.{TermFlaw}
use Rattle.smt_faults.specs.declared.term_flaw.TermFlaw.TheVariants.{Form}
use Rattle.smt_forms.specs.Bindings.{named_trees}
use Rattle.smt_forms.specs.Identifier.{Identifier, Plain, Indexed, Qualified, all_indexes, applied, indexed}
use Rattle.smt_forms.specs.Identifier.{operator_of}
use Rattle.smt_forms.specs.Variables.{is_among}
use Rattle.smt_terms.specs.Signature.{Entry, Origin, Declared, Defined, Signature}
use Rattle.smt_eval.specs.Meaning.{Meaning, defined_value, element_by, meaning_after, meaning_in, meaning_of_op}
use Rattle.smt_eval.specs.Meaning.{operators, value_of, values_bound, values_of, with_definition}
use Rattle.smt_eval.specs.NamedElements.{AllNameOnly, BindingsNameOnly, BodiesNameOnly, BodyNamesOnly}
use Rattle.smt_eval.specs.NamedElements.{DefinitionsNameOnly, IsHeadUsedFor, IsUsedFor, NamesOnly, OfNames}
use Rattle.smt_eval.specs.Renaming.{Parameters, UnlessVariable, operators_take, parameters_after, parameters_in}
use Rattle.smt_eval.specs.Renaming.{parameters_of, with_parameters}

abbrev pub Variables : Type 0
Variables = List (List ℕ × Element)

-- a relation of elements
abbrev pub Relation : Type 1
Relation = Element → Element → Type 0

-- each is related to the one at its place, and there are as many
abbrev pub AllRelated : Relation → List Element → List Element → Type 0
AllRelated R [] [] = Unit {0}
AllRelated R (d ∷ ds) (e ∷ es) = R d e × AllRelated R ds es
AllRelated R _ _ = ⊥

abbrev pub OptionRelated : Relation → Option Element → Option Element → Type 0
OptionRelated R None None = Unit {0}
OptionRelated R (Some d) (Some e) = R d e
OptionRelated R _ _ = ⊥

-- variables of the same names have related values
abbrev pub AreRelated : Relation → Variables → Variables → Type 0
AreRelated R s r = (x : List ℕ) → OptionRelated R (look_up s x) (look_up r x)

-- constants and elements of these names are related to themselves, and operators keep the relation
pub record IsKept (P : OfNames) (R : Relation) : Type 0 where
  pub truths : (b : Bool) → R (truth b) (truth b)
  pub integers : (z : ℤ) → R (NoArray (Integer z)) (NoArray (Integer z))
  pub fractions : (n : ℤ) (d : ℕ) → R (NoArray (Fraction n d)) (NoArray (Fraction n d))
  pub vectors : (v : BitVector) → R (NoArray (Vector v)) (NoArray (Vector v))
  pub names : (x : List ℕ) → P x → R (NoArray (Abstract x)) (NoArray (Abstract x))
  pub results : (z : DivisionByZero) (op : Op) (ds es : List Element) → AllRelated R ds es
      → R (operate z op ds) (operate z op es)

-- what names with all their arguments mean keeps the relation
pub record IsMeant (P : OfNames) (R : Relation) (takes : Parameters) (m : Meaning) : Type 0 where
  pub named : (x : List ℕ) (ds es : List Element) → IsUsedFor P x (takes x) (length ds) → AllRelated R ds es
      → R (m (Plain x) ds) (m (Plain x) es)
  pub numbered : (x : List ℕ) (indexes : List IndexView) (ds es : List Element) → AllRelated R ds es
      → R (m (Indexed x indexes) ds) (m (Indexed x indexes) es)
  pub constant : (sort : Sexp) (ds es : List Element) → AllRelated R ds es
      → R (m (Qualified sort) ds) (m (Qualified sort) es)

-- each of these names has a value
abbrev pub HaveValues : List (List ℕ) → Variables → Type 0
HaveValues names r = (x : List ℕ) → is_among names x ≡ true → is_some (look_up r x) ≡ true

variables_have : (r : Variables) → HaveValues (map (λ v. v.0) r) r
variables_have [] x among = among
variables_have (v ∷ r) x among = by (bytes_eq x v.0) among (variables_have r x)
  where
    by : (b : Bool) → b || is_among (map (λ w. w.0) r) x ≡ true
        → (is_among (map (λ w. w.0) r) x ≡ true → is_some (look_up r x) ≡ true)
        → is_some (cond b (Some v.1) (look_up r x)) ≡ true
    by true among rest = refl
    by false among rest = rest among

zip_has : (ps : List (List ℕ)) (es : List Element) → length ps ≤ length es → HaveValues ps (zip ps es)
zip_has [] es all x among = cc
zip_has (p ∷ ps) [] all x among = absurd (omega (arith, all))
zip_has (p ∷ ps) (e ∷ es) all x among = by (bytes_eq x p) among (zip_has ps es (omega (arith, all)) x)
  where
    by : (b : Bool) → b || is_among ps x ≡ true
        → (is_among ps x ≡ true → is_some (look_up (zip ps es) x) ≡ true)
        → is_some (cond b (Some e) (look_up (zip ps es) x)) ≡ true
    by true among rest = refl
    by false among rest = rest among

counted : (m : Meaning) (r : Variables) (ts : Sexps) → length (values_of m r ts) ≡ count ts
counted m r Nil = refl
counted m r (Cons t ts) = let rest = counted m r ts in omega (arith, rest)

-- an identifier with indexes is no symbol
never_plain : (x : List ℕ) (parts : Sexps) → indexed parts ≡ Ok (Plain x) → ⊥
never_plain x (Cons (Atom Symbol y) (Cons t ts)) h = by (all_indexes (Cons t ts)) h
  where
    by : (o : Option (List IndexView)) → ok_or (option_map (λ is. Indexed y is) o) Form ≡ Ok (Plain x) → ⊥
    by None h = cc
    by (Some is) h = cc
never_plain x _ h = cc

module _ (P : OfNames) (R : Relation) (kept : IsKept P R) where
  number_related : (a : Rational) → R (NoArray (element_of_number a)) (NoArray (element_of_number a))
  number_related (rational.Integer z) = kept.integers z
  number_related (rational.Fraction n d) = kept.fractions n d

  operators_related : (z : DivisionByZero) (theories : Theories)
      → IsMeant P R (operators_take theories) (operators z theories)
  operators_related z theories = record {
    named = λ x ds es met all. plain x ds es (plain_op theories x) met all;
    numbered = λ x indexes ds es all. with_indexes x indexes ds es (operator_of theories (Indexed x indexes)) all;
    constant = constants;
  }
    where
      constants : (sort : Sexp) (ds es : List Element) → AllRelated R ds es
          → R (operators z theories (Qualified sort) ds) (operators z theories (Qualified sort) es)
      constants sort [] [] all = kept.truths false
      constants sort (d ∷ []) (e ∷ []) all = kept.results z (Arrays (Const BooleanSort)) (d ∷ []) (e ∷ []) all
      constants sort (d ∷ []) (e ∷ f ∷ es) all = absurd all.1
      constants sort (d ∷ c ∷ ds) (e ∷ []) all = absurd all.1
      constants sort (d ∷ c ∷ ds) (e ∷ f ∷ es) all = kept.truths false
      constants sort [] (e ∷ es) all = absurd all
      constants sort (d ∷ ds) [] all = absurd all

      plain : (x : List ℕ) (ds es : List Element) (o : Option Op)
          → IsUsedFor P x (cond (is_some o) (Some 0) None) (length ds) → AllRelated R ds es
          → R (meaning_of_op z (ok_or o Unknown) (Plain x) ds) (meaning_of_op z (ok_or o Unknown) (Plain x) es)
      plain x ds es (Some op) met all = kept.results z op ds es all
      plain x [] [] None met all = kept.names x met
      plain x (d ∷ ds) (e ∷ es) None met all = kept.truths false
      plain x [] (e ∷ es) None met all = absurd all
      plain x (d ∷ ds) [] None met all = absurd all

      with_indexes : (x : List ℕ) (indexes : List IndexView) (ds es : List Element) (o : Result Op OpFault)
          → AllRelated R ds es
          → R (meaning_of_op z o (Indexed x indexes) ds) (meaning_of_op z o (Indexed x indexes) es)
      with_indexes x indexes ds es (Ok op) all = kept.results z op ds es all
      with_indexes x indexes ds es (Err fault) all = kept.truths false

  in_front : (b : Bool) (d e : Element) (o p : Option Element) → R d e → OptionRelated R o p
      → OptionRelated R (cond b (Some d) o) (cond b (Some e) p)
  in_front true d e o p here rest = here
  in_front false d e o p here rest = rest

  zip_related : (ps : List (List ℕ)) (ds es : List Element) → AllRelated R ds es
      → AreRelated R (zip ps ds) (zip ps es)
  zip_related [] ds es all x = tt
  zip_related (p ∷ ps) [] [] all x = tt
  zip_related (p ∷ ps) (d ∷ ds) (e ∷ es) all x = in_front (bytes_eq x p) d e (look_up (zip ps ds) x)
      (look_up (zip ps es) x) all.0 (zip_related ps ds es all.1 x)
  zip_related (p ∷ ps) [] (e ∷ es) all x = absurd all
  zip_related (p ∷ ps) (d ∷ ds) [] all x = absurd all

  -- ---- terms

  module _ (takes : Parameters) (m : Meaning) (meant : IsMeant P R takes m) where
    symbol_related : (x : List ℕ) (b : Bool) (v w : Option Element) → OptionRelated R v w
        → (b ≡ true → is_some v ≡ true) → UnlessVariable b (IsUsedFor P x (takes x) 0)
        → R (unwrap_or v (m (Plain x) [])) (unwrap_or w (m (Plain x) []))
    symbol_related x b (Some d) (Some e) is has only = is
    symbol_related x b (Some d) None is has only = absurd is
    symbol_related x b None (Some e) is has only = absurd is
    symbol_related x true None None is has only = let some = has refl in absurd cc
    symbol_related x false None None is has only = meant.named x [] [] only tt

    indexed_related : (parts : Sexps) (o : Result Identifier TermFlaw) → indexed parts ≡ o
        → R (element_by o (λ f. m f [])) (element_by o (λ f. m f []))
    indexed_related parts (Err fault) is = kept.truths false
    indexed_related parts (Ok (Plain x)) is = absurd (never_plain x parts is)
    indexed_related parts (Ok (Indexed x indexes)) is = meant.numbered x indexes [] [] tt
    indexed_related parts (Ok (Qualified sort)) is = meant.constant sort [] [] tt

    call_related : (o : Result Identifier TermFlaw) (ds es : List Element) (n : ℕ) → AllRelated R ds es
        → length ds ≡ n → IsHeadUsedFor P takes o n
        → R (element_by o (λ f. m f ds)) (element_by o (λ f. m f es))
    call_related (Err fault) ds es n all long met = kept.truths false
    call_related (Ok (Plain x)) ds es n all long met =
        meant.named x ds es (subst (IsUsedFor P x (takes x)) (sym long) met) all
    call_related (Ok (Indexed x indexes)) ds es n all long met = meant.numbered x indexes ds es all
    call_related (Ok (Qualified sort)) ds es n all long met = meant.constant sort ds es all

    bound_have : (names : List (List ℕ)) (r : Variables) (bs : Sexps) → HaveValues names r
        → HaveValues (map (λ b. b.0) (named_trees bs) ++ names) (values_bound m r bs ++ r)
    bound_have names r (Cons (Items (Cons (Atom Symbol y) (Cons t Nil))) rest) have x among =
        by (bytes_eq x y) among (bound_have names r rest have x)
      where
        by : (b : Bool) → b || is_among (map (λ b. b.0) (named_trees rest) ++ names) x ≡ true
            → (is_among (map (λ b. b.0) (named_trees rest) ++ names) x ≡ true
            → is_some (look_up (values_bound m r rest ++ r) x) ≡ true)
            → is_some (cond b (Some (value_of m r t)) (look_up (values_bound m r rest ++ r) x)) ≡ true
        by true among rest = refl
        by false among rest = rest among
    bound_have names r _ have x among = have x among

    mutual
      value_related : (names : List (List ℕ)) (s r : Variables) → AreRelated R s r → HaveValues names s
          → (t : Sexp) → NamesOnly P takes names t → R (value_of m s t) (value_of m r t)
      value_related names s r same have (Atom Symbol x) only =
          symbol_related x (is_among names x) (look_up s x) (look_up r x) (same x) (have x) only
      value_related names s r same have (Atom Numeral x) only = kept.integers _
      value_related names s r same have (Atom Hexadecimal x) only = kept.vectors _
      value_related names s r same have (Atom Binary x) only = kept.vectors _
      value_related names s r same have (Atom sexp.Decimal x) only =
          number_related (decimal (decimal_digits x) (places x))
      value_related names s r same have (Atom sexp.Text x) only = kept.truths false
      value_related names s r same have (Atom Keyword x) only = kept.truths false
      value_related names s r same have (Reserved word) only = kept.truths false
      value_related names s r same have (Items Nil) only = kept.truths false
      value_related names s r same have (Items (Cons (Reserved Underscore) parts)) only =
          indexed_related parts (indexed parts) refl
      value_related names s r same have (Items (Cons (Reserved As) (Cons (Atom Symbol x) rest))) only =
          kept.names x only
      value_related names s r same have (Items (Cons (Reserved As) parts)) only = kept.truths false
      value_related names s r same have
          (Items (Cons (Reserved Let) (Cons (Items bindings) (Cons body Nil)))) only =
          value_related (map (λ b. b.0) (named_trees bindings) ++ names) (values_bound m s bindings ++ s)
          (values_bound m r bindings ++ r) (bound_related names s r same have bindings only.0)
          (bound_have names s bindings have) body only.1
      value_related names s r same have (Items (Cons (Reserved Bang) (Cons term attributes))) only =
          value_related names s r same have term only
      value_related names s r same have (Items (Cons head args)) only =
          call_related (applied head args) (values_of m s args) (values_of m r args) (count args)
          (values_related names s r same have args only.1) (counted m s args) only.0

      values_related : (names : List (List ℕ)) (s r : Variables) → AreRelated R s r → HaveValues names s
          → (ts : Sexps) → AllNameOnly P takes names ts → AllRelated R (values_of m s ts) (values_of m r ts)
      values_related names s r same have Nil only = tt
      values_related names s r same have (Cons t ts) only =
          (value_related names s r same have t only.0, values_related names s r same have ts only.1)

      bound_related : (names : List (List ℕ)) (s r : Variables) → AreRelated R s r → HaveValues names s
          → (bs : Sexps) → BindingsNameOnly P takes names bs
          → AreRelated R (values_bound m s bs ++ s) (values_bound m r bs ++ r)
      bound_related names s r same have (Cons (Items (Cons (Atom Symbol y) (Cons t Nil))) rest) only x =
          in_front (bytes_eq x y) (value_of m s t) (value_of m r t)
          (look_up (values_bound m s rest ++ s) x) (look_up (values_bound m r rest ++ r) x)
          (value_related names s r same have t only.0) (bound_related names s r same have rest only.1 x)
      bound_related names s r same have _ only x = same x

    -- ---- definitions

    body_related : (o : Origin) → BodyNamesOnly P takes o → (ds es : List Element) → AllRelated R ds es
        → parameters_of o ≤ length ds → R (defined_value m o ds) (defined_value m o es)
    body_related (Declared command) only ds es all met = kept.truths false
    body_related (Defined ps body) only ds es all met =
        value_related ps (zip ps ds) (zip ps es) (zip_related ps ds es all) (zip_has ps ds met) body only

    meant_with : (e : Entry) → BodyNamesOnly P takes e.origin
        → IsMeant P R (with_parameters takes e) (with_definition m e)
    meant_with e only = record {
      named = λ x ds es met all. by x ds es (bytes_eq x e.name) met all;
      numbered = λ x indexes ds es all. meant.numbered x indexes ds es all;
      constant = λ sort ds es all. meant.constant sort ds es all;
    }
      where
        by : (x : List ℕ) (ds es : List Element) (b : Bool)
            → IsUsedFor P x (cond b (Some (parameters_of e.origin)) (takes x)) (length ds)
            → AllRelated R ds es
            → R (cond b (defined_value m e.origin ds) (m (Plain x) ds))
            (cond b (defined_value m e.origin es) (m (Plain x) es))
        by x ds es true met all = body_related e.origin only ds es all met
        by x ds es false met all = meant.named x ds es met all

  meant_after : (takes : Parameters) (m : Meaning) (es : List Entry) → IsMeant P R takes m
      → BodiesNameOnly P takes es → IsMeant P R (parameters_after takes es) (meaning_after m es)
  meant_after takes m [] meant only = meant
  meant_after takes m (e ∷ es) meant only =
      meant_after (with_parameters takes e) (with_definition m e) es (meant_with takes m meant e only.0) only.1

  pub values_stay_related : (z : DivisionByZero) (definitions : Signature) (s r : Variables) (term : Sexp)
      → AreRelated R s r → DefinitionsNameOnly P definitions
      → NamesOnly P (parameters_in definitions) (map (λ v. v.0) s) term
      → R (value_of (meaning_in z definitions) s term) (value_of (meaning_in z definitions) r term)
  values_stay_related z definitions s r term same bodies only =
      value_related (parameters_in definitions) (meaning_in z definitions)
      (meant_after (operators_take definitions.theories) (operators z definitions.theories) definitions.entries
      (operators_related z definitions.theories) bodies) (map (λ v. v.0) s) s r same (variables_have s) term only
