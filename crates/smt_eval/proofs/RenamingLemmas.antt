-- Where the elements that are named keep their names, values are renamed as those of the variables are; and values
-- have the names of these elements alone.
use Rattle.std.proofs.Common.{◌≡◌, ℕ, zero, suc, Bool, true, false, cond, List, [], ◌∷◌, ◌++◌, map}
use Rattle.std.proofs.Common.{Option, Some, None, Result, Ok, Err, refl, ap, ap₂, sym}
use Rattle.std.proofs.Common.{◌∙◌, subst, arith}
use Rattle.std.specs.List.{All}
use Rattle.std.specs.Prelude.{bytes_eq}
use Rattle.std.proofs.lemmas.List.Elements.{All-head, All-tail}
use Rattle.smt_trees.specs.Sexp.{Sexp, Sexps, Atom, Reserved, Items, Nil, Cons, Symbol, count}
use Rattle.smt_trees.specs.declared.reserved.Word.TheVariants.{As, Bang, Let, Underscore}
use Rattle.smt_theory.specs.Words.{look_up}
use Rattle.smt_values.specs.Element.{Abstract}
use Rattle.smt_values.specs.Operations.{DivisionByZero}
use Rattle.smt_arrays.specs.Element.{Element, Plain as NoArray}
use Rattle.smt_arrays.specs.Operations.{operate}
use Rattle.smt_faults.specs.declared.term_flaw.TermFlaw.{TermFlaw}
use Rattle.smt_forms.specs.Bindings.{named_trees}
use Rattle.smt_forms.specs.Identifier.{Identifier, Plain, Indexed, Qualified, applied}
use Rattle.smt_forms.specs.Variables.{is_among}
use Rattle.smt_terms.specs.Signature.{Entry, Origin, Declared, Defined, Signature}
use Rattle.smt_eval.specs.Meaning.{meaning_in, value_of}
use Rattle.smt_eval.specs.NamedElements.{AllNameOnly, BindingsNameOnly, BodiesNameOnly, BodyNamesOnly}
use Rattle.smt_eval.specs.NamedElements.{DefinitionsNameOnly, IsAmong, IsHeadUsedFor, IsOfName, IsUsedFor, KeepsName}
use Rattle.smt_eval.specs.NamedElements.{NamesOnly, OfNames}
use Rattle.smt_eval.specs.Renaming.{AllNameNone, BindingsNameNone, BodiesNameNone, BodyNamesNone, DefinitionsNameNone}
use Rattle.smt_eval.specs.Renaming.{IsHeadMet, IsInjective, IsMet, NamesNone, Parameters, Renaming, UnlessVariable}
use Rattle.smt_eval.specs.Renaming.{operators_take, parameters_in, renamed, renamed_variables, with_parameters}
use Rattle.smt_eval.proofs.ArrayRenamingLemmas.{AreNamed, all_renamed, result_named, result_renamed}
use Rattle.smt_eval.proofs.RelatedValueLemmas.{AllRelated, AreRelated, IsKept, OptionRelated, Relation, Variables}
use Rattle.smt_eval.proofs.RelatedValueLemmas.{values_stay_related}

-- ---- elements that keep their names

module _ (g : Renaming) (injective : IsInjective g) where
  abbrev IsOther : Relation
  IsOther d e = d ≡ renamed g e

  all_others : (ds es : List Element) → AllRelated IsOther ds es → ds ≡ all_renamed g injective es
  all_others [] [] all = refl
  all_others (d ∷ ds) (e ∷ es) all = ap₂ (λ a rest. a ∷ rest) all.0 (all_others ds es all.1)
  all_others [] (e ∷ es) all = absurd all
  all_others (d ∷ ds) [] all = absurd all

  others_kept : IsKept (KeepsName g) IsOther
  others_kept = record {
    truths = λ b. refl;
    integers = λ z. refl;
    fractions = λ n d. refl;
    vectors = λ v. refl;
    names = λ x same. ap (λ y. NoArray (Abstract y)) (sym same);
    results = λ z op ds es all. ap (operate z op) (all_others ds es all) ∙ result_renamed g injective z op es;
  }

  variables_renamed : (r : Variables) → AreRelated IsOther (renamed_variables g r) r
  variables_renamed [] x = tt
  variables_renamed (v ∷ r) x = by (bytes_eq x v.0) (variables_renamed r x)
    where
      by : (b : Bool) → OptionRelated IsOther (look_up (renamed_variables g r) x) (look_up r x)
          → OptionRelated IsOther (cond b (Some (renamed g v.1)) (look_up (renamed_variables g r) x))
          (cond b (Some v.1) (look_up r x))
      by true rest = refl
      by false rest = rest

  names_stay : (r : Variables) → map (λ (v : List ℕ × Element). v.0) (renamed_variables g r) ≡ map (λ v. v.0) r
  names_stay [] = refl
  names_stay (v ∷ r) = ap (λ names. v.0 ∷ names) (names_stay r)

  pub renamed_value : (z : DivisionByZero) (definitions : Signature) (r : Variables) (term : Sexp)
      → DefinitionsNameOnly (KeepsName g) definitions
      → NamesOnly (KeepsName g) (parameters_in definitions) (map (λ v. v.0) r) term
      → value_of (meaning_in z definitions) (renamed_variables g r) term
      ≡ renamed g (value_of (meaning_in z definitions) r term)
  renamed_value z definitions r term bodies only =
      values_stay_related (KeepsName g) IsOther others_kept z definitions (renamed_variables g r) r term
      (variables_renamed r) bodies
      (subst (λ names. NamesOnly (KeepsName g) (parameters_in definitions) names term) (sym (names_stay r)) only)

-- ---- terms that name no element name no other

module _ (P : OfNames) where
  used_for : (x : List ℕ) (o : Option ℕ) (n : ℕ) → IsMet o n → IsUsedFor P x o n
  used_for x None zero met = absurd (omega (arith, met))
  used_for x None (suc n) met = tt
  used_for x (Some parameters) n met = met

  head_used_for : (takes : Parameters) (o : Result Identifier TermFlaw) (n : ℕ) → IsHeadMet takes o n
      → IsHeadUsedFor P takes o n
  head_used_for takes (Ok (Plain f)) n met = used_for f (takes f) n met
  head_used_for takes (Ok (Indexed f indexes)) n met = tt
  head_used_for takes (Ok (Qualified sort)) n met = tt
  head_used_for takes (Err fault) n met = tt

  symbol_used_for : (x : List ℕ) (b : Bool) (o : Option ℕ) → UnlessVariable b (IsMet o 0)
      → UnlessVariable b (IsUsedFor P x o 0)
  symbol_used_for x true o none = tt
  symbol_used_for x false o none = used_for x o 0 none

  mutual
    none_other : (takes : Parameters) (names : List (List ℕ)) (t : Sexp) → NamesNone takes names t
        → NamesOnly P takes names t
    none_other takes names (Atom Symbol x) none = symbol_used_for x (is_among names x) (takes x) none
    none_other takes names (Items (Cons (Reserved Underscore) parts)) none = tt
    none_other takes names (Items (Cons (Reserved As) parts)) none = absurd none
    none_other takes names (Items (Cons (Reserved Let) (Cons (Items bindings) (Cons body Nil)))) none = (
      bindings_none_other takes names bindings none.0,
      none_other takes (map (λ b. b.0) (named_trees bindings) ++ names) body none.1,
    )
    none_other takes names (Items (Cons (Reserved Bang) (Cons term attributes))) none =
        none_other takes names term none
    none_other takes names (Items (Cons head args)) none =
        (head_used_for takes (applied head args) (count args) none.0, all_none_other takes names args none.1)
    none_other takes names _ none = tt

    all_none_other : (takes : Parameters) (names : List (List ℕ)) (ts : Sexps) → AllNameNone takes names ts
        → AllNameOnly P takes names ts
    all_none_other takes names Nil none = tt
    all_none_other takes names (Cons t ts) none =
        (none_other takes names t none.0, all_none_other takes names ts none.1)

    bindings_none_other : (takes : Parameters) (names : List (List ℕ)) (bs : Sexps)
        → BindingsNameNone takes names bs → BindingsNameOnly P takes names bs
    bindings_none_other takes names (Cons (Items (Cons (Atom Symbol y) (Cons t Nil))) rest) none =
        (none_other takes names t none.0, bindings_none_other takes names rest none.1)
    bindings_none_other takes names _ none = tt

  body_none_other : (takes : Parameters) (o : Origin) → BodyNamesNone takes o → BodyNamesOnly P takes o
  body_none_other takes (Defined ps body) none = none_other takes ps body none
  body_none_other takes (Declared command) none = tt

  bodies_none_other : (takes : Parameters) (es : List Entry) → BodiesNameNone takes es
      → BodiesNameOnly P takes es
  bodies_none_other takes [] none = tt
  bodies_none_other takes (e ∷ es) none =
      (body_none_other takes e.origin none.0, bodies_none_other (with_parameters takes e) es none.1)

pub renamed_alone : (g : Renaming) → IsInjective g → (z : DivisionByZero) (definitions : Signature) (r : Variables)
    (term : Sexp) → DefinitionsNameNone definitions
    → NamesNone (parameters_in definitions) (map (λ v. v.0) r) term
    → value_of (meaning_in z definitions) (renamed_variables g r) term
    ≡ renamed g (value_of (meaning_in z definitions) r term)
renamed_alone g injective z definitions r term bodies none = renamed_value g injective z definitions r term
    (bodies_none_other (KeepsName g) (operators_take definitions.theories) definitions.entries bodies)
    (none_other (KeepsName g) (parameters_in definitions) (map (λ v. v.0) r) term none)

-- ---- values are named

module _ (names : List (List ℕ)) where
  abbrev IsSameOf : Relation
  IsSameOf d e = (d ≡ e) × IsOfName (IsAmong names) e

  all_same : (ds es : List Element) → AllRelated IsSameOf ds es
      → (ds ≡ es) × AreNamed names es
  all_same [] [] all = (refl, tt)
  all_same (d ∷ ds) (e ∷ es) all =
      let rest = all_same ds es all.1 in (ap₂ (λ a xs. a ∷ xs) all.0.0 rest.0, (all.0.1, rest.1))
  all_same [] (e ∷ es) all = absurd all
  all_same (d ∷ ds) [] all = absurd all

  named_kept : IsKept (IsAmong names) IsSameOf
  named_kept = record {
    truths = λ b. (refl, tt);
    integers = λ z. (refl, tt);
    fractions = λ n d. (refl, tt);
    vectors = λ v. (refl, tt);
    names = λ x among. (refl, among);
    results = λ z op ds es all. let same = all_same ds es all in
        (ap (operate z op) same.0, result_named names z op es same.1);
  }

  variables_named : (r : Variables) → All (λ (v : List ℕ × Element). IsOfName (IsAmong names) v.1) r
      → AreRelated IsSameOf r r
  variables_named [] all x = tt
  variables_named (v ∷ r) all x = by (bytes_eq x v.0)
      (variables_named r (All-tail (λ (w : List ℕ × Element). IsOfName (IsAmong names) w.1) v r all) x)
    where
      by : (b : Bool) → OptionRelated IsSameOf (look_up r x) (look_up r x)
          → OptionRelated IsSameOf (cond b (Some v.1) (look_up r x)) (cond b (Some v.1) (look_up r x))
      by true rest = (refl, All-head (λ (w : List ℕ × Element). IsOfName (IsAmong names) w.1) v r all)
      by false rest = rest

  pub value_named : (z : DivisionByZero) (definitions : Signature) (r : Variables) (term : Sexp) (x : List ℕ)
      → DefinitionsNameOnly (IsAmong names) definitions
      → NamesOnly (IsAmong names) (parameters_in definitions) (map (λ v. v.0) r) term
      → All (λ (v : List ℕ × Element). IsOfName (IsAmong names) v.1) r
      → value_of (meaning_in z definitions) r term ≡ NoArray (Abstract x) → is_among names x ≡ true
  value_named z definitions r term x bodies only all is =
      subst (IsOfName (IsAmong names)) is (values_stay_related (IsAmong names) IsSameOf named_kept z definitions r r
      term (variables_named r all) bodies only).1
