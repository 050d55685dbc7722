-- Items that are set aside are those that repeat a definition, or tell of elements.
use Rattle.std.proofs.Common.{◌≡◌, ◌↔◌, ℕ, Bool, true, false, cond, not, ◌&&◌, List, [], map, Option, Some}
use Rattle.std.proofs.Common.{None, is_some, Result, Ok, Err, refl, ap, sym, ◌∙◌, ◌⊎◌, inl, inr, unwrap_or}
use Rattle.std.specs.Option.{option_and_then}
use Rattle.std.proofs.lemmas.Slice.Eq.{slice_eq-Decides}
use Rattle.smt_trees.specs.Sexp.{Sexp}
use Rattle.smt_theory.specs.Shapes.{are_exactly}
use Rattle.smt_theory.specs.Sort.{is_same_sort}
use Rattle.smt_theory.specs.Words.{result_and_then}
use Rattle.smt_theory.specs.Sort.{Sort}
use Rattle.smt_forms.specs.Bindings.{named_trees}
use Rattle.smt_forms.specs.ItemForm.{ItemForm, item_form}
use Rattle.smt_terms.specs.Definitions.{parameters_named}
use Rattle.smt_terms.specs.Freshness.{is_element_name}
use Rattle.smt_terms.specs.Items.{form_in, has_rank_of, is_defined_in, is_set_aside, item_by, item_in}
use Rattle.smt_terms.specs.Items.{repeated_in, told_item}
use Rattle.smt_terms.specs.Repeated.{IsRepeated}
use Rattle.smt_terms.specs.Signature.{Entry, Origin, Declared, Defined, Signature, entry_named}
use Rattle.smt_terms.specs.Signature.{if_declared, is_declared, sort_names_of}
use Rattle.smt_terms.specs.SortTrees.{sort_named}
use Rattle.smt_faults.specs.declared.term_flaw.TermFlaw.{TermFlaw}
use Rattle.smt_faults.specs.declared.term_flaw.TermFlaw.TheVariants.{Form}
use Rattle.smt_terms.proofs.DefinitionSortLemmas.{AreCompared}
use Rattle.smt_terms.proofs.ItemSortLemmas.{KeepsRank-tested}
use Rattle.smt_terms.proofs.KeptLemmas.{answered}
use Rattle.smt_terms.proofs.RepeatedLemmas.{by_rank, by_test, item_aside, repeated_by}
use Rattle.smt_terms.proofs.WrittenLemmas.{IsFormOf, form_of}

-- a name of the script that no command declared
abbrev IsFoundDefined : Signature → List ℕ → Type 0
IsFoundDefined script x = (d : Entry) × (entry_named script.entries x ≡ Some d) × (is_declared d.origin ≡ false)

found_defined : (script : Signature) (x : List ℕ) → is_defined_in script x ≡ true → IsFoundDefined script x
found_defined script x h = by (entry_named script.entries x) refl h
  where
    by_origin : (d : Entry) → entry_named script.entries x ≡ Some d → (o : Origin) → d.origin ≡ o
        → not (is_some (if_declared d o)) ≡ true → IsFoundDefined script x
    by_origin d at (Declared command) is h = cc
    by_origin d at (Defined ps body) is h = (d, at, ap is_declared is)

    by : (o : Option Entry) → entry_named script.entries x ≡ o
        → (is_some o && not (is_some (option_and_then (λ e. if_declared e e.origin) o))) ≡ true
        → IsFoundDefined script x
    by None at h = cc
    by (Some d) at h = by_origin d at d.origin refl h

defined_found : (script : Signature) (x : List ℕ) (d : Entry) → entry_named script.entries x ≡ Some d
    → is_declared d.origin ≡ false → is_defined_in script x ≡ true
defined_found script x d at undeclared =
    ap (λ o. is_some o && not (is_some (option_and_then (λ e. if_declared e e.origin) o))) at
    ∙ by d.origin undeclared
  where
    by : (o : Origin) → is_declared o ≡ false → not (is_some (if_declared d o)) ≡ true
    by (Declared command) h = cc
    by (Defined ps body) h = refl

both_true : (a b : Bool) → (a && b) ≡ true → (a ≡ true) × (b ≡ true)
both_true true b h = (refl, h)
both_true false b h = cc

not_true : (b : Bool) → not b ≡ true → b ≡ false
not_true true h = cc
not_true false h = refl

-- what the parts of an item that is set aside are
record IsAside (script : Signature) (form : ItemForm) : Type 0 where
  wide : script.theories.wide ≡ true
  variables : List (List ℕ × Sort)
  bound : parameters_named (sort_names_of script) [] form.parameters ≡ Ok variables
  sort : Sort
  sorted : sort_named (sort_names_of script) form.sort ≡ Ok sort
  ranked : has_rank_of (entry_named script.entries form.name) (map (λ p. p.1) variables) sort ≡ true
  defined : is_defined_in script form.name ≡ true
  apart : is_element_name script form.name ≡ false

tested : (b : Bool) → by_test b ≡ Ok None → b ≡ true
tested true h = refl
tested false h = cc

aside : (script : Signature) (form : ItemForm) → is_set_aside script form.name ≡ true
    → repeated_in script form ≡ Ok None → IsAside script form
aside script form is h =
    let a = answered (parameters_named (sort_names_of script) [] form.parameters)
    (λ ps. result_and_then (sort_named (sort_names_of script) form.sort) (by_rank script form ps)) None h in
    let b = answered (sort_named (sort_names_of script) form.sort) (by_rank script form a.0) None a.2 in
    let p = both_true (script.theories.wide && is_defined_in script form.name)
    (not (is_element_name script form.name)) is in
    let d = both_true script.theories.wide (is_defined_in script form.name) p.0 in
    record {
      wide = d.0;
      variables = a.0;
      bound = a.1;
      sort = b.0;
      sorted = b.1;
      ranked = tested (has_rank_of (entry_named script.entries form.name) (map (λ p. p.1) a.0) b.0) b.2;
      defined = d.1;
      apart = not_true (is_element_name script form.name) p.1;
    }

no_none : (r : Result Entry TermFlaw) → result_and_then r (λ e. Ok (Some e)) ≡ Ok None → ⊥
no_none (Ok e) h = cc
no_none (Err f) h = cc

repeated : AreCompared → (script : Signature) (tree : Sexp) (form : ItemForm) → IsFormOf tree form
    → IsAside script form → IsRepeated script tree
repeated compared script tree form is a =
    let d = found_defined script form.name a.defined in
    let kept = KeepsRank-tested compared (entry_named script.entries form.name) d.0
    (record { name = form.name; parameters = map (λ p. p.1) a.variables; sort = a.sort; origin = d.0.origin })
    d.1 a.ranked in
    record {
      wide = a.wide;
      name = form.name;
      apart = a.apart;
      parameters = is.parameters;
      sort = form.sort;
      body = form.body;
      printed = is.printed;
      named = is.named;
      variables = a.variables;
      bound = ap (parameters_named (sort_names_of script) []) (sym is.same) ∙ a.bound;
      repeats = d.0;
      found = d.1;
      defined = d.2;
      takes = kept.0;
      gives = a.sorted ∙ ap (λ s. Ok s) kept.1;
    }

pub set_aside : AreCompared → (script : Signature) (earlier : List Entry) (tree : Sexp)
    → (item_in script earlier tree ≡ Ok None) ↔ (IsRepeated script tree ⊎ (told_item script tree ≡ Some (Ok None)))
set_aside compared script earlier tree = (there, back)
  where
    by : (form : ItemForm) → item_form tree ≡ Ok form → (b : Bool) → is_set_aside script form.name ≡ b
        → cond b (repeated_in script form) (result_and_then (form_in script earlier form) (λ e. Ok (Some e)))
        ≡ Ok None → IsRepeated script tree
    by form is true set h =
        repeated compared script tree form (form_of tree form is) (aside script form set h)
    by form is false set h = absurd (no_none (form_in script earlier form) h)

    whole : Result (Option Entry) TermFlaw
    whole = result_and_then (item_form tree) (item_by script earlier)

    there : item_in script earlier tree ≡ Ok None → IsRepeated script tree ⊎ (told_item script tree ≡ Some (Ok None))
    there h = told (told_item script tree) refl h
      where
        told : (o : Option (Result (Option Entry) TermFlaw)) → told_item script tree ≡ o
            → unwrap_or o whole ≡ Ok None → IsRepeated script tree ⊎ (told_item script tree ≡ Some (Ok None))
        told None is g =
            let a = answered (item_form tree) (item_by script earlier) None g in
            inl (by a.0 a.1 (is_set_aside script a.0.name) refl a.2)
        told (Some r) is g = inr (is ∙ ap (λ q. Some q) g)

    parts : IsRepeated script tree → ItemForm
    parts r = record {
      name = r.name;
      parameters = named_trees r.parameters;
      sort = r.sort;
      body = r.body;
    }

    back : IsRepeated script tree ⊎ (told_item script tree ≡ Some (Ok None)) → item_in script earlier tree ≡ Ok None
    back (inr told) = ap (λ o. unwrap_or o whole) told
    back (inl r) =
        let form = parts r in
        let is : item_form tree ≡ Ok form = ap item_form r.printed
        ∙ ap (λ b. cond b (Ok form) (Err Form)) r.named in
        let set : is_set_aside script form.name ≡ true =
        ap (λ b. b && is_defined_in script form.name && not (is_element_name script form.name)) r.wide
        ∙ ap (λ b. b && not (is_element_name script form.name))
        (defined_found script form.name r.repeats r.found r.defined)
        ∙ ap not r.apart in
        let ranked : has_rank_of (entry_named script.entries form.name) (map (λ p. p.1) r.variables)
        r.repeats.sort ≡ true =
        ap (λ o. has_rank_of o (map (λ p. p.1) r.variables) r.repeats.sort) r.found
        ∙ ap (λ ss. are_exactly r.repeats.parameters ss && is_same_sort r.repeats.sort r.repeats.sort) r.takes
        ∙ ap (λ b. b && is_same_sort r.repeats.sort r.repeats.sort)
        ((slice_eq-Decides compared r.repeats.parameters r.repeats.parameters
        (are_exactly r.repeats.parameters r.repeats.parameters) refl).1 refl)
        ∙ (compared r.repeats.sort r.repeats.sort).1 refl in
        item_aside script earlier tree form is set
        ∙ repeated_by script form r.variables r.repeats.sort true r.bound r.gives ranked
