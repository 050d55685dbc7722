-- What an item defines is well sorted, new among the items, and of the rank with which its name is declared.
use Rattle.std.proofs.Common.{◌≡◌, ℕ, Bool, true, false, cond, not, ◌&&◌, ◌||◌, List, [], map, Option, Some, None}
use Rattle.std.proofs.Common.{is_some, Result, Ok, Err, refl, ap, sym, ◌∙◌, subst}
use Rattle.std.proofs.lemmas.Slice.Eq.{slice_eq-Decides}
use Rattle.smt_trees.specs.Sexp.{Sexp}
use Rattle.smt_theory.specs.Shapes.{are_exactly}
use Rattle.smt_theory.specs.Sort.{is_same_sort}
use Rattle.smt_theory.specs.Words.{result_and_then}
use Rattle.smt_theory.specs.Sort.{Sort}
use Rattle.smt_terms.specs.Checking.{unless}
use Rattle.smt_terms.specs.Definitions.{definition, definition_in, parameters_named}
use Rattle.smt_forms.specs.ItemForm.{ItemForm}
use Rattle.smt_terms.specs.Items.{defined_as, form_in, has_rank_of, item_in, items_before}
use Rattle.smt_terms.specs.Freshness.{is_element_name, is_taken, is_taken_undeclared, item_elements, name_flaw}
use Rattle.smt_terms.specs.Signature.{Entry, KeepsRank, Signature, declared_named, entry_named, names_of}
use Rattle.smt_terms.specs.Signature.{sort_names_of}
use Rattle.smt_terms.specs.SortTrees.{sort_named}
use Rattle.smt_terms.specs.WellSorted.{AreDifferent, IsWellSorted}
use Rattle.smt_faults.specs.declared.term_flaw.TermFlaw.{TermFlaw}
use Rattle.smt_faults.specs.declared.term_flaw.TermFlaw.TheVariants.{BoundTwice, IllSorted, NotFresh}
use Rattle.smt_terms.proofs.DefinitionSortLemmas.{AreCompared, different, well_sorted}
use Rattle.smt_terms.proofs.RepeatedLemmas.{taken_by}

-- what an item that is taken defines
pub record IsItem (script : Signature) (earlier : List Entry) (e : Entry) : Type 0 where
  pub fresh : entry_named earlier e.name ≡ None
  pub fit : is_taken_undeclared script e.name ≡ false
  pub sorted : IsWellSorted script.theories (item_elements script) earlier e
  pub ranked : has_rank_of (declared_named script.entries e.name) e.parameters e.sort ≡ true

-- a name without a fault is new among the items, and fit
pub no_fault : (script : Signature) (earlier : List Entry) (x : List ℕ) → name_flaw script earlier x ≡ None
    → (entry_named earlier x ≡ None) × (is_taken_undeclared script x ≡ false)
no_fault script earlier x h = by (entry_named earlier x) (is_element_name script x) (is_taken_undeclared script x) h
  where
    by : (o : Option Entry) (b c : Bool)
        → cond (is_some o) (Some BoundTwice) (cond (b || c) (Some NotFresh) None) ≡ None → (o ≡ None) × (c ≡ false)
    by None false false h = (refl, refl)
    by None false true h = cc
    by None true c h = cc
    by (Some e) b c h = cc

-- what is defined as an item is one
IsItem-definition : AreCompared
    → (script : Signature) (earlier : List Entry) (form : ItemForm) (ps : List (List ℕ × Sort)) (sort : Sort)
    (e : Entry)
    → entry_named earlier form.name ≡ None → is_taken_undeclared script form.name ≡ false
    → AreDifferent (map (λ p. p.0) ps)
    → defined_as script earlier form ps sort ≡ Ok e → IsItem script earlier e
IsItem-definition compared script earlier form ps sort e fresh fit different h =
    by (has_rank_of (declared_named script.entries form.name) (map (λ p. p.1) ps) sort) refl h
  where
    made : has_rank_of (declared_named script.entries form.name) (map (λ p. p.1) ps) sort ≡ true
        → (definition form.name ps sort form.body ≡ e) × IsWellSorted script.theories (item_elements script) earlier e
        → IsItem script earlier e
    made ranked p = record {
      fresh = subst (λ (d : Entry). entry_named earlier d.name ≡ None) p.0 fresh;
      fit = subst (λ (d : Entry). is_taken_undeclared script d.name ≡ false) p.0 fit;
      sorted = p.1;
      ranked = subst (λ (d : Entry). has_rank_of (declared_named script.entries d.name) d.parameters d.sort
          ≡ true) p.0 ranked;
    }

    by : (b : Bool) → has_rank_of (declared_named script.entries form.name) (map (λ p. p.1) ps) sort ≡ b
        → cond (not b) (Err IllSorted)
        (definition_in (names_of (items_before script earlier)) form.name ps sort form.body) ≡ Ok e
        → IsItem script earlier e
    by false ranked h = cc
    by true ranked h =
        made ranked (well_sorted compared script.theories (item_elements script) earlier form.name ps sort form.body e different h)

-- so is what parts of the right form define
IsItem-form : AreCompared → (script : Signature) (earlier : List Entry) (form : ItemForm) (e : Entry)
    → form_in script earlier form ≡ Ok e → IsItem script earlier e
IsItem-form compared script earlier form e h = by (name_flaw script earlier form.name) refl
    (parameters_named (sort_names_of script) [] form.parameters) refl
    (sort_named (sort_names_of script) form.sort) h
  where
    by : (o : Option TermFlaw) → name_flaw script earlier form.name ≡ o
        → (r : Result (List (List ℕ × Sort)) TermFlaw)
        → parameters_named (sort_names_of script) [] form.parameters ≡ r → (q : Result Sort TermFlaw)
        → unless o (result_and_then r
        (λ ps. result_and_then q (λ sort. defined_as script earlier form ps sort))) ≡ Ok e
        → IsItem script earlier e
    by (Some f) none r bound q h = cc
    by None none (Err f) bound q h = cc
    by None none (Ok ps) bound (Err f) h = cc
    by None none (Ok ps) bound (Ok sort) h =
        let free = no_fault script earlier form.name none in
        IsItem-definition compared script earlier form ps sort e free.0 free.1
        (different (sort_names_of script) [] form.parameters ps tt bound) h

-- so is what an item defines
pub IsItem-taken : AreCompared → (script : Signature) (earlier : List Entry) (tree : Sexp) (e : Entry)
    → item_in script earlier tree ≡ Ok (Some e) → IsItem script earlier e
IsItem-taken compared script earlier tree e h =
    let t = taken_by script earlier tree e h in
    IsItem-form compared script earlier t.0 e t.2

-- a rank that is tested is kept
pub KeepsRank-tested : AreCompared → (o : Option Entry) (d e : Entry) → o ≡ Some d
    → has_rank_of o e.parameters e.sort ≡ true → KeepsRank d (Some e)
KeepsRank-tested compared o d e is h = by (are_exactly d.parameters e.parameters) refl
    (sym (ap (λ p. has_rank_of p e.parameters e.sort) is) ∙ h)
  where
    by : (b : Bool) → are_exactly d.parameters e.parameters ≡ b → (b && is_same_sort d.sort e.sort) ≡ true
        → KeepsRank d (Some e)
    by false same g = cc
    by true same g = (
      (slice_eq-Decides compared e.parameters d.parameters
          (are_exactly d.parameters e.parameters) refl).0 same,
      sym ((compared d.sort e.sort).0 g),
    )

-- a name that is fit and not declared is not taken
pub fit_is_free : (script : Signature) (x : List ℕ) → is_taken_undeclared script x ≡ false
    → declared_named script.entries x ≡ None → is_taken (names_of script) x ≡ false
fit_is_free script x h none = sym (ap (λ o. not (is_some o) && is_taken (names_of script) x) none) ∙ h
