use Rattle.std.proofs.Common.{◌≡◌, ℕ, List, [], Ok, inl, inr, true, false, map, ap, sym, ◌∙◌}
use Rattle.std.proofs.lemmas.Result.{err_from_is_err_and}
use Rattle.smt_theory.specs.Sort.{Sort}
use Rattle.smt_theory.specs.Words.{result_and_then}
use Rattle.smt_faults.specs.Outcome.{Tells}
use Rattle.smt_faults.specs.declared.term_fault.TermFault.{TermFault}
use Rattle.smt_forms.specs.ItemForm.{ItemForm}
use Rattle.smt_forms.specs.ItemView.{item_view}
use Rattle.smt_forms.specs.ScopeView.{scope_view}
use Rattle.smt_terms.specs.Definitions.{parameters_named}
use Rattle.smt_terms.specs.Internal.LibraryView.{sort_names}
use Rattle.smt_terms.specs.Items.{has_rank_of, repeated_in}
use Rattle.smt_terms.specs.Library.{StandsFor}
use Rattle.smt_terms.specs.Signature.{Signature, entry_named, sort_names_of}
use Rattle.smt_terms.specs.SortTrees.{sort_named}
use Rattle.smt_terms.specs.declared.library.Library.{Library}
use Rattle.smt_terms.proofs.ItemLemmas.{Params, sorts_as}
use Rattle.smt_terms.proofs.RepeatedLemmas.{by_rank, repeated_as}
use Rattle.smt_terms.proofs.library.Library.check_repeated.Goals as goal

pub returns-clause-repeated : goal.returns-clause-repeated
returns-clause-repeated c = λ s stands.
    let form = item_view c.args.form in
    let sort = c.in_ok-sort.sort in
    repeated_as c.args.self.now s form (scope_view c.in_ok-parameters.parameters.items) sort true stands
    c.in_ok-parameters.ensures (sym c.in_ok-sort.ensures)
    (ap (λ (vs : List (List ℕ × Sort)). has_rank_of (entry_named s.entries form.name) (map (λ p. p.1) vs) sort)
    (sym (ap scope_view c.as_slice.ensures.value))
    ∙ sym (c.in_ok-repeats_rank.ensures s stands) ∙ c.if-not-branch.false)

-- the fault of its sort
repeated_unsorted : (library : Library) (s : Signature) (form : ItemForm) (ps : Params) (fault : TermFault)
    → StandsFor library s → parameters_named (sort_names library.sorts) [] form.parameters ≡ Ok ps
    → Tells (sort_named (sort_names library.sorts) form.sort) fault → Tells (repeated_in s form) fault
repeated_unsorted library s form ps fault stands bound (inl m) = inl m
repeated_unsorted library s form ps fault stands bound (inr sorted) =
    inr (ap (λ r. result_and_then r
    (λ qs. result_and_then (sort_named (sort_names_of s) form.sort) (by_rank s form qs)))
    (ap (λ sorts. parameters_named sorts [] form.parameters) (sym (sorts_as library s stands)) ∙ bound)
    ∙ ap (λ r. result_and_then r (by_rank s form ps))
    (ap (λ sorts. sort_named sorts form.sort) (sym (sorts_as library s stands)) ∙ sorted))

pub returns-in_err-sort-clause-refused : goal.returns-in_err-sort-clause-refused
returns-in_err-sort-clause-refused c =
    let p = err_from_is_err_and c.from_residual-in_err-sort.result c.from_residual-in_err-sort.ensures.1 in
    rw (p.1, p.2)
    (λ s stands. repeated_unsorted c.args.self.now s (item_view c.args.form)
    (scope_view c.in_ok-parameters.parameters.items) _ stands c.in_ok-parameters.ensures c.in_err-sort.ensures)

pub returns-then-not-branch-clause-refused : goal.returns-then-not-branch-clause-refused
returns-then-not-branch-clause-refused c = λ s stands.
    let form = item_view c.args.form in
    let sort = c.in_ok-sort.sort in
    inr (repeated_as c.args.self.now s form (scope_view c.in_ok-parameters.parameters.items) sort false stands
    c.in_ok-parameters.ensures (sym c.in_ok-sort.ensures)
    (ap (λ (vs : List (List ℕ × Sort)). has_rank_of (entry_named s.entries form.name) (map (λ p. p.1) vs) sort)
    (sym (ap scope_view c.as_slice.ensures.value))
    ∙ sym (c.in_ok-repeats_rank.ensures s stands) ∙ c.if-not-branch.true))
