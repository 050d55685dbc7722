use Rattle.std.proofs.Common.{◌≡◌, List, [], None, Ok, inl, inr, false, map, ap, subst, sym, ◌∙◌}
use Rattle.std.proofs.lemmas.Result.{IfErr-weaker, err_from_is_err_and, on_err_weaker, on_ok_weaker}
use Rattle.smt_theory.specs.Words.{result_and_then}
use Rattle.smt_faults.specs.Outcome.{Tells}
use Rattle.smt_faults.specs.declared.term_fault.TermFault.{TermFault}
use Rattle.smt_terms.specs.Elements.{element_among}
use Rattle.smt_terms.specs.Definitions.{definition_in, parameters_named}
use Rattle.smt_terms.specs.Freshness.{name_flaw}
use Rattle.smt_terms.specs.Internal.LibraryView.{sort_names}
use Rattle.smt_forms.specs.ItemForm.{ItemForm}
use Rattle.smt_forms.specs.ItemView.{item_view}
use Rattle.smt_terms.specs.Items.{defined_as, form_in, has_rank_of}
use Rattle.smt_forms.specs.ScopeView.{scope_view}
use Rattle.smt_terms.specs.Library.{Holds, StandsFor}
use Rattle.smt_terms.specs.Signature.{Entry, Signature, declared_named, names_of}
use Rattle.smt_terms.specs.SortTrees.{sort_named}
use Rattle.smt_terms.specs.declared.library.Library.{Library}
use Rattle.smt_terms.proofs.DefinitionLemmas.{same_fault}
use Rattle.smt_terms.proofs.ItemLemmas.{Params, item_bound, item_is_free, item_ranked, item_step, sorts_as}
use Rattle.smt_terms.proofs.library.Library.add_item.Goals as goal

pub add_definition-requires-clause-apart : goal.add_definition-requires-clause-apart
add_definition-requires-clause-apart c =
    ap (λ es. element_among es c.args.form.name.now) c.requires.elements ∙ c.in_ok-check_name.ensures.apart

pub returns-clause-reads : goal.returns-clause-reads
returns-clause-reads c = record {
  theories = c.add_definition.ensures.grown.theories ∙ c.requires.theories;
  elements = c.add_definition.ensures.grown.elements ∙ c.requires.elements;
}

pub returns-clause-defined : goal.returns-clause-defined
returns-clause-defined c =
    let form = item_view c.args.form in
    let ps = scope_view c.in_ok-parameters.parameters.items in
    let rs = scope_view c.as_slice-2.result.now in
    let sort = c.in_ok-sort.sort in
    on_ok_weaker c.add_definition.result
    (λ added s m stands items.
    let more = added m items in (
      more.0,
      item_step c.args.self.now c.args.script.now s m form ps (scope_view c.as_slice.result.now) rs sort
          c.in_ok-has_declared_rank.field-0 c.requires stands items
          (c.in_ok-check_name.ensures.flaw s m stands items) c.in_ok-parameters.ensures (sym c.in_ok-sort.ensures)
          (c.in_ok-has_declared_rank.ensures s stands) c.if-not-branch.false
          (ap scope_view c.as_slice.ensures.value)
          (ap scope_view c.as_slice-2.ensures.value)
          ∙ more.1,
      more.2 (item_is_free c.args.self.now c.args.script.now s m form.name c.requires stands items
          (c.in_ok-check_name.ensures.flaw s m stands items)),
    ))
    c.add_definition.ensures.added

pub returns-clause-refused : goal.returns-clause-refused
returns-clause-refused c =
    let form = item_view c.args.form in
    let ps = scope_view c.in_ok-parameters.parameters.items in
    let rs = scope_view c.as_slice-2.result.now in
    let sort = c.in_ok-sort.sort in
    IfErr-weaker c.add_definition.result _ _
    (λ fault refused s m stands items.
    same_fault (definition_in (names_of m) form.name rs sort form.body) (form_in s m.entries form) fault
    (item_step c.args.self.now c.args.script.now s m form ps (scope_view c.as_slice.result.now) rs sort
    c.in_ok-has_declared_rank.field-0 c.requires stands items
    (c.in_ok-check_name.ensures.flaw s m stands items) c.in_ok-parameters.ensures (sym c.in_ok-sort.ensures)
    (c.in_ok-has_declared_rank.ensures s stands) c.if-not-branch.false
    (ap scope_view c.as_slice.ensures.value)
    (ap scope_view c.as_slice-2.ensures.value)) (refused m items))
    c.add_definition.ensures.refused

pub returns-clause-unchanged : goal.returns-clause-unchanged
returns-clause-unchanged c =
    on_err_weaker c.add_definition.result (λ same s stands. subst (λ d. Holds d s) (sym same) stands)
    c.add_definition.ensures.restored

-- the fault of its sort
item_unsorted : (script : Library) (s : Signature) (es : List Entry) (form : ItemForm) (ps : Params)
    (fault : TermFault) → StandsFor script s → name_flaw s es form.name ≡ None
    → parameters_named (sort_names script.sorts) [] form.parameters ≡ Ok ps
    → Tells (sort_named (sort_names script.sorts) form.sort) fault → Tells (form_in s es form) fault
item_unsorted script s es form ps fault stands free bound (inl m) = inl m
item_unsorted script s es form ps fault stands free bound (inr sorted) =
    inr (item_bound s es form ps free
    (ap (λ sorts. parameters_named sorts [] form.parameters) (sym (sorts_as script s stands)) ∙ bound)
    ∙ ap (λ r. result_and_then r (λ sort. defined_as s es form ps sort))
    (ap (λ sorts. sort_named sorts form.sort) (sym (sorts_as script s stands)) ∙ sorted))

pub returns-in_err-sort-clause-refused : goal.returns-in_err-sort-clause-refused
returns-in_err-sort-clause-refused c =
    let p = err_from_is_err_and c.from_residual-in_err-sort.result c.from_residual-in_err-sort.ensures.1 in
    rw (p.1, p.2)
    (λ s m stands items. item_unsorted c.args.script.now s m.entries (item_view c.args.form)
    (scope_view c.in_ok-parameters.parameters.items) _ stands
    (c.in_ok-check_name.ensures.flaw s m stands items) c.in_ok-parameters.ensures c.in_err-sort.ensures)

pub returns-then-not-branch-clause-refused : goal.returns-then-not-branch-clause-refused
returns-then-not-branch-clause-refused c = λ s m stands items.
    let form = item_view c.args.form in
    let ps = scope_view c.in_ok-parameters.parameters.items in
    let sort = c.in_ok-sort.sort in
    inr (item_ranked s m.entries form ps sort false (c.in_ok-check_name.ensures.flaw s m stands items)
    (ap (λ sorts. parameters_named sorts [] form.parameters) (sym (sorts_as c.args.script.now s stands))
    ∙ c.in_ok-parameters.ensures)
    (ap (λ sorts. sort_named sorts form.sort) (sym (sorts_as c.args.script.now s stands)) ∙ c.in_ok-sort.ensures)
    (ap (λ (vs : Params). has_rank_of (declared_named s.entries form.name) (map (λ p. p.1) vs) sort)
    (sym (ap scope_view c.as_slice.ensures.value))
    ∙ sym (c.in_ok-has_declared_rank.ensures s stands) ∙ c.if-not-branch.true))
