use Rattle.std.proofs.Common.{None, Ok, ap, ◌∙◌}
use Rattle.std.proofs.lemmas.Result.{err_from_is_err_and}
use Rattle.smt_trees.specs.View.{sexp_of}
use Rattle.smt_theory.specs.Ranks.{rank_of}
use Rattle.smt_theory.specs.Words.{result_and_then}
use Rattle.smt_forms.specs.Identifier.{Qualified}
use Rattle.smt_terms.specs.Checking.{sort_applied, sort_of_operator, sort_of_rank}
use Rattle.smt_terms.specs.Denotes.{constant_node}
use Rattle.smt_terms.specs.Internal.DraftView.{sorts_from, terms_from}
use Rattle.smt_terms.specs.Internal.LibraryView.{names_of_library}
use Rattle.smt_terms.specs.Internal.NodesView.{AddsApplied, AddsOperator}
use Rattle.smt_terms.proofs.CheckerLemmas.{constant_fault}
use Rattle.smt_terms.proofs.DraftLemmas.{carried_sort}
use Rattle.smt_terms.proofs.NodeLemmas.{if_answered}
use Rattle.smt_terms.proofs.library.Library.sort_of_constant.Goals as goal

pub returns-in_err-op-clause-sort : goal.returns-in_err-op-clause-sort
returns-in_err-op-clause-sort c =
    let p = err_from_is_err_and c.from_residual.result c.from_residual.ensures.1 in
    rw (p.1, p.2) (constant_fault (names_of_library c.args.self.now) (sexp_of c.args.sort)
    (sorts_from c.args.start c.args.draft.now.arguments) _ c.in_err-op.ensures)

pub returns-clause-sort : goal.returns-clause-sort
returns-clause-sort c =
    let names = names_of_library c.args.self.now in
    let args = sorts_from c.args.start c.args.draft.now.arguments in
    carried_sort c.sort_of_indexed.result (sort_of_operator (Ok c.in_ok-op.op) args)
    (sort_applied names (Qualified (sexp_of c.args.sort)) args)
    (ap (λ r. result_and_then r (λ op. sort_of_rank (rank_of op args))) c.in_ok-op.ensures)
    c.sort_of_indexed.ensures.sort

pub returns-clause-added : goal.returns-clause-added
returns-clause-added c =
    let library = c.args.self.now in
    let d = c.args.draft.now in
    let new = c.sort_of_indexed.new.draft in
    let f = Qualified (sexp_of c.args.sort) in
    let sorts = sorts_from c.args.start d.arguments in
    let terms = terms_from c.args.start d.arguments in
    if_answered c.sort_of_indexed.result (AddsOperator library d new c.args.around (Ok c.in_ok-op.op) terms)
    (AddsApplied library d new c.args.around f sorts terms)
    (λ v adds. record {
      node = adds.0;
      added = adds.1;
      is = λ free counted. ap (λ r. constant_node r terms) c.in_ok-op.ensures ∙ adds.2 None;
    }) c.sort_of_indexed.ensures.added
