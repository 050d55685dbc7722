use Rattle.std.proofs.Common.{Ok, refl, ap, sym, ◌∙◌}
use Rattle.smt_nodes.specs.Node as node
use Rattle.smt_forms.specs.Identifier.{Plain}
use Rattle.smt_terms.specs.Checking.{sort_applied}
use Rattle.smt_terms.specs.Internal.DraftView.{sorts_from, terms_from}
use Rattle.smt_terms.specs.Internal.LibraryView.{names_of_library}
use Rattle.smt_terms.specs.Internal.NodesView.{AddsAlone, AddsApplied}
use Rattle.smt_terms.specs.Internal.TableView.{table_of}
use Rattle.smt_terms.proofs.ArgumentLemmas.{applied_alone, no_sorts}
use Rattle.smt_terms.proofs.DraftLemmas.{carried_sort}
use Rattle.smt_terms.proofs.ElementLemmas.{alone_applied}
use Rattle.smt_terms.proofs.NodeLemmas.{if_answered}
use Rattle.smt_terms.proofs.library.Library.sort_of_alone.Goals as goal

pub returns-in_ok-push_element-in-Some-clause-sort : goal.returns-in_ok-push_element-in-Some-clause-sort
returns-in_ok-push_element-in-Some-clause-sort c =
    c.in-Some.ensures.sort ∙ ap (λ s. Ok s) (sym c.in_ok-push_element-in-Some.ensures.sort)

pub returns-in_ok-push_element-in-Some-clause-added : goal.returns-in_ok-push_element-in-Some-clause-added
returns-in_ok-push_element-in-Some-clause-added c = record {
  node = node.Element c.args.name.now;
  added = c.in_ok-push_element-in-Some.ensures.added;
  is = λ free. c.in-Some.ensures.node;
}

pub returns-in-None-clause-sort : goal.returns-in-None-clause-sort
returns-in-None-clause-sort c =
    carried_sort c.sort_of_plain.result _ _
    (c.in-None.ensures.sort
    ∙ ap (λ ss. sort_applied (names_of_library c.args.self.now) (Plain c.args.name.now) ss)
    (sym (no_sorts c.args.draft.now c.len-start.result c.len-start.ensures))) c.sort_of_plain.ensures.sort

pub returns-in-None-clause-added : goal.returns-in-None-clause-added
returns-in-None-clause-added c =
    let library = c.args.self.now in
    let d = c.args.draft.now in
    let new = c.sort_of_plain.new.draft in
    let x = c.args.name.now in
    if_answered c.sort_of_plain.result
    (AddsApplied library d new c.args.around (Plain x) (sorts_from c.len-start.result d.arguments)
    (terms_from c.len-start.result d.arguments))
    (AddsAlone library d new c.args.around x)
    (λ found adds.
    let alone =
    applied_alone library d new c.args.around (Plain x) c.len-start.result c.len-start.ensures found adds in
    record {
      node = alone.node;
      added = alone.added;
      is = λ free. alone_applied (table_of library) x alone.node (alone.is free refl);
    })
    c.sort_of_plain.ensures.added
