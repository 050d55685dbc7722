use Rattle.std.proofs.Common.{Ok, option_map, ap, sym, subst, ◌∙◌}
use Rattle.smt_trees.specs.Sexp.{Atom, Symbol}
use Rattle.smt_nodes.specs.Node as node
use Rattle.smt_theory.specs.Sort.{Sort}
use Rattle.smt_terms.specs.Checking as checking
use Rattle.smt_terms.specs.Internal.DraftView.{is_open, seen_by}
use Rattle.smt_terms.specs.Internal.LibraryView.{names_of_library}
use Rattle.smt_terms.specs.Internal.NodesView.{AddsAlone, AddsNode, Stands}
use Rattle.smt_terms.specs.declared.library.draft.Bound.{Bound}
use Rattle.smt_terms.proofs.DraftLemmas.{carried_open, carried_sort, look_up-sorts, open-none, open-some}
use Rattle.smt_terms.proofs.NodeLemmas.{if_answered, symbol_stands, variable_stands}
use Rattle.smt_terms.proofs.library.Library.sort_of_symbol.Goals as goal

pub returns-in_ok-push-in-Some-clause-sort : goal.returns-in_ok-push-in-Some-clause-sort
returns-in_ok-push-in-Some-clause-sort c =
    ap (checking.sort_of_symbol (names_of_library c.args.self.now) c.args.name.now)
    (look_up-sorts (seen_by c.args.draft.now) c.args.name.now
    ∙ ap (option_map (λ (b : Bound). b.sort)) (sym c.find.ensures ∙ c.in-Some.is))
    ∙ ap (λ (s : Sort). Ok s) (sym c.in_ok-push-in-Some.ensures.sort)

pub returns-in_ok-push-in-Some-clause-open : goal.returns-in_ok-push-in-Some-clause-open
returns-in_ok-push-in-Some-clause-open c =
    c.in_ok-push-in-Some.ensures.open
    ∙ open-some (seen_by c.args.draft.now) c.args.draft.now.base c.args.name.now c.in-Some.variable c.requires
    (sym c.find.ensures ∙ c.in-Some.is)

pub returns-in_ok-push-in-Some-clause-node : goal.returns-in_ok-push-in-Some-clause-node
returns-in_ok-push-in-Some-clause-node c =
    variable_stands c.args.self.now c.args.draft.now c.push.new.self c.args.around c.args.name.now c.in-Some.variable
    c.in_ok-push-in-Some.field-0 c.requires (sym c.find.ensures ∙ c.in-Some.is)
    c.in_ok-push-in-Some.ensures.open c.push.ensures.longer
    (subst (λ n. AddsNode c.args.self.now.nodes c.args.draft.now c.push.new.self c.args.around (node.Slot n) c.in_ok-push-in-Some.field-0)
    c.saturating_sub.ensures c.in_ok-push-in-Some.ensures.added)

pub returns-in-None-clause-sort : goal.returns-in-None-clause-sort
returns-in-None-clause-sort c =
    let names = names_of_library c.args.self.now in
    carried_sort c.sort_of_alone.result _ _
    (ap (checking.sort_of_symbol names c.args.name.now)
    (look_up-sorts (seen_by c.args.draft.now) c.args.name.now
    ∙ ap (option_map (λ (b : Bound). b.sort)) (sym c.find.ensures ∙ c.in-None.is))) c.sort_of_alone.ensures.sort

pub returns-in-None-clause-open : goal.returns-in-None-clause-open
returns-in-None-clause-open c =
    carried_open c.sort_of_alone.result _ (is_open c.args.draft.now (Atom Symbol c.args.name.now))
    (open-none (seen_by c.args.draft.now) c.args.draft.now.base c.args.name.now
    (sym c.find.ensures ∙ c.in-None.is)) c.sort_of_alone.ensures.open

pub returns-in-None-clause-node : goal.returns-in-None-clause-node
returns-in-None-clause-node c =
    let d = c.args.draft.now in
    let new = c.sort_of_alone.new.draft in
    if_answered c.sort_of_alone.result (AddsAlone c.args.self.now d new c.args.around c.args.name.now)
    (Stands c.args.self.now d new c.args.around (Atom Symbol c.args.name.now))
    (λ found adds. symbol_stands c.args.self.now d new c.args.around c.args.name.now found
    (sym c.find.ensures ∙ c.in-None.is) c.sort_of_alone.ensures.longer adds) c.sort_of_alone.ensures.added
