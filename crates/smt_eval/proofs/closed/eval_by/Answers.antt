use Rattle.std.proofs.Common.{ℕ, [], ◌+◌, ap, length, Ok, ◌∙◌}
use Rattle.smt_arrays.specs.Element.{known_plain}
use Rattle.smt_machine.specs.Given.{given}
use Rattle.smt_machine.specs.Tables.{nodes_of}
use Rattle.smt_terms.specs.Library.{element_names_of, held_terms_of, terms_of}
use Rattle.smt_eval.specs.Known.{by_name}
use Rattle.smt_eval.specs.Numbering.{in_numbers}
use Rattle.smt_eval.proofs.TermCostLemmas.{AreTablesOf, cost_is, cost_within, counted_is, paid_is}
use Rattle.smt_eval.proofs.closed.eval_by.Goals as goal

pub eval-requires-clause-enough : goal.eval-requires-clause-enough
eval-requires-clause-enough c =
    let are : AreTablesOf c.tables_of.result c.args.library.now c.args.interpretation.now = record {
      nodes = c.tables_of.ensures.nodes;
      arounds = c.tables_of.ensures.arounds;
      count = c.tables_of.ensures.count;
      named = c.tables_of.ensures.named;
    } in
    cost_within c.nodes_have_the_costs_of_their_terms.ensures c.tables_of.result c.args.library.now
    c.args.interpretation.now c.args.term _ are c.requires.fits c.requires.term c.requires.enough

pub returns-clause-paid : goal.returns-clause-paid
returns-clause-paid c = λ script definitions t names holds term.
    let are : AreTablesOf c.tables_of.result c.args.library.now c.args.interpretation.now = record {
      nodes = c.tables_of.ensures.nodes;
      arounds = c.tables_of.ensures.arounds;
      count = c.tables_of.ensures.count;
      named = c.tables_of.ensures.named;
    } in
    paid_is {F = ℕ} (Ok c.in_ok-value.value) _ _ _ _ c.in_ok-value.ensures.paid
    (cost_is c.nodes_have_the_costs_of_their_terms.ensures c.tables_of.result c.args.library.now
    c.args.interpretation.now c.args.term script definitions t are names holds term)

pub returns-clause-counted : goal.returns-clause-counted
returns-clause-counted c = λ script definitions t names holds term.
    let are : AreTablesOf c.tables_of.result c.args.library.now c.args.interpretation.now = record {
      nodes = c.tables_of.ensures.nodes;
      arounds = c.tables_of.ensures.arounds;
      count = c.tables_of.ensures.count;
      named = c.tables_of.ensures.named;
    } in
    counted_is {F = ℕ} (Ok c.in_ok-value.value) _ _ c.nodes_take_the_least_of_their_terms.ensures c.tables_of.result
    c.args.library.now c.args.interpretation.now c.args.term script definitions t are names holds term
    c.in_ok-value.ensures.counted

pub returns-clause-known : goal.returns-clause-known
returns-clause-known c = λ script definitions t names holds term.
    let library = c.args.interpretation.now.definitions in
    let model = held_terms_of library in
    let script_terms = terms_of c.args.library.now in
    let declared = c.args.interpretation.now.declared.items in
    let id = c.args.term in
    c.plain.ensures ∙ ap known_plain (c.in_ok-value.ensures.value
    ∙ ap (λ n. given (nodes_of c.tables_of.result) (n + id) []) c.tables_of.ensures.count
    ∙ ap (λ nodes. given nodes (length model.rows + id) []) c.tables_of.ensures.nodes
    ∙ c.numbers_stand_for_names.ensures model script_terms declared (element_names_of library) (length model.rows + id) []
    (c.elements_have_numbers.ensures library.nodes)
    ∙ ap (in_numbers (element_names_of library))
    (c.nodes_give_the_values_of_their_terms.ensures by_name model script_terms declared script definitions 0 id t
    (c.tables_of.ensures.named script names) holds.stands.terms holds.defined holds.theories holds.no_elements
    holds.distinct holds.bodies term))
