use Rattle.std.proofs.Common.{◌≡◌, ◌∙◌, List, ap, sym, length}
use Rattle.std.proofs.lemmas.Bool.{eqb-true}
use Rattle.smt_terms.specs.Library.{definitions_of}
use Rattle.smt_terms.specs.declared.library.Definition.{Definition}
use Rattle.smt_eval.specs.Interpretation.{greatest_cost_of, rate_of}
use Rattle.smt_eval.proofs.SizedTermLemmas.{greatest_is, rate_is, sized_term}
use Rattle.smt_eval.proofs.TermCostLemmas.{AreTablesOf}
use Rattle.smt_eval.proofs.closed.cost_by_size.Goals as goal

is_rate : (c : goal.After-checked_add) → c.checked_add.result ≡ rate_of c.args.interpretation.now c.args.library.now
is_rate c =
    let are : AreTablesOf c.tables_of.result c.args.library.now c.args.interpretation.now = record {
      nodes = c.tables_of.ensures.nodes;
      arounds = c.tables_of.ensures.arounds;
      count = c.tables_of.ensures.count;
      named = c.tables_of.ensures.named;
    } in
    let none : length (definitions_of c.args.library.now) ≡ 0 =
    sym (ap (λ (ds : List Definition). length ds) c.definitions.ensures.view)
    ∙ eqb-true (length c.definitions.result.now) 0 (sym c.is_empty.ensures ∙ c.if-not-is_empty.false) in
    rate_is (definitions_of c.args.library.now) c.in_ok-most.most
    (greatest_cost_of c.args.interpretation.now c.args.library.now) c.checked_add.result none
    (c.in_ok-most.ensures ∙ greatest_is c.tables_of.result c.args.library.now c.args.interpretation.now are)
    c.checked_add.ensures

pub returns-clause-rate : goal.returns-clause-rate
returns-clause-rate c = is_rate c

pub returns-clause-bound : goal.returns-clause-bound
returns-clause-bound c = λ script definitions i t u names holds term other.
    sized_term c.nodes_have_the_costs_of_their_terms.ensures c.terms_cost_by_their_sizes.ensures c.args.library.now
    c.args.interpretation.now script definitions i t u c.checked_add.result (is_rate c) names
    (c.tables_of.ensures.named script names) holds term other
