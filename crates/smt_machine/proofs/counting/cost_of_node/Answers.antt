use Rattle.std.proofs.Common.{ap, arith, sym}
use Rattle.smt_machine.proofs.SumLemmas.{arounds_counted, past_cost}
use Rattle.smt_machine.specs.Costs.{capped}
use Rattle.smt_machine.specs.Tables.{arounds_of, nodes_of}
use Rattle.smt_machine.proofs.counting.cost_of_node.Goals as goal

pub returns-in-None : goal.returns-in-None
returns-in-None c = sym (ap capped (past_cost (nodes_of c.args.tables) (arounds_of c.args.tables)
    c.args.costs.now c.args.node c.args.node c.requires
    (arounds_counted c.args.tables) c.in-None.ensures.lookup.3 (omega arith)))
