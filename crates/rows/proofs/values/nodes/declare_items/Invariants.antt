-- the library stands for some names
use Rattle.smt_eval.specs.Interpretation.{HoldsScript}
use Rattle.rows.proofs.values.nodes.declare_items.Given as goal

abbrev pub invariant-loop-command : goal.invariant-loop-command
invariant-loop-command l = HoldsScript l.script
