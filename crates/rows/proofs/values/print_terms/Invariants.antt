-- the library stands for a signature
use Rattle.smt_eval.specs.Interpretation.{HoldsScript}
use Rattle.rows.proofs.values.print_terms.Given as goal

abbrev pub invariant-loop-field : goal.invariant-loop-field
invariant-loop-field g l = HoldsScript l.script
