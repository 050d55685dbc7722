-- the items that are left get fewer
use Rattle.smt_trees.specs.Sexp.{count}
use Rattle.smt_trees.specs.View.{sexps_of}
use Rattle.rows.proofs.values.plain.plain_definitions.Given as goal

abbrev pub invariant-loop-item : goal.invariant-loop-item
invariant-loop-item l = Unit {0}

abbrev pub decreases-loop-item : goal.decreases-loop-item
decreases-loop-item l = count (sexps_of l.items)
