-- the definitions are over the theories of the declared names
use Rattle.smt_terms.specs.Library.{ReadsModelsOf}
use Rattle.smt_trees.specs.Sexp.{count}
use Rattle.smt_trees.specs.View.{sexps_of}
use Rattle.rows.proofs.models.define_items.Given as goal

abbrev pub invariant-loop-item : goal.invariant-loop-item
invariant-loop-item l = ReadsModelsOf l.definitions l.declared

abbrev pub decreases-loop-item : goal.decreases-loop-item
decreases-loop-item l = count (sexps_of l.left)
