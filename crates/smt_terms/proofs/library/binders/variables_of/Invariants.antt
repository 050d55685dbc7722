use Rattle.std.proofs.Common.{◌≡◌, ◌++◌}
use Rattle.smt_trees.specs.Sexp.{weight_all}
use Rattle.smt_trees.specs.View.{sexps_of}
use Rattle.smt_forms.specs.ScopeView.{scope_view}
use Rattle.smt_terms.specs.Internal.Frames.{variables_of}
use Rattle.smt_terms.proofs.library.binders.variables_of.Given as goal

abbrev pub invariant-loop-name : goal.invariant-loop-name
invariant-loop-name l = variables_of (sexps_of l.fn.bindings) l.fn.sorts
    ≡ scope_view l.variables.items ++ variables_of (sexps_of l.left) l.sorts

abbrev pub decreases-loop-name : goal.decreases-loop-name
decreases-loop-name l = weight_all (sexps_of l.left)
