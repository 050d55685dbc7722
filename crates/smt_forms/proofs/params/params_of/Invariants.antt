use Rattle.std.proofs.Common.{◌≡◌, ◌++◌, map}
use Rattle.smt_trees.specs.Sexp.{weight_all}
use Rattle.smt_trees.specs.View.{sexps_of}
use Rattle.smt_forms.specs.Bindings.{named_trees}
use Rattle.smt_forms.specs.ParamView.{param_view}
use Rattle.smt_forms.proofs.params.params_of.Given as goal

abbrev pub invariant-loop-name : goal.invariant-loop-name
invariant-loop-name l =
    named_trees (sexps_of l.trees) ≡ map param_view l.params.items ++ named_trees (sexps_of l.left)

abbrev pub decreases-loop-name : goal.decreases-loop-name
decreases-loop-name l = weight_all (sexps_of l.left)
