use Rattle.std.proofs.Common.{◌≡◌, ◌+◌, [], cond, length}
use Rattle.smt_trees.specs.Sexp.{weight_all}
use Rattle.smt_trees.specs.View.{sexps_of}
use Rattle.smt_forms.specs.Bindings.{are_bindings, are_named_trees}
use Rattle.smt_forms.specs.NamesIn.{names_in}
use Rattle.smt_terms.specs.Internal.Frames.{distinct_from}
use Rattle.smt_terms.proofs.library.binders.distinct_bindings.Given as goal

abbrev pub invariant-loop-name : goal.invariant-loop-name
invariant-loop-name l = record {
  counted : distinct_from [] (sexps_of l.bindings)
      ≡ length (names_in l.names) + cond l.is_distinct (distinct_from (names_in l.names) (sexps_of l.left)) 0;
  named : are_bindings (sexps_of l.bindings) ≡ are_named_trees (sexps_of l.left);
}

abbrev pub decreases-loop-name : goal.decreases-loop-name
decreases-loop-name l = weight_all (sexps_of l.left)
