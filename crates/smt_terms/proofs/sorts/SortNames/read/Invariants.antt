use Rattle.smt_trees.specs.View.{sexp_of}
use Rattle.smt_terms.specs.Internal.LibraryView.{sort_names}
use Rattle.smt_terms.specs.Internal.ReadSorts.{ComesTo, work_left}
use Rattle.smt_terms.specs.SortTrees.{sort_named}
use Rattle.smt_terms.proofs.sorts.SortNames.read.Given as goal

abbrev pub invariant-loop-step : goal.invariant-loop-step
invariant-loop-step l =
    let names = record (sort_names l.self) { theories = l.theories } in
    ComesTo names (sort_named names (sexp_of l.tree)) l.waiting.items l.step

abbrev pub decreases-loop-step : goal.decreases-loop-step
decreases-loop-step l = work_left l.waiting.items l.step
