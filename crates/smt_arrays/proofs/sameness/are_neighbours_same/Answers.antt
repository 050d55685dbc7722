use Rattle.std.proofs.Common.{◌∙◌, ap, sym}
use Rattle.smt_arrays.specs.Cells.{arrays_of}
use Rattle.smt_arrays.specs.Internal.{both, elements_in, next_same, value_or}
use Rattle.smt_arrays.specs.Known.{are_all_so, neighbours_same}
use Rattle.smt_arrays.specs.Tables.{element_in}
use Rattle.smt_arrays.proofs.AlikeLemmas.{neighbours_more}
use Rattle.smt_arrays.proofs.ChainLemmas.{held_rest, loop_step}
use Rattle.smt_arrays.proofs.sameness.are_neighbours_same.Goals as goal

pub loop-first-preserved : goal.loop-first-preserved
loop-first-preserved c =
    let arrays = arrays_of c.args.cells.now in
    let es = elements_in arrays c.in-Some.rest.now in
    let here = c.is_next_same.ensures ∙ ap (λ v. next_same (element_in arrays v) es) c.value_or.ensures in
    record {
      held = held_rest _ _ _ _ c.loop-first.invariant.held c.in-Some.ensures.cases.0;
      same = loop_step (λ xs. are_all_so (neighbours_same (elements_in arrays xs)))
          c.args.args.now c.loop-first.left.now
          c.in-Some.rest.now c.in-Some.first.now c.loop-first.found c.is_next_same.result c.both-found.result
          c.loop-first.invariant.same c.in-Some.ensures.cases.0
          (neighbours_more (element_in arrays (value_or c.in-Some.first.now)) es
          ∙ ap (λ o. both o (are_all_so (neighbours_same es))) (sym here))
          c.both-found.ensures;
    }
