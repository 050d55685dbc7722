use Rattle.std.proofs.Common.{◌∙◌, ap, map, not, option_map, sym}
use Rattle.smt_arrays.specs.Cells.{arrays_of}
use Rattle.smt_arrays.specs.Internal.{both, elements_in, known_same_in, value_or}
use Rattle.smt_arrays.specs.Known.{are_all_so}
use Rattle.smt_arrays.specs.Tables.{element_in}
use Rattle.smt_arrays.proofs.ChainLemmas.{held_rest, loop_step}
use Rattle.smt_arrays.proofs.PlainSameLemmas.{so_more}
use Rattle.smt_arrays.proofs.sameness.is_different.Goals as goal

pub loop-first-preserved : goal.loop-first-preserved
loop-first-preserved c =
    let arrays = arrays_of c.args.cells.now in
    let es = elements_in arrays c.in-Some.rest.now in
    let a = element_in arrays c.args.value.now in
    let here = c.opposite.ensures
    ∙ ap (option_map not) (c.sameness.ensures ∙ ap (λ v. known_same_in 2 a (element_in arrays v)) c.value_or.ensures) in
    record {
      held = held_rest _ _ _ _ c.loop-first.invariant.held c.in-Some.ensures.cases.0;
      same = loop_step (λ xs. are_all_so (map (λ e. option_map not (known_same_in 2 a e)) (elements_in arrays xs)))
          c.args.others.now c.loop-first.left.now
          c.in-Some.rest.now c.in-Some.first.now c.loop-first.found c.opposite.result c.both-found.result
          c.loop-first.invariant.same c.in-Some.ensures.cases.0
          (so_more (option_map not (known_same_in 2 a (element_in arrays (value_or c.in-Some.first.now))))
          (map (λ e. option_map not (known_same_in 2 a e)) es)
          ∙ ap (λ o. both o (are_all_so (map (λ e. option_map not (known_same_in 2 a e)) es))) (sym here))
          c.both-found.ensures;
    }
