use Rattle.std.proofs.Common.{◌∙◌, ap, map, not, option_map, sym}
use Rattle.smt_arrays.specs.Cells.{arrays_of}
use Rattle.smt_arrays.specs.Internal.{both, elements_in, known_same_in, value_or}
use Rattle.smt_arrays.specs.Known.{are_all_so, known_same, pairs_different}
use Rattle.smt_arrays.specs.Tables.{element_in}
use Rattle.smt_arrays.proofs.ChainLemmas.{held_rest, loop_step}
use Rattle.smt_arrays.proofs.PlainSameLemmas.{so_both}
use Rattle.smt_arrays.proofs.sameness.are_pairs_different.Goals as goal

pub loop-first-preserved : goal.loop-first-preserved
loop-first-preserved c =
    let arrays = arrays_of c.args.cells.now in
    let es = elements_in arrays c.in-Some.rest.now in
    let a = element_in arrays (value_or c.in-Some.first.now) in
    let here = c.is_different.ensures
    ∙ ap (λ v. are_all_so (map (λ e. option_map not (known_same_in 2 (element_in arrays v) e)) es))
    c.value_or.ensures in
    record {
      held = held_rest _ _ _ _ c.loop-first.invariant.held c.in-Some.ensures.cases.0;
      same = loop_step (λ xs. are_all_so (pairs_different (elements_in arrays xs)))
          c.args.args.now c.loop-first.left.now
          c.in-Some.rest.now c.in-Some.first.now c.loop-first.found c.is_different.result c.both-found.result
          c.loop-first.invariant.same c.in-Some.ensures.cases.0
          (so_both (map (λ e. option_map not (known_same a e)) es) (pairs_different es)
          ∙ ap (λ o. both o (are_all_so (pairs_different es))) (sym here))
          c.both-found.ensures;
    }
