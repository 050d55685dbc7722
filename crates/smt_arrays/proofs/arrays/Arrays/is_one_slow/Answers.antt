use Rattle.std.proofs.Common.{◌||◌, ◌∙◌, List, ap, sym}
use Rattle.std.specs.List.{list_any}
use Rattle.smt_arrays.specs.Cells.{arrays_of}
use Rattle.smt_arrays.specs.Internal.{elements_in}
use Rattle.smt_arrays.specs.Known.{is_slow}
use Rattle.smt_arrays.specs.Tables.{element_in}
use Rattle.smt_arrays.specs.declared.arrays.Cell.{Cell}
use Rattle.smt_arrays.proofs.ChainLemmas.{held_rest}
use Rattle.smt_arrays.proofs.arrays.Arrays.is_one_slow.Goals as goal

pub loop-first-preserved : goal.loop-first-preserved
loop-first-preserved c =
    let arrays = arrays_of c.args.self.now in
    let here = sym (c.is_slow.ensures
    ∙ ap (λ (cells : List Cell). is_slow (element_in (arrays_of cells) c.value_or.result))
    (c.as_slice-cells.ensures.value ∙ c.self.view_is)
    ∙ ap (λ v. is_slow (element_in arrays v)) c.value_or.ensures) ∙ c.if-is_slow.false in
    record {
      held = held_rest _ _ _ _ c.loop-first.invariant.held c.in-Some.ensures.cases.0;
      same = c.loop-first.invariant.same
          ∙ ap (λ xs. list_any is_slow (elements_in arrays xs)) c.in-Some.ensures.cases.0
          ∙ ap (λ b. b || list_any is_slow (elements_in arrays c.in-Some.rest.now)) here;
    }
