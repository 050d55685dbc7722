use Rattle.std.proofs.Common.{◌∙◌, ◌∷◌, [], ap, sym}
use Rattle.smt_theory.specs.declared.op.ArraysOp.TheVariants.{Select}
use Rattle.smt_arrays.specs.Cells.{arrays_of}
use Rattle.smt_arrays.specs.Internal.{elements_in, value_or}
use Rattle.smt_arrays.specs.Known.{known_arrays}
use Rattle.smt_arrays.specs.Tables.{element_in}
use Rattle.smt_arrays.proofs.OperateLemmas.{exactly_two, selected_known}
use Rattle.smt_arrays.proofs.arrays.Arrays.selected.Goals as goal

pub returns : goal.returns
returns c =
    let arrays = arrays_of c.args.self.now in
    let two = exactly_two c.args.args.now c.index-args-0.result c.index-args-1.result c.if-args-ne2.false
    c.index-args-0.is c.index-args-1.is in
    selected_known c.args.self.now _ c.select.result
    (c.select.ensures.known
    ∙ ap (λ v. known_arrays Select (element_in arrays v ∷ element_in arrays c.value_or-2.result ∷ []))
    c.value_or.ensures
    ∙ ap (λ v. known_arrays Select (element_in arrays (value_or c.index-args-0.result) ∷ element_in arrays v ∷ []))
    c.value_or-2.ensures
    ∙ sym (ap (λ xs. known_arrays Select (elements_in arrays xs)) two))
    c.select.ensures.held
