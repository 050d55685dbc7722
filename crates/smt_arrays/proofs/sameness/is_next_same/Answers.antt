use Rattle.std.proofs.Common.{◌∙◌, ap, sym}
use Rattle.smt_arrays.specs.Cells.{arrays_of}
use Rattle.smt_arrays.specs.Internal.{elements_in, known_same_in, next_same}
use Rattle.smt_arrays.specs.Tables.{element_in}
use Rattle.smt_arrays.proofs.sameness.is_next_same.Goals as goal

pub returns-in-Some : goal.returns-in-Some
returns-in-Some c =
    let arrays = arrays_of c.args.cells.now in
    let a = element_in arrays c.args.value.now in
    c.sameness.ensures ∙ ap (λ v. known_same_in 2 a (element_in arrays v)) c.value_or.ensures
    ∙ sym (ap (λ xs. next_same a (elements_in arrays xs)) c.in-Some.ensures.cases.0)
