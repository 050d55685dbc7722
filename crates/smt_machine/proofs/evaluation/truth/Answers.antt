use Rattle.std.proofs.Common.{◌∙◌, Some, ap, sym}
use Rattle.smt_arrays.specs.Cells.{arrays_of}
use Rattle.smt_arrays.specs.Element.{known_plain}
use Rattle.smt_arrays.specs.Tables.{known_in}
use Rattle.smt_values.specs.KnownOperations.{known_truth}
use Rattle.smt_machine.proofs.HeldLemmas.{truth_known}
use Rattle.smt_machine.proofs.evaluation.truth.Goals as goal

pub returns-in-Some : goal.returns-in-Some
returns-in-Some c = λ cells. c.truth.ensures ∙ truth_known cells (Some c.in-Some.value)
    ∙ ap (λ v. known_truth (known_plain (known_in (arrays_of cells) v))) (sym c.in-Some.is)
