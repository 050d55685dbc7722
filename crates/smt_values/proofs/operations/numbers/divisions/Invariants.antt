use Rattle.std.proofs.Common.{◌≡◌, drop}
use Rattle.std.specs.Prelude.{option_and_then}
use Rattle.smt_ratios.specs.View.{rational_of}
use Rattle.smt_values.specs.Element.{known_elements}
use Rattle.smt_values.specs.KnownNumbers.{known_division, known_numbers}
use Rattle.smt_values.specs.Lists.{steps_from}
use Rattle.smt_values.proofs.operations.numbers.divisions.Given as goal

abbrev pub invariant-loop-arg : goal.invariant-loop-arg
invariant-loop-arg l =
    option_and_then (steps_from known_division (rational_of l.fn.first)) (known_numbers (known_elements l.fn.rest))
    ≡ option_and_then (steps_from known_division (rational_of l.total))
    (known_numbers (known_elements (drop l.arg-index l.rest)))
