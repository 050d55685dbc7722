use Rattle.std.proofs.Common.{◌≡◌, drop}
use Rattle.std.specs.Prelude.{option_and_then}
use Rattle.smt_bits.specs.Parts.{concatenation}
use Rattle.smt_values.specs.Element.{known_elements}
use Rattle.smt_values.specs.KnownOperations.{known_vectors}
use Rattle.smt_values.specs.Lists.{steps_from}
use Rattle.smt_values.proofs.operations.bits.joined.Given as goal

abbrev pub invariant-loop-arg : goal.invariant-loop-arg
invariant-loop-arg l =
    option_and_then (steps_from concatenation l.fn.first) (known_vectors (known_elements l.fn.rest))
    ≡ option_and_then (steps_from concatenation l.whole)
    (known_vectors (known_elements (drop l.arg-index l.rest)))
