use Rattle.std.proofs.Common.{arith}
use Rattle.smt_values.specs.KnownBitOperations.{two_of_one_width}
use Rattle.smt_values.specs.KnownOperations.{known_vector}
use Rattle.smt_values.proofs.BitKnownLemmas.{two_none}
use Rattle.smt_values.proofs.KnownLoopLemmas.{none_of}
use Rattle.smt_values.proofs.operations.bits.of_two.Goals as goal
use Rattle.smt_values.proofs.operations.bits.of_two.Goals.{in_default-via-then-args-lt2}
use Rattle.smt_values.proofs.operations.bits.of_two.Goals.{in_default-via-else-args-lt2+else-args-lt3}

pub returns-in_default-clause-known : goal.returns-in_default-clause-known
returns-in_default-clause-known c = elim c.in_default.branch [
  | in_default-via-then-args-lt2 w ↦ none_of known_vector two_of_one_width c.args.args.now
      (λ vs e. two_none vs (λ two. grind arith))
  | in_default-via-else-args-lt2+else-args-lt3 w ↦ none_of known_vector two_of_one_width c.args.args.now
      (λ vs e. two_none vs (λ two. grind arith))
]
