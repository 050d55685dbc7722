use Rattle.std.proofs.Common.{arith}
use Rattle.smt_values.specs.KnownBitOperations.{the_only}
use Rattle.smt_values.specs.KnownOperations.{known_vector}
use Rattle.smt_values.proofs.BitKnownLemmas.{only_none}
use Rattle.smt_values.proofs.KnownLoopLemmas.{none_of}
use Rattle.smt_values.proofs.operations.bits.only.Goals as goal
use Rattle.smt_values.proofs.operations.bits.only.Goals.{in_default-via-then-args-lt1}
use Rattle.smt_values.proofs.operations.bits.only.Goals.{in_default-via-else-args-lt1+else-args-lt2}

pub returns-in_default : goal.returns-in_default
returns-in_default c = elim c.in_default.branch [
  | in_default-via-then-args-lt1 w ↦ none_of known_vector the_only c.args.args.now
      (λ vs e. only_none vs (λ one. grind arith))
  | in_default-via-else-args-lt1+else-args-lt2 w ↦ none_of known_vector the_only c.args.args.now
      (λ vs e. only_none vs (λ one. grind arith))
]
