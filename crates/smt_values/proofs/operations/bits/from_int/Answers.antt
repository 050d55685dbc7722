use Rattle.std.proofs.Common.{arith}
use Rattle.smt_values.specs.KnownBitOperations.{known_bits_of_int}
use Rattle.smt_values.specs.KnownOperations.{known_integer}
use Rattle.smt_values.proofs.BitKnownLemmas.{int_none}
use Rattle.smt_values.proofs.KnownLoopLemmas.{none_of}
use Rattle.smt_values.proofs.operations.bits.from_int.Goals as goal
use Rattle.smt_values.proofs.operations.bits.from_int.Goals.{in_default-via-then-args-lt1}
use Rattle.smt_values.proofs.operations.bits.from_int.Goals.{in_default-via-else-args-lt1+else-args-lt2}

pub returns-in_default : goal.returns-in_default
returns-in_default c = elim c.in_default.branch [
  | in_default-via-then-args-lt1 w ↦ none_of known_integer (known_bits_of_int c.args.width) c.args.args.now
      (λ zs e. int_none c.args.width zs (λ one. grind arith))
  | in_default-via-else-args-lt1+else-args-lt2 w ↦ none_of known_integer (known_bits_of_int c.args.width) c.args.args.now
      (λ zs e. int_none c.args.width zs (λ one. grind arith))
]
