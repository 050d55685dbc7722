use Rattle.std.proofs.Common.{◌%◌, ◌^◌, arith}
use Rattle.std.specs.Prelude.{option_map}
use Rattle.smt_bits.specs.BitVector.{BitVector, vector}
use Rattle.smt_values.specs.KnownBitOperations.{none_given}
use Rattle.smt_values.specs.KnownOperations.{known_vector}
use Rattle.smt_values.proofs.BitKnownLemmas.{given_none}
use Rattle.smt_values.proofs.KnownLoopLemmas.{none_of}
use Rattle.smt_values.proofs.operations.bits.constant.Goals as goal

pub returns-in_default : goal.returns-in_default
returns-in_default c =
    let given : Unit {0} → BitVector = λ _. vector c.args.width (c.args.number % 2 ^ c.args.width) in
    none_of known_vector (λ vs. option_map given (none_given vs)) c.args.args.now
    (λ vs e. given_none given vs (λ none. omega arith))
