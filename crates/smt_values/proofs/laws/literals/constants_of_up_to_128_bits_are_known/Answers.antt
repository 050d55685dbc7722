use Rattle.std.proofs.Common.{◌*◌, length, arith}
use Rattle.std.specs.Str.Parse.{digits_value}
use Rattle.smt_bits.specs.BitVector.{vector}
use Rattle.smt_values.proofs.ConstantLemmas.{constant_known, constant_open}
use Rattle.smt_values.proofs.laws.literals.constants_of_up_to_128_bits_are_known.Goals as goal

pub returns-clause-hexadecimal : goal.returns-clause-hexadecimal
returns-clause-hexadecimal c = λ digits well some few.
    constant_known 16 4 digits (vector (4 * length digits) (digits_value 16 digits))
    (c.constants_are_their_digits.ensures.hexadecimal digits well) (omega arith) (omega arith)

pub returns-clause-binary : goal.returns-clause-binary
returns-clause-binary c = λ digits well some few.
    constant_known 2 1 digits (vector (length digits) (digits_value 2 digits))
    (c.constants_are_their_digits.ensures.binary digits well) (omega arith) (omega arith)

pub returns-clause-longer_hexadecimal : goal.returns-clause-longer_hexadecimal
returns-clause-longer_hexadecimal c = λ digits many. constant_open 16 4 digits (omega arith)

pub returns-clause-longer_binary : goal.returns-clause-longer_binary
returns-clause-longer_binary c = λ digits many. constant_open 2 1 digits (omega arith)
