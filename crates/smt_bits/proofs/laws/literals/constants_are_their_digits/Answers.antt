use Rattle.std.proofs.Common.{◌≡◌, ◌*◌, length, ap, ◌∙◌, arith}
use Rattle.std.specs.Str.Parse.{digits_value}
use Rattle.smt_bits.specs.BitVector.{vector}
use Rattle.smt_bits.proofs.LiteralLemmas.{spelled}
use Rattle.smt_bits.proofs.laws.literals.constants_are_their_digits.Goals as goal

pub returns-clause-hexadecimal : goal.returns-clause-hexadecimal
returns-clause-hexadecimal c = spelled 4

pub returns-clause-binary : goal.returns-clause-binary
returns-clause-binary c = λ digits all. let same : 1 * length digits ≡ length digits = omega arith
    in spelled 1 digits all ∙ ap (λ m. vector m (digits_value 2 digits)) same
