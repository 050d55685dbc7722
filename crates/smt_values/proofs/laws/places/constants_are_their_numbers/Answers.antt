use Rattle.std.proofs.Common.{ap}
use Rattle.std.proofs.Math.Nat.{mod-eq_of_lt}
use Rattle.smt_bits.specs.BitVector.{vector}
use Rattle.smt_values.specs.Element.{Vector}
use Rattle.smt_values.proofs.laws.places.constants_are_their_numbers.Goals as goal

pub returns : goal.returns
returns c = λ z x n below. ap (λ y. Vector (vector n y)) (mod-eq_of_lt below)
