use Rattle.std.proofs.Common.{◌≡◌, ◌≤◌, ◌*◌}
use Rattle.smt_bits.specs.BitVector.{vector}
use Rattle.smt_bits.specs.Operators as meaning
use Rattle.smt_bits.proofs.parts.repeat.Given as goal

abbrev pub invariant-loop-times : goal.invariant-loop-times
invariant-loop-times l =
    (l.repeated ≡ vector (l._times * l.s.width) (meaning.repeat l._times l.s.width l.s.number))
    × (l._times * l.s.width ≤ 128)
