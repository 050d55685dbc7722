use Rattle.std.proofs.Common.{◌≡◌, take}
use Rattle.smt_text.specs.Positions.{after}
use Rattle.smt_text.proofs.position.Position.after.Given as goal

abbrev pub invariant-loop-byte : goal.invariant-loop-byte
invariant-loop-byte l = l.here ≡ after l.fn.self (take l.byte-index l.bytes)
