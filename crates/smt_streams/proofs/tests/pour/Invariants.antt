-- No call has failed, and the end is not told.
use Rattle.std.proofs.Common.{◌≡◌, false}
use Rattle.smt_streams.specs.Collected.{collected_broken}
use Rattle.smt_streams.proofs.tests.pour.Given as goal

abbrev pub invariant-loop-pulls : goal.invariant-loop-pulls
invariant-loop-pulls g l =
    (g.S.Source.is_broken l.source ≡ false)
    × (g.S.Source.has_ended l.source ≡ false)
    × (collected_broken l.sink ≡ false)
