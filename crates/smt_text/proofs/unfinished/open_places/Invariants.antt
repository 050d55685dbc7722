use Rattle.smt_text.specs.Internal.Scanning.{IsScan}
use Rattle.smt_text.proofs.unfinished.open_places.Given as goal

abbrev pub invariant-loop-place : goal.invariant-loop-place
invariant-loop-place l = IsScan l.text l.place l.scan
