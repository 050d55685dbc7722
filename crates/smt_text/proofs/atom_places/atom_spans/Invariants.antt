use Rattle.smt_text.specs.Internal.AtomScanning.{IsAtomScan}
use Rattle.smt_text.proofs.atom_places.atom_spans.Given as goal

abbrev pub invariant-loop-place : goal.invariant-loop-place
invariant-loop-place l = IsAtomScan l.text l.place l.scan
