-- the reader has gone over the bytes so far, and the others were offered
use Rattle.std.proofs.Common.{◌-◌, length}
use Rattle.smt_text.proofs.RunLemmas.{rest_of}
use Rattle.smt_text.specs.Internal.ReaderState.{GoesOn, IsBeside, Marks}
use Rattle.smt_trees.specs.TapeView.{Holds}
use Rattle.smt_text.proofs.reader.Reader.read_window.Given as goal

abbrev pub invariant-loop-place : goal.invariant-loop-place
invariant-loop-place l = record {
  beside : IsBeside l.fn.self l.self;
  goes : GoesOn l.fn.self l.window l.place l.self;
  marks : Marks l.fn.self l.window l.self;
  held : Holds l.self.builder.list l.at (rest_of l.window l.place);
}

abbrev pub decreases-loop-place : goal.decreases-loop-place
decreases-loop-place l = length l.initial.window - l.place
