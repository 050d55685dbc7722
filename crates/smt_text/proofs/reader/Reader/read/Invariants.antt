-- the reader has gone over the bytes so far
use Rattle.std.proofs.Common.{◌≡◌, ◌≤◌, ◌-◌, length, take, Some}
use Rattle.smt_text.specs.Internal.LexerStates.{run}
use Rattle.smt_text.specs.Internal.ReaderState.{state_of, IsBeside, Marks}
use Rattle.smt_text.proofs.reader.Reader.read.Given as goal

abbrev pub invariant-loop-place : goal.invariant-loop-place
invariant-loop-place l = record {
  within : l.place ≤ length l.piece;
  beside : IsBeside l.fn.self l.self;
  runs : run l.fn.self.max_depth (state_of l.fn.self) (take l.place l.piece) ≡ Some (state_of l.self);
  marks : Marks l.fn.self l.piece l.self;
}

abbrev pub decreases-loop-place : goal.decreases-loop-place
decreases-loop-place l = length l.initial.piece - l.place
