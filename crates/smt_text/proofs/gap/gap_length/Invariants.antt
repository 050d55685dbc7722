-- the bytes so far are a gap
use Rattle.std.proofs.Common.{◌≤◌, ◌-◌, length, take}
use Rattle.smt_text.specs.Grammar.{IsGap}
use Rattle.smt_text.proofs.gap.gap_length.Given as goal

abbrev pub invariant-loop-place : goal.invariant-loop-place
invariant-loop-place l = record {
  within : l.place ≤ length l.text;
  gap : IsGap (take l.place l.text);
}

abbrev pub decreases-loop-place : goal.decreases-loop-place
decreases-loop-place l = length l.initial.text - l.place
