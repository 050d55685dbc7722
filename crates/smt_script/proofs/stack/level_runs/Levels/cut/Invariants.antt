-- the levels that are left begin as those of before, up to the one that is asked for
use Rattle.std.proofs.Common.{◌≡◌, ◌<◌, length, slice_get, take}
use Rattle.smt_script.specs.Internal.Runs.{levels_in}
use Rattle.smt_script.proofs.stack.level_runs.Levels.cut.Given as goal

abbrev pub invariant-loop-run : goal.invariant-loop-run
invariant-loop-run l = record {
  counted : l.self-inside.depth ≡ length (levels_in l.self-inside.runs.items);
  below : l.fn.depth < length (levels_in l.self-inside.runs.items);
  first : take l.fn.depth (levels_in l.self-inside.runs.items) ≡ take l.fn.depth l.fn.self;
  there : slice_get (levels_in l.self-inside.runs.items) l.fn.depth ≡ slice_get l.fn.self l.fn.depth;
}

abbrev pub decreases-loop-run : goal.decreases-loop-run
decreases-loop-run l = length l.self-inside.runs.items
