-- the reader stands for the whole text and the trees so far, and lists nest as deep as they may
use Rattle.std.proofs.Common.{◌≡◌, true}
use Rattle.smt_text.specs.Grammar.{max_depth}
use Rattle.smt_text.specs.Reader.{StandsFor, depth_limit, is_finished, trees_waiting}
use Rattle.smt_trees.specs.Owned.{sexps_of}
use Rattle.smt_text.proofs.reader.read_trees.Given as goal

abbrev pub invariant-loop-tree : goal.invariant-loop-tree
invariant-loop-tree l =
    StandsFor l.reader l.text (sexps_of l.trees.items) × (is_finished l.reader ≡ true)
    × (depth_limit l.reader ≡ max_depth)

abbrev pub decreases-loop-tree : goal.decreases-loop-tree
decreases-loop-tree l = trees_waiting l.reader
