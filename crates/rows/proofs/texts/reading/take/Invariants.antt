-- the trees that wait get fewer
use Rattle.std.proofs.Common.{◌≡◌}
use Rattle.smt_text.specs.Reader.{is_finished, bytes_fed, trees_waiting}
use Rattle.rows.proofs.texts.reading.take.Given as goal

abbrev pub invariant-loop-tree : goal.invariant-loop-tree
invariant-loop-tree l =
    (is_finished l.reader ≡ is_finished l.fn.reader) × (bytes_fed l.reader ≡ bytes_fed l.fn.reader)

abbrev pub decreases-loop-tree : goal.decreases-loop-tree
decreases-loop-tree l = trees_waiting l.reader
