-- the trees so far stand in the spans so far
use Rattle.smt_text.proofs.LayoutLemmas.{IsLaidOut}
use Rattle.smt_text.specs.Reader.{trees_waiting}
use Rattle.smt_text.proofs.layout.tree_spans.Given as goal

abbrev pub invariant-loop-tree : goal.invariant-loop-tree
invariant-loop-tree l = IsLaidOut l.max_depth l.text l.reader l.spans.items l.before

abbrev pub decreases-loop-tree : goal.decreases-loop-tree
decreases-loop-tree l = trees_waiting l.reader
