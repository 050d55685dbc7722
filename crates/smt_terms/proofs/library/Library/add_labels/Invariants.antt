use Rattle.std.proofs.Common.{drop}
use Rattle.smt_terms.proofs.AssertionLemmas.{AreAdded}
use Rattle.smt_terms.proofs.library.Library.add_labels.Given as goal

abbrev pub invariant-loop-label : goal.invariant-loop-label
invariant-loop-label l = AreAdded l.fn.self l.self l.labels (drop l.label-index l.labels)
