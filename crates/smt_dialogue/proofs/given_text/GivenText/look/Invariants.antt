-- what is left stays the same, as more is fed
use Rattle.smt_trees.specs.Sexp.{Sexps}
use Rattle.smt_dialogue.specs.FirstFault.{TextSoFar}
use Rattle.smt_dialogue.specs.Internal.GivenView.{HasGiven, unfed}
use Rattle.smt_dialogue.proofs.given_text.GivenText.look.Given as goal

abbrev pub invariant-loop-ahead : goal.invariant-loop-ahead
invariant-loop-ahead l = (whole : TextSoFar) (rest : Sexps) → HasGiven l.fn.self whole rest → HasGiven l.self whole rest

abbrev pub decreases-loop-ahead : goal.decreases-loop-ahead
decreases-loop-ahead l = unfed l.self
