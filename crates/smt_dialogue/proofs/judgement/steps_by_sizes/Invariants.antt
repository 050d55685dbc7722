-- all cost at most the steps so far, and what those do that are left
use Rattle.std.proofs.Common.{List, length}
use Rattle.smt_terms.specs.Library.{terms_of}
use Rattle.smt_terms.specs.Library as libraries
use Rattle.smt_terms.specs.Signature.{Signature}
use Rattle.smt_eval.specs.Interpretation.{IsInterpretation}
use Rattle.smt_eval.specs.Structure.{structure_of}
use Rattle.smt_dialogue.specs.Internal.Claims.{AreClaimed, HaveSizes, claims_left}
use Rattle.smt_dialogue.specs.Judgement.{Claimed, claims_cost}
use Rattle.smt_dialogue.proofs.SizedClaimLemmas.{SumsTo}
use Rattle.smt_dialogue.proofs.judgement.steps_by_sizes.Given as goal

abbrev pub invariant-loop-next : goal.invariant-loop-next
invariant-loop-next l = record {
  sized : HaveSizes (terms_of l.library) (claims_left l.left);
  summed : (script definitions : Signature) (all : List Claimed)
      → libraries.StandsFor l.library script → IsInterpretation l.interpretation script definitions
      → AreClaimed (terms_of l.library) (claims_left l.claims) all
      → SumsTo (terms_of l.library) (claims_left l.left) (structure_of script definitions) l.steps
      (claims_cost (structure_of script definitions) all);
}

abbrev pub decreases-loop-next : goal.decreases-loop-next
decreases-loop-next l = length (claims_left l.left)
