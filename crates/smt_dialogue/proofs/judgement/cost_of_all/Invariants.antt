-- what was counted and what is left cost what all do
use Rattle.std.proofs.Common.{◌≤◌, List, length}
use Rattle.smt_terms.specs.Library.{terms_of}
use Rattle.smt_terms.specs.Library as libraries
use Rattle.smt_terms.specs.Signature.{Signature}
use Rattle.smt_eval.specs.Interpretation.{IsInterpretation}
use Rattle.smt_eval.specs.Structure.{structure_of}
use Rattle.smt_dialogue.specs.Internal.Claims.{AreClaimed, claims_left}
use Rattle.smt_dialogue.specs.Judgement.{Claimed}
use Rattle.smt_dialogue.proofs.JudgementLemmas.{LeavesOf}
use Rattle.smt_dialogue.specs.Judgement.{claims_cost}
use Rattle.smt_dialogue.proofs.judgement.cost_of_all.Given as goal

abbrev pub invariant-loop-next : goal.invariant-loop-next
invariant-loop-next l = record {
  terms : (rest : List Claimed) × AreClaimed (terms_of l.library) (claims_left l.left) rest;
  summed : (script definitions : Signature) (all : List Claimed)
      → libraries.StandsFor l.library script → IsInterpretation l.interpretation script definitions
      → AreClaimed (terms_of l.library) (claims_left l.claims) all
      → LeavesOf (terms_of l.library) (claims_left l.left) (structure_of script definitions) l.limit.steps l.steps
      (claims_cost (structure_of script definitions) all);
  most : l.steps ≤ l.limit.steps;
}

abbrev pub decreases-loop-next : goal.decreases-loop-next
decreases-loop-next l = length (claims_left l.left)
