-- what is found of the assertions that are left, behind those so far, is what is found of all
use Rattle.std.proofs.Common.{◌≡◌, List, None, length}
use Rattle.smt_terms.specs.Library.{terms_of}
use Rattle.smt_terms.specs.Library as libraries
use Rattle.smt_terms.specs.Signature.{Signature}
use Rattle.smt_eval.specs.Interpretation.{IsInterpretation, Serves}
use Rattle.smt_eval.specs.Structure.{structure_of}
use Rattle.smt_dialogue.specs.Internal.Claims.{AreClaimed, claims_left}
use Rattle.smt_dialogue.specs.Judgement.{Claimed}
use Rattle.smt_dialogue.proofs.JudgementLemmas.{CostsLeft, judged_from}
use Rattle.smt_dialogue.proofs.judgement.judge_claims.Given as goal

abbrev pub invariant-loop-next : goal.invariant-loop-next
invariant-loop-next l = record {
  serves : Serves l.machine l.interpretation l.library;
  terms : (rest : List Claimed) × AreClaimed (terms_of l.library) (claims_left l.left) rest;
  enough : (script definitions : Signature) → libraries.StandsFor l.library script
      → IsInterpretation l.interpretation script definitions
      → CostsLeft (terms_of l.library) (claims_left l.left) (structure_of script definitions) l.steps;
  judged : (script definitions : Signature) (all : List Claimed)
      → libraries.StandsFor l.library script → IsInterpretation l.interpretation script definitions
      → AreClaimed (terms_of l.library) (claims_left l.claims) all
      → (rest : List Claimed) × AreClaimed (terms_of l.library) (claims_left l.left) rest
      × (judged_from (structure_of script definitions) l.first_open rest
      ≡ judged_from (structure_of script definitions) None all);
}

abbrev pub decreases-loop-next : goal.decreases-loop-next
decreases-loop-next l = length (claims_left l.left)
