use Rattle.std.proofs.Common.{refl, subst}
use Rattle.smt_dialogue.proofs.ReplayAnswerLemmas.{found_none, found_one, found_unfit}
use Rattle.smt_dialogue.proofs.ReplayLemmas.{tree_in_turn}
use Rattle.smt_dialogue.specs.Internal.GivenView.{IsTakenOf}
use Rattle.smt_dialogue.specs.Internal.NextAnswerView.{IsKnown}
use Rattle.smt_dialogue.specs.declared.next_answer.NextAnswer.{NextAnswer}
use Rattle.smt_dialogue.proofs.replay.Replay.find_answer.Goals as goal

pub returns-in_default-clause-found : goal.returns-in_default-clause-found
returns-in_default-clause-found c = λ dialogue place at some none.
    let x = c.args.self.now in
    let tree = tree_in_turn x some in
    found_none x dialogue place tree.0 tree.1 none (c.in_default.ensures dialogue place tree.0 at tree.1) at

pub took_effect-self-requires : goal.took_effect-self-requires
took_effect-self-requires c = subst IsKnown c.in-Takes.is c.in_ok-answer.ensures.known

pub returns-in-Takes-clause-found : goal.returns-in-Takes-clause-found
returns-in-Takes-clause-found c = λ dialogue place at some none.
    let x = c.args.self.now in
    let tree = tree_in_turn x some in
    found_one x _ dialogue place tree.0 c.in-Some.need c.in-Takes.answer tree.1 none refl refl refl refl refl
    (c.in-Some.ensures dialogue place tree.0 at tree.1)
    (λ whole rest g. subst (λ (f : NextAnswer). IsTakenOf f c.in-Some.need whole rest c.take_answer.new.self)
    c.in-Takes.is (c.in_ok-answer.ensures.taken whole rest g)) at

pub returns-in_default-2-clause-found : goal.returns-in_default-2-clause-found
returns-in_default-2-clause-found c = λ dialogue place at some none.
    let x = c.args.self.now in
    let tree = tree_in_turn x some in
    found_unfit x _ dialogue place tree.0 c.in-Some.need c.in_ok-answer.field-0 tree.1 none refl refl refl refl refl
    (c.in-Some.ensures dialogue place tree.0 at tree.1) c.in_default-2.not-Takes
    (λ whole rest g. c.in_ok-answer.ensures.taken whole rest g) at
