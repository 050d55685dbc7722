use Rattle.std.proofs.Common.{None, refl, subst, sym, take}
use Rattle.smt_dialogue.proofs.GivenLemmas.{given_answer, given_nothing, taken_by}
use Rattle.smt_dialogue.specs.Internal.GivenView.{IsTakenOf}
use Rattle.smt_dialogue.specs.declared.need.Need.{Need}
use Rattle.smt_dialogue.specs.declared.next_answer.NextAnswer.TheVariants as found
use Rattle.smt_dialogue.proofs.given_text.GivenText.take_answer.Goals as goal

pub returns-in-Nothing-clause-taken : goal.returns-in-Nothing-clause-taken
returns-in-Nothing-clause-taken c = λ whole rest h.
    subst (λ (n : Need). IsTakenOf (found.Takes None) n whole rest c.args.self.now) (sym c.in-Nothing.is)
    (given_nothing c.args.self.now whole rest h)

pub returns : goal.returns
returns c = record {
  taken = taken_by c.look.new.self _ c.take_answer.result c.in_ok-look.field-0 c.args.need c.args.self.now refl refl
      c.take_answer.ensures.limit c.in_ok-look.ensures.looked c.take_answer.ensures.taken;
  known = c.take_answer.ensures.known;
}
