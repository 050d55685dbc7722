use Rattle.std.proofs.Common.{refl}
use Rattle.smt_dialogue.proofs.ReplayAnswerLemmas.{next_is, next_none}
use Rattle.smt_dialogue.proofs.replay.Replay.next_answer.Goals as goal

pub returns-in-Tree-clause-next : goal.returns-in-Tree-clause-next
returns-in-Tree-clause-next c = λ dialogue place h.
    next_is c.args.self.now _ c.in_ok-look.field-0 dialogue place c.in-Tree.is refl refl refl refl refl refl
    (λ whole rest g. c.in_ok-look.ensures.looked whole rest g) h

pub returns-in_default-clause-next : goal.returns-in_default-clause-next
returns-in_default-clause-next c = λ dialogue place h.
    next_none c.args.self.now _ c.in_ok-look.field-0 dialogue place (λ e. c.in_default.not-Tree e)
    refl refl refl refl refl refl (λ whole rest g. c.in_ok-look.ensures.looked whole rest g) h
