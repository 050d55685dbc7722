use Rattle.std.proofs.Common.{refl, subst}
use Rattle.smt_dialogue.proofs.SessionTurnLemmas.{cut_stands, limited_on, none_added, open_fed, pause_less}
use Rattle.smt_dialogue.proofs.SessionTurnLemmas.{paused_going, rests_stands}
use Rattle.smt_dialogue.specs.Internal.PairingView.{HasAdvanced, IsCut}
use Rattle.smt_dialogue.specs.Internal.SessionView.{texts_of}
use Rattle.smt_dialogue.proofs.session.Session.take_turns.Goals as goal

pub returns-in-Ok-Pauses-clause-turned : goal.returns-in-Ok-Pauses-clause-turned
returns-in-Ok-Pauses-clause-turned c = λ h k.
    let s = c.args.self.now in
    let on = open_fed s h c.in_default.is c.if-is_some.ensures k in
    let o = on.open' in
    let texts = texts_of h o.script o.answers in
    paused_going s _ h on on.failure on.summary (record { script = on.script_ended; answers = on.answers_ended })
    refl refl (limited_on s.exchange c.advance.new.self _ c.advance.ensures.limits o.limits)
    (subst (λ a. HasAdvanced a h.options c.advance.new.self texts) c.in-Ok-Pauses.field-0-is
    (subst (λ b. HasAdvanced c.in-Ok-Pauses.field-0 b c.advance.new.self texts) o.start
    (c.in-Ok-Pauses.ensures.advanced texts o.pairs o.later o.rest o.way)))

pub returns-in-Ok-Pauses-clause-paused : goal.returns-in-Ok-Pauses-clause-paused
returns-in-Ok-Pauses-clause-paused c =
    pause_less c.in-Ok-Pauses.field-0 c.args.enough _ _ c.in-Ok-Pauses.field-0-is c.in-Ok-Pauses.ensures.paused

pub returns-in-Ok-Rests-clause-turned : goal.returns-in-Ok-Rests-clause-turned
returns-in-Ok-Rests-clause-turned c = λ h k.
    let s = c.args.self.now in
    let on = open_fed s h c.in_default.is c.if-is_some.ensures k in
    let o = on.open' in
    let texts = texts_of h o.script o.answers in
    rests_stands s _ h c.in-Ok-Rests.summary on on.failure refl
    (record { script = on.script_ended; answers = on.answers_ended }) refl refl
    (limited_on s.exchange c.advance.new.self _ c.advance.ensures.limits o.limits)
    (subst (λ a. HasAdvanced a h.options c.advance.new.self texts) c.in-Ok-Rests.field-0-is
    (subst (λ b. HasAdvanced c.in-Ok-Rests.field-0 b c.advance.new.self texts) o.start
    (c.in-Ok-Rests.ensures.advanced texts o.pairs o.later o.rest o.way)))

pub returns-in-Err-clause-turned : goal.returns-in-Err-clause-turned
returns-in-Err-clause-turned c = λ h k.
    let s = c.args.self.now in
    let on = open_fed s h c.in_default.is c.if-is_some.ensures k in
    let o = on.open' in
    cut_stands s _ h on refl on.summary
    (record { script = on.script_ended; answers = on.answers_ended })
    (subst (λ b. IsCut b c.advance.new.self.dialogue.decided.lines.items (texts_of h o.script o.answers)) o.start
    (c.in-Err.ensures.cut (texts_of h o.script o.answers) o.pairs o.later o.rest o.way))

pub returns-in-Err-clause-no_verdict : goal.returns-in-Err-clause-no_verdict
returns-in-Err-clause-no_verdict c =
    let s = c.args.self.now in
    let h = c.requires.fed.0 in
    let o = (open_fed s h c.in_default.is c.if-is_some.ensures c.requires.fed.1).open' in
    none_added h.taken s.exchange.dialogue.decided.lines.items c.advance.new.self.dialogue.decided.lines.items
    c.advance.ensures.kept
    (c.in-Err.ensures.cut (texts_of h o.script o.answers) o.pairs o.later o.rest o.way).3
