use Rattle.std.proofs.Common.{◌∙◌, refl, sym}
use Rattle.smt_dialogue.proofs.SessionFeedLemmas.{end_counted, end_fed, end_grows, left_end, told_end}
use Rattle.smt_dialogue.proofs.SessionGrowthLemmas.{ended_stands, failed_stands}
use Rattle.smt_dialogue.proofs.SessionTurnLemmas.{fed_ended, fed_failed, going_fed, none_by, some_by}
use Rattle.smt_dialogue.specs.History.{with_end}
use Rattle.smt_dialogue.proofs.session.Session.take_end.Goals as goal

pub returns-then-is_some-clause-fed : goal.returns-then-is_some-clause-fed
returns-then-is_some-clause-fed c = λ h k.
    let s = c.args.self.now in
    let m = c.close.new.self in
    let side = c.args.side in
    let failed = some_by m.failure c.if-is_some.ensures in
    fed_failed m (with_end side h) failed.0 failed.1
    (failed_stands c.text_laws.ensures s m h (with_end side h) failed.0 (sym c.close.ensures.failure ∙ failed.1)
    c.close.ensures.failure c.close.ensures.summary c.close.ensures.exchange
    (told_end side s m h c.close.ensures.script_ended c.close.ensures.answers_ended k)
    (end_grows side s h c.requires.open k) refl k)

pub returns-then-is_some-2-clause-fed : goal.returns-then-is_some-2-clause-fed
returns-then-is_some-2-clause-fed c = λ h k.
    let s = c.args.self.now in
    let m = c.close.new.self in
    let side = c.args.side in
    let unset = none_by m.failure c.if-is_some.ensures in
    let none = sym c.close.ensures.failure ∙ unset in
    let v = some_by m.summary c.if-is_some-2.ensures in
    fed_ended m (with_end side h) v.0 v.1
    (ended_stands c.text_laws.ensures s m h (with_end side h) v.0 (sym c.close.ensures.summary ∙ v.1) none unset
    c.close.ensures.summary c.close.ensures.exchange
    (told_end side s m h c.close.ensures.script_ended c.close.ensures.answers_ended k)
    (end_grows side s h c.requires.open k) refl (end_counted side s m h c.close.ensures.fed (k.counted none)) k)

pub returns-clause-fed : goal.returns-clause-fed
returns-clause-fed c = λ h k.
    let s = c.args.self.now in
    let m = c.close.new.self in
    let side = c.args.side in
    going_fed _ (with_end side h)
    (end_fed c.text_laws.ensures side s m c.finish.new.self h (none_by m.failure c.if-is_some.ensures)
    c.if-is_some-2.ensures c.close.ensures.fed
    (told_end side s m h c.close.ensures.script_ended c.close.ensures.answers_ended k) c.finish.ensures.dialogue
    c.finish.ensures.limits c.finish.ensures.way k)

pub returns-then-is_some-clause-smaller : goal.returns-then-is_some-clause-smaller
returns-then-is_some-clause-smaller c =
    left_end c.args.side c.args.self.now c.close.new.self c.close.ensures.fed c.requires.open

pub returns-then-is_some-2-clause-smaller : goal.returns-then-is_some-2-clause-smaller
returns-then-is_some-2-clause-smaller c =
    left_end c.args.side c.args.self.now c.close.new.self c.close.ensures.fed c.requires.open

pub returns-clause-smaller : goal.returns-clause-smaller
returns-clause-smaller c =
    left_end c.args.side c.args.self.now c.close.new.self c.close.ensures.fed c.requires.open
