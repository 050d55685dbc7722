use Rattle.std.proofs.Common.{◌∙◌, arith, length, refl, sym}
use Rattle.smt_dialogue.proofs.SessionFeedLemmas.{left_piece, piece_counted, piece_fed, piece_grows, piece_long}
use Rattle.smt_dialogue.proofs.SessionFeedLemmas.{told_piece}
use Rattle.smt_dialogue.proofs.SessionGrowthLemmas.{ended_stands, failed_stands, stopped_stands}
use Rattle.smt_dialogue.proofs.SessionTurnLemmas.{fed_ended, fed_failed, going_fed, none_by, some_by}
use Rattle.smt_dialogue.specs.History.{with_piece}
use Rattle.smt_dialogue.specs.declared.session.Failed.TheVariants.{Long}
use Rattle.smt_dialogue.proofs.session.Session.take_in.Goals as goal

pub returns-then-is_some-clause-fed : goal.returns-then-is_some-clause-fed
returns-then-is_some-clause-fed c = λ h k.
    let s = c.args.self.now in
    let side = c.args.side in
    let piece = c.args.piece.now in
    let failed = some_by s.failure c.if-is_some.ensures in
    fed_failed s (with_piece side h piece) failed.0 failed.1
    (failed_stands c.text_laws.ensures s s h (with_piece side h piece) failed.0 failed.1 refl refl refl
    (told_piece side s s h piece refl refl k) (piece_grows side s h piece c.requires.open k) refl k)

pub returns-in_default-clause-fed : goal.returns-in_default-clause-fed
returns-in_default-clause-fed c = λ h k.
    let s = c.args.self.now in
    let side = c.args.side in
    let piece = c.args.piece.now in
    let none = none_by s.failure c.if-is_some.ensures in
    let long = piece_long side s h piece (k.counted none) (omega (arith, c.in_default.ensures, c.bytes.ensures)) in
    fed_failed _ (with_piece side h piece) Long refl
    (stopped_stands c.text_laws.ensures s _ h (with_piece side h piece) Long refl refl refl
    (told_piece side s _ h piece refl refl k) (piece_grows side s h piece c.requires.open k) refl (λ _. long) k)

pub returns-then-is_some-2-clause-fed : goal.returns-then-is_some-2-clause-fed
returns-then-is_some-2-clause-fed c = λ h k.
    let s = c.args.self.now in
    let m = c.count.new.self in
    let side = c.args.side in
    let piece = c.args.piece.now in
    let none = none_by s.failure c.if-is_some.ensures in
    let v = some_by m.summary c.if-is_some-2.ensures in
    fed_ended m (with_piece side h piece) v.0 v.1
    (ended_stands c.text_laws.ensures s m h (with_piece side h piece) v.0 (sym c.count.ensures.summary ∙ v.1) none
    (c.count.ensures.failure ∙ none) c.count.ensures.summary c.count.ensures.exchange
    (told_piece side s m h piece c.count.ensures.script_ended c.count.ensures.answers_ended k)
    (piece_grows side s h piece c.requires.open k) refl
    (piece_counted side s m h piece c.in-Some.bytes c.count.ensures.fed (k.counted none)
    (omega (arith, c.in-Some.ensures.0, c.bytes.ensures)) (omega (arith, c.in-Some.ensures.1, c.bytes.ensures))) k)

pub returns-clause-fed : goal.returns-clause-fed
returns-clause-fed c = λ h k.
    let s = c.args.self.now in
    let m = c.count.new.self in
    let side = c.args.side in
    let piece = c.args.piece.now in
    let none = none_by s.failure c.if-is_some.ensures in
    going_fed _ (with_piece side h piece)
    (piece_fed c.text_laws.ensures side s m c.feed.new.self h piece c.bytes.result c.in-Some.bytes
    (c.count.ensures.failure ∙ none) c.if-is_some-2.ensures c.requires.open c.count.ensures.fed
    (told_piece side s m h piece c.count.ensures.script_ended c.count.ensures.answers_ended k) c.bytes.ensures
    c.in-Some.ensures c.feed.ensures.dialogue c.feed.ensures.limits c.feed.ensures.way k)

pub returns-then-is_some-2-clause-smaller : goal.returns-then-is_some-2-clause-smaller
returns-then-is_some-2-clause-smaller c = λ none some.
    left_piece c.args.side c.args.self.now c.count.new.self c.in-Some.bytes
    (length c.args.piece.now) c.count.ensures.fed
    (omega (arith, c.in-Some.ensures.1, c.bytes.ensures)) (omega (arith, c.in-Some.ensures)) some

pub returns-clause-smaller : goal.returns-clause-smaller
returns-clause-smaller c = λ none some.
    left_piece c.args.side c.args.self.now c.count.new.self c.in-Some.bytes
    (length c.args.piece.now) c.count.ensures.fed
    (omega (arith, c.in-Some.ensures.1, c.bytes.ensures)) (omega (arith, c.in-Some.ensures)) some
