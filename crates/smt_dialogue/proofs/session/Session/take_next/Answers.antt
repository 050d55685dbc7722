use Rattle.std.proofs.Common.{◌∙◌}
use Rattle.smt_dialogue.proofs.SessionFeedLemmas.{ended_now, ended_same, more_end, more_piece, none_there, other_same}
use Rattle.smt_dialogue.proofs.SessionFeedLemmas.{some_there}
use Rattle.smt_dialogue.proofs.session.Session.take_next.Goals as goal

pub returns-then-is_empty-clause-fed : goal.returns-then-is_empty-clause-fed
returns-then-is_empty-clause-fed c = λ h k.
    let s = c.args.self.now in
    let t = c.take_end.new.self in
    more_end c.args.side t h c.args.piece.now _ (none_there c.args.piece.now c.if-is_empty.ensures)
    (ended_now c.args.side s t c.take_end.ensures.script_ended c.take_end.ensures.answers_ended)
    (c.take_end.ensures.fed h k)

pub returns-then-is_empty-clause-ended : goal.returns-then-is_empty-clause-ended
returns-then-is_empty-clause-ended c =
    ended_now c.args.side c.args.self.now c.take_end.new.self c.take_end.ensures.script_ended
    c.take_end.ensures.answers_ended ∙ c.if-is_empty.ensures

pub returns-then-is_empty-clause-other : goal.returns-then-is_empty-clause-other
returns-then-is_empty-clause-other c =
    other_same c.args.side c.args.self.now c.take_end.new.self c.take_end.ensures.script_ended
    c.take_end.ensures.answers_ended

pub returns-then-is_empty-clause-smaller : goal.returns-then-is_empty-clause-smaller
returns-then-is_empty-clause-smaller c = λ none. c.take_end.ensures.smaller

pub returns-else-is_empty-clause-fed : goal.returns-else-is_empty-clause-fed
returns-else-is_empty-clause-fed c = λ h k.
    let s = c.args.self.now in
    let t = c.take_in.new.self in
    more_piece c.args.side s t h c.args.piece.now
    (ended_same c.args.side s t c.take_in.ensures.script_ended c.take_in.ensures.answers_ended) k
    (c.take_in.ensures.fed h k)

pub returns-else-is_empty-clause-smaller : goal.returns-else-is_empty-clause-smaller
returns-else-is_empty-clause-smaller c = λ none.
    c.take_in.ensures.smaller none (some_there c.args.piece.now c.if-is_empty.ensures)
