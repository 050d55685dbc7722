use Rattle.smt_dialogue.proofs.AcceptedLemmas.{settled_closed}
use Rattle.smt_dialogue.specs.Internal.AcceptedState.{state_behind}
use Rattle.smt_dialogue.proofs.accepted.AcceptedPairs.settle.Goals as goal

pub returns-clause-settled : goal.returns-clause-settled
returns-clause-settled c = λ taken early pairs stands same.
    settled_closed c.args.closed (state_behind taken c.end_window.new.self) pairs c.if-not-closed.false
    (c.in_ok-end_window.ensures.stands taken early pairs stands) c.end_window.ensures.ended
