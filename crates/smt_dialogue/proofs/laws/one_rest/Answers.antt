use Rattle.smt_dialogue.proofs.ReportExists.{rests_ended, some_rest}
use Rattle.smt_dialogue.proofs.ReportUnique.{one_turn}
use Rattle.smt_dialogue.proofs.laws.one_rest.Goals as goal

pub returns-clause-some : goal.returns-clause-some
returns-clause-some c = some_rest

pub returns-clause-one : goal.returns-clause-one
returns-clause-one c = one_turn

pub returns-clause-ended : goal.returns-clause-ended
returns-clause-ended c = rests_ended
