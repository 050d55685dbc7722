use Rattle.smt_dialogue.proofs.SessionTurnLemmas.{none_before}
use Rattle.smt_dialogue.proofs.session.Session.script.Goals as goal

pub rest-requires : goal.rest-requires
rest-requires c = record { fed = (_, c.take_in.ensures.fed c.requires.stands.0 c.requires.stands.1) }

pub returns-clause-no_verdict : goal.returns-clause-no_verdict
returns-clause-no_verdict c =
    none_before c.rest.result c.args.self.now c.take_in.new.self c.rest.new.self c.take_in.ensures.waiting
    c.rest.ensures.no_verdict
