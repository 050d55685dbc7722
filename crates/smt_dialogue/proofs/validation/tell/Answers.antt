use Rattle.std.proofs.Common.{Some, ap, refl}
use Rattle.smt_dialogue.proofs.RunLemmas.{whole_told}
use Rattle.smt_dialogue.proofs.validation.tell.Goals as goal

pub returns-clause-told : goal.returns-clause-told
returns-clause-told c =
    whole_told _ _ c.follow.result _ _ c.args.session.now c.follow.new.session c.args.script.now c.args.answers.now
    (record {
      script_is = ap Some c.new-script.ensures.left;
      answers_is = ap Some c.new-answers.ensures.left;
      nothing = refl;
      nothing_then = refl;
    })
    c.follow.ensures.ends c.follow.ensures.followed
