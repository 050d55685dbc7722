use Rattle.std.proofs.Common.{◌∙◌, refl, subst, sym, true}
use Rattle.smt_dialogue.specs.Report.{IsRead}
use Rattle.smt_dialogue.proofs.ReplayLemmas.{replay_new}
use Rattle.smt_dialogue.proofs.replay.Replay.new.Goals as goal

pub returns-clause-begins : goal.returns-clause-begins
returns-clause-begins c = λ dialogue d.
    replay_new _ c.args.options c.args.script.now c.args.answers.now dialogue (c.new.ensures.start ∙ c.start.ensures)
    c.new.ensures.stands refl refl refl refl
    (λ whole read. c.new-2.ensures.given whole
    (subst (λ m. IsRead m true c.args.script.now whole) (sym c.max_depth-max_depth.ensures) read))
    (λ whole read. c.new-3.ensures.given whole
    (subst (λ m. IsRead m true c.args.answers.now whole) (sym c.max_depth-max_depth.ensures) read)) d
