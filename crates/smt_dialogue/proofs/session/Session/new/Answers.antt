use Rattle.std.proofs.Common.{refl}
use Rattle.smt_dialogue.proofs.SessionLemmas.{new_stands}
use Rattle.smt_dialogue.specs.Depth.{max_depth_of}
use Rattle.smt_dialogue.proofs.session.Session.new.Goals as goal

pub returns-clause-stands : goal.returns-clause-stands
returns-clause-stands c =
    new_stands c.one_forest.ensures.one _ c.args.options
    (c.forests.ensures.empty (max_depth_of c.args.options.profile)) refl refl refl refl refl refl
    c.new.ensures.waiting c.new.ensures.start c.new.ensures.limits c.new.ensures.way
