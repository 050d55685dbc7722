use Rattle.std.proofs.Common.{◌∙◌, ◌++◌, List, arith, ap}
use Rattle.smt_script.specs.Internal.Runs.{copies}
use Rattle.smt_script.specs.declared.stack.levels.Level.{Level}
use Rattle.smt_script.proofs.RunLemmas.{length_is, whole_is}
use Rattle.smt_script.proofs.stack.level_runs.Levels.push.Goals as goal

pub invariant_of-self-2 : goal.invariant_of-self-2
invariant_of-self-2 c =
    let counted = c.self.invariant in
    let long = length_is c.self.inside.runs.items c.push.new.self.items _ c.in_ok-push.ensures.items in
    omega arith

pub returns-clause-added : goal.returns-clause-added
returns-clause-added c =
    whole_is c.self.inside.runs.items c.push.new.self.items _ c.in_ok-push.ensures.items
    ∙ ap (λ (l : List Level). l ++ copies c.args.count c.args.level) c.self.view_is
