use Rattle.std.proofs.Common.{sym}
use Rattle.smt_script.proofs.EffectLemmas.{logic_effect}
use Rattle.smt_script.proofs.stack.Stack.set_logic.Goals as goal

pub returns-clause-effect : goal.returns-clause-effect
returns-clause-effect c =
    logic_effect c.args.self.now c.new.result c.in-Some.theories c.args.name.now (sym c.if-is_fixed.ensures)
    (sym c.in-Some.ensures) c.new.ensures.stands
