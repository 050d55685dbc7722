use Rattle.std.proofs.Common.{◌-◌, length}
use Rattle.smt_reasons.proofs.parts.Walk.condition_value.Given as goal

abbrev pub decreases-loop-self : goal.decreases-loop-self
decreases-loop-self l = 200 - length l.choices.items

abbrev pub decreases-loop-choice : goal.decreases-loop-choice
decreases-loop-choice l = length l.choices.items
