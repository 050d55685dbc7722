use Rattle.std.proofs.Common.{length, ◌-◌, ◌≤◌}
use Rattle.smt_forms.proofs.ElementNameLemmas.{IsLeft}
use Rattle.smt_forms.proofs.element_names.before_numeral.Given as goal

abbrev pub invariant-loop-at : goal.invariant-loop-at
invariant-loop-at l = (l.at ≤ length l.symbol) × IsLeft l.mark l.symbol l.at

abbrev pub decreases-loop-at : goal.decreases-loop-at
decreases-loop-at l = length l.symbol - l.at
