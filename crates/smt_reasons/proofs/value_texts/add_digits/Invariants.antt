use Rattle.std.proofs.Common.{◌≡◌, ◌≤◌, ◌++◌}
use Rattle.smt_reasons.specs.ValueTexts.{digits_below}
use Rattle.smt_reasons.proofs.value_texts.add_digits.Given as goal

abbrev pub invariant-loop-left : goal.invariant-loop-left
invariant-loop-left l =
    (l.text.items ++ digits_below l.left l.fn.size l.fn.number
    ≡ l.fn.text.items ++ digits_below l.fn.count l.fn.size l.fn.number)
    × (l.left ≤ l.fn.count)

abbrev pub decreases-loop-left : goal.decreases-loop-left
decreases-loop-left l = l.left
