-- the text stays
use Rattle.std.proofs.Common.{◌≡◌, ◌+◌, ◌-◌, length}
use Rattle.smt_text.proofs.lines.Lines.position.Given as goal

abbrev pub invariant-loop-self : goal.invariant-loop-self
invariant-loop-self l = l.self.text ≡ l.fn.self.text

abbrev pub decreases-loop-self : goal.decreases-loop-self
decreases-loop-self l = l.wanted + 1 - length l.self.known.items
