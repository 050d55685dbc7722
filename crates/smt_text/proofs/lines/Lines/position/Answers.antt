use Rattle.std.proofs.Common.{Bor, List, ap, ℕ}
use Rattle.smt_text.proofs.LineLemmas.{position_at}
use Rattle.smt_text.proofs.lines.Lines.position.Goals as goal

pub returns-clause-place : goal.returns-clause-place
returns-clause-place c = position_at c.loop-self.self.text.now c.args.self.now.text.now c.loop-self.self.known.items
    c.deref.result.now c.args.byte c.min-place.result c.in-Some.before.now _ c.part_of.result.now
    (ap (λ (b : Bor (List ℕ)). b.now) c.loop-self.invariant) c.loop-self.self.are_known c.deref.ensures.value
    c.min-place.ensures c.in-Some.ensures.lookup.3.0 c.in-Some.ensures.lookup.1 c.part_of.ensures c.after.ensures
