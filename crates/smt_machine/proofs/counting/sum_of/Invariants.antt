use Rattle.std.proofs.Common.{◌≡◌, ◌+◌, ℕ, length, map, take}
use Rattle.smt_machine.specs.Costs.{capped, parts_cost}
use Rattle.smt_machine.specs.Internal.Sums.{AreKept}
use Rattle.smt_machine.proofs.counting.sum_of.Given as goal

abbrev pub invariant-loop-id : goal.invariant-loop-id
invariant-loop-id l = (c : ℕ → ℕ) → AreKept c l.kept
    → l.sum ≡ capped (parts_cost (length l.kept) c (map (λ id. l.parts.shift + id) (take l.id-index l.parts.ids.now)))
