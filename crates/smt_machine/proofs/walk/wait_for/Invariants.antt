-- so many parts wait, or were counted
use Rattle.std.proofs.Common.{◌≡◌, ◌≤◌, ◌+◌, ℕ, length, map, take}
use Rattle.smt_machine.specs.Costs.{parts_cost}
use Rattle.smt_machine.specs.Internal.Walks.{sum_of}
use Rattle.smt_machine.proofs.walk.wait_for.Given as goal

abbrev pub invariant-loop-id : goal.invariant-loop-id
invariant-loop-id l = record {
  room : length l.parts.ids.now ≤ l.left + l.id-index;
  fewer : l.left ≤ l.fn.left;
  taken : (c : ℕ → ℕ) → l.left + (sum_of c l.fn.waiting.items
      + parts_cost l.number c (map (λ id. l.parts.shift + id) (take l.id-index l.parts.ids.now)))
      ≡ l.fn.left + sum_of c l.waiting.items;
}
