-- The sum of what nodes cost that wait to be counted, as a walk goes from a term down.
use Rattle.std.specs.Prelude.{◌≡◌, ℕ, ◌+◌, ◌<◌, ◌≤◌, List, [], ◌∷◌, Option, Some, None}

abbrev pub sum_of : (ℕ → ℕ) → List ℕ → ℕ
sum_of c [] = 0
sum_of c (j ∷ js) = c j + sum_of c js

-- no node costs nothing
abbrev pub IsPositive : (ℕ → ℕ) → Type 0
IsPositive c = (j : ℕ) → 1 ≤ c j

-- Of `left` steps as many are left as `result` says, where nodes that cost so much together were taken up and
-- others wait that did not before: what was counted and what waits is the same sum. Where nothing is left to
-- tell, there was too little.
abbrev pub IsTakenUp : (ℕ → ℕ) → (cost : ℕ) → (before after : List ℕ) → (left : ℕ) → Option ℕ → Type 0
IsTakenUp c cost before after left (Some fewer) = fewer + (sum_of c before + cost) ≡ left + sum_of c after
IsTakenUp c cost before after left None = left < sum_of c before + cost
