-- Powers of ten, and the numbers of decimals.
use Rattle.std.specs.Prelude.{◌≡◌, ℕ, ◌^◌, ◌<◌, ◌≤◌, pos, ◌<ℤ◌, true, nat_lt, cond, None, [], ◌∷◌}
use Rattle.std.proofs.Common.{ap, arith}
use Rattle.std.proofs.lemmas.Int.{ints}
use Rattle.std.proofs.Math.Nat as nat
use Rattle.smt_ratios.specs.Known.{known, known_decimal}
use Rattle.smt_ratios.specs.Operators.{decimal}

pub power_below : (k : ℕ) → k < 39 → 10 ^ k < 2 ^ 127
power_below k h =
    let more : 10 ^ k ≤ 10 ^ 38 = nat.pow-le-pow_right {n = 10} (omega arith) {i = k} {j = 38} (omega arith) in
    omega arith

pub power_over_zero : (k : ℕ) → 0 < 10 ^ k
power_over_zero k =
    let more : 10 ^ 0 ≤ 10 ^ k = nat.pow-le-pow_right {n = 10} (omega arith) {i = 0} {j = k} (omega arith) in
    omega arith

pub power_positive : (k : ℕ) → pos 0 <ℤ pos (10 ^ k)
power_positive k = let more = power_over_zero k in omega (arith, ints)

pub few_places : (digits places : ℕ) → nat_lt places 39 ≡ true
    → known_decimal digits places ≡ known (pos digits ∷ []) (decimal digits places)
few_places digits places e = ap (λ b. cond b (known (pos digits ∷ []) (decimal digits places)) None) e
