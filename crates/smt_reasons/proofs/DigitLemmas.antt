-- Digits from the highest on.
use Rattle.std.proofs.Common.{◌≡◌, ◌<◌, ◌-◌, ◌*◌, ◌/◌, ◌%◌, ◌^◌, ℕ, zero, suc, ◌∷◌, false, ap, arith}
use Rattle.std.specs.Fmt.{digit_glyph}
use Rattle.smt_reasons.specs.ValueTexts.{digits_below}

-- the highest of some digits stands first
pub highest_first : (k size n : ℕ) → 0 < k
    → digits_below k size n ≡ digit_glyph false (n / 2 ^ ((k - 1) * size) % 2 ^ size) ∷ digits_below (k - 1) size n
highest_first zero size n some = absurd (omega (arith, some))
highest_first (suc k) size n some =
    let before : k ≡ suc k - 1 = omega arith in
    ap (λ m. digit_glyph false (n / 2 ^ (m * size) % 2 ^ size) ∷ digits_below m size n) before
