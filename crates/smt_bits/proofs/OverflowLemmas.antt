-- Whether a result overflows, as the machine's numbers of 128 bits tell it.
use Rattle.std.proofs.Common.{◌≡◌, ℕ, ◌-◌, ◌%◌, ◌^◌, ◌<◌, ◌≤◌, ℤ, pos, neg_ℤ, FitsSigned, Bool, true, false, not, ◌||◌}
use Rattle.std.proofs.Common.{nat_eq, refl, sym, ap, ◌∙◌, ⊎_elim, arith, pow_pos}
use Rattle.std.proofs.Math.Nat.{mod-eq_of_lt, mod-lt}
use Rattle.std.proofs.Math.Pow.{pow_mono}
use Rattle.std.proofs.lemmas.Bool.{cases_lt, ne_eqb}
use Rattle.std.proofs.lemmas.Bool.Decides.{Decides-eqb}
use Rattle.std.proofs.lemmas.Int.{ints}
use Rattle.std.specs.Int.{w128}
use Rattle.std.specs.Prelude.{int_le, int_lt}
use Rattle.smt_bits.specs.Operators.{overflows, overflows_signed}
use borrow.Author.Differences.{false_is_le, false_is_lt, true_is_le}
use borrow.Author.Differences.{up, down}

or_true : (a b : Bool) → b ≡ true → (a || b) ≡ true
or_true true b e = refl
or_true false b e = e

or_false : (a b : Bool) → a ≡ false → b ≡ false → (a || b) ≡ false
or_false true b e f = e
or_false false b e f = f

-- ---- numbers

large_overflows : (m n : ℕ) → 2 ^ m ≤ n → overflows m (pos n) ≡ true
large_overflows m n large = or_true (int_lt (pos n) (pos 0)) (int_le (pos (2 ^ m)) (pos n))
    (sym (true_is_le (pos (2 ^ m)) (pos n) (omega arith)))

small_fits : (m n : ℕ) → n < 2 ^ m → overflows m (pos n) ≡ false
small_fits m n small = or_false (int_lt (pos n) (pos 0)) (int_le (pos (2 ^ m)) (pos n))
    (sym (false_is_lt (pos n) (pos 0) (omega arith))) (sym (false_is_le (pos (2 ^ m)) (pos n) (omega arith)))

-- the lowest m bits are another number exactly where there are more
pub lowest_bits : (m n : ℕ) → not (nat_eq (n % 2 ^ m) n) ≡ overflows m (pos n)
lowest_bits m n = ⊎_elim
    (λ small. ap not ((Decides-eqb (n % 2 ^ m) n).1 (mod-eq_of_lt small)) ∙ sym (small_fits m n small))
    (λ large. ap not (ne_eqb (n % 2 ^ m) n (λ e. let below = mod-lt n (pow_pos m) in
    absurd (omega arith))) ∙ sym (large_overflows m n large)) (cases_lt n (2 ^ m))

pub outside : (m n : ℕ) → m ≤ 128 → ¬ (n < 2 ^ 128) → true ≡ overflows m (pos n)
outside m n within out = ⊎_elim (λ small. absurd (out small))
    (λ large. let most : 2 ^ m ≤ 2 ^ 128 = pow_mono within in sym (large_overflows m n (omega arith)))
    (cases_lt n (2 ^ 128))

-- ---- signed readings

pub outside_signed : (m : ℕ) (z : ℤ) → m ≤ 128 → ¬ FitsSigned w128 z → true ≡ overflows_signed m z
outside_signed m z within out = by (int_lt z (neg_ℤ (pos half))) (int_le (pos half) z) refl refl
  where
    half : ℕ
    half = 2 ^ (m - 1)

    most : half ≤ 2 ^ 127
    most = pow_mono {i = m - 1} {j = 127} (omega arith)

    by : (below above : Bool) → int_lt z (neg_ℤ (pos half)) ≡ below → int_le (pos half) z ≡ above
        → true ≡ (below || above)
    by true above b a = refl
    by false true b a = refl
    by false false b a = absurd (out (omega (arith, ints, most)))
