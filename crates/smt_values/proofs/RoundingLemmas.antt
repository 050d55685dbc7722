-- Signed quotients and remainders that are the only ones.
use Rattle.std.proofs.Common.{◌≡◌, ◌≢◌, ◌↔◌, ℕ, zero, suc, ◌-◌, ◌%◌, ◌^◌, ◌<◌, ℤ, pos, negsuc}
use Rattle.std.proofs.Common.{◌+ℤ◌, ◌-ℤ◌, ◌*ℤ◌, neg_ℤ, ◌≤ℤ◌, ◌<ℤ◌, refl, sym, ap, subst, ◌∙◌, arith, pow_pos}
use Rattle.std.proofs.Common.{unsigned_abs}
use Rattle.std.proofs.Math.IntN.{neg_ℤ-neg_ℤ}
use Rattle.std.proofs.Math.Nat.{mod-eq_of_lt}
use Rattle.std.proofs.lemmas.Int.{ints}
use Rattle.std.specs.Int.{int_div_euclid}
use Rattle.smt_bits.specs.BitVector.{modulo, signed, vector}
use Rattle.smt_bits.specs.Readings.{IsFloored, IsModulo, IsTruncated}
use Rattle.smt_values.proofs.DivisionLemmas.{euclid_one}
use Rattle.smt_values.proofs.ReadingLemmas.{modulo_one, only}
use Rattle.smt_values.specs.Element.{Vector}

-- ---- integers

some_of : (n : ℤ) (k : ℕ) → k < unsigned_abs n → n ≢ pos 0
some_of n k less none = absurd (omega (arith, ap unsigned_abs none))

abbrev IsOne : ℤ → ℤ → ℤ → ℤ → Type 0
IsOne q r x y = (q ≡ x) × (r ≡ y)

swapped : (a n q r : ℤ) → a ≡ q *ℤ n +ℤ r → a ≡ n *ℤ q +ℤ r
swapped a n q r is = omega (arith, ints)

euclid_same : (a n q x : ℤ) (k j : ℕ) → k < unsigned_abs n → j < unsigned_abs n → a ≡ n *ℤ q +ℤ pos k
    → a ≡ n *ℤ x +ℤ pos j → IsOne q (pos k) x (pos j)
euclid_same a n q x k j few less is as_well =
    let first = euclid_one a n q k (some_of n k few) is few in
    let second = euclid_one a n x j (some_of n j less) as_well less in
    (first.0 ∙ sym second.0, first.1 ∙ sym second.1)

-- with remainders that are not below 0
one_above : (a n q r x y : ℤ) → pos 0 ≤ℤ r → pos 0 ≤ℤ y → unsigned_abs r < unsigned_abs n
    → unsigned_abs y < unsigned_abs n → a ≡ q *ℤ n +ℤ r → a ≡ x *ℤ n +ℤ y → IsOne q r x y
one_above a n q (negsuc k) x y low least few less is as_well = absurd (omega (arith, ints))
one_above a n q (pos k) x (negsuc j) low least few less is as_well = absurd (omega (arith, ints))
one_above a n q (pos k) x (pos j) low least few less is as_well =
    euclid_same a n q x k j few less (swapped a n q (pos k) is) (swapped a n x (pos j) as_well)

turned : (a n q : ℤ) (k : ℕ) → a ≡ q *ℤ n +ℤ neg_ℤ (pos k) → neg_ℤ a ≡ n *ℤ neg_ℤ q +ℤ pos k
turned a (pos n) (pos zero) k is = omega (arith, ints)
turned a (pos n) (pos (suc q)) k is = omega (arith, ints)
turned a (pos n) (negsuc q) k is = omega (arith, ints)
turned a (negsuc n) (pos zero) k is = omega (arith, ints)
turned a (negsuc n) (pos (suc q)) k is = omega (arith, ints)
turned a (negsuc n) (negsuc q) k is = omega (arith, ints)

turned_same : (a n q x : ℤ) (k j : ℕ) → k < unsigned_abs n → j < unsigned_abs n
    → a ≡ q *ℤ n +ℤ neg_ℤ (pos k) → a ≡ x *ℤ n +ℤ neg_ℤ (pos j) → IsOne q (neg_ℤ (pos k)) x (neg_ℤ (pos j))
turned_same a n q x k j few less is as_well =
    let same = euclid_same (neg_ℤ a) n (neg_ℤ q) (neg_ℤ x) k j few less (turned a n q k is)
    (turned a n x j as_well) in
    (sym (neg_ℤ-neg_ℤ q) ∙ ap neg_ℤ same.0 ∙ neg_ℤ-neg_ℤ x, ap neg_ℤ same.1)

below_zero : (r : ℤ) → r ≤ℤ pos 0 → neg_ℤ (pos (unsigned_abs r)) ≡ r
below_zero (pos zero) low = refl
below_zero (pos (suc k)) low = absurd (omega (arith, ints))
below_zero (negsuc k) low = refl

-- with remainders that are not above 0
one_below : (a n q r x y : ℤ) → r ≤ℤ pos 0 → y ≤ℤ pos 0 → unsigned_abs r < unsigned_abs n
    → unsigned_abs y < unsigned_abs n → a ≡ q *ℤ n +ℤ r → a ≡ x *ℤ n +ℤ y → IsOne q r x y
one_below a n q r x y low least few less is as_well =
    let first : neg_ℤ (pos (unsigned_abs r)) ≡ r = below_zero r low in
    let second : neg_ℤ (pos (unsigned_abs y)) ≡ y = below_zero y least in
    let same = turned_same a n q x (unsigned_abs r) (unsigned_abs y) few less
    (is ∙ ap (λ e. q *ℤ n +ℤ e) (sym first)) (as_well ∙ ap (λ e. x *ℤ n +ℤ e) (sym second)) in
    (same.0, sym first ∙ same.1 ∙ second)

pub truncated_one : (a n q r x y : ℤ) → IsTruncated a n q r → IsTruncated a n x y → IsOne q r x y
truncated_one (pos a) n q r x y h k =
    let up : pos 0 ≤ℤ pos a = omega (arith, ints) in
    one_above (pos a) n q r x y (h.at_least_zero up) (k.at_least_zero up) h.small k.small h.exact k.exact
truncated_one (negsuc a) n q r x y h k =
    let down : negsuc a ≤ℤ pos 0 = omega (arith, ints) in
    one_below (negsuc a) n q r x y (h.at_most_zero down) (k.at_most_zero down) h.small k.small h.exact k.exact

pub floored_one : (a n q r x y : ℤ) → IsFloored a n q r → IsFloored a n x y → IsOne q r x y
floored_one a (pos n) q r x y h k =
    let up : pos 0 ≤ℤ pos n = omega (arith, ints) in
    one_above a (pos n) q r x y (h.at_least_zero up) (k.at_least_zero up) h.small k.small h.exact k.exact
floored_one a (negsuc n) q r x y h k =
    let down : negsuc n ≤ℤ pos 0 = omega (arith, ints) in
    one_below a (negsuc n) q r x y (h.at_most_zero down) (k.at_most_zero down) h.small k.small h.exact k.exact

-- ---- rounded down

abbrev IsShifted : ℤ → ℕ → ℤ → Type 0
IsShifted z w q = ((q *ℤ pos w) ≤ℤ z) × (z <ℤ ((q +ℤ pos 1) *ℤ pos w))

one_more_times : (q : ℤ) (w : ℕ) → (q +ℤ pos 1) *ℤ pos w ≡ q *ℤ pos w +ℤ pos w
one_more_times (pos n) w = omega (arith, ints)
one_more_times (negsuc zero) w = omega (arith, ints)
one_more_times (negsuc (suc n)) w =
    let next : negsuc (suc n) +ℤ pos 1 ≡ negsuc n = omega (arith, ints) in
    let is : negsuc n *ℤ pos w ≡ negsuc (suc n) *ℤ pos w +ℤ pos w = omega (arith, ints) in
    ap (λ x. x *ℤ pos w) next ∙ is

abbrev HasRest : ℤ → ℤ → ℕ → Type 0
HasRest z p w = (k : ℕ) × (z ≡ p +ℤ pos k) × (k < w)

rest_of : (z p : ℤ) (w : ℕ) → p ≤ℤ z → z <ℤ (p +ℤ pos w) → HasRest z p w
rest_of z p w low high = by (z -ℤ p) (omega (arith, ints))
  where
    by : (d : ℤ) → z ≡ p +ℤ d → HasRest z p w
    by (pos k) is = (k, is, omega (arith, ints))
    by (negsuc k) is = absurd (omega (arith, ints))

shifted_by : (z q : ℤ) (w : ℕ) → 0 < w → IsShifted z w q → q ≡ int_div_euclid z (pos w)
shifted_by z q w some h =
    let high : z <ℤ (q *ℤ pos w +ℤ pos w) = subst (λ e. z <ℤ e) (one_more_times q w) h.1 in
    let rest = rest_of z (q *ℤ pos w) w h.0 high in
    (euclid_one z (pos w) q rest.0 (some_of (pos w) 0 some) (swapped z (pos w) q (pos rest.0) rest.1) rest.2).0

pub shifted_one : (z q x : ℤ) (w : ℕ) → 0 < w → IsShifted z w q → IsShifted z w x → q ≡ x
shifted_one z q x w some h k = shifted_by z q w some h ∙ sym (shifted_by z x w some k)

-- ---- numbers of m bits by their signed readings

-- each is the number of its reading
abbrev pub AreRead : ℕ → Type 0
AreRead m = (s : ℕ) → s < 2 ^ m → modulo m (signed m s) ≡ s

read_one : (m a r : ℕ) → AreRead m → a < 2 ^ m → r < 2 ^ m → signed m a ≡ signed m r → r ≡ a
read_one m a r read few less same = sym (read r less) ∙ ap (modulo m) (sym same) ∙ read a few

pub quotient_only : (m a x : ℕ) (s t : ℤ) → (q : ℤ) × (r : ℤ) × IsTruncated s t q r × IsModulo m q a
    → (Vector (vector m a) ≡ Vector (vector m x)) ↔ ((q : ℤ) × (r : ℤ) × IsTruncated s t q r × IsModulo m q x)
quotient_only m a x s t has =
    only m (λ b. (q : ℤ) × (r : ℤ) × IsTruncated s t q r × IsModulo m q b) a x has
    (λ h. (let same : h.0 ≡ has.0 = (truncated_one s t h.0 h.1 has.0 has.1 h.2 has.2).0 in
    modulo_one m has.0 a x has.3 (subst (λ q. IsModulo m q x) same h.3)))

pub remainder_only : (m a x : ℕ) (s t : ℤ) → AreRead m → (q : ℤ) × (a < 2 ^ m) × IsTruncated s t q (signed m a)
    → (Vector (vector m a) ≡ Vector (vector m x))
    ↔ ((q : ℤ) × (x < 2 ^ m) × IsTruncated s t q (signed m x))
remainder_only m a x s t read has =
    only m (λ b. (q : ℤ) × (b < 2 ^ m) × IsTruncated s t q (signed m b)) a x has
    (λ h. read_one m a x read has.1 h.1
    (truncated_one s t has.0 (signed m a) h.0 (signed m x) has.2 h.2).1)

pub modulus_only : (m a x : ℕ) (s t : ℤ) → AreRead m → (q : ℤ) × (a < 2 ^ m) × IsFloored s t q (signed m a)
    → (Vector (vector m a) ≡ Vector (vector m x))
    ↔ ((q : ℤ) × (x < 2 ^ m) × IsFloored s t q (signed m x))
modulus_only m a x s t read has =
    only m (λ b. (q : ℤ) × (b < 2 ^ m) × IsFloored s t q (signed m b)) a x has
    (λ h. read_one m a x read has.1 h.1
    (floored_one s t has.0 (signed m a) h.0 (signed m x) has.2 h.2).1)

abbrev pub IsShiftOf : ℕ → ℤ → ℕ → ℕ → Type 0
IsShiftOf m s w x =
    (x < 2 ^ m) × ((signed m x *ℤ pos w) ≤ℤ s) × (s <ℤ ((signed m x +ℤ pos 1) *ℤ pos w))

pub shifted_only : (m a x w : ℕ) (s : ℤ) → 0 < w → AreRead m → IsShiftOf m s w a
    → (Vector (vector m a) ≡ Vector (vector m x)) ↔ IsShiftOf m s w x
shifted_only m a x w s some read has =
    only m (IsShiftOf m s w) a x has
    (λ h. read_one m a x read has.0 h.0
    (shifted_one s (signed m a) (signed m x) w some (has.1, has.2) (h.1, h.2)))

pub opposite_of_one : (m : ℕ) → (2 ^ m - 1) % 2 ^ m ≡ 2 ^ m - 1
opposite_of_one m = let some : 0 < 2 ^ m = pow_pos m in mod-eq_of_lt (omega arith)
