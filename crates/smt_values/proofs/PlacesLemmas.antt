-- How many digits stand behind a decimal's point, as the last ones tell.
use Rattle.std.proofs.Common.{◌≡◌, ◌⊎◌, inl, inr, ℕ, ◌+◌, ◌-◌, ◌≤◌, ◌==◌, Bool, true, false, cond, List, [], ◌∷◌}
use Rattle.std.proofs.Common.{◌++◌, None, length, drop, take, nat_lt, refl, sym, ap, zero, suc, ◌∙◌, arith, rules}
use Rattle.std.proofs.lemmas.List.{length-drop, take-append-drop, take_all}
use Rattle.smt_ratios.specs.Known.{known_decimal}
use Rattle.smt_values.specs.Decimals.{places, places_from}

-- where a point is among these, what stood before makes no difference
from_either : (m n : ℕ) (bytes : List ℕ) → (places_from m bytes ≡ places_from n bytes)
    ⊎ ((places_from m bytes ≡ m + length bytes) × (places_from n bytes ≡ n + length bytes))
from_either m n [] = inr (omega arith, omega arith)
from_either m n (byte ∷ bytes) = by (byte == 46) (from_either (m + 1) (n + 1) bytes)
  where
    by : (b : Bool) → (places_from (m + 1) bytes ≡ places_from (n + 1) bytes)
        ⊎ ((places_from (m + 1) bytes ≡ m + 1 + length bytes) × (places_from (n + 1) bytes ≡ n + 1 + length bytes))
        → (cond b (places_from 0 bytes) (places_from (m + 1) bytes)
        ≡ cond b (places_from 0 bytes) (places_from (n + 1) bytes))
        ⊎ ((cond b (places_from 0 bytes) (places_from (m + 1) bytes) ≡ m + length (byte ∷ bytes))
        × (cond b (places_from 0 bytes) (places_from (n + 1) bytes) ≡ n + length (byte ∷ bytes)))
    by true h = inl refl
    by false h = elim h [
      | inl e ↦ inl e
      | inr e ↦ inr (e.0 ∙ omega arith, e.1 ∙ omega arith)
    ]

-- no more stand behind a point than there are
pub places-le : (n : ℕ) (bytes : List ℕ) → places_from n bytes ≤ n + length bytes
places-le n [] = omega arith
places-le n (byte ∷ bytes) = by (byte == 46) (places-le 0 bytes) (places-le (n + 1) bytes)
  where
    by : (b : Bool) → places_from 0 bytes ≤ 0 + length bytes → places_from (n + 1) bytes ≤ n + 1 + length bytes
        → cond b (places_from 0 bytes) (places_from (n + 1) bytes) ≤ n + length (byte ∷ bytes)
    by true h i = omega (arith, h)
    by false h i = omega (arith, i)

places-append : (n : ℕ) (xs ys : List ℕ) → places_from n (xs ++ ys) ≡ places_from (places_from n xs) ys
places-append n [] ys = refl
places-append n (byte ∷ xs) ys = by (byte == 46) (places-append 0 xs ys) (places-append (n + 1) xs ys)
  where
    by : (b : Bool) → places_from 0 (xs ++ ys) ≡ places_from (places_from 0 xs) ys
        → places_from (n + 1) (xs ++ ys) ≡ places_from (places_from (n + 1) xs) ys
        → cond b (places_from 0 (xs ++ ys)) (places_from (n + 1) (xs ++ ys))
        ≡ places_from (cond b (places_from 0 xs) (places_from (n + 1) xs)) ys
    by true h i = h
    by false h i = i

-- 39 places are as good as more
abbrev AreAlike : ℕ → ℕ → Type 0
AreAlike p q = (p ≡ q) ⊎ ((39 ≤ p) × (39 ≤ q))

-- what the last 39 bytes tell, or all where there are fewer
last_alike : (bytes : List ℕ) (k : ℕ) → k ≡ length bytes - 39 → AreAlike (places (drop k bytes)) (places bytes)
last_alike bytes k is =
    let whole : places bytes ≡ places_from (places (take k bytes)) (drop k bytes) =
    ap places (sym (take-append-drop k bytes)) ∙ places-append 0 (take k bytes) (drop k bytes) in
    let size = length-drop k bytes in
    let all = places-le 0 bytes in
    elim (from_either 0 (places (take k bytes)) (drop k bytes)) [
      | inl e ↦ inl (e ∙ sym whole)
      | inr e ↦ by k is size e.0 (whole ∙ e.1) all
    ]
  where
    by : (k : ℕ) → k ≡ length bytes - 39 → length (drop k bytes) ≡ length bytes - k
        → places (drop k bytes) ≡ 0 + length (drop k bytes)
        → places bytes ≡ places (take k bytes) + length (drop k bytes)
        → places bytes ≤ 0 + length bytes
        → AreAlike (places (drop k bytes)) (places bytes)
    by zero is size less more all = inl refl
    by (suc n) is size less more all = inr (omega (arith, is, size, less, more, all), omega (arith, is, size, less, more, all))

-- the bytes from one on, as a slice
whole_slice : (bytes : List ℕ) (k : ℕ) → take (length bytes - k) (drop k bytes) ≡ drop k bytes
whole_slice bytes k =
    let size = length-drop k bytes in take_all (length bytes - k) (drop k bytes) (omega (arith, size))

pub same_decimal : (bytes : List ℕ) (k number : ℕ) → k ≡ length bytes - 39
    → known_decimal number (places (take (length bytes - k) (drop k bytes))) ≡ known_decimal number (places bytes)
same_decimal bytes k number is =
    ap (λ xs. known_decimal number (places xs)) (whole_slice bytes k) ∙ elim (last_alike bytes k is) [
      | inl e ↦ ap (known_decimal number) e
      | inr e ↦ (many (places (drop k bytes)) e.0 ∙ sym (many (places bytes) e.1))
    ]
  where
    many : (p : ℕ) → 39 ≤ p → known_decimal number p ≡ None
    many p h = let over : nat_lt p 39 ≡ false = search rules in rw over refl
