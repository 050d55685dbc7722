-- Functions of numbers by their halves.
use Rattle.std.proofs.Common.{◌≡◌, ◌≢◌, ℕ, zero, suc, ◌+◌, ◌*◌, ◌-◌, ◌<◌, ◌/◌, ◌%◌, ◌^◌, ◌∙◌, sym, ap, subst, refl}
use Rattle.std.proofs.Common.{arith, nat_eq, cond, Bool, true, false, eq-eqb}
use Rattle.std.proofs.lemmas.Bool.{eqb-true, eqb-false}
use Rattle.smt_diagrams.specs.Diagram.{AreAlike, IsStored}

-- what two halves make
abbrev pub joined : (ℕ → ℕ) → (ℕ → ℕ) → ℕ → ℕ
joined f g i = cond (nat_eq (i % 2) 0) (f (i / 2)) (g (i / 2))

pub false_from : (b : Bool) → (b ≡ true → ⊥) → b ≡ false
false_from true h = absurd (h refl)
false_from false h = refl

same_tests : (b c : Bool) → (b ≡ true → c ≡ true) → (c ≡ true → b ≡ true) → b ≡ c
same_tests true c f g = sym (f refl)
same_tests false true f g = g refl
same_tests false false f g = refl

same_half : (i k : ℕ) → i % 2 ≡ k % 2 → nat_eq (i / 2) (k / 2) ≡ nat_eq i k
same_half i k h =
    same_tests (nat_eq (i / 2) (k / 2)) (nat_eq i k)
    (λ e. let f : i / 2 ≡ k / 2 = eqb-true (i / 2) (k / 2) e in eq-eqb i k (omega arith))
    (λ e. let f : i ≡ k = eqb-true i k e in eq-eqb (i / 2) (k / 2) (omega arith))

other_half : (i k : ℕ) → i % 2 ≢ k % 2 → nat_eq i k ≡ false
other_half i k h = false_from (nat_eq i k) (λ e. let f : i ≡ k = eqb-true i k e in h (ap (λ x. x % 2) f))

-- the half of a number of n + 1 bits has n bits
pub half_below : (n i : ℕ) → i < 2 ^ suc n → i / 2 < 2 ^ n
half_below n i h = let h' : i < 2 * 2 ^ n = omega arith in omega arith

pub even_below : (n j : ℕ) → j < 2 ^ n → j * 2 < 2 ^ suc n
even_below n j h = let e : 2 ^ suc n ≡ 2 * 2 ^ n = omega arith in omega arith

pub odd_below : (n j : ℕ) → j < 2 ^ n → j * 2 + 1 < 2 ^ suc n
odd_below n j h = let e : 2 ^ suc n ≡ 2 * 2 ^ n = omega arith in omega arith

pub joined_even : (f g : ℕ → ℕ) (j : ℕ) → joined f g (j * 2) ≡ f j
joined_even f g j =
    let e : (j * 2) % 2 ≡ 0 = omega arith in
    let h : (j * 2) / 2 ≡ j = omega arith in
    ap (λ b. cond b (f ((j * 2) / 2)) (g ((j * 2) / 2))) (eq-eqb _ _ e) ∙ ap f h

pub joined_odd : (f g : ℕ → ℕ) (j : ℕ) → joined f g (j * 2 + 1) ≡ g j
joined_odd f g j =
    let e : (j * 2 + 1) % 2 ≡ 1 = omega arith in
    let h : (j * 2 + 1) / 2 ≡ j = omega arith in
    let z : nat_eq ((j * 2 + 1) % 2) 0 ≡ false =
    false_from _ (λ t. let q : (j * 2 + 1) % 2 ≡ 0 = eqb-true _ _ t in omega arith)
    in
    ap (λ b. cond b (f ((j * 2 + 1) / 2)) (g ((j * 2 + 1) / 2))) z ∙ ap g h

-- functions that are alike have halves that are
pub even_halves : (n : ℕ) (f g f' g' : ℕ → ℕ) → AreAlike (suc n) (joined f g) (joined f' g') → AreAlike n f f'
even_halves n f g f' g' h j less =
    sym (joined_even f g j) ∙ h (j * 2) (even_below n j less) ∙ joined_even f' g' j

pub odd_halves : (n : ℕ) (f g f' g' : ℕ → ℕ) → AreAlike (suc n) (joined f g) (joined f' g') → AreAlike n g g'
odd_halves n f g f' g' h j less =
    sym (joined_odd f g j) ∙ h (j * 2 + 1) (odd_below n j less) ∙ joined_odd f' g' j

-- ---- an element is stored in a half

even_by : (n : ℕ) (f f' g : ℕ → ℕ) (key i e : ℕ) → key % 2 ≡ 0 → IsStored n f (key / 2) e f' → i / 2 < 2 ^ n
    → (b : Bool) → nat_eq (i % 2) 0 ≡ b
    → cond b (f' (i / 2)) (g (i / 2)) ≡ cond (nat_eq i key) e (cond b (f (i / 2)) (g (i / 2)))
even_by n f f' g key i e k h less true is =
    let z : i % 2 ≡ 0 = eqb-true (i % 2) 0 is in
    h (i / 2) less ∙ ap (λ c. cond c e (f (i / 2))) (same_half i key (omega arith))
even_by n f f' g key i e k h less false is =
    let z : i % 2 ≢ key % 2 = λ p. eqb-false (i % 2) 0 is (p ∙ k) in
    sym (ap (λ c. cond c e (g (i / 2))) (other_half i key z))

pub stored_even : (n : ℕ) (f f' g : ℕ → ℕ) (key e : ℕ) → key % 2 ≡ 0 → IsStored n f (key / 2) e f'
    → IsStored (suc n) (joined f g) key e (joined f' g)
stored_even n f f' g key e k h i less =
    even_by n f f' g key i e k h (half_below n i less) (nat_eq (i % 2) 0) refl

odd_by : (n : ℕ) (f g g' : ℕ → ℕ) (key i e : ℕ) → key % 2 ≢ 0 → IsStored n g (key / 2) e g' → i / 2 < 2 ^ n
    → (b : Bool) → nat_eq (i % 2) 0 ≡ b
    → cond b (f (i / 2)) (g' (i / 2)) ≡ cond (nat_eq i key) e (cond b (f (i / 2)) (g (i / 2)))
odd_by n f g g' key i e k h less false is =
    let z : i % 2 ≢ 0 = eqb-false (i % 2) 0 is in
    h (i / 2) less ∙ ap (λ c. cond c e (g (i / 2))) (same_half i key (omega arith))
odd_by n f g g' key i e k h less true is =
    let y : i % 2 ≡ 0 = eqb-true (i % 2) 0 is in
    let z : i % 2 ≢ key % 2 = λ p. k (sym p ∙ y) in
    sym (ap (λ c. cond c e (f (i / 2))) (other_half i key z))

pub stored_odd : (n : ℕ) (f g g' : ℕ → ℕ) (key e : ℕ) → key % 2 ≢ 0 → IsStored n g (key / 2) e g'
    → IsStored (suc n) (joined f g) key e (joined f g')
stored_odd n f g g' key e k h i less =
    odd_by n f g g' key i e k h (half_below n i less) (nat_eq (i % 2) 0) refl

pub half_of : (n key : ℕ) → key < 2 ^ n → n ≢ 0 → key / 2 < 2 ^ (n - 1)
half_of zero key h z = absurd (z refl)
half_of (suc n) key h z =
    let e : suc n - 1 ≡ n = omega arith in subst (λ m. key / 2 < 2 ^ m) (sym e) (half_below n key h)

pub down : (n : ℕ) → n ≢ 0 → n ≡ suc (n - 1)
down n h = omega arith
