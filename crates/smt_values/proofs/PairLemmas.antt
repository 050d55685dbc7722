-- What holds of all pairs.
use Rattle.std.proofs.Common.{◌≡◌, ◌≢◌, ◌↔◌, ℕ, zero, suc, ℤ, pos, Bool, true, false, not, ◌&&◌, ◌||◌}
use Rattle.std.proofs.Common.{Decides, List, [], ◌∷◌, refl, sym, ap, ap₂, arith, true≢false}
use Rattle.std.proofs.lemmas.Bool.Decides.{Decides-and, Decides-by_and, Decides-eqb, Decides-int_eq}
use Rattle.std.proofs.lemmas.Bool.Decides.{Decides-like, Decides-not}
use Rattle.std.proofs.lemmas.List.Kept.{AllPairs-cons}
use Rattle.std.specs.Bool.{beq}
use Rattle.std.specs.Cmp.Lexicographic.{bytes_decides}
use Rattle.std.specs.List.{All, AllPairs, list_any}
use Rattle.smt_bits.specs.BitVector.{BitVector, vector}
use Rattle.smt_values.specs.Element.{Element, Truth, Integer, Fraction, Vector, Abstract}
use Rattle.smt_values.specs.Lists.{are_distinct}
use Rattle.smt_values.specs.Operations.{integer_of, is_same, truth_of, vector_of}

neither : (a b : Bool) → not (a || b) ≡ (not a && not b)
neither true b = refl
neither false b = refl

module _ {A : Type 0} (same : A → A → Bool) (decides : (a b : A) → Decides (same a b) (a ≡ b)) where
  none_same : (x : A) (xs : List A) → Decides (not (list_any (same x) xs)) (All (λ y. x ≢ y) xs)
  none_same x xs = Decides-by_and (λ y. not (same x y)) (λ y. x ≢ y) (λ ys. not (list_any (same x) ys))
      (λ y. Decides-not (same x y) (decides x y)) refl (λ y ys. neither (same x y) (list_any (same x) ys)) xs

  first_and_others : (x : A) (xs : List A) → AllPairs (λ a b. a ≢ b) (x ∷ xs)
      → All (λ y. x ≢ y) xs × AllPairs (λ a b. a ≢ b) xs
  first_and_others x xs h = (
    λ k d less. h zero (suc k) d (omega arith) (omega arith),
    λ i j d less within. h (suc i) (suc j) d (omega arith) (omega arith),
  )

  pub distinct_pairs : (xs : List A) → Decides (are_distinct same xs) (AllPairs (λ a b. a ≢ b) xs)
  distinct_pairs [] = (λ e. λ i j d less within. absurd (omega arith), λ h. refl)
  distinct_pairs (x ∷ xs) = Decides-like (not (list_any (same x) xs) && are_distinct same xs)
      (λ h. AllPairs-cons (λ a b. a ≢ b) x xs h.0 h.1) (first_and_others x xs)
      (Decides-and _ _ (none_same x xs) (distinct_pairs xs))

truths : (a b : Bool) → Decides (beq a b) (a ≡ b)
truths true true = (λ e. refl, λ e. refl)
truths true false = (λ e. absurd (true≢false (sym e)), λ e. absurd (true≢false e))
truths false true = (λ e. absurd (true≢false (sym e)), λ e. absurd (true≢false (sym e)))
truths false false = (λ e. refl, λ e. refl)

vectors : (s t : BitVector) → (s.width ≡ t.width) × (s.number ≡ t.number) → Vector s ≡ Vector t
vectors s t h = ap₂ (λ m n. Vector (vector m n)) h.0 h.1

fractions : (n m : ℤ) (d e : ℕ) → (n ≡ m) × (d ≡ e) → Fraction n d ≡ Fraction m e
fractions n m d e h = ap₂ Fraction h.0 h.1

abbrev top_of : Element → ℤ
top_of (Fraction n d) = n
top_of _ = pos 0

abbrev low_of : Element → ℕ
low_of (Fraction n d) = d
low_of _ = 0

same_decides : (a b : Element) → Decides (is_same a b) (a ≡ b)
same_decides (Truth a) (Truth b) = Decides-like (beq a b) (ap Truth) (ap truth_of) (truths a b)
same_decides (Integer a) (Integer b) = Decides-like _ (ap Integer) (ap integer_of) (Decides-int_eq a b)
same_decides (Fraction n d) (Fraction m e) = Decides-like _ (fractions n m d e) (λ e. (ap top_of e, ap low_of e))
    (Decides-and _ _ (Decides-int_eq n m) (Decides-eqb d e))
same_decides (Vector s) (Vector t) = Decides-like _ (vectors s t)
    (λ e. (ap (λ v. (vector_of v).width) e, ap (λ v. (vector_of v).number) e))
    (Decides-and _ _ (Decides-eqb s.width t.width) (Decides-eqb s.number t.number))
same_decides (Abstract x) (Abstract y) = Decides-like _ (ap Abstract) (ap name_of) (bytes_decides x y)
  where
    name_of : Element → List ℕ
    name_of (Abstract name) = name
    name_of _ = []
same_decides _ _ = (λ e. absurd (true≢false (sym e)), λ e. cc)

pub truths_are_distinct : (args : List Element)
    → (Truth (are_distinct is_same args) ≡ Truth true) ↔ AllPairs (λ a b. a ≢ b) args
truths_are_distinct args =
    let all = distinct_pairs is_same same_decides args in (λ e. all.0 (ap truth_of e), λ h. ap Truth (all.1 h))
