-- Whether no two elements of a list are the same does not depend on where they stand, and of a sorted list it
-- is enough to compare neighbours.
use Rattle.std.proofs.Common.{◌≡◌, ℕ, ◌<◌, pos, Bool, true, false, not, ◌&&◌, ◌||◌, ◌==◌, cond, List, [], ◌∷◌}
use Rattle.std.proofs.Common.{Option, Some, None, refl, sym, ap, ◌∙◌, subst, map, length, arith, true≢false}
use Rattle.std.proofs.Common.{Decides, IsPermutation, IsSorted, Ordering, Less, Equal, Greater, int_cmp, is_eq}
use Rattle.std.proofs.Common.{nat_cmp, unsigned_abs}
use Rattle.std.proofs.lemmas.Bool.Decides.{Decides-and}
use Rattle.std.proofs.lemmas.Cmp.{eq_by_cmp_equiv, int_cmp_total, nat_cmp_total, on_total, then_total}
use Rattle.std.proofs.lemmas.List.Kept.{IsStrictlySortedBy-dedup}
use Rattle.std.proofs.lemmas.List.Sorted.{IsPermutation-sym}
use Rattle.std.proofs.lemmas.Map.Text.{is_eq-slice_cmp}
use Rattle.std.proofs.lemmas.Map.Keys.{IsDistinct-IsPermutation, IsDistinct-from_sorted}
use Rattle.std.specs.Bool.{one_answer}
use Rattle.std.specs.Cmp.{IsTotalOrder, both_tied, signed_Decides, unsigned_Decides, unsigned_ties}
use Rattle.std.specs.List.{AllByRecursion, IsDistinct, dedup, dedup_from, list_any}
use Rattle.std.specs.List.Sorted.{IsStrictlySortedBy}
use Rattle.std.specs.Cmp.Lexicographic.{nat_list_cmp_total, slice_cmp}
use Rattle.std.specs.Ordering.{eq_by_cmp, int_eq, ordering_then}
use Rattle.std.specs.Prelude.{bytes_eq}
use Rattle.smt_values.proofs.KnownLoopLemmas.{list_any-map}
use Rattle.smt_values.specs.Element.{Element, Truth, Integer, Fraction, Vector, Abstract, known_element}
use Rattle.smt_values.specs.Element.{known_elements}
use Rattle.smt_values.specs.Internal.Keys.{compared, key_of}
use Rattle.smt_values.specs.Internal.Same.{is_same_known}
use Rattle.smt_values.specs.Lists.{are_chained, are_distinct}
use Rattle.smt_values.specs.declared.value.Value.{Value}

-- ---- `are_distinct` decides what std's word says

neither : {Q : Type 0} (a b : Bool) → Decides (not b) Q → Decides (not (a || b)) ((a ≡ false) × Q)
neither true b d = (λ e. absurd (true≢false (sym e)), λ h. absurd (true≢false h.0))
neither false b d = (λ e. (refl, d.0 e), λ h. d.1 h.1)

none_passes : {A : Type 0} (p : A → Bool) (xs : List A)
    → Decides (not (list_any p xs)) (AllByRecursion (λ y. p y ≡ false) xs)
none_passes p [] = (λ e. tt, λ h. refl)
none_passes p (x ∷ xs) = neither (p x) (list_any p xs) (none_passes p xs)

module _ {A : Type 0} (same : A → A → Bool) where
  distinct_decides : (xs : List A) → Decides (are_distinct same xs) (IsDistinct same xs)
  unfolding IsDistinct
  distinct_decides [] = (λ e. tt, λ h. refl)
  distinct_decides (x ∷ xs) = Decides-and _ _ (none_passes (same x) xs) (distinct_decides xs)

  -- no element is the same as the one after it
  abbrev are_apart : List A → Bool
  are_apart xs = are_chained (λ x y. not (same x y)) xs

  apart : (xs : List A) → IsDistinct same xs → are_apart xs ≡ true
  unfolding IsDistinct
  apart [] h = refl
  apart (x ∷ []) h = refl
  apart (x ∷ y ∷ xs) h = ap (λ b. not b && are_apart (y ∷ xs)) h.0.0 ∙ apart (y ∷ xs) h.1

-- ---- of a sorted list

module _ {A : Type 0} {R : A → A → Ordering} (o : IsTotalOrder R) where
  abbrev tied : A → A → Bool
  tied = eq_by_cmp R

  -- where neighbours differ, `dedup` keeps all
  stays : (x y : A) (xs : List A) (rest : Bool) → dedup_from tied y xs ≡ y ∷ xs
      → (not (tied x y) && rest) ≡ true → dedup_from tied x (y ∷ xs) ≡ x ∷ y ∷ xs
  stays x y xs rest e h = by (tied x y) ((eq_by_cmp_equiv o).symm y x) h
    where
      by : (b : Bool) → tied y x ≡ b → (not b && rest) ≡ true → dedup_from tied x (y ∷ xs) ≡ x ∷ y ∷ xs
      by true s h = absurd (true≢false (sym h))
      by false s h =
          ap (λ b. cond b (dedup_from tied x xs) (x ∷ dedup_from tied y xs)) s ∙ ap (λ l. x ∷ l) e

  second : (a b : Bool) → (a && b) ≡ true → b ≡ true
  second true b h = h
  second false b h = absurd (true≢false (sym h))

  all_stay : (x : A) (xs : List A) → are_apart tied (x ∷ xs) ≡ true → dedup_from tied x xs ≡ x ∷ xs
  all_stay x [] h = refl
  all_stay x (y ∷ xs) h =
      stays x y xs (are_apart tied (y ∷ xs)) (all_stay y xs (second (not (tied x y)) _ h)) h

  stays_whole : (xs : List A) → are_apart tied xs ≡ true → dedup tied xs ≡ xs
  stays_whole [] h = refl
  stays_whole (x ∷ xs) h = all_stay x xs h

  -- xs in any order, and ys sorted
  apart_is_distinct : (xs ys : List A) → IsPermutation xs ys → IsSorted R ys
      → are_apart tied ys ≡ are_distinct tied xs
  apart_is_distinct xs ys moves up =
      let flips = (eq_by_cmp_equiv o).symm in
      one_answer (are_apart tied ys) (are_distinct tied xs) (
        λ e. IsDistinct-from_sorted R ys
            (subst (IsStrictlySortedBy R) (stays_whole ys e) (IsStrictlySortedBy-dedup o (λ x y. refl) ys up)),
        apart tied ys,
      ) (
        λ e. IsDistinct-IsPermutation tied flips xs ys moves ((distinct_decides tied xs).0 e),
        λ h. (distinct_decides tied xs).1
            (IsDistinct-IsPermutation tied flips ys xs (IsPermutation-sym xs ys moves) h),
      )

-- ---- of arguments, by their keys

is_eq_then : (r : Ordering)
    → is_eq r ≡ is_eq (ordering_then (ordering_then (ordering_then Equal r) Equal) Equal)
is_eq_then Less = refl
is_eq_then Equal = refl
is_eq_then Greater = refl

names_tied : (x y : List ℕ)
    → bytes_eq x y ≡ is_eq (ordering_then (ordering_then (ordering_then Equal Equal) Equal) (slice_cmp nat_cmp x y))
names_tied x y = sym (is_eq-slice_cmp x y)

is_eq_equal : (r : Ordering) → is_eq r ≡ is_eq (ordering_then r Equal)
is_eq_equal Less = refl
is_eq_equal Equal = refl
is_eq_equal Greater = refl

widths_tied : (m n : ℕ) → (m == n) ≡ is_eq (int_cmp (pos m) (pos n))
widths_tied m n =
    one_answer (m == n) (is_eq (int_cmp (pos m) (pos n))) (unsigned_Decides m n) (
      λ e. ap unsigned_abs ((signed_Decides (pos m) (pos n)).0 e),
      λ e. (signed_Decides (pos m) (pos n)).1 (ap pos e),
    )

-- the keys are the same exactly where the elements are
same_tied : (x y : Option Element) → is_same_known x y ≡ is_eq (compared x y)
same_tied None None = refl
same_tied None (Some (Truth b)) = refl
same_tied None (Some (Integer z)) = refl
same_tied None (Some (Fraction m e)) = refl
same_tied None (Some (Vector v)) = refl
same_tied None (Some (Abstract name)) = refl
same_tied (Some (Truth a)) None = refl
same_tied (Some (Truth true)) (Some (Truth true)) = refl
same_tied (Some (Truth true)) (Some (Truth false)) = refl
same_tied (Some (Truth false)) (Some (Truth true)) = refl
same_tied (Some (Truth false)) (Some (Truth false)) = refl
same_tied (Some (Truth a)) (Some (Integer z)) = refl
same_tied (Some (Truth a)) (Some (Fraction m e)) = refl
same_tied (Some (Truth a)) (Some (Vector v)) = refl
same_tied (Some (Truth a)) (Some (Abstract name)) = refl
same_tied (Some (Integer a)) None = refl
same_tied (Some (Integer a)) (Some (Truth b)) = refl
same_tied (Some (Integer a)) (Some (Integer b)) = is_eq_then (int_cmp a b)
same_tied (Some (Integer a)) (Some (Fraction m e)) = refl
same_tied (Some (Integer a)) (Some (Vector v)) = refl
same_tied (Some (Integer a)) (Some (Abstract name)) = refl
same_tied (Some (Fraction n d)) None = refl
same_tied (Some (Fraction n d)) (Some (Truth b)) = refl
same_tied (Some (Fraction n d)) (Some (Integer b)) = refl
same_tied (Some (Fraction n d)) (Some (Fraction m e)) =
    both_tied (int_eq n m) (d == e) (int_cmp n m) _ refl (unsigned_ties d e) ∙ is_eq_equal _
same_tied (Some (Fraction n d)) (Some (Vector v)) = refl
same_tied (Some (Fraction n d)) (Some (Abstract name)) = refl
same_tied (Some (Vector s)) None = refl
same_tied (Some (Vector s)) (Some (Truth b)) = refl
same_tied (Some (Vector s)) (Some (Integer b)) = refl
same_tied (Some (Vector s)) (Some (Fraction m e)) = refl
same_tied (Some (Vector s)) (Some (Abstract name)) = refl
same_tied (Some (Vector s)) (Some (Vector t)) =
    both_tied (s.width == t.width) (s.number == t.number) (int_cmp (pos s.width) (pos t.width)) _
    (widths_tied s.width t.width) (unsigned_ties s.number t.number) ∙ is_eq_equal _
same_tied (Some (Abstract x)) None = refl
same_tied (Some (Abstract x)) (Some (Truth b)) = refl
same_tied (Some (Abstract x)) (Some (Integer b)) = refl
same_tied (Some (Abstract x)) (Some (Fraction m e)) = refl
same_tied (Some (Abstract x)) (Some (Vector v)) = refl
same_tied (Some (Abstract x)) (Some (Abstract y)) = names_tied x y

compared_total : IsTotalOrder compared
compared_total =
    on_total key_of (then_total (then_total (then_total (on_total (λ k. k.0) nat_cmp_total)
    (on_total (λ k. k.1) int_cmp_total)) (on_total (λ k. k.2) nat_cmp_total))
    (on_total (λ k. k.3) nat_list_cmp_total))

distinct-map : {A B : Type 0} (same : B → B → Bool) (f : A → B) (xs : List A)
    → are_distinct same (map f xs) ≡ are_distinct (λ x y. same (f x) (f y)) xs
distinct-map same f [] = refl
distinct-map same f (x ∷ xs) =
    ap (λ b. not b && are_distinct same (map f xs)) (list_any-map (same (f x)) f xs)
    ∙ ap (λ b. not (list_any (λ y. same (f x) (f y)) xs) && b) (distinct-map same f xs)

abbrev pub values_compared : Option Value → Option Value → Ordering
values_compared x y = compared (known_element x) (known_element y)

-- the arguments of `distinct`, and the same ones sorted
pub distinct_by_order : (xs ys : List (Option Value)) → IsPermutation xs ys → IsSorted values_compared ys
    → are_chained (λ a b. not (is_same_known (known_element a) (known_element b))) ys
    ≡ are_distinct is_same_known (known_elements xs)
distinct_by_order xs ys moves up =
    (λ i. are_chained (λ a b. not (same_tied (known_element a) (known_element b) i)) ys)
    ∙ apart_is_distinct (on_total known_element compared_total) xs ys moves up
    ∙ (λ i. are_distinct (λ a b. sym (same_tied (known_element a) (known_element b)) i) xs)
    ∙ sym (distinct-map is_same_known known_element xs)

pub apart_short : {A : Type 0} (relation : A → A → Bool) (xs : List A) → length xs < 2
    → true ≡ are_chained relation xs
apart_short relation [] h = refl
apart_short relation (x ∷ []) h = refl
apart_short relation (x ∷ y ∷ xs) h = absurd (omega arith)
