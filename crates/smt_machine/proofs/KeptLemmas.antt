-- Values that are kept by the numbers of nodes.
use Rattle.std.proofs.Common.{◌≡◌, ℕ, zero, suc, ◌<◌, ◌≤◌, Bool, true, false, cond, List, [], ◌∷◌, ◌++◌, length}
use Rattle.std.proofs.Common.{slice_get, slice_set, Option, None, Some, refl, ap, ◌∙◌, arith, nat_eq}
use Rattle.std.proofs.lemmas.Bool.Decides.{nat_tests}
use Rattle.smt_values.specs.declared.value.Value.{Value}
use Rattle.smt_machine.specs.Internal.KeptView.{found_at, found_by, found_for}
use Rattle.smt_machine.specs.declared.kept.Found.{Found}

get_set_same : {A : Type 0} (xs : List A) (i : ℕ) (v : A) → i < length xs
    → slice_get (slice_set xs i v) i ≡ Some v
get_set_same [] i v h = absurd (omega arith)
get_set_same (x ∷ xs) zero v h = refl
get_set_same (x ∷ xs) (suc i) v h = get_set_same xs i v (omega arith)

get_set_other : {A : Type 0} (xs : List A) (i j : ℕ) (v : A) → (j ≡ i → ⊥)
    → slice_get (slice_set xs i v) j ≡ slice_get xs j
get_set_other [] i j v h = refl
get_set_other (x ∷ xs) zero zero v h = absurd (h refl)
get_set_other (x ∷ xs) zero (suc j) v h = refl
get_set_other (x ∷ xs) (suc i) zero v h = refl
get_set_other (x ∷ xs) (suc i) (suc j) v h = get_set_other xs i j v (λ e. h (ap suc e))

get_past : {A : Type 0} (xs : List A) (i : ℕ) → length xs ≤ i → slice_get xs i ≡ None
get_past [] i h = refl
get_past (x ∷ xs) zero h = absurd (omega arith)
get_past (x ∷ xs) (suc i) h = get_past xs i (omega arith)

get_last : {A : Type 0} (xs : List A) (x : A) → slice_get (xs ++ x ∷ []) (length xs) ≡ Some x
get_last [] x = refl
get_last (y ∷ xs) x = get_last xs x

get_before : {A : Type 0} (xs : List A) (x : A) (i : ℕ) → i < length xs
    → slice_get (xs ++ x ∷ []) i ≡ slice_get xs i
get_before [] x i h = absurd (omega arith)
get_before (y ∷ xs) x zero h = refl
get_before (y ∷ xs) x (suc i) h = get_before xs x i (omega arith)

get_behind : {A : Type 0} (xs : List A) (x : A) (i : ℕ) → length xs < i
    → slice_get (xs ++ x ∷ []) i ≡ None
get_behind [] x zero h = absurd (omega arith)
get_behind [] x (suc i) h = refl
get_behind (y ∷ xs) x zero h = absurd (omega arith)
get_behind (y ∷ xs) x (suc i) h = get_behind xs x i (omega arith)

-- one more value changes nothing for other numbers
found_more : (xs : List Found) (x : Found) (place number : ℕ) → nat_eq x.number number ≡ false
    → found_at (xs ++ x ∷ []) place number ≡ found_at xs place number
found_more [] x zero number h = rw h refl
found_more [] x (suc place) number h = refl
found_more (y ∷ xs) x zero number h = refl
found_more (y ∷ xs) x (suc place) number h = found_more xs x place number h

found_by_more : (xs : List Found) (x : Found) (place : Option ℕ) (number : ℕ) → nat_eq x.number number ≡ false
    → found_by (xs ++ x ∷ []) place number ≡ found_by xs place number
found_by_more xs x None number h = refl
found_by_more xs x (Some place) number h = found_more xs x place number h

other_number : (i j : ℕ) → nat_eq j i ≡ false → nat_eq i j ≡ false
other_number i j h = grind (arith, nat_tests)

same_number : (i : ℕ) → nat_eq i i ≡ true
same_number i = grind (arith, nat_tests)

-- the value that is kept for a number is that number's, and those of others stay
pub kept_more : (xs : List Found) (places : List ℕ) (i j : ℕ) (v : Option Value) (b : Bool) → nat_eq j i ≡ b
    → i < length places
    → found_by (xs ++ (record { number = i; value = v }) ∷ []) (slice_get (slice_set places i (length xs)) j) j
    ≡ cond b (Some v) (found_by xs (slice_get places j) j)
kept_more xs places i j v true e h =
    let x : Found = record { number = i; value = v } in
    let is : j ≡ i = grind (arith, nat_tests) in
    ap (λ k. found_by (xs ++ x ∷ []) (slice_get (slice_set places i (length xs)) k) k) is
    ∙ ap (λ o. found_by (xs ++ x ∷ []) o i) (get_set_same places i (length xs) h)
    ∙ ap (λ o. found_for o i) (get_last xs x)
    ∙ ap (λ (t : Bool). cond t (Some v) None) (same_number i)
kept_more xs places i j v false e h =
    let x : Found = record { number = i; value = v } in
    ap (λ o. found_by (xs ++ x ∷ []) o j)
    (get_set_other places i j (length xs) (λ same. let not : ⊥ = grind (arith, nat_tests) in not))
    ∙ found_by_more xs x (slice_get places j) j (other_number i j e)

-- a place where none stands
pub none_there : (xs : List Found) (number : ℕ) → found_at xs (length xs) number ≡ None
none_there xs number = ap (λ o. found_for o number) (get_past xs (length xs) (omega arith))
