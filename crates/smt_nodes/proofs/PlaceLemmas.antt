-- Lists by places, as they grow and are cut. Nothing here knows a row.
use Rattle.std.proofs.Common.{◌≡◌, ◌≤◌, ◌<◌, ◌+◌, ◌-◌, ◌⊎◌, inl, inr, ℕ, zero, suc, List, [], ◌∷◌, ◌++◌}
use Rattle.std.proofs.Common.{length}
use Rattle.std.proofs.Common.{take, drop, map, slice_get, get_or, Option, Some, None, option_map, refl, ap, sym, ◌∙◌, arith}
use Rattle.std.proofs.lemmas.List.{drop-append-le, get_or_append_left, get_or_default, length-append}
use Rattle.std.proofs.lemmas.List.{length-drop}
use Rattle.std.proofs.lemmas.List.{take-append-drop, take-append-le}
use Rattle.smt_nodes.specs.Internal.Lists.{IsPrefix, before}

-- what stands at a place stays there
pub get_kept : {A : Type 0} (xs more : List A) (i : ℕ) (x : A) → slice_get xs i ≡ Some x
    → slice_get (xs ++ more) i ≡ Some x
get_kept [] more i x h = cc
get_kept (y ∷ ys) more zero x h = h
get_kept (y ∷ ys) more (suc i) x h = get_kept ys more i x h

-- what stands at a place with one more behind stood there, or is that one
pub get_pushed : {A : Type 0} (xs : List A) (y : A) (i : ℕ) (x : A) → slice_get (xs ++ y ∷ []) i ≡ Some x
    → (slice_get xs i ≡ Some x) ⊎ ((i ≡ length xs) × (y ≡ x))
get_pushed [] y zero x h = inr (refl, cc)
get_pushed [] y (suc i) x h = cc
get_pushed (z ∷ zs) y zero x h = inl h
get_pushed {A = A} (z ∷ zs) y (suc i) x h = by (get_pushed zs y i x h)
  where
    by : (slice_get zs i ≡ Some x) ⊎ ((i ≡ length zs) × (y ≡ x))
        → (slice_get zs i ≡ Some x) ⊎ ((suc i ≡ suc (length zs)) × (y ≡ x))
    by (inl g) = inl g
    by (inr (e, g)) = inr (ap (λ n. suc n) e, g)

-- what stands among the first so many stands among all
pub get_taken : {A : Type 0} (n : ℕ) (xs : List A) (i : ℕ) (x : A) → slice_get (take n xs) i ≡ Some x
    → slice_get xs i ≡ Some x
get_taken {A = A} n xs i x h =
    ap (λ (ys : List A). slice_get ys i) (sym (take-append-drop n xs))
    ∙ get_kept (take n xs) (drop n xs) i x h

-- what stands below so many stands among the first so many
pub get_first : {A : Type 0} (n : ℕ) (xs : List A) (i : ℕ) (x : A) → i < n → slice_get xs i ≡ Some x
    → slice_get (take n xs) i ≡ Some x
get_first n [] i x below h = cc
get_first zero (y ∷ ys) i x below h = absurd (omega (arith, below))
get_first (suc n) (y ∷ ys) zero x below h = h
get_first (suc n) (y ∷ ys) (suc i) x below h = get_first n ys i x (omega (arith, below)) h

-- what belongs to this row among the first stands at its place among the second
abbrev pub Keeps : {A : Type 0} → (A → ℕ) → List A → List A → ℕ → Type 0
Keeps {A} row_of xs ys row = (i : ℕ) (x : A) → slice_get xs i ≡ Some x → row_of x ≡ row → slice_get ys i ≡ Some x

-- so it does where more comes behind
pub longer_keeps : {A : Type 0} (row_of : A → ℕ) (xs ys : List A) (row : ℕ) → IsPrefix xs ys
    → Keeps row_of xs ys row
longer_keeps {A = A} row_of xs ys row (more, is) = λ i x at mine.
    ap (λ (zs : List A). slice_get zs i) is ∙ get_kept xs more i x at

-- and what stands at the place of a row is then the same
pub kept_place : {A : Type 0} (row_of : A → ℕ) (xs ys : List A) (row i : ℕ) → Keeps row_of xs ys row
    → option_map row_of (slice_get xs i) ≡ Some row → slice_get ys i ≡ slice_get xs i
kept_place {A = A} row_of xs ys row i keeps own = by (slice_get xs i) refl own
  where
    by : (o : Option A) → slice_get xs i ≡ o → option_map row_of o ≡ Some row → slice_get ys i ≡ slice_get xs i
    by None at mine = cc
    by (Some x) at mine =
        let here : row_of x ≡ row = cc in
        keeps i x at here ∙ sym at

-- functions that agree on what stands in a list
pub map_same : {A B : Type 0} (f g : A → B) (xs : List A)
    → ((i : ℕ) (x : A) → slice_get xs i ≡ Some x → f x ≡ g x) → map f xs ≡ map g xs
map_same f g [] h = refl
map_same f g (x ∷ xs) h =
    let first : f x ≡ g x = h 0 x refl in
    let rest : map f xs ≡ map g xs = map_same f g xs (λ i y at. h (suc i) y at) in
    cc

-- so many up to an end stay as more comes behind
pub before_kept : {A : Type 0} (n end : ℕ) (xs ys : List A) → end ≤ length xs → IsPrefix xs ys
    → before n end ys ≡ before n end xs
before_kept {A = A} n end xs ys within (more, is) =
    let start : end - n ≤ length xs = omega arith in
    let rest : end - (end - n) ≤ length (drop (end - n) xs) = omega (arith, length-drop (end - n) xs) in
    ap (λ (zs : List A). before n end zs) is
    ∙ ap (λ (zs : List A). take (end - (end - n)) zs) (drop-append-le (end - n) xs more start)
    ∙ take-append-le (end - (end - n)) (drop (end - n) xs) more rest

-- what is read at a place stays, whatever stands for none
pub read_kept : {A : Type 0} (xs ys : List A) (i : ℕ) (d e : A) → i < length xs → IsPrefix xs ys
    → get_or ys i d ≡ get_or xs i e
read_kept {A = A} xs ys i d e within (more, is) =
    ap (λ (zs : List A). get_or zs i d) is ∙ get_or_append_left xs more d i within
    ∙ get_or_default xs i d e within

-- a list that grows is no shorter
pub longer : {A : Type 0} (xs ys : List A) → IsPrefix xs ys → length xs ≤ length ys
longer {A = A} xs ys (more, is) =
    let len : length ys ≡ length xs + length more =
    ap (λ (zs : List A). length zs) is ∙ length-append xs more in
    omega (arith, len)
