-- What is made of cells, one after the other.
use Rattle.std.proofs.Common.{◌≡◌, ◌<◌, ◌≤◌, ◌+◌, ◌-◌, ◌^◌, nat_lt, ℕ, zero, suc, Bool, true, cond, List, [], ◌∷◌, ◌++◌}
use Rattle.std.proofs.Common.{Option, Some, None, length, get_or, false}
use Rattle.std.proofs.Common.{◌&&◌, not, is_some, is_none, refl, sym, ap, ◌∙◌, subst, arith}
use Rattle.std.proofs.Math.ListN.{get_or-append, get_or-eq_default}
use Rattle.std.proofs.lemmas.Bool.Decides.{Decides-ltb}
use Rattle.std.proofs.Math.Seq.{get_or-append_seam}
use Rattle.smt_values.specs.Element.{element_of}
use Rattle.smt_values.specs.Element as plain
use Rattle.smt_values.specs.ElementNumbers.{array_place}
use Rattle.smt_values.specs.Operations as plain_operations
use Rattle.smt_values.specs.declared.value.Value.{Value}
use Rattle.smt_arrays.specs.Element.{Element, Plain, Filled, Written, is_array}
use Rattle.smt_arrays.specs.Cells.{AreOlder, IsOlder, followed, made}
use Rattle.smt_arrays.specs.Operations.{truth}
use Rattle.smt_arrays.specs.Reading.{read}
use Rattle.smt_arrays.specs.Tables.{IsBefore, IsHeld, array_at, at_place, element_in, place_of_array}
use Rattle.smt_arrays.specs.declared.arrays.Cell.{Cell}
use Rattle.smt_arrays.specs.declared.arrays.Cell.TheVariants.{Filled as FilledCell, Written as WrittenCell}

pub nothing_after : (xs : List Element) → xs ≡ xs ++ []
nothing_after [] = refl
nothing_after (x ∷ xs) = ap (λ ys. x ∷ ys) (nothing_after xs)

seam : (xs : List Element) (y : Element) (ys : List Element) → (xs ++ (y ∷ [])) ++ ys ≡ xs ++ (y ∷ ys)
seam [] y ys = refl
seam (x ∷ xs) y ys = ap (λ zs. x ∷ zs) (seam xs y ys)

pub one_more : (xs : List Element) (y : Element) → length (xs ++ (y ∷ [])) ≡ suc (length xs)
one_more [] y = refl
one_more (x ∷ xs) y = ap suc (one_more xs y)

-- the arrays that are there come first
grown : (arrays : List Element) (cells : List Cell) → (rest : List Element) × (followed arrays cells ≡ arrays ++ rest)
grown arrays [] = ([], nothing_after arrays)
grown arrays (c ∷ cs) =
    let r = grown (arrays ++ (made arrays c ∷ [])) cs in
    (made arrays c ∷ r.0, r.1 ∙ seam arrays (made arrays c) r.0)

-- and stay
pub stays : (arrays : List Element) (cells : List Cell) (place : ℕ) → place < length arrays
    → array_at (followed arrays cells) place ≡ array_at arrays place
stays arrays cells place less =
    let r = grown arrays cells in
    ap (λ l. array_at l place) r.1 ∙ get_or-append arrays r.0 (truth false) place less

pub held_stays : (arrays : List Element) (cells : List Cell) (value : Value) → IsHeld (length arrays) value
    → element_in (followed arrays cells) value ≡ element_in arrays value
held_stays arrays cells value h = by (place_of_array value) h
  where
    by : (o : Option ℕ) → IsBefore (length arrays) o → at_place (followed arrays cells) value o
        ≡ at_place arrays value o
    by (Some place) less = stays arrays cells place less
    by None h = refl

made_stays : (arrays : List Element) (cells : List Cell) (c : Cell) → IsOlder (length arrays) c
    → made (followed arrays cells) c ≡ made arrays c
made_stays arrays cells (FilledCell e) h = ap Filled (held_stays arrays cells e h)
made_stays arrays cells (WrittenCell a i e) h =
    ap (λ x. Written x (Plain (element_of i)) (element_in (followed arrays cells) e)) (stays arrays cells a h.0)
    ∙ ap (Written (array_at arrays a) (Plain (element_of i))) (held_stays arrays cells e h.2)

after : (arrays : List Element) (cells : List Cell) (k : ℕ) (d : Cell) → AreOlder (length arrays) cells
    → k < length cells
    → array_at (followed arrays cells) (length arrays + k) ≡ made (followed arrays cells) (get_or cells k d)
after arrays [] k d h less = absurd (omega (arith, less))
after arrays (c ∷ cs) zero d h less =
    let m = made arrays c in
    ap (array_at (followed arrays (c ∷ cs))) (omega arith)
    ∙ stays (arrays ++ (m ∷ [])) cs (length arrays) (let e = one_more arrays m in omega (arith, e))
    ∙ get_or-append_seam arrays m [] (truth false)
    ∙ sym (made_stays arrays (c ∷ cs) c h.0)
after arrays (c ∷ cs) (suc k) d h less =
    let m = made arrays c in
    let e = one_more arrays m in
    ap (array_at (followed arrays (c ∷ cs))) (omega (arith, e))
    ∙ after (arrays ++ (m ∷ [])) cs k d (subst (λ n. AreOlder n cs) (sym e) h.1) (omega (arith, less))

-- each array is made of its cell
pub is_made : (cells : List Cell) (k : ℕ) (d : Cell) → AreOlder 0 cells → k < length cells
    → array_at (followed [] cells) k ≡ made (followed [] cells) (get_or cells k d)
is_made cells k d h less = ap (array_at (followed [] cells)) (omega arith) ∙ after [] cells k d h less

-- what a cell names is before it
pub is_older : (n : ℕ) (cells : List Cell) (k : ℕ) (d : Cell) → AreOlder n cells → k < length cells
    → IsOlder (n + k) (get_or cells k d)
is_older n [] k d h less = absurd (omega (arith, less))
is_older n (c ∷ cs) zero d h less = subst (λ m. IsOlder m c) (omega arith) h.0
is_older n (c ∷ cs) (suc k) d h less =
    subst (λ m. IsOlder m (get_or cs k d)) (omega arith) (is_older (suc n) cs k d h.1 (omega (arith, less)))

-- there are as many arrays as cells
pub as_many : (arrays : List Element) (cells : List Cell) → length (followed arrays cells)
    ≡ length arrays + length cells
as_many arrays [] = omega arith
as_many arrays (c ∷ cs) =
    let m = made arrays c in
    let e = one_more arrays m in
    let r = as_many (arrays ++ (m ∷ [])) cs in
    omega (arith, e, r)

-- ---- an array is read from its cell on

pub found : (cells : List Cell) (k : ℕ) (cell : Cell) → AreOlder 0 cells → k < length cells
    → ((d : Cell) → cell ≡ get_or cells k d) → array_at (followed [] cells) k ≡ made (followed [] cells) cell
found cells k cell h less f = is_made cells k cell h less ∙ ap (made (followed [] cells)) (sym (f cell))

pub older : (cells : List Cell) (k : ℕ) (cell : Cell) → AreOlder 0 cells → k < length cells
    → ((d : Cell) → cell ≡ get_or cells k d) → IsOlder k cell
older cells k cell h less f = subst (IsOlder k) (sym (f cell))
    (subst (λ n. IsOlder n (get_or cells k cell)) (omega arith) (is_older 0 cells k cell h less))

pub past : (cells : List Cell) (k : ℕ) → length cells ≤ k → array_at (followed [] cells) k ≡ truth false
past cells k h =
    let e = as_many [] cells in
    get_or-eq_default (followed [] cells) (truth false) (omega (arith, e, h))

pub written_here : (a x : Element) (i j : plain.Element) (b : Bool) → b ≡ plain_operations.is_same i j → b ≡ true
    → read (Written a (Plain j) x) (Plain i) ≡ x
written_here a x i j b e h = by (plain_operations.is_same i j) (sym e ∙ h)
  where
    by : (b : Bool) → b ≡ true → cond b x (read a (Plain i)) ≡ x
    by true h = refl
    by false h = cc

pub written_off : (a x : Element) (i j : plain.Element) (b : Bool) → b ≡ plain_operations.is_same i j → b ≡ false
    → read (Written a (Plain j) x) (Plain i) ≡ read a (Plain i)
written_off a x i j b e h = by (plain_operations.is_same i j) (sym e ∙ h)
  where
    by : (b : Bool) → b ≡ false → cond b x (read a (Plain i)) ≡ read a (Plain i)
    by true h = cc
    by false h = refl

-- ---- one cell more

pub one_array_more : (arrays : List Element) (cells : List Cell) (c : Cell)
    → followed arrays (cells ++ (c ∷ [])) ≡ followed arrays cells ++ (made (followed arrays cells) c ∷ [])
one_array_more arrays [] c = refl
one_array_more arrays (d ∷ ds) c = one_array_more (arrays ++ (made arrays d ∷ [])) ds c

older_then : (n : ℕ) (cells : List Cell) (c : Cell) → AreOlder n cells → IsOlder (n + length cells) c
    → AreOlder n (cells ++ (c ∷ []))
older_then n [] c h k = (subst (λ m. IsOlder m c) (omega arith) k, tt)
older_then n (d ∷ ds) c h k = (h.0, older_then (suc n) ds c h.1 (subst (λ m. IsOlder m c) (omega arith) k))

pub one_older_more : (cells : List Cell) (c : Cell) → AreOlder 0 cells → IsOlder (length cells) c → AreOlder 0
    (cells ++ (c ∷ []))
one_older_more cells c h k = older_then 0 cells c h (subst (λ m. IsOlder m c) (omega arith) k)

pub number_of_array : (place : ℕ) → array_place ((2 ^ 32 + place) ∷ []) ≡ Some place
number_of_array place = by (nat_lt (2 ^ 32 + place) (2 ^ 32)) (Decides-ltb (2 ^ 32 + place) (2 ^ 32)).0
  where
    by : (b : Bool) → (b ≡ true → 2 ^ 32 + place < 2 ^ 32) → cond b None (Some (2 ^ 32 + place - 2 ^ 32)) ≡ Some place
    by true f = absurd (let e = f refl in omega (arith, e))
    by false f = ap Some (omega arith)

pub is_added : (cells new : List Cell) (c : Cell) (place : ℕ) → new ≡ cells ++ (c ∷ []) → place ≡ length cells
    → (followed [] new ≡ followed [] cells ++ (made (followed [] cells) c ∷ []))
    × (array_place ((2 ^ 32 + place) ∷ []) ≡ Some (length (followed [] cells)))
is_added cells new c place e k =
    let n = as_many [] cells in
    (ap (followed []) e ∙ one_array_more [] cells c, number_of_array place ∙ ap Some (omega (arith, n, k)))

pub held_below : (o : Option ℕ) {m n : ℕ} → m ≤ n → IsBefore m o → IsBefore n o
held_below (Some place) le h = omega (arith, le, h)
held_below None le h = tt

-- each array that is made is one
made_array : (arrays : List Element) (c : Cell) → is_array (made arrays c) ≡ true
made_array arrays (FilledCell e) = refl
made_array arrays (WrittenCell a i e) = refl

pub at_place_array : (cells : List Cell) (k : ℕ) → AreOlder 0 cells → k < length cells
    → is_array (array_at (followed [] cells) k) ≡ true
at_place_array [] k h less = absurd (omega (arith, less))
at_place_array (c ∷ cs) k h less =
    ap is_array (is_made (c ∷ cs) k c h less) ∙ made_array (followed [] (c ∷ cs)) (get_or (c ∷ cs) k c)

-- ---- an array and an index that is none

-- a value is an array where it has a place
pub array_where : (cells : List Cell) (v : Value) → AreOlder 0 cells → IsHeld (length cells) v
    → is_array (element_in (followed [] cells) v) ≡ is_some (place_of_array v)
array_where cells v h held = by (place_of_array v) held
  where
    by : (o : Option ℕ) → IsBefore (length cells) o → is_array (at_place (followed [] cells) v o) ≡ is_some o
    by (Some place) less = at_place_array cells place h less
    by None less = refl

both_parts : (p q : Option ℕ) (place : ℕ) → Some place ≡ cond (is_none q) p None → (p ≡ Some place) × (q ≡ None)
both_parts p None place e = (sym e, refl)
both_parts p (Some q) place e = cc

neither_part : (p q : Option ℕ) → None ≡ cond (is_none q) p None → (is_some p && not (is_some q)) ≡ false
neither_part None None e = refl
neither_part None (Some q) e = refl
neither_part (Some p) None e = cc
neither_part (Some p) (Some q) e = refl

pub is_indexed : (cells : List Cell) (a i : Value) (place : ℕ) → AreOlder 0 cells → IsHeld (length cells) a → IsHeld
    (length cells) i
    → Some place ≡ cond (is_none (place_of_array i)) (place_of_array a) None
    → ((is_array (element_in (followed [] cells) a) && not (is_array (element_in (followed [] cells) i))) ≡ true)
    × (element_in (followed [] cells) a ≡ array_at (followed [] cells) place)
    × (element_in (followed [] cells) i ≡ Plain (element_of i))
    × (place < length cells) × (place_of_array i ≡ None)
is_indexed cells a i place h ha hi e =
    let parts = both_parts (place_of_array a) (place_of_array i) place e in (
      ap (λ b. b && not (is_array (element_in (followed [] cells) i))) (array_where cells a h ha ∙ ap is_some parts.0)
          ∙ ap not (array_where cells i h hi ∙ ap is_some parts.1),
      ap (at_place (followed [] cells) a) parts.0,
      ap (at_place (followed [] cells) i) parts.1,
      subst (IsBefore (length cells)) parts.0 ha,
      parts.1,
    )

pub is_not_indexed : (cells : List Cell) (a i : Value) → AreOlder 0 cells → IsHeld (length cells) a → IsHeld
    (length cells) i
    → None ≡ cond (is_none (place_of_array i)) (place_of_array a) None
    → (is_array (element_in (followed [] cells) a) && not (is_array (element_in (followed [] cells) i))) ≡ false
is_not_indexed cells a i h ha hi e =
    ap (λ b. b && not (is_array (element_in (followed [] cells) i))) (array_where cells a h ha)
    ∙ ap (λ b. is_some (place_of_array a) && not b) (array_where cells i h hi)
    ∙ neither_part (place_of_array a) (place_of_array i) e
