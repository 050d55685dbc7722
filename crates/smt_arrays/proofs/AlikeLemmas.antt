-- Sameness of the elements that values are.
use Rattle.std.proofs.Common.{◌≡◌, ◌⊎◌, inl, inr, ◌<◌, ◌≤◌, ◌-◌, ◌/◌, ◌%◌, ◌^◌, ℕ, zero, suc, Bool, true, false, cond}
use Rattle.std.proofs.Common.{◌&&◌, ◌||◌}
use Rattle.std.proofs.Common.{List, [], ◌∷◌, ◌++◌, Option, Some, None, length, is_some, is_none, map, refl, sym, ap}
use Rattle.std.proofs.Common.{◌∙◌, subst, arith, pow_pos}
use Rattle.std.proofs.lemmas.List.{map-append}
use Rattle.std.proofs.lemmas.Nat.Bits.{ones_shr}
use Rattle.std.proofs.Math.Nat.{mod-eq_of_lt}
use Rattle.smt_bits.specs.BitVector.{BitVector, vector}
use Rattle.smt_values.specs.Element as plain
use Rattle.smt_values.specs.Element.{element_of}
use Rattle.smt_values.specs.Operations as plain_operations
use Rattle.smt_values.specs.declared.value.Value.{Value}
use Rattle.smt_arrays.specs.Element.{Element, Plain, Filled, Written, is_array}
use Rattle.smt_arrays.specs.Cells.{AreOlder, followed}
use Rattle.smt_arrays.specs.Internal.{both, known_same_in, next_same}
use Rattle.smt_arrays.specs.Known.{are_all_so, are_named, is_slow, known_alike, known_default, neighbours_same}
use Rattle.smt_arrays.specs.Reading.{default_of, has_vectors, indexes, is_among, is_same_plain, read}
use Rattle.smt_arrays.specs.declared.arrays.Cell.{Cell}
use Rattle.smt_arrays.specs.Tables.{IsBefore, IsHeld, array_at, at_place, element_in, place_of_array}
use Rattle.smt_arrays.proofs.CellLemmas.{array_where, at_place_array}
use Rattle.smt_arrays.proofs.PlainSameLemmas.{so_both, so_more}

-- ---- elements of which one is no array

array_unlike : (x y : Element) → is_array x ≡ true → is_same_plain x y ≡ false
array_unlike (Plain e) y h = cc
array_unlike (Filled e) y h = refl
array_unlike (Written a i e) y h = refl

unlike_array : (x : plain.Element) (y : Element) → is_array y ≡ true → is_same_plain (Plain x) y ≡ false
unlike_array x (Plain e) h = cc
unlike_array x (Filled e) h = refl
unlike_array x (Written a i e) h = refl

one_array : (f : Element → Element → Option Bool) (x : Element) (y : plain.Element) → is_array x ≡ true
    → cond (is_array x && false) (known_alike f x (Plain y)) (Some (is_same_plain x (Plain y))) ≡ Some false
one_array f (Plain e) y h = cc
one_array f (Filled e) y h = refl
one_array f (Written a i e) y h = refl

-- arrays are not the same as what is no array
pub plain_same : (cells : List Cell) (depth : ℕ) (a b : Value) → AreOlder 0 cells
    → IsHeld (length cells) a → IsHeld (length cells) b → (place_of_array a ≡ None) ⊎ (place_of_array b ≡ None)
    → known_same_in depth (element_in (followed [] cells) a) (element_in (followed [] cells) b)
    ≡ Some (is_none (place_of_array a) && (is_none (place_of_array b) && plain_operations.is_same (element_of a)
    (element_of b)))
plain_same cells depth a b h ha hb e = by depth (place_of_array a) (place_of_array b) ha hb e
  where
    by : (depth : ℕ) (o p : Option ℕ) → IsBefore (length cells) o → IsBefore (length cells) p → (o ≡ None) ⊎ (p ≡ None)
        → known_same_in depth (at_place (followed [] cells) a o) (at_place (followed [] cells) b p)
        ≡ Some (is_none o && (is_none p && plain_operations.is_same (element_of a) (element_of b)))
    by zero None None ha hb e = refl
    by (suc depth) None None ha hb e = refl
    by zero (Some o) None ha hb e =
        ap Some (array_unlike (array_at (followed [] cells) o) (Plain (element_of b)) (at_place_array cells o h ha))
    by (suc depth) (Some o) None ha hb e =
        one_array (known_same_in depth) (array_at (followed [] cells) o) (element_of b) (at_place_array cells o h ha)
    by zero None (Some p) ha hb e =
        ap Some (unlike_array (element_of a) (array_at (followed [] cells) p) (at_place_array cells p h hb))
    by (suc depth) None (Some p) ha hb e =
        ap Some (unlike_array (element_of a) (array_at (followed [] cells) p) (at_place_array cells p h hb))
    by depth (Some o) (Some p) ha hb e = elim e [ inl k ↦ cc | inr k ↦ cc ]

-- ---- two arrays

two_elements : (cells : List Cell) (v : Value) (p : ℕ) → AreOlder 0 cells → IsHeld (length cells) v → Some p
    ≡ place_of_array v
    → (element_in (followed [] cells) v ≡ array_at (followed [] cells) p)
    × (is_array (array_at (followed [] cells) p) ≡ true)
two_elements cells v p h hv e = (
  ap (at_place (followed [] cells) v) (sym e),
  at_place_array cells p h (subst (IsBefore (length cells)) (sym e) hv),
)

-- too deep, they are not compared
pub not_deeper : (cells : List Cell) (depth : ℕ) (a b : Value) (p q : ℕ) → AreOlder 0 cells
    → IsHeld (length cells) a → IsHeld (length cells) b → Some p ≡ place_of_array a → Some q ≡ place_of_array b
    → depth ≡ 0
    → Some false ≡ known_same_in depth (element_in (followed [] cells) a) (element_in (followed [] cells) b)
not_deeper cells depth a b p q h ha hb ea eb e =
    let r = two_elements cells a p h ha ea in
    sym (ap (λ d. known_same_in d (element_in (followed [] cells) a) (element_in (followed [] cells) b)) e
    ∙ ap Some (array_unlike (element_in (followed [] cells) a) (element_in (followed [] cells) b)
    (ap is_array r.0 ∙ r.1)))

pub deeper : (cells : List Cell) (depth : ℕ) (a b : Value) (p q : ℕ) → AreOlder 0 cells
    → IsHeld (length cells) a → IsHeld (length cells) b → Some p ≡ place_of_array a → Some q ≡ place_of_array b
    → (depth ≡ 0 → ⊥)
    → known_alike (known_same_in (depth - 1)) (array_at (followed [] cells) p) (array_at (followed [] cells) q)
    ≡ known_same_in depth (element_in (followed [] cells) a) (element_in (followed [] cells) b)
deeper cells depth a b p q h ha hb ea eb e =
    let arrays = followed [] cells in
    let r = two_elements cells a p h ha ea in
    let s = two_elements cells b q h hb eb in
    let more : suc (depth - 1) ≡ depth = omega arith in
    sym (ap (λ d. known_same_in d (element_in arrays a) (element_in arrays b)) (sym more)
    ∙ ap (λ x. known_same_in (suc (depth - 1)) x (element_in arrays b)) r.0
    ∙ ap (known_same_in (suc (depth - 1)) (array_at arrays p)) s.0
    ∙ ap (λ c. cond c (known_alike (known_same_in (depth - 1)) (array_at arrays p) (array_at arrays q))
    (Some (is_same_plain (array_at arrays p) (array_at arrays q))))
    (ap (λ c. c && is_array (array_at arrays q)) r.1 ∙ s.1))

-- where written in the one, in the other, and elsewhere
alike_parts : (same : Element → Element → Option Bool) (a b : Element) → known_alike same a b
    ≡ both (known_default same a b) (both (are_all_so (map (λ i. same (read a i) (read b i)) (indexes a)))
    (are_all_so (map (λ i. same (read a i) (read b i)) (indexes b))))
alike_parts same a b =
    let f = λ (i : Element). same (read a i) (read b i) in
    so_more (known_default same a b) (map f (indexes a ++ indexes b))
    ∙ ap (λ fs. both (known_default same a b) (are_all_so fs)) (map-append f (indexes a) (indexes b))
    ∙ ap (both (known_default same a b)) (so_both (map f (indexes a)) (map f (indexes b)))

pub alike_by_parts : (same : Element → Element → Option Bool) (a b : Element)
    (default first second written all : Option Bool)
    → default ≡ known_default same a b → first ≡ are_all_so (map (λ i. same (read a i) (read b i)) (indexes a))
    → second ≡ are_all_so (map (λ i. same (read a i) (read b i)) (indexes b)) → written ≡ both first second
    → all ≡ both default written → all ≡ known_alike same a b
alike_by_parts same a b default first second written all d f s w e =
    let here = are_all_so (map (λ i. same (read a i) (read b i)) (indexes a)) in
    e ∙ ap (λ o. both o written) d
    ∙ ap (both (known_default same a b)) (w ∙ ap (λ o. both o second) f ∙ ap (both here) s)
    ∙ sym (alike_parts same a b)

-- ---- neighbours

pub neighbours_more : (a : Element) (es : List Element)
    → are_all_so (neighbours_same (a ∷ es)) ≡ both (next_same a es) (are_all_so (neighbours_same es))
neighbours_more a [] = refl
neighbours_more a (b ∷ es) = so_more (next_same a (b ∷ es)) (neighbours_same (b ∷ es))

-- ---- arrays that are compared place by place

pub slow_at : (cells : List Cell) (place : ℕ) (v : Value) (b : Bool) → AreOlder 0 cells → place < length cells
    → IsHeld (length cells) v → element_in (followed [] cells) v ≡ default_of (array_at (followed [] cells) place)
    → b ≡ is_some (place_of_array v)
    → is_slow (array_at (followed [] cells) place) ≡ (b || are_named (indexes (array_at (followed [] cells) place)))
slow_at cells place v b h less hv e k =
    let x = array_at (followed [] cells) place in
    ap (λ c. c && (is_array (default_of x) || are_named (indexes x))) (at_place_array cells place h less)
    ∙ ap (λ c. c || are_named (indexes x)) (sym (ap is_array e) ∙ array_where cells v h hv ∙ sym k)

-- ---- vectors

pub highest : (width bits : ℕ) → bits ≡ width → bits ≤ 128
    → suc (340282366920938463463374607431768211455 / 2 ^ (128 - bits)) ≡ 2 ^ width
highest width bits same most =
    let left : 128 - (128 - bits) ≡ bits = omega arith in
    let e = ones_shr 128 (128 - bits) (omega arith) ∙ ap (λ n. 2 ^ n - 1) (left ∙ same) in
    let some : 0 < 2 ^ width = pow_pos width in
    ap suc e ∙ omega arith

pub vectors_step : (width n : ℕ) (js : List Element) (b : Bool) (v : BitVector) → v ≡ vector width (n % 2 ^ width)
    → n < 2 ^ width → b ≡ is_among (Plain (plain.Vector v)) js
    → has_vectors width (suc n) js ≡ (b && has_vectors width n js)
vectors_step width n js b v made below found =
    let same : n % 2 ^ width ≡ n = mod-eq_of_lt below in
    ap (λ c. c && has_vectors width n js)
    (ap (λ w. is_among (Plain (plain.Vector w)) js) (sym (made ∙ ap (vector width) same)) ∙ sym found)
