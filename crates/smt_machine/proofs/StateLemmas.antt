-- The machine's stacks, and the lists that a contract sees of them.
use Rattle.std.proofs.Common.{◌≡◌, ℕ, zero, suc, ◌+◌, ◌-◌, ◌<◌, ◌≤◌, List, [], ◌∷◌, ◌++◌, length, take, drop}
use Rattle.std.proofs.Common.{get_or, slice_get, Option, None, refl, ap, sym, ◌∙◌, append_assoc, arith}
use Rattle.std.proofs.Common.{length-take-le, take-take, take_at, zero-add}
use Rattle.std.proofs.lemmas.List.{length-map, drop-map, map-append, take-map}
use Rattle.std.proofs.lemmas.Option.{slice_get-map, slice_get_read}
use Rattle.std.specs.Prelude.{option_map, unwrap_or}
use Rattle.smt_theory.specs.declared.op.Op.{Op}
use Rattle.smt_arrays.specs.Element.{Element}
use Rattle.smt_arrays.specs.Known.{known_step}
use Rattle.smt_arrays.specs.Tables.{AreHeld, Grows, all_known_in, known_in}
use Rattle.smt_values.specs.declared.value.Value.{Value}
use Rattle.smt_machine.proofs.HeldLemmas.{all_stay}
use Rattle.smt_machine.specs.Internal.States.{State, before_last, first_of, last_of}
use Rattle.smt_machine.specs.Nodes.{at_place}

pub states_same : (vs ws fs gs : List (Option Element)) (m n : ℕ) → vs ≡ ws → fs ≡ gs → m ≡ n
    → (let r : State = record { values = vs; frames = fs; base = m } in r)
    ≡ (let r : State = record { values = ws; frames = gs; base = n } in r)
states_same vs ws fs gs m n v f b = cc

-- ---- frames

slice_get-drop : {A : Type 0} (xs : List A) (n k : ℕ) → slice_get (drop n xs) k ≡ slice_get xs (n + k)
slice_get-drop xs zero k = ap (slice_get xs) (sym (zero-add k))
slice_get-drop [] (suc n) k = refl
slice_get-drop (x ∷ xs) (suc n) k =
    let e : suc n + k ≡ suc (n + k) = omega arith in
    slice_get-drop xs n k ∙ ap (slice_get (x ∷ xs)) (sym e)

frame_place : (arrays : List Element) (xs : List (Option Value)) (base place : ℕ)
    → at_place (drop base (all_known_in arrays xs)) place
    ≡ unwrap_or (option_map (known_in arrays) (slice_get xs (base + place))) None
frame_place arrays xs base place =
    ap (λ o. unwrap_or o None) (slice_get-drop (all_known_in arrays xs) base place
    ∙ slice_get-map (known_in arrays) xs (base + place))

pub place_within : (arrays : List Element) (xs : List (Option Value)) (base place : ℕ) (v : Option Value)
    → base + place < length xs → v ≡ get_or xs (base + place) v
    → known_in arrays v ≡ at_place (drop base (all_known_in arrays xs)) place
place_within arrays xs base place v within is = sym (frame_place arrays xs base place
    ∙ ap (λ o. unwrap_or (option_map (known_in arrays) o) None)
    (slice_get_read xs (length xs) (base + place) v refl within is))

-- ---- the last values

pub last_known : (arrays : List Element) (xs : List (Option Value)) (n k : ℕ) → k ≡ length xs - n
    → last_of n (all_known_in arrays xs) ≡ all_known_in arrays (drop k xs)
last_known arrays xs n k h =
    let e : length (all_known_in arrays xs) - n ≡ k = omega (arith, length-map xs (known_in arrays)) in
    ap (λ m. drop m (all_known_in arrays xs)) e ∙ drop-map (known_in arrays) k xs

pub before_known : (arrays : List Element) (xs : List (Option Value)) (n k : ℕ) → k ≡ length xs - n
    → before_last n (all_known_in arrays xs) ≡ all_known_in arrays (take k xs)
before_known arrays xs n k h =
    let e : length (all_known_in arrays xs) - n ≡ k = omega (arith, length-map xs (known_in arrays)) in
    ap (λ m. take m (all_known_in arrays xs)) e ∙ take-map (known_in arrays) k xs

first_known : (arrays : List Element) (xs : List (Option Value))
    → known_in arrays (first_of xs) ≡ first_of (all_known_in arrays xs)
first_known arrays [] = refl
first_known arrays (x ∷ xs) = refl

-- what is known of the last value
pub last_one : (arrays : List Element) (xs : List (Option Value))
    → known_in arrays (first_of (last_of 1 xs)) ≡ first_of (last_of 1 (all_known_in arrays xs))
last_one arrays xs = first_known arrays (last_of 1 xs)
    ∙ ap first_of (sym (last_known arrays xs 1 (length xs - 1) refl))

-- what stands before the last ones stays where these were changed in place
pub stays_before : {A : Type 0} (k n : ℕ) (xs ys zs : List A) → k ≤ length xs → k ≤ n
    → take k (take n ((take k xs ++ ys) ++ zs)) ≡ take k xs
stays_before k n xs ys zs below within =
    take-take k n _ within ∙ ap (take k) (append_assoc (take k xs) ys zs)
    ∙ take_at (take k xs) (ys ++ zs) k (length-take-le k xs below)

-- the last values give way to what an operator makes of them, and arrays may be added
pub operated : (old new : List Element) (op : Op) (xs : List (Option Value)) (n k : ℕ) (v : Option Value)
    → Grows old new → AreHeld (length old) (take k xs) → k ≡ length xs - n
    → known_in new v ≡ known_step op (all_known_in old (drop k xs))
    → all_known_in new (take k xs ++ v ∷ [])
    ≡ before_last n (all_known_in old xs) ++ known_step op (last_of n (all_known_in old xs)) ∷ []
operated old new op xs n k v grown held h is =
    map-append (known_in new) (take k xs) (v ∷ [])
    ∙ ap (λ ys. ys ++ known_in new v ∷ []) (all_stay old new (take k xs) grown held
    ∙ sym (before_known old xs n k h))
    ∙ ap (λ w. before_last n (all_known_in old xs) ++ w ∷ [])
    (is ∙ ap (known_step op) (sym (last_known old xs n k h)))

pub moved : (arrays : List Element) (frames xs : List (Option Value)) (n k : ℕ) → k ≡ length xs - n
    → all_known_in arrays (frames ++ drop k xs) ≡ all_known_in arrays frames ++ last_of n (all_known_in arrays xs)
moved arrays frames xs n k h =
    map-append (known_in arrays) frames (drop k xs)
    ∙ ap (λ ys. all_known_in arrays frames ++ ys) (sym (last_known arrays xs n k h))
