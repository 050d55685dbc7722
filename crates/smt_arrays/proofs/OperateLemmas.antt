-- What operators give, as values among arrays.
use Rattle.std.proofs.Common.{◌≡◌, ◌⊎◌, inl, inr, ◌<◌, ◌+◌, ℕ, zero, suc, Bool, true, false, cond, not}
use Rattle.std.proofs.Common.{List, [], ◌∷◌, ◌++◌, Option, Some, None, length, get_or, is_some, map, min, option_map}
use Rattle.std.proofs.Common.{slice_get}
use Rattle.std.proofs.Common.{refl, sym, ap, ◌∙◌, subst, arith, eqb-true}
use Rattle.std.proofs.lemmas.List.Sums.{sum_by-cons}
use Rattle.std.proofs.lemmas.Option.{slice_get-get_or}
use Rattle.std.proofs.lemmas.List.{map-append}
use Rattle.std.specs.List.{list_all, list_any, sum}
use Rattle.std.specs.Bool.{◌==◌}
use Rattle.std.specs.Option.{IfSome, option_and_then}
use Rattle.smt_theory.specs.declared.op.ArraysOp.{ArraysOp}
use Rattle.smt_theory.specs.declared.op.CoreOp.{CoreOp}
use Rattle.smt_theory.specs.declared.op.CoreOp.TheVariants.{True, False, Not, Implies, And, Or, Xor, Equal, Distinct}
use Rattle.smt_theory.specs.declared.op.CoreOp.TheVariants.{Ite}
use Rattle.smt_theory.specs.declared.op.Op.{Op}
use Rattle.smt_theory.specs.declared.op.Op.TheVariants.{Core, Ints, Reals, Bits, Arrays}
use Rattle.smt_values.specs.Element.{known_element, known_elements}
use Rattle.smt_values.specs.KnownOperations as plain_known
use Rattle.smt_values.specs.Lists.{all_known}
use Rattle.smt_values.specs.declared.value.Value.{Value}
use Rattle.smt_values.specs.declared.value.Value.TheVariants.{Bool as BoolValue}
use Rattle.smt_arrays.specs.Element.{Element}
use Rattle.smt_arrays.specs.Cells.{followed, made}
use Rattle.smt_arrays.specs.Internal.{IsKnownIn, elements_in, is_array_value, size_up_to_limit, sizes_of, takes_values}
use Rattle.smt_arrays.specs.Internal.{value_or}
use Rattle.smt_arrays.specs.Known.{are_all_so, is_too_much, known_arrays, known_distinct, known_equal, known_step}
use Rattle.smt_arrays.specs.Known.{neighbours_same}
use Rattle.smt_arrays.specs.Known.{pairs_different, size}
use Rattle.smt_arrays.specs.Operations.{truth}
use Rattle.smt_arrays.specs.Tables.{AreHeld, IsAdded, IsAddedIfKnown, IsBefore, IsHeld, IsHeldIfKnown, all_known_in}
use Rattle.smt_arrays.specs.Tables.{at_place, element_in, known_at_place, known_in, place_of_array}
use Rattle.smt_arrays.specs.declared.arrays.Cell.{Cell}
use Rattle.smt_arrays.proofs.CellLemmas.{as_many, nothing_after, one_array_more}
use Rattle.smt_arrays.proofs.LiftLemmas.{none_held, value_held, value_step}

-- there are as many arrays as cells
pub count : (cells : List Cell) → length (followed [] cells) ≡ length cells
count cells = let n = as_many [] cells in omega (arith, n)

pub held_among : (cells : List Cell) (v : Option Value) → IsHeldIfKnown (length cells) v
    → IsHeldIfKnown (length (followed [] cells)) v
held_among cells v h = subst (λ n. IsHeldIfKnown n v) (sym (count cells)) h

-- ---- a value that is held

pub known_of_held : (arrays : List Element) (v : Option Value) → IsHeldIfKnown (length arrays) v
    → known_in arrays v ≡ option_map (element_in arrays) v
known_of_held arrays None h = refl
known_of_held arrays (Some v) h = by (place_of_array v) h
  where
    by : (o : Option ℕ) → IsBefore (length arrays) o → known_at_place arrays v o ≡ Some (at_place arrays v o)
    by (Some place) less = slice_get-get_or arrays place (truth false) less
    by None less = refl

pub all_known_elements : (cells : List Cell) (args : List (Option Value)) → AreHeld (length cells) args
    → list_all is_some args ≡ true
    → all_known (all_known_in (followed [] cells) args) ≡ Some (elements_in (followed [] cells) args)
all_known_elements cells [] h e = refl
all_known_elements cells (None ∷ args) h e = cc
all_known_elements cells (Some v ∷ args) h e =
    let arrays = followed [] cells in
    ap (λ k. all_known (k ∷ all_known_in arrays args))
    (known_of_held arrays (Some v) (held_among cells (Some v) (h 0 None (omega arith))))
    ∙ ap (option_map (λ es. element_in arrays v ∷ es))
    (all_known_elements cells args (λ i d below. h (suc i) d (omega (arith, below))) e)

pub all_known_open : (arrays : List Element) (args : List (Option Value)) → list_all is_some args ≡ false
    → all_known (all_known_in arrays args) ≡ None
all_known_open arrays [] e = cc
all_known_open arrays (None ∷ args) e = refl
all_known_open arrays (Some v ∷ args) e = by (known_in arrays (Some v)) (all_known_open arrays args e)
  where
    by : (k : Option Element) → all_known (all_known_in arrays args) ≡ None → all_known (k ∷ all_known_in arrays args)
        ≡ None
    by None h = refl
    by (Some x) h = ap (option_map (λ es. x ∷ es)) h

-- ---- results

pub open_known : (arrays : List Element) (k : Option Element) → k ≡ None → IsKnownIn arrays arrays k None
open_known arrays k e = (sym e, tt, ([], nothing_after arrays))

pub selected_known : (cells : List Cell) (k : Option Element) (v : Option Value)
    → option_map (element_in (followed [] cells)) v ≡ k → IfSome v (λ e. IsHeld (length cells) e)
    → IsKnownIn (followed [] cells) (followed [] cells) k v
selected_known cells k v e held =
    let h = held_among cells v (by v held) in
    (known_of_held (followed [] cells) v h ∙ e, h, ([], nothing_after (followed [] cells)))
  where
    by : (v : Option Value) → IfSome v (λ e. IsHeld (length cells) e) → IsHeldIfKnown (length cells) v
    by None h = tt
    by (Some value) h = h

after_all : (xs : List Element) (y : Element) → slice_get (xs ++ (y ∷ [])) (length xs) ≡ Some y
after_all [] y = refl
after_all (x ∷ xs) y = after_all xs y

one_longer : (xs : List Element) (y : Element) → length xs < length (xs ++ (y ∷ []))
one_longer [] y = omega arith
one_longer (x ∷ xs) y = let e = one_longer xs y in omega (arith, e)

pub added_known : (old new : List Element) (a : Element) (v : Value) → IsAdded old new a v
    → IsKnownIn old new (Some a) (Some v)
added_known old new a v h = (
  ap (known_at_place new v) h.1 ∙ ap (λ xs. slice_get xs (length old)) h.0 ∙ after_all old a,
  subst (IsBefore (length new)) (sym h.1)
      (subst (λ xs. length old < length xs) (sym h.0) (one_longer old a)),
  (a ∷ [], h.0),
)

pub added_if_known : (old new : List Element) (k : Option Element) (v : Option Value) → IsAddedIfKnown old new k v
    → IsKnownIn old new k v
added_if_known old new None None h = (refl, tt, ([], h ∙ nothing_after old))
added_if_known old new (Some a) (Some v) h = added_known old new a v h
added_if_known old new None (Some v) h = absurd h
added_if_known old new (Some a) None h = absurd h

pub truth_known : (arrays : List Element) (o : Option Bool) (k : Option Element) → k ≡ option_map truth o
    → IsKnownIn arrays arrays k (option_map BoolValue o)
truth_known arrays None k e = (sym e, tt, ([], nothing_after arrays))
truth_known arrays (Some b) k e = (sym e, tt, ([], nothing_after arrays))

pub value_known : (cells : List Cell) (without : Bool) (op : Op) (args : List (Option Value)) (result : Option Value)
    → AreHeld (length cells) args
    → (without ≡ true → list_any is_array_value args ≡ false) → takes_values without op ≡ true
    → known_element result ≡ plain_known.known_step op (known_elements args)
    → IsKnownIn (followed [] cells) (followed [] cells) (known_step op (all_known_in (followed [] cells) args)) result
value_known cells without op args result held none e h = (
  value_step cells without op args result none e h,
  held_among cells result (value_held (length cells) without op args result held e h),
  ([], nothing_after (followed [] cells)),
)

-- ---- as many arguments as there are

pub exactly_one : (xs : List (Option Value)) (a : Option Value) → length xs ≡ 1 → a ≡ get_or xs 0 a → xs ≡ a ∷ []
exactly_one [] a few ea = absurd (omega (arith, few))
exactly_one (x ∷ []) a few ea = cc
exactly_one (x ∷ y ∷ xs) a few ea = absurd (omega (arith, few))

pub exactly_two : (xs : List (Option Value)) (a b : Option Value) → length xs ≡ 2 → a ≡ get_or xs 0 a → b
    ≡ get_or xs 1 b
    → xs ≡ a ∷ b ∷ []
exactly_two [] a b few ea eb = absurd (omega (arith, few))
exactly_two (x ∷ []) a b few ea eb = absurd (omega (arith, few))
exactly_two (x ∷ y ∷ []) a b few ea eb = cc
exactly_two (x ∷ y ∷ z ∷ xs) a b few ea eb = absurd (omega (arith, few))

pub exactly_three : (xs : List (Option Value)) (a b c : Option Value) → length xs ≡ 3 → a ≡ get_or xs 0 a
    → b ≡ get_or xs 1 b → c ≡ get_or xs 2 c → xs ≡ a ∷ b ∷ c ∷ []
exactly_three [] a b c few ea eb ec = absurd (omega (arith, few))
exactly_three (x ∷ []) a b c few ea eb ec = absurd (omega (arith, few))
exactly_three (x ∷ y ∷ []) a b c few ea eb ec = absurd (omega (arith, few))
exactly_three (x ∷ y ∷ z ∷ []) a b c few ea eb ec = cc
exactly_three (x ∷ y ∷ z ∷ w ∷ xs) a b c few ea eb ec = absurd (omega (arith, few))

-- ---- `=` and `distinct`

-- of arguments that are all known
pub step_of_all : (cells : List Cell) (f : List Element → Option Element) (args : List (Option Value))
    → AreHeld (length cells) args → list_all is_some args ≡ true
    → option_and_then f (all_known (all_known_in (followed [] cells) args)) ≡ f (elements_in (followed [] cells) args)
step_of_all cells f args held e = ap (option_and_then f) (all_known_elements cells args held e)

-- of arguments of which one is open
pub step_of_open : (arrays : List Element) (f : List Element → Option Element) (args : List (Option Value))
    → list_all is_some args ≡ false → option_and_then f (all_known (all_known_in arrays args)) ≡ None
step_of_open arrays f args e = ap (option_and_then f) (all_known_open arrays args e)

pub compares : (without : Bool) (op : CoreOp) → takes_values without (Core op) ≡ false → (op ≡ Equal) ⊎ (op ≡ Distinct)
compares without Equal e = inl refl
compares without Distinct e = inr refl
compares without True e = cc
compares without False e = cc
compares without Not e = cc
compares without Implies e = cc
compares without And e = cc
compares without Or e = cc
compares without Xor e = cc
compares without Ite e = cc

-- where an argument is open, or too much is written
pub compared_open : (cells : List Cell) (without : Bool) (op : CoreOp) (args : List (Option Value))
    → takes_values without (Core op) ≡ false → list_all is_some args ≡ false
    → known_step (Core op) (all_known_in (followed [] cells) args) ≡ None
compared_open cells without op args e some =
    elim (compares without op e) [
      | inl is ↦ ap (λ o. known_step (Core o) (all_known_in (followed [] cells) args)) is
          ∙ step_of_open (followed [] cells) known_equal args some
      | inr is ↦ ap (λ o. known_step (Core o) (all_known_in (followed [] cells) args)) is
          ∙ step_of_open (followed [] cells) known_distinct args some
    ]

pub compared_long : (cells : List Cell) (without : Bool) (op : CoreOp) (args : List (Option Value))
    → takes_values without (Core op) ≡ false → AreHeld (length cells) args → list_all is_some args ≡ true
    → is_too_much (elements_in (followed [] cells) args) ≡ true
    → known_step (Core op) (all_known_in (followed [] cells) args) ≡ None
compared_long cells without op args e held all much =
    let es = elements_in (followed [] cells) args in
    elim (compares without op e) [
      | inl is ↦ ap (λ o. known_step (Core o) (all_known_in (followed [] cells) args)) is
          ∙ step_of_all cells known_equal args held all
          ∙ ap (λ b. cond b None (option_map truth (are_all_so (neighbours_same es)))) much
      | inr is ↦ ap (λ o. known_step (Core o) (all_known_in (followed [] cells) args)) is
          ∙ step_of_all cells known_distinct args held all
          ∙ ap (λ b. cond b None (option_map truth (are_all_so (pairs_different es)))) much
    ]

pub equal_known : (cells : List Cell) (op : CoreOp) (args : List (Option Value)) (found : Option Bool) → op ≡ Equal
    → AreHeld (length cells) args → list_all is_some args ≡ true
    → is_too_much (elements_in (followed [] cells) args) ≡ false
    → found ≡ are_all_so (neighbours_same (elements_in (followed [] cells) args))
    → known_step (Core op) (all_known_in (followed [] cells) args) ≡ option_map truth found
equal_known cells op args found is held all much e =
    let es = elements_in (followed [] cells) args in
    ap (λ o. known_step (Core o) (all_known_in (followed [] cells) args)) is
    ∙ step_of_all cells known_equal args held all
    ∙ ap (λ b. cond b None (option_map truth (are_all_so (neighbours_same es)))) much
    ∙ ap (option_map truth) (sym e)

pub distinct_known : (cells : List Cell) (without : Bool) (op : CoreOp) (args : List (Option Value))
    (found : Option Bool)
    → takes_values without (Core op) ≡ false → (op ≡ Equal → ⊥)
    → AreHeld (length cells) args → list_all is_some args ≡ true
    → is_too_much (elements_in (followed [] cells) args) ≡ false
    → found ≡ are_all_so (pairs_different (elements_in (followed [] cells) args))
    → known_step (Core op) (all_known_in (followed [] cells) args) ≡ option_map truth found
distinct_known cells without op args found e other held all much same =
    let es = elements_in (followed [] cells) args in
    elim (compares without op e) [
      | inl is ↦ absurd (other is)
      | inr is ↦ ap (λ o. known_step (Core o) (all_known_in (followed [] cells) args)) is
          ∙ step_of_all cells known_distinct args held all
          ∙ ap (λ b. cond b None (option_map truth (are_all_so (pairs_different es)))) much
          ∙ ap (option_map truth) (sym same)
    ]

pub takes_values_else : (without : Bool) (op : Op) → ((o : ArraysOp) → op ≡ Arrays o → ⊥) →
    ((o : CoreOp) → op ≡ Core o → ⊥)
    → takes_values without op ≡ true
takes_values_else without (Arrays o) h k = absurd (h o refl)
takes_values_else without (Core o) h k = absurd (k o refl)
takes_values_else without (Ints o) h k = refl
takes_values_else without (Reals o) h k = refl
takes_values_else without (Bits o) h k = refl

-- ---- sizes

pub one_size_more : (cells : List Cell) (c : Cell) (sizes : List ℕ) (size : ℕ) → sizes ≡ sizes_of (followed [] cells)
    → size ≡ size_up_to_limit (made (followed [] cells) c)
    → sizes ++ (size ∷ []) ≡ sizes_of (followed [] (cells ++ (c ∷ [])))
one_size_more cells c sizes size e k =
    ap (λ xs. xs ++ (size ∷ [])) e ∙ ap (λ n. sizes_of (followed [] cells) ++ (n ∷ [])) k
    ∙ sym (ap sizes_of (one_array_more [] cells c)
    ∙ map-append size_up_to_limit (followed [] cells) (made (followed [] cells) c ∷ []))

pub total_more : (total n rest s : ℕ) → min s 257 ≡ n → min (min (total + n) 257 + rest) 257 ≡ min
    (total + (s + rest)) 257
total_more total n rest s e = omega (arith, e)

pub sizes_more : (arrays : List Element) (xs rest : List (Option Value)) (x : Option Value) → xs ≡ x ∷ rest
    → sum (map size (elements_in arrays xs)) ≡ size (element_in arrays (value_or x)) + sum
    (map size (elements_in arrays rest))
sizes_more arrays xs rest x e =
    ap (λ xs. sum (map size (elements_in arrays xs))) e
    ∙ sum_by-cons (λ n. n) (size (element_in arrays (value_or x))) (map size (elements_in arrays rest))

pub none_left : (arrays : List Element) (xs : List (Option Value)) → length xs ≡ 0
    → sum (map size (elements_in arrays xs)) ≡ 0
none_left arrays [] e = refl
none_left arrays (x ∷ xs) e = absurd (omega (arith, e))

-- ---- operators on arrays

pub made_step : (cells : List Cell) (op made : ArraysOp) (args : List (Option Value)) → op ≡ made
    → AreHeld (length cells) args → list_all is_some args ≡ true
    → option_and_then (known_arrays op) (all_known (all_known_in (followed [] cells) args))
    ≡ known_arrays made (elements_in (followed [] cells) args)
made_step cells op made args is held all =
    step_of_all cells (known_arrays op) args held all
    ∙ ap (λ o. known_arrays o (elements_in (followed [] cells) args)) is

pub held_result : (cells : List Cell) (old : List Element) (k : Option Element) (v : Option Value)
    → IsKnownIn old (followed [] cells) k v → IsHeldIfKnown (length cells) v
held_result cells old k v h = subst (λ n. IsHeldIfKnown n v) (count cells) h.1

pub empty_held : (n : ℕ) (b : Bool) (args : List (Option Value)) → b ≡ (n == 0) → AreHeld n args → b ≡ true
    → list_any is_array_value args ≡ false
empty_held zero b args e held t = none_held args held
empty_held (suc n) b args e held t = absurd (omega (arith, eqb-true (suc n) 0 (sym e ∙ t)))

pub not_so : (b c : Bool) → b ≡ c → not b ≡ true → c ≡ false
not_so true c e h = cc
not_so false c e h = sym e
