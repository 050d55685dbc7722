-- What values mean among arrays that grow, and values that are no arrays.
use Rattle.std.proofs.Common.{◌≡◌, ℕ, zero, suc, ◌+◌, ◌<◌, ◌≤◌, Bool, true, false, cond, List, [], ◌∷◌, ◌++◌}
use Rattle.std.proofs.Common.{length, slice_get, take, Option, Some, None, refl, ap, sym, ◌∙◌, subst, arith}
use Rattle.std.proofs.Common.{append_assoc, append-nil, length-append}
use Rattle.std.proofs.lemmas.List.Elements.{All-head, All-push, All-tail, All-take, All-weaker}
use Rattle.std.proofs.lemmas.Option.{slice_get_past}
use Rattle.std.specs.Prelude.{option_map, pos}
use Rattle.std.specs.Str.Parse.{digits_value}
use Rattle.smt_bits.specs.Literals.{known_constant}
use Rattle.smt_arrays.specs.Cells.{arrays_of, followed, made}
use Rattle.smt_arrays.specs.Element.{Element, Plain, Filled, Written, is_array, known_plain}
use Rattle.smt_arrays.specs.Tables.{AreHeld, Grows, IsBefore, IsHeld, IsHeldIfKnown, all_known_in, known_at_place}
use Rattle.smt_arrays.specs.Tables.{known_in, place_of_array}
use Rattle.smt_arrays.specs.declared.arrays.Cell.{Cell}
use Rattle.smt_arrays.specs.declared.arrays.Cell.TheVariants.{Filled as FilledCell, Written as WrittenCell}
use Rattle.smt_theory.specs.declared.literal.LiteralKind.{LiteralKind}
use Rattle.smt_theory.specs.declared.literal.LiteralKind.TheVariants.{Numeral, Decimal, Hexadecimal, Binary}
use Rattle.smt_ratios.specs.Known.{known_decimal}
use Rattle.smt_ratios.specs.Rational as rational
use Rattle.smt_values.specs.Element as plain
use Rattle.smt_values.specs.Element.{element_of, known_element}
use Rattle.smt_values.specs.ElementNumbers.{array_place}
use Rattle.smt_values.specs.Decimals.{decimal_digits, places}
use Rattle.smt_values.specs.KnownOperations.{known_truth, within}
use Rattle.smt_values.specs.Literals.{literal_element}
use Rattle.smt_values.specs.Numbers.{element_of_number}
use Rattle.smt_values.specs.declared.value.Value.{Value}
use Rattle.smt_values.specs.declared.value.Value.TheVariants.{Bool as BoolValue, Int as IntValue}
use Rattle.smt_values.specs.declared.value.Value.TheVariants.{Ratio as RatioValue, Bits as BitsValue}
use Rattle.smt_values.specs.declared.value.Value.TheVariants.{Abstract as AbstractValue}
use Rattle.smt_machine.specs.Internal.Held.{AreKeptHeld, IsNoArray}
use Rattle.smt_machine.specs.declared.kept.Kept.{Kept}

-- ---- arrays that grow

pub grows_not : (arrays : List Element) → Grows arrays arrays
grows_not arrays = ([], sym (append-nil arrays))

pub grows_on : (old middle new : List Element) → Grows old middle → Grows middle new → Grows old new
grows_on old middle new first second =
    (first.0 ++ second.0, second.1 ∙ ap (λ xs. xs ++ second.0) first.1 ∙ append_assoc old first.0 second.0)

pub grows_as : (old new : List Cell) → new ≡ old → Grows (arrays_of old) (arrays_of new)
grows_as old new same = ([], ap arrays_of same ∙ sym (append-nil (arrays_of old)))

longer : (old new : List Element) → Grows old new → length old ≤ length new
longer old new grown = let e = ap length grown.1 in omega (arith, e, length-append old grown.0)

-- there are as many arrays as cells
many : (arrays : List Element) (cells : List Cell) → length (followed arrays cells) ≡ length arrays + length cells
many arrays [] = omega arith
many arrays (cell ∷ cells) =
    let e = length-append arrays (made arrays cell ∷ []) in
    omega (arith, e, many (arrays ++ (made arrays cell ∷ [])) cells)

pub as_many : (cells : List Cell) → length (arrays_of cells) ≡ length cells
as_many cells = omega (arith, many [] cells)

get_within : {A : Type 0} (xs ys : List A) (i : ℕ) → i < length xs → slice_get (xs ++ ys) i ≡ slice_get xs i
get_within [] ys i h = absurd (omega arith)
get_within (x ∷ xs) ys zero h = refl
get_within (x ∷ xs) ys (suc i) h = get_within xs ys i (omega arith)

-- ---- values that are held

place_stays : (old more : List Element) (value : Value) (place : Option ℕ) → IsBefore (length old) place
    → known_at_place (old ++ more) value place ≡ known_at_place old value place
place_stays old more value (Some place) held = get_within old more place held
place_stays old more value None held = refl

-- a value that is held means the same among more arrays
pub known_stays : (old new : List Element) (value : Option Value) → Grows old new
    → IsHeldIfKnown (length old) value → known_in new value ≡ known_in old value
known_stays old new None grown held = refl
known_stays old new (Some value) grown held =
    ap (λ arrays. known_at_place arrays value (place_of_array value)) grown.1
    ∙ place_stays old grown.0 value (place_of_array value) held

pub all_stay : (old new : List Element) (values : List (Option Value)) → Grows old new
    → AreHeld (length old) values → all_known_in new values ≡ all_known_in old values
all_stay old new [] grown held = refl
all_stay old new (value ∷ values) grown held =
    let first = known_stays old new value grown (All-head (IsHeldIfKnown (length old)) value values held) in
    let rest = all_stay old new values grown (All-tail (IsHeldIfKnown (length old)) value values held) in cc

before_more : (old new : ℕ) (place : Option ℕ) → old ≤ new → IsBefore old place → IsBefore new place
before_more old new (Some place) more held = omega (arith, held)
before_more old new None more held = tt

pub held_more : (old new : List Element) (value : Option Value) → Grows old new
    → IsHeldIfKnown (length old) value → IsHeldIfKnown (length new) value
held_more old new None grown held = tt
held_more old new (Some value) grown held =
    before_more (length old) (length new) (place_of_array value) (longer old new grown) held

pub all_held_more : (old new : List Element) (values : List (Option Value)) → Grows old new
    → AreHeld (length old) values → AreHeld (length new) values
all_held_more old new values grown held = All-weaker (IsHeldIfKnown (length old)) (IsHeldIfKnown (length new))
    (λ value. held_more old new value grown) values held

-- values that stood at the front
pub front_held : (old new : List Element) (k : ℕ) (xs ys : List (Option Value)) → Grows old new
    → AreHeld (length old) xs → ys ≡ take k xs → AreHeld (length new) ys
front_held old new k xs ys grown held is = subst (λ (zs : List (Option Value)). AreHeld (length new) zs) (sym is)
    (all_held_more old new (take k xs) grown (All-take (IsHeldIfKnown (length old)) k xs held))

-- values to which one may have been added
pub pushed_held : (count : ℕ) (b : Bool) (xs : List (Option Value)) (x : Option Value)
    → AreHeld count xs → IsHeldIfKnown count x → AreHeld count (cond b (xs ++ (x ∷ [])) xs)
pushed_held count true xs x held one = All-push (IsHeldIfKnown count) xs x held one
pushed_held count false xs x held one = held

pub kept_more_held : (old new : List Element) (kept : Kept) → Grows old new
    → AreKeptHeld (length old) kept → AreKeptHeld (length new) kept
kept_more_held old new kept grown held number value is =
    held_more old new value grown (held number value is)

-- a value that is not held is open
pub unheld_open : (cells : List Cell) (value : Value) → (IsHeld (length cells) value → ⊥)
    → None ≡ known_in (arrays_of cells) (Some value)
unheld_open cells value unheld = by (place_of_array value) unheld
  where
    by : (place : Option ℕ) → (IsBefore (length cells) place → ⊥)
        → None ≡ known_at_place (arrays_of cells) value place
    by (Some place) h =
        sym (slice_get_past (arrays_of cells) place (let e = as_many cells in omega (arith, e, h)))
    by None h = absurd (h tt)

-- ---- values that are no arrays

pub no_array_known : (arrays : List Element) (value : Option Value) → IsNoArray value
    → known_in arrays value ≡ option_map Plain (known_element value)
no_array_known arrays None h = refl
no_array_known arrays (Some value) h = ap (known_at_place arrays value) h

pub no_array_held : (count : ℕ) (value : Option Value) → IsNoArray value → IsHeldIfKnown count value
no_array_held count None h = tt
no_array_held count (Some value) h = subst (IsBefore count) (sym h) tt

-- no name is known
abbrev IsNoName : Option plain.Element → Type 0
IsNoName (Some (plain.Abstract name)) = ⊥
IsNoName _ = Unit {0}

nameless : (value : Option Value) → IsNoName (known_element value) → IsNoArray value
nameless None h = tt
nameless (Some (BoolValue b)) h = refl
nameless (Some (IntValue z)) h = refl
nameless (Some (RatioValue r)) h = refl
nameless (Some (BitsValue v)) h = refl
nameless (Some (AbstractValue name)) h = absurd h

mapped : {A : Type 0} (f : A → plain.Element) (o : Option A) → ((a : A) → IsNoName (Some (f a)))
    → IsNoName (option_map f o)
mapped f None h = tt
mapped f (Some a) h = h a

number_nameless : (n : rational.Rational) → IsNoName (Some (element_of_number n))
number_nameless (rational.Integer z) = tt
number_nameless (rational.Fraction n d) = tt

literal_nameless : (kind : LiteralKind) (digits : List ℕ) → IsNoName (literal_element kind digits)
literal_nameless Numeral digits = mapped plain.Integer (within (pos (digits_value 10 digits))) (λ z. tt)
literal_nameless Decimal digits =
    mapped element_of_number (known_decimal (decimal_digits digits) (places digits)) number_nameless
literal_nameless Hexadecimal digits = mapped plain.Vector (known_constant 16 4 digits) (λ v. tt)
literal_nameless Binary digits = mapped plain.Vector (known_constant 2 1 digits) (λ v. tt)

pub literal_no_array : (value : Option Value) (kind : LiteralKind) (digits : List ℕ)
    → known_element value ≡ literal_element kind digits → IsNoArray value
literal_no_array value kind digits is = nameless value (subst IsNoName (sym is) (literal_nameless kind digits))

-- ---- an array is no truth value

abbrev AreArrays : List Element → Type 0
AreArrays [] = Unit {0}
AreArrays (e ∷ es) = (is_array e ≡ true) × AreArrays es

made_array : (arrays : List Element) (cell : Cell) → is_array (made arrays cell) ≡ true
made_array arrays (FilledCell element) = refl
made_array arrays (WrittenCell array index element) = refl

one_more : (arrays : List Element) (e : Element) → AreArrays arrays → is_array e ≡ true
    → AreArrays (arrays ++ (e ∷ []))
one_more [] e h is = (is, tt)
one_more (a ∷ arrays) e h is = (h.0, one_more arrays e h.1 is)

followed_arrays : (arrays : List Element) (cells : List Cell) → AreArrays arrays → AreArrays (followed arrays cells)
followed_arrays arrays [] h = h
followed_arrays arrays (cell ∷ cells) h = followed_arrays (arrays ++ (made arrays cell ∷ [])) cells
    (one_more arrays (made arrays cell) h (made_array arrays cell))

no_truth : (arrays : List Element) (place : ℕ) → AreArrays arrays
    → None ≡ known_truth (known_plain (slice_get arrays place))
no_truth [] place h = refl
no_truth (Plain e ∷ arrays) zero h = let is : false ≡ true = h.0 in cc
no_truth (Filled e ∷ arrays) zero h = refl
no_truth (Written a i e ∷ arrays) zero h = refl
no_truth (a ∷ arrays) (suc place) h = no_truth arrays place h.1

pub truth_known : (cells : List Cell) (value : Option Value)
    → known_truth (known_element value) ≡ known_truth (known_plain (known_in (arrays_of cells) value))
truth_known cells None = refl
truth_known cells (Some (BoolValue b)) = refl
truth_known cells (Some (IntValue z)) = refl
truth_known cells (Some (RatioValue r)) = refl
truth_known cells (Some (BitsValue v)) = refl
truth_known cells (Some (AbstractValue name)) = by (array_place name)
  where
    by : (place : Option ℕ)
        → None ≡ known_truth (known_plain (known_at_place (arrays_of cells) (AbstractValue name) place))
    by (Some place) = no_truth (arrays_of cells) place (followed_arrays [] cells tt)
    by None = refl
