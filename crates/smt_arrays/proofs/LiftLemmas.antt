-- Values that may be open, among arrays: what is known of them, and of an operator's result.
use Rattle.std.proofs.Common.{◌≡◌, ℕ, zero, suc, Bool, true, false, cond, ◌||◌, List, [], ◌∷◌, ◌++◌, Option, Some, None}
use Rattle.std.proofs.Common.{slice_get, is_some, map, option_map, refl, sym, ap, ◌∙◌, subst, arith}
use Rattle.std.specs.List.{list_any}
use Rattle.std.specs.Option.{option_and_then}
use Rattle.smt_theory.specs.declared.op.CoreOp.TheVariants.{True, False, Not, Implies, And, Or, Xor, Equal, Distinct}
use Rattle.smt_theory.specs.declared.op.CoreOp.TheVariants.{Ite}
use Rattle.smt_theory.specs.declared.op.Op.{Op}
use Rattle.smt_theory.specs.declared.op.Op.TheVariants.{Core, Ints, Reals, Bits, Arrays}
use Rattle.smt_values.specs.Element as plain
use Rattle.smt_values.specs.Element.{element_of, known_element, known_elements}
use Rattle.smt_values.specs.ElementNumbers.{array_place}
use Rattle.smt_values.specs.KnownOperations as plain_known
use Rattle.smt_values.specs.Lists.{all_known, are_chained, are_distinct}
use Rattle.smt_values.specs.Operations as plain_operations
use Rattle.smt_values.specs.declared.value.Value.{Value}
use Rattle.smt_values.specs.declared.value.Value.TheVariants.{Bool as BoolValue, Int as IntValue, Ratio as RatioValue}
use Rattle.smt_values.specs.declared.value.Value.TheVariants.{Bits as BitsValue, Abstract as AbstractValue}
use Rattle.smt_arrays.specs.Element.{Element, Plain, known_plain}
use Rattle.smt_arrays.specs.Cells.{followed, made}
use Rattle.smt_arrays.specs.Internal.{is_array_value, takes_values, unless_array}
use Rattle.smt_arrays.specs.Known.{known_choice, known_distinct, known_equal, known_step}
use Rattle.smt_arrays.proofs.PlainSameLemmas.{distinct_plain, equal_plain}
use Rattle.smt_arrays.specs.Tables.{AreHeld, IsBefore, IsHeldIfKnown, all_known_in, known_at_place, known_in}
use Rattle.smt_arrays.specs.Tables.{place_of_array}
use Rattle.smt_arrays.specs.declared.arrays.Cell.{Cell}
use Rattle.smt_arrays.specs.declared.arrays.Cell.TheVariants.{Filled as FilledCell, Written as WrittenCell}
use Rattle.smt_arrays.proofs.PlainLemmas.{IsBlind, IsNoName, and_blind, bits_blind, false_blind, implies_blind}
use Rattle.smt_arrays.proofs.PlainLemmas.{ints_blind}
use Rattle.smt_arrays.proofs.PlainLemmas.{not_blind, or_blind, reals_blind, true_blind, unseen, xor_blind}

-- ---- what a value says, by its element

abbrev pub place_of_element : plain.Element → Option ℕ
place_of_element (plain.Abstract name) = array_place name
place_of_element _ = None

abbrev pub lifted_at : List Element → plain.Element → Option ℕ → Option Element
lifted_at arrays e (Some place) = slice_get arrays place
lifted_at arrays e None = Some (Plain e)

abbrev pub lifted : List Element → Option plain.Element → Option Element
lifted arrays None = None
lifted arrays (Some e) = lifted_at arrays e (place_of_element e)

pub known_lifted : (arrays : List Element) (v : Option Value) → known_in arrays v ≡ lifted arrays (known_element v)
known_lifted arrays None = refl
known_lifted arrays (Some (BoolValue b)) = refl
known_lifted arrays (Some (IntValue z)) = refl
known_lifted arrays (Some (RatioValue r)) = refl
known_lifted arrays (Some (BitsValue b)) = refl
known_lifted arrays (Some (AbstractValue name)) = by (array_place name)
  where
    by : (o : Option ℕ) → known_at_place arrays (AbstractValue name) o ≡ lifted_at arrays (plain.Abstract name) o
    by (Some place) = refl
    by None = refl

pub all_lifted : (arrays : List Element) (vs : List (Option Value))
    → all_known_in arrays vs ≡ map (lifted arrays) (known_elements vs)
all_lifted arrays [] = refl
all_lifted arrays (v ∷ vs) =
    ap (λ k. k ∷ all_known_in arrays vs) (known_lifted arrays v)
    ∙ ap (λ ks. lifted arrays (known_element v) ∷ ks) (all_lifted arrays vs)

-- ---- all arrays are arrays

abbrev pub AreArrays : List Element → Type 0
AreArrays arrays = (place : ℕ) → known_plain (slice_get arrays place) ≡ None

made_array : (arrays : List Element) (c : Cell) → known_plain (Some (made arrays c)) ≡ None
made_array arrays (FilledCell e) = refl
made_array arrays (WrittenCell a i e) = refl

one_more_array : (xs : List Element) (y : Element) → AreArrays xs → known_plain (Some y) ≡ None → AreArrays
    (xs ++ (y ∷ []))
one_more_array [] y h k zero = k
one_more_array [] y h k (suc place) = refl
one_more_array (x ∷ xs) y h k zero = h zero
one_more_array (x ∷ xs) y h k (suc place) = one_more_array xs y (λ p. h (suc p)) k place

followed_arrays : (arrays : List Element) (cells : List Cell) → AreArrays arrays → AreArrays (followed arrays cells)
followed_arrays arrays [] h = h
followed_arrays arrays (c ∷ cs) h =
    followed_arrays (arrays ++ (made arrays c ∷ [])) cs (one_more_array arrays (made arrays c) h (made_array arrays c))

pub are_arrays : (cells : List Cell) → AreArrays (followed [] cells)
are_arrays cells = followed_arrays [] cells (λ place. refl)

-- what is plain of what is known is what is known, unless it is an array
pub plain_of_lifted : (arrays : List Element) → AreArrays arrays → (k : Option plain.Element)
    → known_plain (lifted arrays k) ≡ unless_array k
plain_of_lifted arrays h None = refl
plain_of_lifted arrays h (Some (plain.Truth b)) = refl
plain_of_lifted arrays h (Some (plain.Integer z)) = refl
plain_of_lifted arrays h (Some (plain.Fraction n d)) = refl
plain_of_lifted arrays h (Some (plain.Vector v)) = refl
plain_of_lifted arrays h (Some (plain.Abstract name)) = by (array_place name)
  where
    by : (o : Option ℕ) → known_plain (lifted_at arrays (plain.Abstract name) o)
        ≡ cond (is_some o) None (Some (plain.Abstract name))
    by (Some place) = h place
    by None = refl

all_plain : (arrays : List Element) → AreArrays arrays → (ks : List (Option plain.Element))
    → map known_plain (map (lifted arrays) ks) ≡ map unless_array ks
all_plain arrays h [] = refl
all_plain arrays h (k ∷ ks) =
    ap (λ x. x ∷ map known_plain (map (lifted arrays) ks)) (plain_of_lifted arrays h k)
    ∙ ap (λ xs. unless_array k ∷ xs) (all_plain arrays h ks)

lifted_unnamed : (arrays : List Element) (k : Option plain.Element) → IsNoName k → lifted arrays k ≡ option_map Plain k
lifted_unnamed arrays None h = refl
lifted_unnamed arrays (Some (plain.Truth b)) h = refl
lifted_unnamed arrays (Some (plain.Integer z)) h = refl
lifted_unnamed arrays (Some (plain.Fraction n d)) h = refl
lifted_unnamed arrays (Some (plain.Vector v)) h = refl
lifted_unnamed arrays (Some (plain.Abstract name)) h = absurd h

-- ---- operators that take no array

blind_step : (arrays : List Element) → AreArrays arrays → (op : Op) → IsBlind op → (ks : List (Option plain.Element))
    → lifted arrays (plain_known.known_step op ks)
    ≡ option_map Plain (plain_known.known_step op (map known_plain (map (lifted arrays) ks)))
blind_step arrays h op blind ks =
    lifted_unnamed arrays (plain_known.known_step op ks) (blind ks).1
    ∙ ap (option_map Plain) (sym (blind ks).0 ∙ ap (plain_known.known_step op) (sym (all_plain arrays h ks)))

-- the branch that is chosen
chosen_lifted : (arrays : List Element) (a b : Option plain.Element) (o : Option Bool)
    → lifted arrays (option_and_then (λ t. cond t a b) o) ≡ option_and_then
    (λ t. cond t (lifted arrays a) (lifted arrays b)) o
chosen_lifted arrays a b None = refl
chosen_lifted arrays a b (Some true) = refl
chosen_lifted arrays a b (Some false) = refl

choice_lifted : (arrays : List Element) → AreArrays arrays → (ks : List (Option plain.Element))
    → lifted arrays (plain_known.known_choice ks) ≡ known_choice (map (lifted arrays) ks)
choice_lifted arrays h [] = refl
choice_lifted arrays h (c ∷ []) = refl
choice_lifted arrays h (c ∷ a ∷ []) = refl
choice_lifted arrays h (c ∷ a ∷ b ∷ d ∷ ks) = refl
choice_lifted arrays h (c ∷ a ∷ b ∷ []) =
    chosen_lifted arrays a b (plain_known.known_truth c)
    ∙ sym (ap (option_and_then (λ t. cond t (lifted arrays a) (lifted arrays b)))
    (ap plain_known.known_truth (plain_of_lifted arrays h c) ∙ unseen plain_known.known_truth (λ name. refl) c))

-- ---- no argument is an array

all_known_plain : (ks : List (Option plain.Element))
    → all_known (map (option_map Plain) ks) ≡ option_map (map Plain) (all_known ks)
all_known_plain [] = refl
all_known_plain (None ∷ ks) = refl
all_known_plain (Some e ∷ ks) =
    ap (option_map (λ ys. Plain e ∷ ys)) (all_known_plain ks) ∙ by (all_known ks)
  where
    by : (o : Option (List plain.Element)) → option_map (λ ys. Plain e ∷ ys) (option_map (map Plain) o)
        ≡ option_map (map Plain) (option_map (λ ys. e ∷ ys) o)
    by None = refl
    by (Some es) = refl

-- what is known of plain elements is what the crate below knows
plain_arguments : (arrays : List Element) (f : List Element → Option Element) (g : List plain.Element → Bool)
    → ((es : List plain.Element) → f (map Plain es) ≡ Some (Plain (plain.Truth (g es))))
    → (ks : List (Option plain.Element)) → map (lifted arrays) ks ≡ map (option_map Plain) ks
    → lifted arrays (option_map (λ es. plain.Truth (g es)) (all_known ks))
    ≡ option_and_then f (all_known (map (lifted arrays) ks))
plain_arguments arrays f g same ks e =
    by (all_known ks) ∙ ap (option_and_then f) (sym (ap all_known e ∙ all_known_plain ks))
  where
    by : (o : Option (List plain.Element)) → lifted arrays (option_map (λ es. plain.Truth (g es)) o)
        ≡ option_and_then f (option_map (map Plain) o)
    by None = refl
    by (Some es) = sym (same es)

-- ---- operators on values alone

module _ (arrays : List Element) (h : AreArrays arrays) (without : Bool) (ks : List (Option plain.Element))
    (none : without ≡ true → map (lifted arrays) ks ≡ map (option_map Plain) ks) where
  lifted_step : (op : Op) → takes_values without op ≡ true
      → lifted arrays (plain_known.known_step op ks) ≡ known_step op (map (lifted arrays) ks)
  lifted_step (Arrays op) e = cc
  lifted_step (Core Equal) e =
      plain_arguments arrays known_equal (are_chained plain_operations.is_same) equal_plain ks (none e)
  lifted_step (Core Distinct) e =
      plain_arguments arrays known_distinct (are_distinct plain_operations.is_same) distinct_plain ks (none e)
  lifted_step (Core Ite) e = choice_lifted arrays h ks
  lifted_step (Core True) e = blind_step arrays h (Core True) true_blind ks
  lifted_step (Core False) e = blind_step arrays h (Core False) false_blind ks
  lifted_step (Core Not) e = blind_step arrays h (Core Not) not_blind ks
  lifted_step (Core Implies) e = blind_step arrays h (Core Implies) implies_blind ks
  lifted_step (Core And) e = blind_step arrays h (Core And) and_blind ks
  lifted_step (Core Or) e = blind_step arrays h (Core Or) or_blind ks
  lifted_step (Core Xor) e = blind_step arrays h (Core Xor) xor_blind ks
  lifted_step (Ints op) e = blind_step arrays h (Ints op) (ints_blind op) ks
  lifted_step (Reals op) e = blind_step arrays h (Reals op) (reals_blind op) ks
  lifted_step (Bits op) e = blind_step arrays h (Bits op) (bits_blind op) ks

-- an argument that is no array
no_array_lifted : (arrays : List Element) (v : Option Value) → is_array_value v ≡ false
    → lifted arrays (known_element v) ≡ option_map Plain (known_element v)
no_array_lifted arrays None e = refl
no_array_lifted arrays (Some (BoolValue b)) e = refl
no_array_lifted arrays (Some (IntValue z)) e = refl
no_array_lifted arrays (Some (RatioValue r)) e = refl
no_array_lifted arrays (Some (BitsValue b)) e = refl
no_array_lifted arrays (Some (AbstractValue name)) e = by (array_place name) e
  where
    by : (o : Option ℕ) → is_some o ≡ false
        → lifted_at arrays (plain.Abstract name) o ≡ Some (Plain (plain.Abstract name))
    by (Some place) e = cc
    by None e = refl

neither : (a b : Bool) → (a || b) ≡ false → (a ≡ false) × (b ≡ false)
neither true b e = cc
neither false b e = (refl, e)

no_arrays_lifted : (arrays : List Element) (vs : List (Option Value)) → list_any is_array_value vs ≡ false
    → map (lifted arrays) (known_elements vs) ≡ map (option_map Plain) (known_elements vs)
no_arrays_lifted arrays [] e = refl
no_arrays_lifted arrays (v ∷ vs) e =
    let parts = neither (is_array_value v) (list_any is_array_value vs) e in
    ap (λ x. x ∷ map (lifted arrays) (known_elements vs)) (no_array_lifted arrays v parts.0)
    ∙ ap (λ xs. option_map Plain (known_element v) ∷ xs) (no_arrays_lifted arrays vs parts.1)

-- what the crate below knows of such an operator's result is what is known of it
pub value_step : (cells : List Cell) (without : Bool) (op : Op) (args : List (Option Value)) (result : Option Value)
    → (without ≡ true → list_any is_array_value args ≡ false) → takes_values without op ≡ true
    → known_element result ≡ plain_known.known_step op (known_elements args)
    → known_in (followed [] cells) result ≡ known_step op (all_known_in (followed [] cells) args)
value_step cells without op args result none e h =
    let arrays = followed [] cells in
    known_lifted arrays result ∙ ap (lifted arrays) h
    ∙ lifted_step arrays (are_arrays cells) without (known_elements args)
    (λ t. no_arrays_lifted arrays args (none t)) op e
    ∙ ap (known_step op) (sym (all_lifted arrays args))

-- ---- results are held

abbrev IsHeldElement : ℕ → Option plain.Element → Type 0
IsHeldElement count None = Unit {0}
IsHeldElement count (Some e) = IsBefore count (place_of_element e)

held_element : (count : ℕ) (v : Option Value) → IsHeldIfKnown count v → IsHeldElement count (known_element v)
held_element count None h = tt
held_element count (Some (BoolValue b)) h = tt
held_element count (Some (IntValue z)) h = tt
held_element count (Some (RatioValue r)) h = tt
held_element count (Some (BitsValue b)) h = tt
held_element count (Some (AbstractValue name)) h = h

held_value : (count : ℕ) (v : Option Value) → IsHeldElement count (known_element v) → IsHeldIfKnown count v
held_value count None h = tt
held_value count (Some (BoolValue b)) h = tt
held_value count (Some (IntValue z)) h = tt
held_value count (Some (RatioValue r)) h = tt
held_value count (Some (BitsValue b)) h = tt
held_value count (Some (AbstractValue name)) h = h

unnamed_held : (count : ℕ) (k : Option plain.Element) → IsNoName k → IsHeldElement count k
unnamed_held count None h = tt
unnamed_held count (Some (plain.Truth b)) h = tt
unnamed_held count (Some (plain.Integer z)) h = tt
unnamed_held count (Some (plain.Fraction n d)) h = tt
unnamed_held count (Some (plain.Vector v)) h = tt
unnamed_held count (Some (plain.Abstract name)) h = absurd h

truth_held : {A : Type 0} (count : ℕ) (f : A → Bool) (o : Option A)
    → IsHeldElement count (option_map (λ x. plain.Truth (f x)) o)
truth_held count f None = tt
truth_held count f (Some x) = tt

choice_held : (count : ℕ) (vs : List (Option Value)) → AreHeld count vs
    → IsHeldElement count (plain_known.known_choice (known_elements vs))
choice_held count [] h = tt
choice_held count (c ∷ []) h = tt
choice_held count (c ∷ a ∷ []) h = tt
choice_held count (c ∷ a ∷ b ∷ d ∷ vs) h = tt
choice_held count (c ∷ a ∷ b ∷ []) h = by (plain_known.known_truth (known_element c))
  where
    by : (o : Option Bool)
        → IsHeldElement count (option_and_then (λ t. cond t (known_element a) (known_element b)) o)
    by None = tt
    by (Some true) = held_element count a (h 1 None (omega arith))
    by (Some false) = held_element count b (h 2 None (omega arith))

module _ (count : ℕ) (without : Bool) (vs : List (Option Value)) (held : AreHeld count vs) where
  step_held : (op : Op) → takes_values without op ≡ true
      → IsHeldElement count (plain_known.known_step op (known_elements vs))
  step_held (Arrays op) e = cc
  step_held (Core Equal) e = truth_held count (are_chained plain_operations.is_same) (all_known (known_elements vs))
  step_held (Core Distinct) e = truth_held count (are_distinct plain_operations.is_same) (all_known (known_elements vs))
  step_held (Core Ite) e = choice_held count vs held
  step_held (Core True) e = tt
  step_held (Core False) e = tt
  step_held (Core Not) e = unnamed_held count _ (not_blind (known_elements vs)).1
  step_held (Core Implies) e = unnamed_held count _ (implies_blind (known_elements vs)).1
  step_held (Core And) e = unnamed_held count _ (and_blind (known_elements vs)).1
  step_held (Core Or) e = unnamed_held count _ (or_blind (known_elements vs)).1
  step_held (Core Xor) e = unnamed_held count _ (xor_blind (known_elements vs)).1
  step_held (Ints op) e = unnamed_held count _ (ints_blind op (known_elements vs)).1
  step_held (Reals op) e = unnamed_held count _ (reals_blind op (known_elements vs)).1
  step_held (Bits op) e = unnamed_held count _ (bits_blind op (known_elements vs)).1

-- such a result is no array, or one of the arguments
pub value_held : (count : ℕ) (without : Bool) (op : Op) (args : List (Option Value)) (result : Option Value)
    → AreHeld count args → takes_values without op ≡ true
    → known_element result ≡ plain_known.known_step op (known_elements args) → IsHeldIfKnown count result
value_held count without op args result held e h =
    held_value count result (subst (IsHeldElement count) (sym h) (step_held count without args held op e))

-- where nothing is held, nothing is an array
pub none_held : (args : List (Option Value)) → AreHeld 0 args → list_any is_array_value args ≡ false
none_held [] h = refl
none_held (v ∷ vs) h =
    ap (λ b. b || list_any is_array_value vs) (here v (h 0 None (omega arith)))
    ∙ none_held vs (λ i d below. h (suc i) d (omega (arith, below)))
  where
    by : (o : Option ℕ) → IsBefore 0 o → is_some o ≡ false
    by (Some place) less = absurd (omega (arith, less))
    by None less = refl

    here : (v : Option Value) → IsHeldIfKnown 0 v → is_array_value v ≡ false
    here None h = refl
    here (Some value) h = by (place_of_array value) h

-- ---- what is no array

pub is_hidden : (v : Value) (place : ℕ) → Some place ≡ place_of_array v → None ≡ unless_array (Some (element_of v))
is_hidden (BoolValue b) place e = cc
is_hidden (IntValue z) place e = cc
is_hidden (RatioValue r) place e = cc
is_hidden (BitsValue b) place e = cc
is_hidden (AbstractValue name) place e =
    ap (λ o. cond (is_some o) None (Some (plain.Abstract name))) e

pub is_shown : (v : Value) → None ≡ place_of_array v → Some (element_of v) ≡ unless_array (Some (element_of v))
is_shown (BoolValue b) e = refl
is_shown (IntValue z) e = refl
is_shown (RatioValue r) e = refl
is_shown (BitsValue b) e = refl
is_shown (AbstractValue name) e = ap (λ o. cond (is_some o) None (Some (plain.Abstract name))) e
