-- An operator that takes no array sees an argument that is one as an open one, and gives none.
use Rattle.std.proofs.Common.{◌≡◌, ◌^◌, ◌%◌, ℕ, ℤ, pos, nat_lt, Bool, true, false, cond, not, ◌&&◌, ◌||◌, List, [], ◌∷◌}
use Rattle.std.proofs.Common.{Option, Some, None}
use Rattle.std.proofs.Common.{is_some, map, option_map, refl, sym, ap, ◌∙◌, rules}
use Rattle.std.specs.List.{list_all, list_any}
use Rattle.std.specs.Option.{option_and_then}
use Rattle.std.specs.Prelude.{fold}
use Rattle.smt_bits.specs.BitVector.{BitVector, vector}
use Rattle.smt_bits.specs.Operators.{bvcomp}
use Rattle.smt_theory.specs.declared.op.Arithmetic.TheVariants.{Minus, Plus, Times, Div}
use Rattle.smt_theory.specs.declared.op.BitsOp.{BitsOp}
use Rattle.smt_theory.specs.declared.op.BitsOp.TheVariants.{Constant, Concat, Extract, Unary, Folded, Binary}
use Rattle.smt_theory.specs.declared.op.BitsOp.TheVariants.{Comparison, Comp, Repeat, ZeroExtend, SignExtend}
use Rattle.smt_theory.specs.declared.op.BitsOp.TheVariants.{RotateLeft, RotateRight, FromInt, FromIntOlder}
use Rattle.smt_theory.specs.declared.op.BitsUnary.{BitsUnary}
use Rattle.smt_theory.specs.declared.op.BitsUnary.TheVariants.{Not as BitsNot, Negate, NegateOverflows, ToInt}
use Rattle.smt_theory.specs.declared.op.BitsUnary.TheVariants.{ToIntOlder}
use Rattle.smt_theory.specs.declared.op.BitsUnary.TheVariants.{SignedToInt}
use Rattle.smt_theory.specs.declared.op.CoreOp.TheVariants.{True, False, Not, Implies, And, Or, Xor}
use Rattle.smt_theory.specs.declared.op.IntsOp.{IntsOp}
use Rattle.smt_theory.specs.declared.op.IntsOp.TheVariants.{Arithmetic as Left, Comparison as Chain, Mod, Abs}
use Rattle.smt_theory.specs.declared.op.IntsOp.TheVariants.{Divisible}
use Rattle.smt_theory.specs.declared.op.Op.{Op}
use Rattle.smt_theory.specs.declared.op.Op.TheVariants.{Core, Ints, Reals, Bits}
use Rattle.smt_theory.specs.declared.op.RealsOp.{RealsOp}
use Rattle.smt_theory.specs.declared.op.RealsOp.TheVariants.{Divide, ToReal, ToInt as RealToInt, IsInt}
use Rattle.smt_values.specs.BitOperations.{are_compared, binary_vector, rotated_left, rotated_right, width_from_int}
use Rattle.smt_values.specs.Element.{Element, Truth, Integer, Fraction, Vector, Abstract}
use Rattle.smt_values.specs.ElementNumbers.{array_place}
use Rattle.smt_values.specs.KnownBitOperations.{known_bits, known_bits_of_int, known_number as number_of_vector}
use Rattle.smt_values.specs.KnownBitOperations.{known_of_one}
use Rattle.smt_values.specs.KnownBitOperations.{none_given, the_only, two_of_one_width}
use Rattle.smt_values.specs.KnownNumbers.{is_known_fraction, known_mixed, known_number, known_numbers, known_reals}
use Rattle.smt_values.specs.KnownOperations.{as_disjunction, decided, is_known, known_core, known_ints, known_integer}
use Rattle.smt_values.specs.KnownOperations.{known_integers, known_on_bits, known_step, known_truth, known_vector}
use Rattle.smt_values.specs.KnownOperations.{known_vectors}
use Rattle.smt_values.specs.Lists.{all_known}
use Rattle.smt_values.specs.Numbers.{element_of_number}
use Rattle.smt_values.specs.Operations.{exclusive_or}
use Rattle.smt_arrays.specs.Internal.{unless_array}

-- what sees no element of a declared sort sees none of this
module _ {A : Type 0} (seen : Option Element → A) (blind : (name : List ℕ) → seen (Some (Abstract name)) ≡ seen None)
  where
    pub unseen : (k : Option Element) → seen (unless_array k) ≡ seen k
    unseen None = refl
    unseen (Some (Truth b)) = refl
    unseen (Some (Integer z)) = refl
    unseen (Some (Fraction n d)) = refl
    unseen (Some (Vector v)) = refl
    unseen (Some (Abstract name)) = by (is_some (array_place name))
      where
        by : (b : Bool) → seen (cond b None (Some (Abstract name))) ≡ seen (Some (Abstract name))
        by true = sym (blind name)
        by false = refl

    pub all_unseen : (ks : List (Option Element)) → map seen (map unless_array ks) ≡ map seen ks
    all_unseen [] = refl
    all_unseen (k ∷ ks) = ap (λ x. x ∷ map seen (map unless_array ks)) (unseen k) ∙ ap (λ xs. seen k ∷ xs)
        (all_unseen ks)

module _ (test : Option Element → Bool) (blind : (name : List ℕ) → test (Some (Abstract name)) ≡ test None) where
  pub any_unseen : (ks : List (Option Element)) → list_any test (map unless_array ks) ≡ list_any test ks
  any_unseen [] = refl
  any_unseen (k ∷ ks) = ap (λ b. b || list_any test (map unless_array ks)) (unseen test blind k)
      ∙ ap (λ b. test k || b) (any_unseen ks)

  pub each_unseen : (ks : List (Option Element)) → list_all test (map unless_array ks) ≡ list_all test ks
  each_unseen [] = refl
  each_unseen (k ∷ ks) = ap (λ b. b && list_all test (map unless_array ks)) (unseen test blind k)
      ∙ ap (λ b. test k && b) (each_unseen ks)

-- ---- theory Core

decided_unseen : (d : Bool) (ks : List (Option Element)) → decided d (map unless_array ks) ≡ decided d ks
decided_unseen d ks =
    ap (λ b. cond b (Some (Truth d)) (cond (list_all (is_known (not d)) (map unless_array ks)) (Some (Truth (not d)))
    None))
    (any_unseen (is_known d) (λ name. refl) ks)
    ∙ ap (λ b. cond (list_any (is_known d) ks) (Some (Truth d)) (cond b (Some (Truth (not d))) None))
    (each_unseen (is_known (not d)) (λ name. refl) ks)

-- the disjunction of what is hidden is that of what is not, hidden
disjunction_unseen : (ks : List (Option Element))
    → as_disjunction (map unless_array ks) ≡ map unless_array (as_disjunction ks)
disjunction_unseen [] = refl
disjunction_unseen (k ∷ []) = refl
disjunction_unseen (k ∷ j ∷ ks) =
    ap (λ t. option_map (λ b. Truth (not b)) t ∷ as_disjunction (map unless_array (j ∷ ks)))
    (unseen known_truth (λ name. refl) k)
    ∙ ap (λ xs. option_map (λ b. Truth (not b)) (known_truth k) ∷ xs) (disjunction_unseen (j ∷ ks))
    ∙ ap (λ x. x ∷ map unless_array (as_disjunction (j ∷ ks))) (shown (known_truth k))
  where
    shown : (t : Option Bool) → option_map (λ b. Truth (not b)) t ≡ unless_array (option_map (λ b. Truth (not b)) t)
    shown None = refl
    shown (Some b) = refl

negation_unseen : (ks : List (Option Element)) → known_core Not (map unless_array ks) ≡ known_core Not ks
negation_unseen [] = refl
negation_unseen (k ∷ []) = ap (option_map (λ b. Truth (not b))) (unseen known_truth (λ name. refl) k)
negation_unseen (k ∷ j ∷ ks) = refl

-- ---- no result is an element of a declared sort

abbrev pub IsNoName : Option Element → Type 0
IsNoName (Some (Abstract name)) = ⊥
IsNoName k = Unit {0}

mapped : {A : Type 0} (f : A → Element) (o : Option A) → ((x : A) → IsNoName (Some (f x))) → IsNoName (option_map f o)
mapped f None h = tt
mapped f (Some x) h = h x

then : {A : Type 0} (f : A → Option Element) (o : Option A) → ((x : A) → IsNoName (f x)) → IsNoName
    (option_and_then f o)
then f None h = tt
then f (Some x) h = h x

chosen : (b : Bool) (x y : Option Element) → IsNoName x → IsNoName y → IsNoName (cond b x y)
chosen true x y h k = h
chosen false x y h k = k

decided_unnamed : (d : Bool) (ks : List (Option Element)) → IsNoName (decided d ks)
decided_unnamed d ks = chosen (list_any (is_known d) ks) _ _ tt (chosen (list_all (is_known (not d)) ks) _ _ tt tt)

negation_unnamed : (ks : List (Option Element)) → IsNoName (known_core Not ks)
negation_unnamed [] = tt
negation_unnamed (k ∷ []) = mapped (λ b. Truth (not b)) (known_truth k) (λ b. tt)
negation_unnamed (k ∷ j ∷ ks) = tt

ints_unnamed : (op : IntsOp) (zs : List ℤ) → IsNoName (known_ints op zs)
ints_unnamed (Left op) zs = mapped Integer _ (λ z. tt)
ints_unnamed (Chain op) zs = tt
ints_unnamed Mod zs = mapped Integer _ (λ z. tt)
ints_unnamed Abs zs = mapped Integer _ (λ z. tt)
ints_unnamed (Divisible n) zs = mapped Truth _ (λ b. tt)

-- a number is no element of a declared sort
mixed_unnamed : (op : IntsOp) (ks : List (Option Element)) → IsNoName
    (option_and_then (known_mixed op) (known_numbers ks))
mixed_unnamed (Left Minus) ks = then (known_mixed (Left Minus)) (known_numbers ks)
    (λ qs. elim qs as (λ qs. IsNoName (known_mixed (Left Minus) qs)) [
      | [] ↦ tt
      | q ∷ rest ↦ elim rest as (λ rest. IsNoName (known_mixed (Left Minus) (q ∷ rest))) [
        | [] ↦ mapped element_of_number _ (λ q. search rules)
        | r ∷ rest ↦ mapped element_of_number _
            (λ q. search rules)
      ]
    ])
mixed_unnamed (Left Plus) ks = then (known_mixed (Left Plus)) (known_numbers ks)
    (λ qs. elim qs as (λ qs. IsNoName (known_mixed (Left Plus) qs))
    [ [] ↦ tt | q ∷ rest ↦ mapped element_of_number _ (λ q. search rules) ])
mixed_unnamed (Left Times) ks = then (known_mixed (Left Times)) (known_numbers ks)
    (λ qs. elim qs as (λ qs. IsNoName (known_mixed (Left Times) qs))
    [ [] ↦ tt | q ∷ rest ↦ mapped element_of_number _ (λ q. search rules) ])
mixed_unnamed (Left Div) ks = then (known_mixed (Left Div)) (known_numbers ks)
    (λ qs. elim qs as (λ qs. IsNoName (known_mixed (Left Div) qs))
    [ [] ↦ tt | q ∷ rest ↦ mapped element_of_number _ (λ q. search rules) ])
mixed_unnamed (Chain op) ks = then (known_mixed (Chain op)) (known_numbers ks) (λ qs. tt)
mixed_unnamed Mod ks = then (known_mixed Mod) (known_numbers ks) (λ qs. tt)
mixed_unnamed Abs ks = then (known_mixed Abs) (known_numbers ks) (λ qs. tt)
mixed_unnamed (Divisible n) ks = then (known_mixed (Divisible n)) (known_numbers ks) (λ qs. tt)

reals_unnamed : (op : RealsOp) (ks : List (Option Element)) → IsNoName
    (option_and_then (known_reals op) (known_numbers ks))
reals_unnamed Divide ks = then (known_reals Divide) (known_numbers ks)
    (λ qs. elim qs as (λ qs. IsNoName (known_reals Divide qs))
    [ [] ↦ tt | q ∷ rest ↦ mapped element_of_number _ (λ q. search rules) ])
reals_unnamed ToReal ks = then (known_reals ToReal) (known_numbers ks)
    (λ qs. elim qs as (λ qs. IsNoName (known_reals ToReal qs)) [
      | [] ↦ tt
      | q ∷ rest ↦ elim rest as (λ rest. IsNoName (known_reals ToReal (q ∷ rest)))
          [ [] ↦ search rules | r ∷ rest ↦ tt ]
    ])
reals_unnamed RealToInt ks = then (known_reals RealToInt) (known_numbers ks)
    (λ qs. elim qs as (λ qs. IsNoName (known_reals RealToInt qs)) [
      | [] ↦ tt
      | q ∷ rest ↦ elim rest as (λ rest. IsNoName (known_reals RealToInt (q ∷ rest)))
          [ [] ↦ tt | r ∷ rest ↦ tt ]
    ])
reals_unnamed IsInt ks = then (known_reals IsInt) (known_numbers ks)
    (λ qs. elim qs as (λ qs. IsNoName (known_reals IsInt qs)) [
      | [] ↦ tt
      | q ∷ rest ↦ elim rest as (λ rest. IsNoName (known_reals IsInt (q ∷ rest)))
          [ [] ↦ tt | r ∷ rest ↦ tt ]
    ])

vector_unnamed : (o : Option BitVector) → IsNoName (option_map Vector o)
vector_unnamed o = mapped Vector o (λ v. tt)

number_of_vector_unnamed : (v : BitVector) → IsNoName (number_of_vector v)
number_of_vector_unnamed v =
    chosen (nat_lt v.number (2 ^ 127)) (Some (Integer (pos v.number))) None tt tt

one_unnamed : (op : BitsUnary) (v : BitVector) → IsNoName (known_of_one op v)
one_unnamed BitsNot v = tt
one_unnamed Negate v = tt
one_unnamed NegateOverflows v = tt
one_unnamed ToInt v = number_of_vector_unnamed v
one_unnamed ToIntOlder v = number_of_vector_unnamed v
one_unnamed SignedToInt v = tt

bits_unnamed : (op : BitsOp) (vs : List BitVector) → IsNoName (known_bits op vs)
bits_unnamed (Constant x n) vs = mapped (λ (u : Unit {0}). Vector (vector n (x % 2 ^ n))) (none_given vs) (λ u. tt)
bits_unnamed Concat vs = vector_unnamed _
bits_unnamed (Extract i j) vs = vector_unnamed _
bits_unnamed (Unary op) vs = then (known_of_one op) (the_only vs) (one_unnamed op)
bits_unnamed (Folded op) vs = vector_unnamed _
bits_unnamed (Binary op) vs =
    mapped (λ (p : BitVector × BitVector). Vector (binary_vector op p.0 p.1)) (two_of_one_width vs) (λ p. tt)
bits_unnamed (Comparison op) vs =
    mapped (λ (p : BitVector × BitVector). Truth (are_compared op p.0 p.1)) (two_of_one_width vs) (λ p. tt)
bits_unnamed Comp vs =
    mapped (λ (p : BitVector × BitVector). Vector (vector 1 (bvcomp p.0.number p.1.number))) (two_of_one_width vs)
    (λ p. tt)
bits_unnamed (Repeat i) vs = vector_unnamed _
bits_unnamed (ZeroExtend i) vs = vector_unnamed _
bits_unnamed (SignExtend i) vs = vector_unnamed _
bits_unnamed (RotateLeft i) vs = mapped (λ v. Vector (rotated_left i v)) (the_only vs) (λ v. tt)
bits_unnamed (RotateRight i) vs = mapped (λ v. Vector (rotated_right i v)) (the_only vs) (λ v. tt)
bits_unnamed (FromInt n) vs = tt
bits_unnamed (FromIntOlder n) vs = tt

bits_of_int_unnamed : (n : ℕ) (zs : List ℤ) → IsNoName (known_bits_of_int n zs)
bits_of_int_unnamed n [] = tt
bits_of_int_unnamed n (z ∷ []) = tt
bits_of_int_unnamed n (z ∷ y ∷ zs) = tt

-- ---- every operator that takes no array

-- what an operator makes of arguments does not see an array, and is no element of a declared sort
abbrev pub IsBlind : Op → Type 0
IsBlind op = (ks : List (Option Element))
    → (known_step op (map unless_array ks) ≡ known_step op ks) × IsNoName (known_step op ks)

on_bits : (width : Option ℕ) (op : BitsOp) (ks : List (Option Element))
    → (known_on_bits width op (map unless_array ks) ≡ known_on_bits width op ks) × IsNoName (known_on_bits width op ks)
on_bits None op ks = (
  ap (λ o. option_and_then (known_bits op) (all_known o)) (all_unseen known_vector (λ name. refl) ks),
  then (known_bits op) (known_vectors ks) (bits_unnamed op),
)
on_bits (Some n) op ks = (
  ap (λ o. option_and_then (known_bits_of_int n) (all_known o)) (all_unseen known_integer (λ name. refl) ks),
  then (known_bits_of_int n) (known_integers ks) (bits_of_int_unnamed n),
)

pub ints_blind : (op : IntsOp) → IsBlind (Ints op)
ints_blind op ks = (
  ap (λ b. cond b (option_and_then (known_mixed op) (known_numbers (map unless_array ks)))
      (option_and_then (known_ints op) (known_integers (map unless_array ks))))
      (any_unseen is_known_fraction (λ name. refl) ks)
      ∙ ap (λ o. cond (list_any is_known_fraction ks) (option_and_then (known_mixed op) (all_known o))
      (option_and_then (known_ints op) (known_integers (map unless_array ks))))
      (all_unseen known_number (λ name. refl) ks)
      ∙ ap (λ o. cond (list_any is_known_fraction ks) (option_and_then (known_mixed op) (known_numbers ks))
      (option_and_then (known_ints op) (all_known o)))
      (all_unseen known_integer (λ name. refl) ks),
  chosen (list_any is_known_fraction ks) _ _ (mixed_unnamed op ks)
      (then (known_ints op) (known_integers ks) (ints_unnamed op)),
)

pub reals_blind : (op : RealsOp) → IsBlind (Reals op)
reals_blind op ks = (
  ap (λ o. option_and_then (known_reals op) (all_known o)) (all_unseen known_number (λ name. refl) ks),
  reals_unnamed op ks,
)

pub bits_blind : (op : BitsOp) → IsBlind (Bits op)
bits_blind op ks = on_bits (width_from_int op) op ks

pub true_blind : IsBlind (Core True)
true_blind ks = (refl, tt)

pub false_blind : IsBlind (Core False)
false_blind ks = (refl, tt)

pub not_blind : IsBlind (Core Not)
not_blind ks = (negation_unseen ks, negation_unnamed ks)

pub implies_blind : IsBlind (Core Implies)
implies_blind ks = (
  ap (decided true) (disjunction_unseen ks) ∙ decided_unseen true (as_disjunction ks),
  decided_unnamed true (as_disjunction ks),
)

pub and_blind : IsBlind (Core And)
and_blind ks = (decided_unseen false ks, decided_unnamed false ks)

pub or_blind : IsBlind (Core Or)
or_blind ks = (decided_unseen true ks, decided_unnamed true ks)

pub xor_blind : IsBlind (Core Xor)
xor_blind ks = (
  ap (λ o. option_map (λ bs. Truth (fold exclusive_or false bs)) (all_known o))
      (all_unseen known_truth (λ name. refl) ks),
  mapped _ (all_known (map known_truth ks)) (λ bs. tt),
)
