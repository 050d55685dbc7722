-- What is known of operators of the theories without arrays, where elements have other names.
use Rattle.std.proofs.Common.{◌≡◌, ℕ, Bool, true, false, cond, not, ◌||◌, ◌&&◌, List, [], ◌∷◌, map}
use Rattle.std.proofs.Common.{Option, Some, None, option_map, refl, ap, ap₂, sym, ◌∙◌, nat_lt}
use Rattle.std.specs.List.{list_all, list_any}
use Rattle.std.specs.Prelude.{ℤ, pos, ◌^◌, fold, option_and_then}
use Rattle.smt_bits.specs.BitVector.{BitVector}
use Rattle.smt_ratios.specs.Known.{known_decimal, known_negative}
use Rattle.smt_ratios.specs.Rational as rational
use Rattle.smt_ratios.specs.Rational.{Rational}
use Rattle.smt_theory.specs.declared.literal.LiteralKind.{LiteralKind}
use Rattle.smt_theory.specs.declared.literal.LiteralKind.TheVariants.{Numeral, Decimal, Hexadecimal, Binary}
use Rattle.smt_theory.specs.declared.op.Arithmetic.TheVariants.{Minus}
use Rattle.smt_theory.specs.declared.op.BitsOp.{BitsOp}
use Rattle.smt_theory.specs.declared.op.BitsOp.TheVariants as bits
use Rattle.smt_theory.specs.declared.op.CoreOp.{CoreOp}
use Rattle.smt_theory.specs.declared.op.CoreOp.TheVariants as cores
use Rattle.smt_theory.specs.declared.op.IntsOp.{IntsOp}
use Rattle.smt_theory.specs.declared.op.IntsOp.TheVariants as ints
use Rattle.smt_theory.specs.declared.op.Op.{Op}
use Rattle.smt_theory.specs.declared.op.Op.TheVariants.{Core, Ints, Reals, Bits, Arrays}
use Rattle.smt_theory.specs.declared.op.RealsOp.{RealsOp}
use Rattle.smt_theory.specs.declared.op.RealsOp.TheVariants as reals
use Rattle.smt_theory.specs.declared.op.BitsUnary.{BitsUnary}
use Rattle.smt_theory.specs.declared.op.BitsUnary.TheVariants as unary
use Rattle.smt_values.specs.BitOperations.{width_from_int}
use Rattle.smt_values.specs.KnownOperations.{known_on_bits}
use Rattle.smt_values.specs.Element.{Element, Truth, Integer, Fraction, Vector, Abstract}
use Rattle.smt_values.specs.KnownBitOperations.{known_bits, known_bits_of_int, known_number as known_bits_number}
use Rattle.smt_values.specs.KnownBitOperations.{known_of_one, none_given, the_only, two_of_one_width}
use Rattle.smt_values.specs.KnownNumbers.{is_known_fraction, known_calculated, known_division, known_mixed}
use Rattle.smt_values.specs.KnownNumbers.{known_number, known_reals}
use Rattle.smt_values.specs.KnownOperations.{as_disjunction, decided, is_known, known_core, known_ints, known_integer}
use Rattle.smt_values.specs.KnownOperations.{known_negation, known_choice, known_step, known_truth, known_vector}
use Rattle.smt_values.specs.Lists.{all_known, are_chained, are_distinct, steps_from}
use Rattle.smt_values.specs.Decimals.{decimal_digits, places}
use Rattle.smt_values.specs.Literals.{literal_element}
use Rattle.smt_values.specs.Numbers.{element_of_number}
use Rattle.smt_values.specs.Operations.{exclusive_or, is_same}
use Rattle.smt_eval.specs.Renaming.{IsInjective, Renaming, renamed_plain}
use Rattle.smt_eval.proofs.PlainRenamingLemmas.{chain_stays, difference_stays}

-- ---- operators

module _ (g : Renaming) (injective : IsInjective g) where
  -- what is known of an element, under its other name
  abbrev pub under : Option Element → Option Element
  under v = option_map (renamed_plain g) v

  pub truth_known : (v : Option Element) → known_truth (under v) ≡ known_truth v
  truth_known None = refl
  truth_known (Some (Truth b)) = refl
  truth_known (Some (Integer z)) = refl
  truth_known (Some (Fraction n d)) = refl
  truth_known (Some (Vector v)) = refl
  truth_known (Some (Abstract x)) = refl

  integer_known : (v : Option Element) → known_integer (under v) ≡ known_integer v
  integer_known None = refl
  integer_known (Some (Truth b)) = refl
  integer_known (Some (Integer z)) = refl
  integer_known (Some (Fraction n d)) = refl
  integer_known (Some (Vector v)) = refl
  integer_known (Some (Abstract x)) = refl

  number_known : (v : Option Element) → known_number (under v) ≡ known_number v
  number_known None = refl
  number_known (Some (Truth b)) = refl
  number_known (Some (Integer z)) = refl
  number_known (Some (Fraction n d)) = refl
  number_known (Some (Vector v)) = refl
  number_known (Some (Abstract x)) = refl

  fraction_known : (v : Option Element) → is_known_fraction (under v) ≡ is_known_fraction v
  fraction_known None = refl
  fraction_known (Some (Truth b)) = refl
  fraction_known (Some (Integer z)) = refl
  fraction_known (Some (Fraction n d)) = refl
  fraction_known (Some (Vector v)) = refl
  fraction_known (Some (Abstract x)) = refl

  vector_known : (v : Option Element) → known_vector (under v) ≡ known_vector v
  vector_known None = refl
  vector_known (Some (Truth b)) = refl
  vector_known (Some (Integer z)) = refl
  vector_known (Some (Fraction n d)) = refl
  vector_known (Some (Vector v)) = refl
  vector_known (Some (Abstract x)) = refl

  same_known : (b : Bool) (v : Option Element) → is_known b (under v) ≡ is_known b v
  same_known b None = refl
  same_known b (Some (Truth c)) = refl
  same_known b (Some (Integer z)) = refl
  same_known b (Some (Fraction n d)) = refl
  same_known b (Some (Vector v)) = refl
  same_known b (Some (Abstract x)) = refl

  maps_known : {A : Type 0} (f : Option Element → Option A) → ((v : Option Element) → f (under v) ≡ f v)
      → (vs : List (Option Element)) → map f (map under vs) ≡ map f vs
  maps_known f stays [] = refl
  maps_known f stays (v ∷ vs) = ap₂ (λ a rest. a ∷ rest) (stays v) (maps_known f stays vs)

  -- truth values, numbers and vectors have no names
  truths_stay : {A : Type 0} (f : A → Bool) (o : Option A)
      → under (option_map (λ a. Truth (f a)) o) ≡ option_map (λ a. Truth (f a)) o
  truths_stay f None = refl
  truths_stay f (Some a) = refl

  integers_stay : {A : Type 0} (f : A → ℤ) (o : Option A)
      → under (option_map (λ a. Integer (f a)) o) ≡ option_map (λ a. Integer (f a)) o
  integers_stay f None = refl
  integers_stay f (Some a) = refl

  number_stays : (a : Rational) → renamed_plain g (element_of_number a) ≡ element_of_number a
  number_stays (rational.Integer z) = refl
  number_stays (rational.Fraction n d) = refl

  numbers_stay : (o : Option Rational) → under (option_map element_of_number o) ≡ option_map element_of_number o
  numbers_stay None = refl
  numbers_stay (Some a) = ap (λ (e : Element). Some e) (number_stays a)

  vectors_stay : {A : Type 0} (f : A → BitVector) (o : Option A)
      → under (option_map (λ a. Vector (f a)) o) ≡ option_map (λ a. Vector (f a)) o
  vectors_stay f None = refl
  vectors_stay f (Some a) = refl

  all_under : (vs : List (Option Element)) → all_known (map under vs) ≡ option_map (map (renamed_plain g)) (all_known vs)
  all_under [] = refl
  all_under (None ∷ vs) = refl
  all_under (Some e ∷ vs) = ap (option_map (λ es. renamed_plain g e ∷ es)) (all_under vs) ∙ by (all_known vs)
    where
      by : (o : Option (List Element)) → option_map (λ es. renamed_plain g e ∷ es) (option_map (map (renamed_plain g)) o)
          ≡ option_map (map (renamed_plain g)) (option_map (λ es. e ∷ es) o)
      by None = refl
      by (Some es) = refl

  any_same : (b : Bool) (vs : List (Option Element))
      → list_any (is_known b) (map under vs) ≡ list_any (is_known b) vs
  any_same b [] = refl
  any_same b (v ∷ vs) = ap₂ (λ a c. a || c) (same_known b v) (any_same b vs)

  all_same : (b : Bool) (vs : List (Option Element))
      → list_all (is_known b) (map under vs) ≡ list_all (is_known b) vs
  all_same b [] = refl
  all_same b (v ∷ vs) = ap₂ (λ a c. a && c) (same_known b v) (all_same b vs)

  any_fraction : (vs : List (Option Element))
      → list_any is_known_fraction (map under vs) ≡ list_any is_known_fraction vs
  any_fraction [] = refl
  any_fraction (v ∷ vs) = ap₂ (λ a c. a || c) (fraction_known v) (any_fraction vs)

  decided_under : (b : Bool) (vs : List (Option Element)) → decided b (map under vs) ≡ under (decided b vs)
  decided_under b vs =
      ap₂ (λ any all. cond any (Some (Truth b)) (cond all (Some (Truth (not b))) None)) (any_same b vs)
      (all_same (not b) vs)
      ∙ by (list_any (is_known b) vs) (list_all (is_known (not b)) vs)
    where
      by : (any all : Bool) → cond any (Some (Truth b)) (cond all (Some (Truth (not b))) None)
          ≡ under (cond any (Some (Truth b)) (cond all (Some (Truth (not b))) None))
      by true all = refl
      by false true = refl
      by false false = refl

  disjunction_under : (vs : List (Option Element)) → as_disjunction (map under vs) ≡ map under (as_disjunction vs)
  disjunction_under [] = refl
  disjunction_under (v ∷ []) = refl
  disjunction_under (v ∷ w ∷ vs) =
      ap₂ (λ a rest. a ∷ rest)
      (ap (option_map (λ c. Truth (not c))) (truth_known v) ∙ sym (truths_stay not (known_truth v)))
      (disjunction_under (w ∷ vs))

  negation_under : (vs : List (Option Element)) → known_negation (map under vs) ≡ under (known_negation vs)
  negation_under [] = refl
  negation_under (v ∷ []) =
      ap (option_map (λ c. Truth (not c))) (truth_known v) ∙ sym (truths_stay not (known_truth v))
  negation_under (v ∷ w ∷ vs) = refl

  choice_under : (vs : List (Option Element)) → known_choice (map under vs) ≡ under (known_choice vs)
  choice_under [] = refl
  choice_under (c ∷ []) = refl
  choice_under (c ∷ v ∷ []) = refl
  choice_under (c ∷ v ∷ w ∷ []) =
      ap (option_and_then (λ t. cond t (under v) (under w))) (truth_known c) ∙ by (known_truth c)
    where
      by : (o : Option Bool) → option_and_then (λ t. cond t (under v) (under w)) o
          ≡ under (option_and_then (λ t. cond t v w) o)
      by None = refl
      by (Some true) = refl
      by (Some false) = refl
  choice_under (c ∷ v ∷ w ∷ u ∷ vs) = refl

  -- a test of all elements that sees their names alone
  tested_under : (test : List Element → Bool) → ((es : List Element) → test (map (renamed_plain g) es) ≡ test es)
      → (vs : List (Option Element)) → option_map (λ es. Truth (test es)) (all_known (map under vs))
      ≡ under (option_map (λ es. Truth (test es)) (all_known vs))
  tested_under test stays vs =
      ap (option_map (λ es. Truth (test es))) (all_under vs) ∙ by (all_known vs)
    where
      by : (o : Option (List Element)) → option_map (λ es. Truth (test es)) (option_map (map (renamed_plain g)) o)
          ≡ under (option_map (λ es. Truth (test es)) o)
      by None = refl
      by (Some es) = ap (λ b. Some (Truth b)) (stays es)

  core_under : (op : CoreOp) (vs : List (Option Element)) → known_core op (map under vs) ≡ under (known_core op vs)
  core_under cores.True vs = refl
  core_under cores.False vs = refl
  core_under cores.Not vs = negation_under vs
  core_under cores.Implies vs = ap (decided true) (disjunction_under vs) ∙ decided_under true (as_disjunction vs)
  core_under cores.And vs = decided_under false vs
  core_under cores.Or vs = decided_under true vs
  core_under cores.Xor vs =
      ap (λ os. option_map (λ bs. Truth (fold exclusive_or false bs)) (all_known os))
      (maps_known known_truth truth_known vs)
      ∙ sym (truths_stay (fold exclusive_or false) (all_known (map known_truth vs)))
  core_under cores.Equal vs = tested_under (are_chained is_same) (chain_stays g injective) vs
  core_under cores.Distinct vs = tested_under (are_distinct is_same) (difference_stays g injective) vs
  core_under cores.Ite vs = choice_under vs

  -- no operator of the other theories gives an element of a declared sort
  ints_under : (op : IntsOp) (zs : List ℤ) → under (known_ints op zs) ≡ known_ints op zs
  ints_under (ints.Arithmetic op) zs = integers_stay (λ z. z) _
  ints_under (ints.Comparison op) zs = refl
  ints_under ints.Mod zs = integers_stay (λ z. z) _
  ints_under ints.Abs zs = integers_stay (λ z. z) _
  ints_under (ints.Divisible n) zs = truths_stay (λ b. b) _

  mixed_under : (op : IntsOp) (ns : List Rational) → under (known_mixed op ns) ≡ known_mixed op ns
  mixed_under (ints.Arithmetic Minus) (a ∷ []) = numbers_stay (known_negative a)
  mixed_under (ints.Arithmetic op) (a ∷ rest) = numbers_stay (steps_from (known_calculated op) a rest)
  mixed_under (ints.Comparison op) ns = refl
  mixed_under _ _ = refl

  reals_under : (op : RealsOp) (ns : List Rational) → under (known_reals op ns) ≡ known_reals op ns
  reals_under reals.Divide (a ∷ rest) = numbers_stay (steps_from known_division a rest)
  reals_under reals.ToReal (a ∷ []) = numbers_stay (Some a)
  reals_under reals.ToInt (a ∷ []) = refl
  reals_under reals.IsInt (a ∷ []) = refl
  reals_under _ _ = refl

  number_under : (v : BitVector) → under (known_bits_number v) ≡ known_bits_number v
  number_under v = by (nat_lt v.number (2 ^ 127))
    where
      by : (b : Bool) → under (cond b (Some (Integer (pos v.number))) None) ≡ cond b (Some (Integer (pos v.number))) None
      by true = refl
      by false = refl

  unary_under : (op : BitsUnary) (o : Option BitVector)
      → under (option_and_then (known_of_one op) o) ≡ option_and_then (known_of_one op) o
  unary_under op None = refl
  unary_under unary.Not (Some v) = refl
  unary_under unary.Negate (Some v) = refl
  unary_under unary.NegateOverflows (Some v) = refl
  unary_under unary.ToInt (Some v) = number_under v
  unary_under unary.ToIntOlder (Some v) = number_under v
  unary_under unary.SignedToInt (Some v) = refl

  bits_under : (op : BitsOp) (vs : List BitVector) → under (known_bits op vs) ≡ known_bits op vs
  bits_under (bits.Constant x n) vs = vectors_stay _ (none_given vs)
  bits_under bits.Concat vs = vectors_stay (λ v. v) _
  bits_under (bits.Extract i j) vs = vectors_stay (λ v. v) _
  bits_under (bits.Unary op) vs = unary_under op (the_only vs)
  bits_under (bits.Folded op) vs = vectors_stay (λ v. v) _
  bits_under (bits.Binary op) vs = vectors_stay _ (two_of_one_width vs)
  bits_under (bits.Comparison op) vs = truths_stay _ (two_of_one_width vs)
  bits_under bits.Comp vs = vectors_stay _ (two_of_one_width vs)
  bits_under (bits.Repeat i) vs = vectors_stay (λ v. v) _
  bits_under (bits.ZeroExtend i) vs = vectors_stay (λ v. v) _
  bits_under (bits.SignExtend i) vs = vectors_stay (λ v. v) _
  bits_under (bits.RotateLeft i) vs = vectors_stay _ (the_only vs)
  bits_under (bits.RotateRight i) vs = vectors_stay _ (the_only vs)
  bits_under (bits.FromInt n) vs = refl
  bits_under (bits.FromIntOlder n) vs = refl

  bits_of_int_under : (n : ℕ) (zs : List ℤ) → under (known_bits_of_int n zs) ≡ known_bits_of_int n zs
  bits_of_int_under n (z ∷ []) = refl
  bits_of_int_under n _ = refl

  of_known : {A : Type 0} (f : List A → Option Element) → ((xs : List A) → under (f xs) ≡ f xs)
      → (o : Option (List A)) → option_and_then f o ≡ under (option_and_then f o)
  of_known f stays None = refl
  of_known f stays (Some xs) = sym (stays xs)

  pub step_under : (op : Op) (vs : List (Option Element)) → known_step op (map under vs) ≡ under (known_step op vs)
  step_under (Core op) vs = core_under op vs
  step_under (Arrays op) vs = refl
  step_under (Ints op) vs =
      ap (λ b. cond b (option_and_then (known_mixed op) (all_known (map known_number (map under vs))))
      (option_and_then (known_ints op) (all_known (map known_integer (map under vs))))) (any_fraction vs)
      ∙ ap₂ (λ ns zs. cond (list_any is_known_fraction vs) (option_and_then (known_mixed op) (all_known ns))
      (option_and_then (known_ints op) (all_known zs)))
      (maps_known known_number number_known vs) (maps_known known_integer integer_known vs)
      ∙ by (list_any is_known_fraction vs)
    where
      by : (b : Bool) → cond b (option_and_then (known_mixed op) (all_known (map known_number vs)))
          (option_and_then (known_ints op) (all_known (map known_integer vs)))
          ≡ under (cond b (option_and_then (known_mixed op) (all_known (map known_number vs)))
          (option_and_then (known_ints op) (all_known (map known_integer vs))))
      by true = of_known (known_mixed op) (mixed_under op) (all_known (map known_number vs))
      by false = of_known (known_ints op) (ints_under op) (all_known (map known_integer vs))
  step_under (Reals op) vs =
      ap (λ os. option_and_then (known_reals op) (all_known os)) (maps_known known_number number_known vs)
      ∙ of_known (known_reals op) (reals_under op) (all_known (map known_number vs))
  step_under (Bits op) vs = by (width_from_int op)
    where
      by : (o : Option ℕ) → known_on_bits o op (map under vs) ≡ under (known_on_bits o op vs)
      by (Some n) =
          ap (λ os. option_and_then (known_bits_of_int n) (all_known os)) (maps_known known_integer integer_known vs)
          ∙ of_known (known_bits_of_int n) (bits_of_int_under n) (all_known (map known_integer vs))
      by None =
          ap (λ os. option_and_then (known_bits op) (all_known os)) (maps_known known_vector vector_known vs)
          ∙ of_known (known_bits op) (bits_under op) (all_known (map known_vector vs))

  -- ---- literals

  pub literal_under : (kind : LiteralKind) (digits : List ℕ)
      → under (literal_element kind digits) ≡ literal_element kind digits
  literal_under Numeral digits = integers_stay (λ z. z) _
  literal_under Decimal digits = numbers_stay (known_decimal (decimal_digits digits) (places digits))
  literal_under Hexadecimal digits = vectors_stay (λ v. v) _
  literal_under Binary digits = vectors_stay (λ v. v) _
