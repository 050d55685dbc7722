-- Operators of the theories without arrays where elements have other names, and which names their results have.
use Rattle.std.proofs.Common.{◌≡◌, ℕ, zero, suc, Bool, true, false, cond, not, ◌&&◌, ◌||◌, List, [], ◌∷◌, map}
use Rattle.std.proofs.Common.{Option, Some, None, refl, ap, ap₂, sym, ◌∙◌}
use Rattle.std.specs.List.{list_all, list_any}
use Rattle.std.specs.Prelude.{ℤ, bytes_eq, fold}
use Rattle.std.proofs.lemmas.Slice.Eq.{bytes_eq-Decides}
use Rattle.smt_bits.specs.BitVector.{BitVector}
use Rattle.smt_ratios.specs.Operators.{negative}
use Rattle.smt_ratios.specs.Rational as rational
use Rattle.smt_ratios.specs.Rational.{Rational}
use Rattle.smt_theory.specs.declared.op.Arithmetic.TheVariants.{Minus}
use Rattle.smt_theory.specs.declared.op.BitsOp.{BitsOp}
use Rattle.smt_theory.specs.declared.op.BitsOp.TheVariants as bits
use Rattle.smt_theory.specs.declared.op.CoreOp.{CoreOp}
use Rattle.smt_theory.specs.declared.op.CoreOp.TheVariants as cores
use Rattle.smt_theory.specs.declared.op.IntsOp.{IntsOp}
use Rattle.smt_theory.specs.declared.op.IntsOp.TheVariants as ints
use Rattle.smt_theory.specs.declared.op.Op.{Op}
use Rattle.smt_theory.specs.declared.op.Op.TheVariants.{Core, Ints, Reals, Bits, Arrays}
use Rattle.smt_theory.specs.declared.op.RealsOp.{RealsOp}
use Rattle.smt_theory.specs.declared.op.RealsOp.TheVariants as reals
use Rattle.smt_theory.specs.declared.op.BitsUnary.TheVariants as unary
use Rattle.smt_values.specs.BitOperations.{bits_of_int, operate_bits, width_from_int}
use Rattle.smt_values.specs.Operations.{operate_on_bits}
use Rattle.smt_values.specs.Element.{Element, Truth, Integer, Fraction, Vector, Abstract}
use Rattle.smt_values.specs.Lists.{are_chained, are_distinct}
use Rattle.smt_values.specs.Numbers.{Quotient, calculated, divided, element_of_number, is_fraction, number_of}
use Rattle.smt_values.specs.Numbers.{operate_numbers, operate_reals}
use Rattle.smt_values.specs.Operations.{DivisionByZero, chosen, exclusive_or, integer_of, is_implied, is_same}
use Rattle.smt_values.specs.Operations.{negated, operate, operate_core, operate_ints, truth_of, vector_of}
use Rattle.smt_eval.specs.NamedElements.{IsAmong, IsPlainOfName}
use Rattle.smt_eval.specs.Renaming.{IsInjective, Renaming, renamed_plain}

-- ---- operators

module _ (g : Renaming) (injective : IsInjective g) where
  abbrev pub all_renamed : List Element → List Element
  all_renamed es = map (renamed_plain g) es

  pub truth_stays : (e : Element) → truth_of (renamed_plain g e) ≡ truth_of e
  truth_stays (Truth b) = refl
  truth_stays (Integer z) = refl
  truth_stays (Fraction n d) = refl
  truth_stays (Vector v) = refl
  truth_stays (Abstract x) = refl

  integer_stays : (e : Element) → integer_of (renamed_plain g e) ≡ integer_of e
  integer_stays (Truth b) = refl
  integer_stays (Integer z) = refl
  integer_stays (Fraction n d) = refl
  integer_stays (Vector v) = refl
  integer_stays (Abstract x) = refl

  number_stays : (e : Element) → number_of (renamed_plain g e) ≡ number_of e
  number_stays (Truth b) = refl
  number_stays (Integer z) = refl
  number_stays (Fraction n d) = refl
  number_stays (Vector v) = refl
  number_stays (Abstract x) = refl

  fraction_stays : (e : Element) → is_fraction (renamed_plain g e) ≡ is_fraction e
  fraction_stays (Truth b) = refl
  fraction_stays (Integer z) = refl
  fraction_stays (Fraction n d) = refl
  fraction_stays (Vector v) = refl
  fraction_stays (Abstract x) = refl

  vector_stays : (e : Element) → vector_of (renamed_plain g e) ≡ vector_of e
  vector_stays (Truth b) = refl
  vector_stays (Integer z) = refl
  vector_stays (Fraction n d) = refl
  vector_stays (Vector v) = refl
  vector_stays (Abstract x) = refl

  bytes_stay : (x y : List ℕ) → bytes_eq (g x) (g y) ≡ bytes_eq x y
  bytes_stay x y = by (bytes_eq (g x) (g y)) refl (bytes_eq x y) refl
    where
      by : (b : Bool) → bytes_eq (g x) (g y) ≡ b → (c : Bool) → bytes_eq x y ≡ c → b ≡ c
      by true h true i = refl
      by false h false i = refl
      by true h false i =
          let same = (bytes_eq-Decides x y).1 (injective x y ((bytes_eq-Decides (g x) (g y)).0 h)) in cc
      by false h true i =
          let same = (bytes_eq-Decides (g x) (g y)).1 (ap g ((bytes_eq-Decides x y).0 i)) in cc

  pub sameness_stays : (d e : Element) → is_same (renamed_plain g d) (renamed_plain g e) ≡ is_same d e
  sameness_stays (Truth a) (Truth b) = refl
  sameness_stays (Integer a) (Integer b) = refl
  sameness_stays (Fraction n d) (Fraction m e) = refl
  sameness_stays (Vector s) (Vector t) = refl
  sameness_stays (Abstract x) (Abstract y) = bytes_stay x y
  sameness_stays _ _ = refl

  kept : {A : Type 0} (f : Element → A) → ((e : Element) → f (renamed_plain g e) ≡ f e) → (es : List Element)
      → map f (all_renamed es) ≡ map f es
  kept f stays [] = refl
  kept f stays (e ∷ es) = ap₂ (λ a rest. a ∷ rest) (stays e) (kept f stays es)

  all_stay : (es : List Element) → list_all truth_of (all_renamed es) ≡ list_all truth_of es
  all_stay [] = refl
  all_stay (e ∷ es) = ap₂ (λ a b. a && b) (truth_stays e) (all_stay es)

  any_stay : (es : List Element) → list_any truth_of (all_renamed es) ≡ list_any truth_of es
  any_stay [] = refl
  any_stay (e ∷ es) = ap₂ (λ a b. a || b) (truth_stays e) (any_stay es)

  any_fraction_stays : (es : List Element) → list_any is_fraction (all_renamed es) ≡ list_any is_fraction es
  any_fraction_stays [] = refl
  any_fraction_stays (e ∷ es) = ap₂ (λ a b. a || b) (fraction_stays e) (any_fraction_stays es)

  pub chain_stays : (es : List Element) → are_chained is_same (all_renamed es) ≡ are_chained is_same es
  chain_stays [] = refl
  chain_stays (d ∷ []) = refl
  chain_stays (d ∷ e ∷ es) = ap₂ (λ a b. a && b) (sameness_stays d e) (chain_stays (e ∷ es))

  any_same_stays : (d : Element) (es : List Element)
      → list_any (is_same (renamed_plain g d)) (all_renamed es) ≡ list_any (is_same d) es
  any_same_stays d [] = refl
  any_same_stays d (e ∷ es) = ap₂ (λ a b. a || b) (sameness_stays d e) (any_same_stays d es)

  pub difference_stays : (es : List Element) → are_distinct is_same (all_renamed es) ≡ are_distinct is_same es
  difference_stays [] = refl
  difference_stays (e ∷ es) = ap₂ (λ a b. not a && b) (any_same_stays e es) (difference_stays es)

  negation_stays : (es : List Element) → negated (all_renamed es) ≡ negated es
  negation_stays [] = refl
  negation_stays (e ∷ []) = ap not (truth_stays e)
  negation_stays (d ∷ e ∷ es) = refl

  choice_renamed : (es : List Element) → chosen (all_renamed es) ≡ renamed_plain g (chosen es)
  choice_renamed [] = refl
  choice_renamed (c ∷ []) = refl
  choice_renamed (c ∷ d ∷ []) = refl
  choice_renamed (c ∷ d ∷ e ∷ []) =
      ap (λ t. cond t (renamed_plain g d) (renamed_plain g e)) (truth_stays c) ∙ by (truth_of c)
    where
      by : (t : Bool) → cond t (renamed_plain g d) (renamed_plain g e) ≡ renamed_plain g (cond t d e)
      by true = refl
      by false = refl
  choice_renamed (c ∷ d ∷ e ∷ f ∷ es) = refl

  core_renamed : (op : CoreOp) (es : List Element)
      → operate_core op (all_renamed es) ≡ renamed_plain g (operate_core op es)
  core_renamed cores.True es = refl
  core_renamed cores.False es = refl
  core_renamed cores.Not es = ap Truth (negation_stays es)
  core_renamed cores.Implies es = ap (λ bs. Truth (is_implied bs)) (kept truth_of truth_stays es)
  core_renamed cores.And es = ap Truth (all_stay es)
  core_renamed cores.Or es = ap Truth (any_stay es)
  core_renamed cores.Xor es = ap (λ bs. Truth (fold exclusive_or false bs)) (kept truth_of truth_stays es)
  core_renamed cores.Equal es = ap Truth (chain_stays es)
  core_renamed cores.Distinct es = ap Truth (difference_stays es)
  core_renamed cores.Ite es = choice_renamed es

  -- no operator of the other theories gives an element of a declared sort
  ints_stay : (z : DivisionByZero) (op : IntsOp) (zs : List ℤ)
      → renamed_plain g (operate_ints z op zs) ≡ operate_ints z op zs
  ints_stay z (ints.Arithmetic Minus) (a ∷ []) = refl
  ints_stay z (ints.Arithmetic op) (a ∷ rest) = refl
  ints_stay z (ints.Comparison op) zs = refl
  ints_stay z ints.Mod (a ∷ n ∷ []) = refl
  ints_stay z ints.Abs (a ∷ []) = refl
  ints_stay z (ints.Divisible n) (a ∷ []) = refl
  ints_stay z _ _ = refl

  of_number_stays : (a : Rational) → renamed_plain g (element_of_number a) ≡ element_of_number a
  of_number_stays (rational.Integer z) = refl
  of_number_stays (rational.Fraction n d) = refl

  numbers_stay : (op : IntsOp) (ns : List Rational) → renamed_plain g (operate_numbers op ns) ≡ operate_numbers op ns
  numbers_stay (ints.Arithmetic Minus) (a ∷ []) = of_number_stays (negative a)
  numbers_stay (ints.Arithmetic op) (a ∷ rest) = of_number_stays (fold (calculated op) a rest)
  numbers_stay (ints.Comparison op) ns = refl
  numbers_stay _ _ = refl

  reals_stay : (table : List (Quotient × Quotient)) (op : RealsOp) (ns : List Rational)
      → renamed_plain g (operate_reals table op ns) ≡ operate_reals table op ns
  reals_stay table reals.Divide (a ∷ rest) = of_number_stays (fold (divided table) a rest)
  reals_stay table reals.ToReal (a ∷ []) = of_number_stays a
  reals_stay table reals.ToInt (a ∷ []) = refl
  reals_stay table reals.IsInt (a ∷ []) = refl
  reals_stay table _ _ = refl

  bits_stay : (op : BitsOp) (vs : List BitVector) → renamed_plain g (operate_bits op vs) ≡ operate_bits op vs
  bits_stay (bits.Constant x n) vs = refl
  bits_stay bits.Concat (s ∷ rest) = refl
  bits_stay (bits.Extract i j) (s ∷ []) = refl
  bits_stay (bits.Unary unary.Not) (s ∷ []) = refl
  bits_stay (bits.Unary unary.Negate) (s ∷ []) = refl
  bits_stay (bits.Unary unary.NegateOverflows) (s ∷ []) = refl
  bits_stay (bits.Unary unary.ToInt) (s ∷ []) = refl
  bits_stay (bits.Unary unary.ToIntOlder) (s ∷ []) = refl
  bits_stay (bits.Unary unary.SignedToInt) (s ∷ []) = refl
  bits_stay (bits.Folded op) (s ∷ rest) = refl
  bits_stay (bits.Binary op) (s ∷ t ∷ []) = refl
  bits_stay (bits.Comparison op) (s ∷ t ∷ []) = refl
  bits_stay bits.Comp (s ∷ t ∷ []) = refl
  bits_stay (bits.Repeat i) (s ∷ []) = refl
  bits_stay (bits.ZeroExtend i) (s ∷ []) = refl
  bits_stay (bits.SignExtend i) (s ∷ []) = refl
  bits_stay (bits.RotateLeft i) (s ∷ []) = refl
  bits_stay (bits.RotateRight i) (s ∷ []) = refl
  bits_stay _ _ = refl

  bits_of_int_stay : (n : ℕ) (zs : List ℤ) → renamed_plain g (bits_of_int n zs) ≡ bits_of_int n zs
  bits_of_int_stay n (z ∷ []) = refl
  bits_of_int_stay n _ = refl

  pub result_renamed : (z : DivisionByZero) (op : Op) (es : List Element)
      → operate z op (all_renamed es) ≡ renamed_plain g (operate z op es)
  result_renamed z (Core op) es = core_renamed op es
  result_renamed z (Arrays op) es = refl
  result_renamed z (Ints op) es =
      ap (λ b. cond b (operate_numbers op (map number_of (all_renamed es)))
      (operate_ints z op (map integer_of (all_renamed es)))) (any_fraction_stays es)
      ∙ ap₂ (λ ns zs. cond (list_any is_fraction es) (operate_numbers op ns) (operate_ints z op zs))
      (kept number_of number_stays es) (kept integer_of integer_stays es)
      ∙ by (list_any is_fraction es)
    where
      by : (b : Bool) → cond b (operate_numbers op (map number_of es)) (operate_ints z op (map integer_of es))
          ≡ renamed_plain g (cond b (operate_numbers op (map number_of es)) (operate_ints z op (map integer_of es)))
      by true = sym (numbers_stay op (map number_of es))
      by false = sym (ints_stay z op (map integer_of es))
  result_renamed z (Reals op) es =
      ap (operate_reals z.ratios op) (kept number_of number_stays es)
      ∙ sym (reals_stay z.ratios op (map number_of es))
  result_renamed z (Bits op) es = by (width_from_int op)
    where
      by : (o : Option ℕ) → operate_on_bits o op (all_renamed es) ≡ renamed_plain g (operate_on_bits o op es)
      by (Some n) = ap (bits_of_int n) (kept integer_of integer_stays es) ∙ sym (bits_of_int_stay n (map integer_of es))
      by None = ap (operate_bits op) (kept vector_of vector_stays es) ∙ sym (bits_stay op (map vector_of es))

-- ---- results are named

module _ (names : List (List ℕ)) where
  abbrev pub AllNamed : List Element → Type 0
  AllNamed [] = Unit {0}
  AllNamed (e ∷ es) = IsPlainOfName (IsAmong names) e × AllNamed es

  choice_named : (es : List Element) → AllNamed es
      → IsPlainOfName (IsAmong names) (chosen es)
  choice_named [] all = tt
  choice_named (c ∷ []) all = tt
  choice_named (c ∷ d ∷ []) all = tt
  choice_named (c ∷ d ∷ e ∷ []) all = by (truth_of c)
    where
      by : (t : Bool) → IsPlainOfName (IsAmong names) (cond t d e)
      by true = all.1.0
      by false = all.1.1.0
  choice_named (c ∷ d ∷ e ∷ f ∷ es) all = tt

  core_named : (op : CoreOp) (es : List Element) → AllNamed es
      → IsPlainOfName (IsAmong names) (operate_core op es)
  core_named cores.Ite es all = choice_named es all
  core_named _ es all = tt

  ints_named : (z : DivisionByZero) (op : IntsOp) (zs : List ℤ)
      → IsPlainOfName (IsAmong names) (operate_ints z op zs)
  ints_named z (ints.Arithmetic Minus) (a ∷ []) = tt
  ints_named z (ints.Arithmetic op) (a ∷ rest) = tt
  ints_named z (ints.Comparison op) zs = tt
  ints_named z ints.Mod (a ∷ n ∷ []) = tt
  ints_named z ints.Abs (a ∷ []) = tt
  ints_named z (ints.Divisible n) (a ∷ []) = tt
  ints_named z _ _ = tt

  number_named : (a : Rational) → IsPlainOfName (IsAmong names) (element_of_number a)
  number_named (rational.Integer z) = tt
  number_named (rational.Fraction n d) = tt

  numbers_named : (op : IntsOp) (ns : List Rational) → IsPlainOfName (IsAmong names) (operate_numbers op ns)
  numbers_named (ints.Arithmetic Minus) (a ∷ []) = number_named (negative a)
  numbers_named (ints.Arithmetic op) (a ∷ rest) = number_named (fold (calculated op) a rest)
  numbers_named (ints.Comparison op) ns = tt
  numbers_named _ _ = tt

  reals_named : (table : List (Quotient × Quotient)) (op : RealsOp) (ns : List Rational)
      → IsPlainOfName (IsAmong names) (operate_reals table op ns)
  reals_named table reals.Divide (a ∷ rest) = number_named (fold (divided table) a rest)
  reals_named table reals.ToReal (a ∷ []) = number_named a
  reals_named table reals.ToInt (a ∷ []) = tt
  reals_named table reals.IsInt (a ∷ []) = tt
  reals_named table _ _ = tt

  bits_named : (op : BitsOp) (vs : List BitVector) → IsPlainOfName (IsAmong names) (operate_bits op vs)
  bits_named (bits.Constant x n) vs = tt
  bits_named bits.Concat (s ∷ rest) = tt
  bits_named (bits.Extract i j) (s ∷ []) = tt
  bits_named (bits.Unary unary.Not) (s ∷ []) = tt
  bits_named (bits.Unary unary.Negate) (s ∷ []) = tt
  bits_named (bits.Unary unary.NegateOverflows) (s ∷ []) = tt
  bits_named (bits.Unary unary.ToInt) (s ∷ []) = tt
  bits_named (bits.Unary unary.ToIntOlder) (s ∷ []) = tt
  bits_named (bits.Unary unary.SignedToInt) (s ∷ []) = tt
  bits_named (bits.Folded op) (s ∷ rest) = tt
  bits_named (bits.Binary op) (s ∷ t ∷ []) = tt
  bits_named (bits.Comparison op) (s ∷ t ∷ []) = tt
  bits_named bits.Comp (s ∷ t ∷ []) = tt
  bits_named (bits.Repeat i) (s ∷ []) = tt
  bits_named (bits.ZeroExtend i) (s ∷ []) = tt
  bits_named (bits.SignExtend i) (s ∷ []) = tt
  bits_named (bits.RotateLeft i) (s ∷ []) = tt
  bits_named (bits.RotateRight i) (s ∷ []) = tt
  bits_named _ _ = tt

  bits_of_int_named : (n : ℕ) (zs : List ℤ) → IsPlainOfName (IsAmong names) (bits_of_int n zs)
  bits_of_int_named n (z ∷ []) = tt
  bits_of_int_named n _ = tt

  pub result_named : (z : DivisionByZero) (op : Op) (es : List Element)
      → AllNamed es → IsPlainOfName (IsAmong names) (operate z op es)
  result_named z (Core op) es all = core_named op es all
  result_named z (Arrays op) es all = tt
  result_named z (Ints op) es all = by (list_any is_fraction es)
    where
      by : (b : Bool) → IsPlainOfName (IsAmong names)
          (cond b (operate_numbers op (map number_of es)) (operate_ints z op (map integer_of es)))
      by true = numbers_named op (map number_of es)
      by false = ints_named z op (map integer_of es)
  result_named z (Reals op) es all = reals_named z.ratios op (map number_of es)
  result_named z (Bits op) es all = by (width_from_int op)
    where
      by : (o : Option ℕ) → IsPlainOfName (IsAmong names) (operate_on_bits o op es)
      by (Some n) = bits_of_int_named n (map integer_of es)
      by None = bits_named op (map vector_of es)
