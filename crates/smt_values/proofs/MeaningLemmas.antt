-- What is known of results is true, and results are of their sorts.
use Rattle.std.proofs.Common.{◌≡◌, ℕ, ℤ, pos, Bool, true, false, cond, not, ◌&&◌, ◌||◌, List, [], ◌∷◌, Option}
use Rattle.std.proofs.Common.{Some, None, nat_lt, refl, sym, ap, ◌∙◌, subst, neg_ℤ, ◌+ℤ◌, ◌-ℤ◌, ◌*ℤ◌}
use Rattle.std.specs.Prelude.{map, fold, option_map, option_and_then, unsigned_abs}
use Rattle.std.specs.Int.{int_div_euclid, int_rem_euclid}
use Rattle.std.specs.List.{list_all, list_any}
use Rattle.std.specs.Ordering.{int_eq}
use Rattle.smt_bits.specs.BitVector.{BitVector}
use Rattle.smt_theory.specs.declared.op.Arithmetic.{Arithmetic}
use Rattle.smt_theory.specs.declared.op.Arithmetic.TheVariants.{Minus, Plus, Times, Div}
use Rattle.smt_theory.specs.declared.op.CoreOp.{CoreOp}
use Rattle.smt_theory.specs.declared.op.CoreOp.TheVariants.{True, False, Not, Implies, And, Or, Xor, Equal}
use Rattle.smt_theory.specs.declared.op.CoreOp.TheVariants.{Distinct, Ite}
use Rattle.smt_theory.specs.declared.op.IntsOp.{IntsOp}
use Rattle.smt_theory.specs.declared.op.IntsOp.TheVariants.{Arithmetic as Left, Comparison as Chain, Mod, Abs}
use Rattle.smt_theory.specs.declared.op.IntsOp.TheVariants.{Divisible}
use Rattle.smt_theory.specs.declared.op.Op.{Op}
use Rattle.smt_theory.specs.declared.op.Op.TheVariants.{Core, Ints, Reals, Bits, Arrays}
use Rattle.smt_values.specs.BitOperations.{bits_of_int, operate_bits, width_from_int}
use Rattle.smt_values.specs.KnownBitOperations.{known_bits, known_bits_of_int}
use Rattle.smt_values.specs.KnownOperations.{known_on_bits}
use Rattle.smt_values.specs.Operations.{operate_on_bits}
use Rattle.smt_values.proofs.BitMeaningLemmas.{bits_true, int_true}
use Rattle.smt_values.specs.Element.{Element, Truth, Integer, Fraction, Vector, Abstract, Agrees, AllAgree}
use Rattle.smt_values.proofs.NumberMeaningLemmas.{KnownAreResults, fraction_agrees, integers_agree, mixed_true}
use Rattle.smt_values.proofs.NumberMeaningLemmas.{numbers_true, reals_true}
use Rattle.smt_values.specs.KnownNumbers.{is_known_fraction, known_mixed, known_numbers, known_reals}
use Rattle.smt_values.specs.Numbers.{number_of, operate_numbers, operate_reals}
use Rattle.smt_values.specs.KnownOperations.{known_truth, known_integers, known_vectors, is_known, decided}
use Rattle.smt_values.specs.KnownOperations.{as_disjunction, known_negation, known_choice, known_core}
use Rattle.smt_values.specs.KnownOperations.{is_within, within, known_quotient, known_remainder}
use Rattle.smt_values.specs.KnownOperations.{known_arithmetic, known_divisible, known_ints, known_step}
use Rattle.smt_values.specs.Lists.{all_known, are_chained, are_distinct, steps_from}
use Rattle.smt_values.specs.Operations.{DivisionByZero, truth_of, integer_of, vector_of, is_same, is_implied}
use Rattle.smt_values.specs.Operations.{chosen, negated, exclusive_or, operate_core, quotient, remainder}
use Rattle.smt_values.specs.Operations.{arithmetic, divides, operate_ints, operate}

-- ---- arguments that are all known

-- the arguments are what is known of them
all_known_true : (ks : List (Option Element)) (es fs : List Element) → AllAgree ks es → all_known ks ≡ Some fs
    → es ≡ fs
all_known_true [] [] fs h e = cc
all_known_true [] (x ∷ es) fs h e = absurd h
all_known_true (k ∷ ks) [] fs h e = absurd h
all_known_true (None ∷ ks) (x ∷ es) fs h e = cc
all_known_true (Some k ∷ ks) (x ∷ es) fs h e = by (all_known ks) (λ gs. all_known_true ks es gs h.1) e
  where
    by : (o : _) → ((gs : _) → o ≡ Some gs → es ≡ gs) → option_map (λ gs. k ∷ gs) o ≡ Some fs → x ∷ es ≡ fs
    by None f e = cc
    by (Some gs) f e = let n : k ∷ gs ≡ fs = cc in (λ i. h.0 i ∷ f gs refl i) ∙ n

integers_true : (ks : List (Option Element)) (es : List Element) (zs : List ℤ) → AllAgree ks es
    → known_integers ks ≡ Some zs → map integer_of es ≡ zs
integers_true [] [] zs h e = cc
integers_true [] (x ∷ es) zs h e = absurd h
integers_true (k ∷ ks) [] zs h e = absurd h
integers_true (None ∷ ks) (x ∷ es) zs h e = cc
integers_true (Some (Truth b) ∷ ks) (x ∷ es) zs h e = cc
integers_true (Some (Vector v) ∷ ks) (x ∷ es) zs h e = cc
integers_true (Some (Fraction top low) ∷ ks) (x ∷ es) zs h e = cc
integers_true (Some (Abstract name) ∷ ks) (x ∷ es) zs h e = cc
integers_true (Some (Integer z) ∷ ks) (x ∷ es) zs h e =
    by (known_integers ks) (λ ys. integers_true ks es ys h.1) e
  where
    by : (o : _) → ((ys : _) → o ≡ Some ys → map integer_of es ≡ ys) → option_map (λ ys. z ∷ ys) o ≡ Some zs
        → integer_of x ∷ map integer_of es ≡ zs
    by None f e = cc
    by (Some ys) f e = let n : z ∷ ys ≡ zs = cc in (λ i. integer_of (h.0 i) ∷ f ys refl i) ∙ n

truths_true : (ks : List (Option Element)) (es : List Element) (bs : List Bool) → AllAgree ks es
    → all_known (map known_truth ks) ≡ Some bs → map truth_of es ≡ bs
truths_true [] [] bs h e = cc
truths_true [] (x ∷ es) bs h e = absurd h
truths_true (k ∷ ks) [] bs h e = absurd h
truths_true (None ∷ ks) (x ∷ es) bs h e = cc
truths_true (Some (Integer z) ∷ ks) (x ∷ es) bs h e = cc
truths_true (Some (Vector v) ∷ ks) (x ∷ es) bs h e = cc
truths_true (Some (Fraction top low) ∷ ks) (x ∷ es) bs h e = cc
truths_true (Some (Abstract name) ∷ ks) (x ∷ es) bs h e = cc
truths_true (Some (Truth b) ∷ ks) (x ∷ es) bs h e =
    by (all_known (map known_truth ks)) (λ cs. truths_true ks es cs h.1) e
  where
    by : (o : _) → ((cs : _) → o ≡ Some cs → map truth_of es ≡ cs) → option_map (λ cs. b ∷ cs) o ≡ Some bs
        → truth_of x ∷ map truth_of es ≡ bs
    by None f e = cc
    by (Some cs) f e = let n : b ∷ cs ≡ bs = cc in (λ i. truth_of (h.0 i) ∷ f cs refl i) ∙ n

vectors_true : (ks : List (Option Element)) (es : List Element) (vs : List BitVector) → AllAgree ks es
    → known_vectors ks ≡ Some vs → map vector_of es ≡ vs
vectors_true [] [] vs h e = cc
vectors_true [] (x ∷ es) vs h e = absurd h
vectors_true (k ∷ ks) [] vs h e = absurd h
vectors_true (None ∷ ks) (x ∷ es) vs h e = cc
vectors_true (Some (Truth b) ∷ ks) (x ∷ es) vs h e = cc
vectors_true (Some (Integer z) ∷ ks) (x ∷ es) vs h e = cc
vectors_true (Some (Fraction top low) ∷ ks) (x ∷ es) vs h e = cc
vectors_true (Some (Abstract name) ∷ ks) (x ∷ es) vs h e = cc
vectors_true (Some (Vector v) ∷ ks) (x ∷ es) vs h e =
    by (known_vectors ks) (λ ws. vectors_true ks es ws h.1) e
  where
    by : (o : _) → ((ws : _) → o ≡ Some ws → map vector_of es ≡ ws) → option_map (λ ws. v ∷ ws) o ≡ Some vs
        → vector_of x ∷ map vector_of es ≡ vs
    by None f e = cc
    by (Some ws) f e = let n : v ∷ ws ≡ vs = cc in (λ i. vector_of (h.0 i) ∷ f ws refl i) ∙ n

-- what is known where all are is true
strict_true : {A : Type 0} (o : Option A) (f : A → Option Element) (e : Element)
    → ((x : A) → o ≡ Some x → Agrees (f x) e) → Agrees (option_and_then f o) e
strict_true None f e h = tt
strict_true (Some x) f e h = h x refl

map_true : {A : Type 0} (o : Option A) (f : A → Element) (e : Element) → ((x : A) → o ≡ Some x → e ≡ f x)
    → Agrees (option_map f o) e
map_true None f e h = tt
map_true (Some x) f e h = h x refl

-- ---- conjunction and disjunction

and_false : (b : Bool) → (b && false) ≡ false
and_false true = refl
and_false false = refl

or_true : (b : Bool) → (b || true) ≡ true
or_true true = refl
or_true false = refl

-- with an argument known to be false, the conjunction is false
some_false : (ks : List (Option Element)) (es : List Element) → AllAgree ks es
    → list_any (is_known false) ks ≡ true → list_all truth_of es ≡ false
some_false [] es h a = cc
some_false (k ∷ ks) [] h a = absurd h
some_false (None ∷ ks) (e ∷ es) h a =
    ap (λ b. truth_of e && b) (some_false ks es h.1 a) ∙ and_false (truth_of e)
some_false (Some (Integer z) ∷ ks) (e ∷ es) h a =
    ap (λ b. truth_of e && b) (some_false ks es h.1 a) ∙ and_false (truth_of e)
some_false (Some (Vector v) ∷ ks) (e ∷ es) h a =
    ap (λ b. truth_of e && b) (some_false ks es h.1 a) ∙ and_false (truth_of e)
some_false (Some (Fraction top low) ∷ ks) (e ∷ es) h a =
    ap (λ b. truth_of e && b) (some_false ks es h.1 a) ∙ and_false (truth_of e)
some_false (Some (Abstract name) ∷ ks) (e ∷ es) h a =
    ap (λ b. truth_of e && b) (some_false ks es h.1 a) ∙ and_false (truth_of e)
some_false (Some (Truth true) ∷ ks) (e ∷ es) h a =
    ap (λ b. truth_of e && b) (some_false ks es h.1 a) ∙ and_false (truth_of e)
some_false (Some (Truth false) ∷ ks) (e ∷ es) h a = ap (λ x. truth_of x && list_all truth_of es) h.0

-- with all arguments known to be true, it is true
all_true : (ks : List (Option Element)) (es : List Element) → AllAgree ks es
    → list_all (is_known true) ks ≡ true → list_all truth_of es ≡ true
all_true [] [] h a = refl
all_true [] (e ∷ es) h a = absurd h
all_true (k ∷ ks) [] h a = absurd h
all_true (None ∷ ks) (e ∷ es) h a = cc
all_true (Some (Integer z) ∷ ks) (e ∷ es) h a = cc
all_true (Some (Vector v) ∷ ks) (e ∷ es) h a = cc
all_true (Some (Fraction top low) ∷ ks) (e ∷ es) h a = cc
all_true (Some (Abstract name) ∷ ks) (e ∷ es) h a = cc
all_true (Some (Truth false) ∷ ks) (e ∷ es) h a = cc
all_true (Some (Truth true) ∷ ks) (e ∷ es) h a =
    ap (λ x. truth_of x && list_all truth_of es) h.0 ∙ all_true ks es h.1 a

-- with an argument known to be true, the disjunction is true
some_true : (ks : List (Option Element)) (es : List Element) → AllAgree ks es
    → list_any (is_known true) ks ≡ true → list_any truth_of es ≡ true
some_true [] es h a = cc
some_true (k ∷ ks) [] h a = absurd h
some_true (None ∷ ks) (e ∷ es) h a = ap (λ b. truth_of e || b) (some_true ks es h.1 a) ∙ or_true (truth_of e)
some_true (Some (Integer z) ∷ ks) (e ∷ es) h a =
    ap (λ b. truth_of e || b) (some_true ks es h.1 a) ∙ or_true (truth_of e)
some_true (Some (Vector v) ∷ ks) (e ∷ es) h a =
    ap (λ b. truth_of e || b) (some_true ks es h.1 a) ∙ or_true (truth_of e)
some_true (Some (Fraction top low) ∷ ks) (e ∷ es) h a =
    ap (λ b. truth_of e || b) (some_true ks es h.1 a) ∙ or_true (truth_of e)
some_true (Some (Abstract name) ∷ ks) (e ∷ es) h a =
    ap (λ b. truth_of e || b) (some_true ks es h.1 a) ∙ or_true (truth_of e)
some_true (Some (Truth false) ∷ ks) (e ∷ es) h a =
    ap (λ b. truth_of e || b) (some_true ks es h.1 a) ∙ or_true (truth_of e)
some_true (Some (Truth true) ∷ ks) (e ∷ es) h a = ap (λ x. truth_of x || list_any truth_of es) h.0

-- with all arguments known to be false, it is false
all_false : (ks : List (Option Element)) (es : List Element) → AllAgree ks es
    → list_all (is_known false) ks ≡ true → list_any truth_of es ≡ false
all_false [] [] h a = refl
all_false [] (e ∷ es) h a = absurd h
all_false (k ∷ ks) [] h a = absurd h
all_false (None ∷ ks) (e ∷ es) h a = cc
all_false (Some (Integer z) ∷ ks) (e ∷ es) h a = cc
all_false (Some (Vector v) ∷ ks) (e ∷ es) h a = cc
all_false (Some (Fraction top low) ∷ ks) (e ∷ es) h a = cc
all_false (Some (Abstract name) ∷ ks) (e ∷ es) h a = cc
all_false (Some (Truth true) ∷ ks) (e ∷ es) h a = cc
all_false (Some (Truth false) ∷ ks) (e ∷ es) h a =
    ap (λ x. truth_of x || list_any truth_of es) h.0 ∙ all_false ks es h.1 a

-- what is decided is true, where a decisive argument makes it so, and arguments that are all the other way
-- the opposite
decided_true : (d : Bool) (ks : List (Option Element)) (b : Bool) → (list_any (is_known d) ks ≡ true → b ≡ d)
    → (list_all (is_known (not d)) ks ≡ true → b ≡ not d)
    → Agrees (decided d ks) (Truth b)
decided_true d ks b one all = by (list_any (is_known d) ks) (list_all (is_known (not d)) ks) one all
  where
    by : (p q : Bool) → (p ≡ true → b ≡ d) → (q ≡ true → b ≡ not d)
        → Agrees (cond p (Some (Truth d)) (cond q (Some (Truth (not d))) None)) (Truth b)
    by true q one all = ap Truth (one refl)
    by false true one all = ap Truth (all refl)
    by false false one all = tt

-- ---- `=>`

-- the premises negated
abbrev premises_negated : List Element → List Element
premises_negated [] = []
premises_negated (e ∷ []) = e ∷ []
premises_negated (e ∷ f ∷ es) = Truth (not (truth_of e)) ∷ premises_negated (f ∷ es)

or_false : (b : Bool) → b ≡ (b || false)
or_false true = refl
or_false false = refl

implied_is : (es : List Element) → is_implied (map truth_of es) ≡ list_any truth_of (premises_negated es)
implied_is [] = refl
implied_is (e ∷ []) = or_false (truth_of e)
implied_is (e ∷ f ∷ es) = ap (λ b. not (truth_of e) || b) (implied_is (f ∷ es))

not_true : (k : Option Element) (e : Element) → Agrees k e
    → Agrees (option_map (λ b. Truth (not b)) (known_truth k)) (Truth (not (truth_of e)))
not_true None e h = tt
not_true (Some (Truth b)) e h = ap (λ x. Truth (not (truth_of x))) h
not_true (Some (Integer z)) e h = tt
not_true (Some (Vector v)) e h = tt
not_true (Some (Fraction top low)) e h = tt
not_true (Some (Abstract name)) e h = tt

negated_agree : (ks : List (Option Element)) (es : List Element) → AllAgree ks es
    → AllAgree (as_disjunction ks) (premises_negated es)
negated_agree [] [] h = tt
negated_agree [] (e ∷ es) h = absurd h
negated_agree (k ∷ ks) [] h = absurd h
negated_agree (k ∷ []) (e ∷ []) h = h
negated_agree (k ∷ []) (e ∷ f ∷ es) h = absurd h.1
negated_agree (k ∷ l ∷ ks) (e ∷ []) h = absurd h.1
negated_agree (k ∷ l ∷ ks) (e ∷ f ∷ es) h = (not_true k e h.0, negated_agree (l ∷ ks) (f ∷ es) h.1)

-- ---- the theory Core

negation_true : (ks : List (Option Element)) (es : List Element) → AllAgree ks es
    → Agrees (known_negation ks) (Truth (negated es))
negation_true [] es h = tt
negation_true (k ∷ []) [] h = absurd h
negation_true (k ∷ []) (e ∷ []) h = not_true k e h.0
negation_true (k ∷ []) (e ∷ f ∷ es) h = absurd h.1
negation_true (k ∷ l ∷ ks) es h = tt

choice_true : (ks : List (Option Element)) (es : List Element) → AllAgree ks es
    → Agrees (known_choice ks) (chosen es)
choice_true [] es h = tt
choice_true (c ∷ []) es h = tt
choice_true (c ∷ a ∷ []) es h = tt
choice_true (c ∷ a ∷ b ∷ d ∷ ks) es h = tt
choice_true (c ∷ a ∷ b ∷ []) [] h = absurd h
choice_true (c ∷ a ∷ b ∷ []) (x ∷ []) h = absurd h.1
choice_true (c ∷ a ∷ b ∷ []) (x ∷ y ∷ []) h = absurd h.1.1
choice_true (c ∷ a ∷ b ∷ []) (x ∷ y ∷ w ∷ v ∷ es) h = absurd h.1.1.1
choice_true (None ∷ a ∷ b ∷ []) (x ∷ y ∷ w ∷ []) h = tt
choice_true (Some (Integer z) ∷ a ∷ b ∷ []) (x ∷ y ∷ w ∷ []) h = tt
choice_true (Some (Vector v) ∷ a ∷ b ∷ []) (x ∷ y ∷ w ∷ []) h = tt
choice_true (Some (Fraction top low) ∷ a ∷ b ∷ []) (x ∷ y ∷ w ∷ []) h = tt
choice_true (Some (Abstract name) ∷ a ∷ b ∷ []) (x ∷ y ∷ w ∷ []) h = tt
choice_true (Some (Truth true) ∷ a ∷ b ∷ []) (x ∷ y ∷ w ∷ []) h =
    subst (λ e. Agrees a (cond (truth_of e) y w)) (sym h.0) h.1.0
choice_true (Some (Truth false) ∷ a ∷ b ∷ []) (x ∷ y ∷ w ∷ []) h =
    subst (λ e. Agrees b (cond (truth_of e) y w)) (sym h.0) h.1.1.0

core_true : (op : CoreOp) (ks : List (Option Element)) (es : List Element) → AllAgree ks es
    → Agrees (known_core op ks) (operate_core op es)
core_true True ks es h = refl
core_true False ks es h = refl
core_true Not ks es h = negation_true ks es h
core_true Implies ks es h =
    let g = negated_agree ks es h in
    decided_true true (as_disjunction ks) (is_implied (map truth_of es))
    (λ a. implied_is es ∙ some_true (as_disjunction ks) (premises_negated es) g a)
    (λ a. implied_is es ∙ all_false (as_disjunction ks) (premises_negated es) g a)
core_true And ks es h = decided_true false ks (list_all truth_of es) (some_false ks es h) (all_true ks es h)
core_true Or ks es h = decided_true true ks (list_any truth_of es) (some_true ks es h) (all_false ks es h)
core_true Xor ks es h =
    map_true (all_known (map known_truth ks)) (λ bs. Truth (fold exclusive_or false bs))
    (Truth (fold exclusive_or false (map truth_of es)))
    (λ bs e. ap (λ cs. Truth (fold exclusive_or false cs)) (truths_true ks es bs h e))
core_true Equal ks es h =
    map_true (all_known ks) (λ fs. Truth (are_chained is_same fs)) (Truth (are_chained is_same es))
    (λ fs e. ap (λ gs. Truth (are_chained is_same gs)) (all_known_true ks es fs h e))
core_true Distinct ks es h =
    map_true (all_known ks) (λ fs. Truth (are_distinct is_same fs)) (Truth (are_distinct is_same es))
    (λ fs e. ap (λ gs. Truth (are_distinct is_same gs)) (all_known_true ks es fs h e))
core_true Ite ks es h = choice_true ks es h

-- ---- the theory Ints

within_is : (z c : ℤ) → within z ≡ Some c → z ≡ c
within_is z c e = by (is_within z) e
  where
    by : (b : Bool) → cond b (Some z) None ≡ Some c → z ≡ c
    by true e = cc
    by false e = cc

within_true : (z : ℤ) → Agrees (option_map Integer (within z)) (Integer z)
within_true z = by (is_within z)
  where
    by : (b : Bool) → Agrees (option_map Integer (cond b (Some z) None)) (Integer z)
    by true = refl
    by false = tt

quotient_is : (t : DivisionByZero) (a n c : ℤ) → known_quotient a n ≡ Some c → quotient t a n ≡ c
quotient_is t a n c e = by (int_eq n (pos 0)) _ e
  where
    by : (b : Bool) (d : ℤ) → cond b None (within (int_div_euclid a n)) ≡ Some c
        → cond b d (int_div_euclid a n) ≡ c
    by true d e = cc
    by false d e = within_is (int_div_euclid a n) c e

arithmetic_is : (t : DivisionByZero) (op : Arithmetic) (a b c : ℤ) → known_arithmetic op a b ≡ Some c
    → arithmetic t op a b ≡ c
arithmetic_is t Minus a b c e = within_is (a -ℤ b) c e
arithmetic_is t Plus a b c e = within_is (a +ℤ b) c e
arithmetic_is t Times a b c e = within_is (a *ℤ b) c e
arithmetic_is t Div a b c e = quotient_is t a b c e

steps_true : (t : DivisionByZero) (op : Arithmetic) (a : ℤ) (zs : List ℤ)
    → Agrees (option_map Integer (steps_from (known_arithmetic op) a zs))
    (Integer (fold (arithmetic t op) a zs))
steps_true t op a [] = refl
steps_true t op a (b ∷ zs) = by (known_arithmetic op a b) (arithmetic_is t op a b) (λ c. steps_true t op c zs)
  where
    by : (o : Option ℤ) → ((c : ℤ) → o ≡ Some c → arithmetic t op a b ≡ c)
        → ((c : ℤ) → Agrees (option_map Integer (steps_from (known_arithmetic op) c zs))
        (Integer (fold (arithmetic t op) c zs)))
        → Agrees (option_map Integer (option_and_then (λ c. steps_from (known_arithmetic op) c zs) o))
        (Integer (fold (arithmetic t op) (arithmetic t op a b) zs))
    by None f g = tt
    by (Some c) f g = subst (λ d. Agrees (option_map Integer (steps_from (known_arithmetic op) c zs))
        (Integer (fold (arithmetic t op) d zs))) (sym (f c refl)) (g c)

remainder_true : (t : DivisionByZero) (a n : ℤ)
    → Agrees (option_map Integer (known_remainder a n)) (Integer (remainder t a n))
remainder_true t a n = by (int_eq n (pos 0)) _
  where
    by : (b : Bool) (d : ℤ) → Agrees (option_map Integer (cond b None (Some (int_rem_euclid a n))))
        (Integer (cond b d (int_rem_euclid a n)))
    by true d = tt
    by false d = refl

divisible_true : (n : ℕ) (a : ℤ)
    → Agrees (option_map Truth (known_divisible n (a ∷ []))) (Truth (divides n a))
divisible_true n a = by (nat_lt 0 n)
  where
    by : (b : Bool) → Agrees (option_map Truth (cond b (Some (divides n a)) None)) (Truth (divides n a))
    by true = refl
    by false = tt

ints_true : (t : DivisionByZero) (op : IntsOp) (zs : List ℤ)
    → Agrees (known_ints op zs) (operate_ints t op zs)
ints_true t (Left op) [] = tt
ints_true t (Left Minus) (a ∷ []) = within_true (neg_ℤ a)
ints_true t (Left Minus) (a ∷ b ∷ zs) = steps_true t Minus a (b ∷ zs)
ints_true t (Left Plus) (a ∷ zs) = steps_true t Plus a zs
ints_true t (Left Times) (a ∷ zs) = steps_true t Times a zs
ints_true t (Left Div) (a ∷ zs) = steps_true t Div a zs
ints_true t (Chain op) zs = refl
ints_true t Mod [] = tt
ints_true t Mod (a ∷ []) = tt
ints_true t Mod (a ∷ n ∷ []) = remainder_true t a n
ints_true t Mod (a ∷ n ∷ b ∷ zs) = tt
ints_true t Abs [] = tt
ints_true t Abs (a ∷ []) = within_true (pos (unsigned_abs a))
ints_true t Abs (a ∷ b ∷ zs) = tt
ints_true t (Divisible n) [] = tt
ints_true t (Divisible n) (a ∷ []) = divisible_true n a
ints_true t (Divisible n) (a ∷ b ∷ zs) = tt

-- ---- operators of Ints, where an argument may be a fraction

module _ (results : KnownAreResults) (t : DivisionByZero) (op : IntsOp) (ks : List (Option Element))
    (es : List Element) (agree : AllAgree ks es) where
  mixed_step_true : list_any is_known_fraction ks ≡ true
      → Agrees (option_and_then (known_mixed op) (known_numbers ks)) (operate t (Ints op) es)
  mixed_step_true some =
      subst (λ b. Agrees (option_and_then (known_mixed op) (known_numbers ks))
      (cond b (operate_numbers op (map number_of es)) (operate_ints t op (map integer_of es))))
      (sym (fraction_agrees ks es agree some))
      (strict_true (known_numbers ks) (known_mixed op) (operate_numbers op (map number_of es))
      (λ rs e. subst (λ ys. Agrees (known_mixed op rs) (operate_numbers op ys)) (sym (numbers_true ks es rs agree e))
      (mixed_true results op rs)))

  ints_step_true : Agrees (option_and_then (known_ints op) (known_integers ks)) (operate t (Ints op) es)
  ints_step_true =
      strict_true (known_integers ks) (known_ints op) (operate t (Ints op) es)
      (λ zs e. subst (λ b. Agrees (known_ints op zs)
      (cond b (operate_numbers op (map number_of es)) (operate_ints t op (map integer_of es))))
      (sym (integers_agree ks es zs agree e))
      (subst (λ ys. Agrees (known_ints op zs) (operate_ints t op ys)) (sym (integers_true ks es zs agree e))
      (ints_true t op zs)))

  number_step_true : Agrees (known_step (Ints op) ks) (operate t (Ints op) es)
  number_step_true = by (list_any is_known_fraction ks) refl
    where
      by : (b : Bool) → list_any is_known_fraction ks ≡ b
          → Agrees (cond b (option_and_then (known_mixed op) (known_numbers ks))
          (option_and_then (known_ints op) (known_integers ks))) (operate t (Ints op) es)
      by true some = mixed_step_true some
      by false none = ints_step_true

-- ---- all

pub known_step_true : (results : KnownAreResults) (t : DivisionByZero) (op : Op) (ks : List (Option Element))
    (es : List Element) → AllAgree ks es → Agrees (known_step op ks) (operate t op es)
known_step_true results t (Core op) ks es h = core_true op ks es h
known_step_true results t (Ints op) ks es h = number_step_true results t op ks es h
known_step_true results t (Reals op) ks es h =
    strict_true (known_numbers ks) (known_reals op) (operate_reals t.ratios op (map number_of es))
    (λ rs e. subst (λ ys. Agrees (known_reals op rs) (operate_reals t.ratios op ys))
    (sym (numbers_true ks es rs h e)) (reals_true results t.ratios op rs))
known_step_true results t (Arrays op) ks es h = tt
known_step_true results t (Bits op) ks es h = by (width_from_int op)
  where
    by : (o : Option ℕ) → Agrees (known_on_bits o op ks) (operate_on_bits o op es)
    by (Some n) =
        strict_true (known_integers ks) (known_bits_of_int n) (bits_of_int n (map integer_of es))
        (λ zs e. subst (λ ys. Agrees (known_bits_of_int n zs) (bits_of_int n ys)) (sym (integers_true ks es zs h e))
        (int_true n zs))
    by None =
        strict_true (known_vectors ks) (known_bits op) (operate_bits op (map vector_of es))
        (λ vs e. subst (λ ys. Agrees (known_bits op vs) (operate_bits op ys)) (sym (vectors_true ks es vs h e))
        (bits_true op vs))
