-- Arguments that are all known, and are of the sorts of a rank, give a result that is known, unless it is a number.
use Rattle.std.proofs.Common.{◌≢◌, ◌∙◌, ◌≡◌, ◌⊎◌, inl, inr, ℕ, suc, ◌+◌, ◌*◌, ◌≤◌, ◌<◌, Bool, true, false, not}
use Rattle.std.proofs.Common.{cond, List, [], ◌∷◌, Option, Some, None, get_or, is_some, length, nat_lt, nat_le, refl}
use Rattle.std.proofs.Common.{sym, ap, subst, arith, rules}
use Rattle.std.specs.List.{list_all, list_any, sum}
use Rattle.std.specs.Prelude.{All, ◌==◌, ◌&&◌, ◌^◌, IsSome, map, option_and_then, option_map}
use Rattle.smt_bits.specs.BitVector.{BitVector, vector}
use Rattle.smt_bits.specs.Parts.{concatenation}
use Rattle.smt_theory.specs.Operators.{is_on_arrays}
use Rattle.smt_theory.specs.Ranks.{HasRank}
use Rattle.smt_theory.specs.Shapes.{AreNumbers, AreOf, HasShape, IsNumber}
use Rattle.smt_theory.specs.declared.shapes.Arity.{Arity}
use Rattle.smt_theory.specs.declared.shapes.Arity.TheVariants.{One, OneOrMore, Several}
use Rattle.smt_theory.specs.declared.shapes.Shape.TheVariants.{Calculated, Constant as Nullary, Uniform}
use Rattle.smt_theory.specs.declared.shapes.Shape.TheVariants.{OutOfRange}
use Rattle.smt_theory.specs.declared.op.Arithmetic.TheVariants.{Minus, Plus, Times, Div}
use Rattle.smt_theory.specs.declared.op.BitsFolded.{BitsFolded}
use Rattle.smt_theory.specs.declared.op.BitsOp.{BitsOp}
use Rattle.smt_theory.specs.declared.op.BitsOp.TheVariants.{Constant, Concat, Extract, Unary, Folded, Binary}
use Rattle.smt_theory.specs.declared.op.BitsOp.TheVariants.{Comparison, Comp, Repeat, ZeroExtend, SignExtend}
use Rattle.smt_theory.specs.declared.op.BitsOp.TheVariants.{RotateLeft, RotateRight, FromInt, FromIntOlder}
use Rattle.smt_theory.specs.declared.op.BitsUnary.{BitsUnary}
use Rattle.smt_theory.specs.declared.op.BitsUnary.TheVariants.{Not, Negate, NegateOverflows, ToInt, ToIntOlder}
use Rattle.smt_theory.specs.declared.op.BitsUnary.TheVariants.{SignedToInt}
use Rattle.smt_theory.specs.Bits.{shape_from_int}
use Rattle.smt_theory.specs.declared.op.CoreOp.{CoreOp}
use Rattle.smt_theory.specs.declared.op.CoreOp.TheVariants.{True, False, Not, Implies, And, Or, Xor, Equal}
use Rattle.smt_theory.specs.declared.op.CoreOp.TheVariants.{Distinct, Ite}
use Rattle.smt_theory.specs.declared.op.IntsOp.{IntsOp}
use Rattle.smt_theory.specs.declared.op.IntsOp.TheVariants.{Arithmetic as Left, Comparison as Chain, Mod, Abs}
use Rattle.smt_theory.specs.declared.op.IntsOp.TheVariants.{Divisible}
use Rattle.smt_theory.specs.declared.op.Op.{Op}
use Rattle.smt_theory.specs.declared.op.Op.TheVariants.{Core, Ints, Reals, Bits, Arrays}
use Rattle.smt_theory.specs.declared.op.Comparison.{Comparison as Relation}
use Rattle.smt_theory.specs.declared.op.RealsOp.{RealsOp}
use Rattle.smt_theory.specs.declared.op.RealsOp.TheVariants.{Divide, ToReal, ToInt, IsInt}
use Rattle.smt_theory.specs.Sort.{Sort, is_number}
use Rattle.smt_theory.specs.Sort.{Boolean, Int, Real, Bits as BitsSort}
use Rattle.smt_values.proofs.BitSortLemmas.{one, sum-cons, two, vector_is}
use Rattle.smt_values.proofs.NumberKnownLemmas.{AreNumeric, all_numeric, integers_known, numbers_known}
use Rattle.smt_values.specs.BitOperations.{folded_vector}
use Rattle.smt_values.specs.Element.{Element, Truth, Integer, Fraction, Vector, Abstract, IsOfSort, AreOfSorts}
use Rattle.smt_values.specs.KnownBitOperations.{known_bits, known_bits_of_int, known_folded}
use Rattle.smt_values.specs.KnownOperations.{known_on_bits}
use Rattle.smt_values.specs.KnownNumbers.{is_known_fraction, known_mixed, known_numbers}
use Rattle.smt_values.specs.KnownOperations.{as_disjunction, decided, is_known, known_core, known_ints}
use Rattle.smt_values.specs.KnownOperations.{known_integers}
use Rattle.smt_values.specs.KnownOperations.{known_step, known_truth, known_vectors}
use Rattle.smt_values.specs.Lists.{all_known, steps_from}
use Rattle.smt_values.specs.Operations.{truth_of, vector_of}

-- ---- arguments

-- each of one sort
abbrev AreAll : Sort → List Element → Type 0
AreAll sort [] = Unit {0}
AreAll sort (e ∷ es) = IsOfSort sort e × AreAll sort es

all_of : (sort : Sort) (sorts : List Sort) (es : List Element) → All (λ s. s ≡ sort) sorts
    → AreOfSorts sorts es → AreAll sort es
all_of sort [] [] each h = tt
all_of sort [] (e ∷ es) each h = absurd h
all_of sort (s ∷ sorts) [] each h = absurd h
all_of sort (s ∷ sorts) (e ∷ es) each h = (
  subst (λ s. IsOfSort s e) (each 0 sort (omega arith)) h.0,
  all_of sort sorts es
      (λ i d below. each (suc i) d (omega arith)) h.1,
)

themselves : (es : List Element) → all_known (map Some es) ≡ Some es
themselves [] = refl
themselves (e ∷ es) = ap (option_map (λ xs. e ∷ xs)) (themselves es)

truths : (es : List Element) → AreAll Boolean es
    → all_known (map known_truth (map Some es)) ≡ Some (map truth_of es)
truths [] h = refl
truths (Truth b ∷ es) h = ap (option_map (λ bs. b ∷ bs)) (truths es h.1)
truths (Integer z ∷ es) h = absurd h.0
truths (Vector v ∷ es) h = absurd h.0
truths (Fraction top low ∷ es) h = absurd h.0
truths (Abstract name ∷ es) h = absurd h.0

-- each of a sort of bit vectors
abbrev AreVectors : List Sort → Type 0
AreVectors [] = Unit {0}
AreVectors (s ∷ sorts) = ((m : ℕ) × (s ≡ BitsSort m)) × AreVectors sorts

vectors : (sorts : List Sort) (es : List Element) → AreVectors sorts → AreOfSorts sorts es
    → known_vectors (map Some es) ≡ Some (map vector_of es)
vectors [] [] each h = refl
vectors [] (e ∷ es) each h = absurd h
vectors (s ∷ sorts) [] each h = absurd h
vectors (s ∷ sorts) (e ∷ es) each h =
    by e (subst (λ s. IsOfSort s e) each.0.1 h.0) (vectors sorts es each.1 h.1)
  where
    by : (e : Element) → IsOfSort (BitsSort each.0.0) e
        → known_vectors (map Some es) ≡ Some (map vector_of es)
        → known_vectors (map Some (e ∷ es)) ≡ Some (map vector_of (e ∷ es))
    by (Truth b) h rest = absurd h
    by (Integer z) h rest = absurd h
    by (Fraction top low) h rest = absurd h
    by (Abstract name) h rest = absurd h
    by (Vector v) h rest = ap (option_map (λ vs. v ∷ vs)) rest

several_vectors : (m : ℕ) (sorts : List Sort) → All (λ s. s ≡ BitsSort m) sorts → AreVectors sorts
several_vectors m [] each = tt
several_vectors m (s ∷ sorts) each = (
  (m, each 0 (BitsSort m) (omega arith)),
  several_vectors m sorts
      (λ i d below. each (suc i) d (omega arith)),
)

width_vectors : (widths : List ℕ) → AreVectors (map BitsSort widths)
width_vectors [] = tt
width_vectors (m ∷ widths) = ((m, refl), width_vectors widths)

-- ---- theory Core

either : {A : Type 0} (a b : Bool) (x y : A) → (a ≡ true) ⊎ (b ≡ true)
    → IsSome (cond a (Some x) (cond b (Some y) None))
either true b x y h = refl
either false true x y h = refl
either false false x y h = elim h [ inl e ↦ cc | inr e ↦ cc ]

decided_known : (d : Bool) (es : List Element) → AreAll Boolean es → IsSome (decided d (map Some es))
decided_known d es h =
    either (list_any (is_known d) (map Some es)) (list_all (is_known (not d)) (map Some es)) (Truth d)
    (Truth (not d)) (by d es h)
  where
    by : (d : Bool) (es : List Element) → AreAll Boolean es
        → (list_any (is_known d) (map Some es) ≡ true) ⊎ (list_all (is_known (not d)) (map Some es) ≡ true)
    by d [] h = inr refl
    by true (Truth true ∷ es) h = inl refl
    by true (Truth false ∷ es) h = by true es h.1
    by false (Truth true ∷ es) h = by false es h.1
    by false (Truth false ∷ es) h = inl refl
    by d (Integer z ∷ es) h = absurd h.0
    by d (Vector v ∷ es) h = absurd h.0
    by d (Fraction top low ∷ es) h = absurd h.0
    by d (Abstract name ∷ es) h = absurd h.0

-- what `=>` makes of its arguments are truth values too
disjunction : (es : List Element) → AreAll Boolean es
    → (fs : List Element) × AreAll Boolean fs × (as_disjunction (map Some es) ≡ map Some fs)
disjunction [] h = ([], tt, refl)
disjunction (e ∷ []) h = (e ∷ [], h, refl)
disjunction (Truth b ∷ e ∷ es) h =
    let rest = disjunction (e ∷ es) h.1
    in (Truth (not b) ∷ rest.0, (tt, rest.1), ap (λ xs. Some (Truth (not b)) ∷ xs) rest.2)
disjunction (Integer z ∷ e ∷ es) h = absurd h.0
disjunction (Vector v ∷ e ∷ es) h = absurd h.0
disjunction (Fraction top low ∷ e ∷ es) h = absurd h.0
disjunction (Abstract name ∷ e ∷ es) h = absurd h.0

some_of : {A B : Type 0} (f : A → B) (o : Option A) (x : A) → o ≡ Some x → IsSome (option_map f o)
some_of f o x e = ap (λ o. is_some (option_map f o)) e

mapped : {A B : Type 0} (f : A → B) (o : Option A) → IsSome o → IsSome (option_map f o)
mapped f None h = cc
mapped f (Some x) h = refl

negation : (es : List Element) → AreOfSorts (Boolean ∷ []) es → IsSome (known_core Not (map Some es))
negation [] h = absurd h
negation (Truth b ∷ []) h = refl
negation (Integer z ∷ []) h = absurd h.0
negation (Vector v ∷ []) h = absurd h.0
negation (Fraction top low ∷ []) h = absurd h.0
negation (Abstract name ∷ []) h = absurd h.0
negation (e ∷ f ∷ es) h = absurd h.1

choice : (s t : Sort) (es : List Element) → AreOfSorts (Boolean ∷ s ∷ t ∷ []) es
    → IsSome (known_core Ite (map Some es))
choice s t [] h = absurd h
choice s t (c ∷ []) h = absurd h.1
choice s t (c ∷ a ∷ []) h = absurd h.1.1
choice s t (Truth true ∷ a ∷ b ∷ []) h = refl
choice s t (Truth false ∷ a ∷ b ∷ []) h = refl
choice s t (Integer z ∷ a ∷ b ∷ []) h = absurd h.0
choice s t (Vector v ∷ a ∷ b ∷ []) h = absurd h.0
choice s t (Fraction top low ∷ a ∷ b ∷ []) h = absurd h.0
choice s t (Abstract name ∷ a ∷ b ∷ []) h = absurd h.0
choice s t (c ∷ a ∷ b ∷ d ∷ es) h = absurd h.1.1.1

pub core_known : (op : CoreOp) (sorts : List Sort) (sort : Sort) (es : List Element)
    → HasRank (Core op) sorts sort → AreOfSorts sorts es → IsSome (known_step (Core op) (map Some es))
core_known True sorts sort es r h = refl
core_known False sorts sort es r h = refl
core_known Not sorts sort es r h = negation es (subst (λ ss. AreOfSorts ss es) r.0 h)
core_known Implies sorts sort es r h =
    let rest = disjunction es (all_of Boolean sorts es r.0.1 h)
    in subst (λ xs. IsSome (decided true xs)) (sym rest.2) (decided_known true rest.0 rest.1)
core_known And sorts sort es r h = decided_known false es (all_of Boolean sorts es r.0.1 h)
core_known Or sorts sort es r h = decided_known true es (all_of Boolean sorts es r.0.1 h)
core_known Xor sorts sort es r h = some_of _ _ (map truth_of es) (truths es (all_of Boolean sorts es r.0.1 h))
core_known Equal sorts sort es r h = some_of _ _ es (themselves es)
core_known Distinct sorts sort es r h = some_of _ _ es (themselves es)
core_known Ite sorts sort es (inl r) h = choice sort sort es (subst (λ ss. AreOfSorts ss es) r h)
core_known Ite sorts sort es (inr r) h = choice r.0 r.1 es (subst (λ ss. AreOfSorts ss es) r.2 h)

-- ---- theory Ints

divisible : (n : ℕ) (es : List Element) → nat_lt 0 n ≡ true → AreOfSorts (Int ∷ []) es
    → IsSome (known_step (Ints (Divisible n)) (map Some es))
divisible n [] positive h = absurd h
divisible n (Integer z ∷ []) positive h = rw positive refl
divisible n (Truth b ∷ []) positive h = absurd h.0
divisible n (Vector v ∷ []) positive h = absurd h.0
divisible n (Fraction top low ∷ []) positive h = absurd h.0
divisible n (Abstract name ∷ []) positive h = absurd h.0
divisible n (e ∷ f ∷ es) positive h = absurd h.1

-- a sort of numbers is no other sort
other_than : (s t : Sort) → s ≡ t → is_number t ≡ true → is_number s ≡ false → ⊥
other_than s t is number other = absurd (let e = ap is_number is in cc)

number_is : (s : Sort) → IsNumber s → is_number s ≡ false → ⊥
number_is s (inl is) other = other_than s Int is refl other
number_is s (inr is) other = other_than s Real is refl other

calculated_need : (arity : Arity) (sorts : List Sort) (sort : Sort) → HasShape (Calculated arity) sorts sort
    → is_number sort ≡ false → ⊥
calculated_need arity sorts sort (inl r) other = other_than sort Int r.1 refl other
calculated_need arity sorts sort (inr r) other = other_than sort Real r.2 refl other

-- numbers are compared, whichever they are
chain_known : (op : Relation) (es : List Element) → AreNumeric es → IsSome (known_step (Ints (Chain op)) (map Some es))
chain_known op es h = by (list_any is_known_fraction (map Some es)) refl
  where
    by : (b : Bool) → list_any is_known_fraction (map Some es) ≡ b
        → IsSome (cond b (option_and_then (known_mixed (Chain op)) (known_numbers (map Some es)))
        (option_and_then (known_ints (Chain op)) (known_integers (map Some es))))
    by true some = rw (numbers_known es h) refl
    by false none = rw (integers_known es h none) refl

pub ints_known : (op : IntsOp) (sorts : List Sort) (sort : Sort) (es : List Element)
    → HasRank (Ints op) sorts sort → AreOfSorts sorts es → is_number sort ≡ false
    → IsSome (known_step (Ints op) (map Some es))
ints_known (Left Minus) sorts sort es r h other = absurd (calculated_need OneOrMore sorts sort r other)
ints_known (Left Plus) sorts sort es r h other = absurd (calculated_need Several sorts sort r other)
ints_known (Left Times) sorts sort es r h other = absurd (calculated_need Several sorts sort r other)
ints_known (Left Div) sorts sort es r h other = absurd (other_than sort Int r.1 refl other)
ints_known Mod sorts sort es r h other = absurd (other_than sort Int r.1 refl other)
ints_known Abs sorts sort es r h other = absurd (other_than sort Int r.1 refl other)
ints_known (Chain op) sorts sort es r h other = chain_known op es (all_numeric sorts es r.0.1 h)
ints_known (Divisible n) sorts sort es r h other = by (nat_lt 0 n) refl r
  where
    by : (b : Bool) → nat_lt 0 n ≡ b → HasShape (cond b (Uniform One Int Boolean) OutOfRange) sorts sort
        → IsSome (known_step (Ints (Divisible n)) (map Some es))
    by true positive r = divisible n es positive (subst (λ ss. AreOfSorts ss es) r.0 h)
    by false positive r = absurd r

-- ---- theory Reals

integral : (sorts : List Sort) (es : List Element) → length sorts ≡ 1 → All IsNumber sorts → AreOfSorts sorts es
    → IsSome (known_step (Reals IsInt) (map Some es))
integral [] es one each h = absurd (omega arith)
integral (s ∷ sorts) [] one each h = absurd h
integral (s ∷ u ∷ sorts) (e ∷ es) one each h = absurd (omega arith)
integral (s ∷ []) (e ∷ f ∷ es) one each h = absurd h.1
integral (s ∷ []) (e ∷ []) one each h = rw (numbers_known (e ∷ []) (all_numeric (s ∷ []) (e ∷ []) each h)) refl

reals_known : (op : RealsOp) (sorts : List Sort) (sort : Sort) (es : List Element)
    → HasRank (Reals op) sorts sort → AreOfSorts sorts es → is_number sort ≡ false
    → IsSome (known_step (Reals op) (map Some es))
reals_known Divide sorts sort es r h other = absurd (other_than sort Real r.1 refl other)
reals_known ToReal sorts sort es r h other = absurd (other_than sort Real r.1 refl other)
reals_known ToInt sorts sort es r h other = absurd (other_than sort Int r.1 refl other)
reals_known IsInt sorts sort es r h other = integral sorts es r.0.0 r.0.1 h

-- each operator of Ints and Reals takes a number
numbers_need : (n : ℕ) (sorts : List Sort) → n ≡ length sorts → 1 ≤ n → All IsNumber sorts
    → All (λ s. is_number s ≡ false) sorts → ⊥
numbers_need n sorts counted some each none =
    number_is (get_or sorts 0 Int) (each 0 Int (omega arith)) (none 0 Int (omega arith))

are_numbers : (sorts : List Sort) → All (λ s. s ≡ Int) sorts → All IsNumber sorts
are_numbers sorts each i d below = inl (each i d below)

many_need : (sorts : List Sort) → AreNumbers Several sorts → All (λ s. is_number s ≡ false) sorts → ⊥
many_need sorts many none =
    numbers_need (length sorts) sorts refl (let two = many.0 in omega arith) many.1 none

one_need : (sorts : List Sort) → AreNumbers One sorts → All (λ s. is_number s ≡ false) sorts → ⊥
one_need sorts one none = numbers_need 1 sorts (sym one.0) (omega arith) one.1 none

several_need : (sorts : List Sort) → AreOf Several Int sorts → All (λ s. is_number s ≡ false) sorts → ⊥
several_need sorts several none =
    numbers_need (length sorts) sorts refl (let two = several.0 in omega arith) (are_numbers sorts several.1) none

some_need : (sorts : List Sort) → AreOf OneOrMore Int sorts → All (λ s. is_number s ≡ false) sorts → ⊥
some_need sorts some none = numbers_need (length sorts) sorts refl some.0 (are_numbers sorts some.1) none

first_need : (sorts rest : List Sort) → sorts ≡ Int ∷ rest → All (λ s. is_number s ≡ false) sorts → ⊥
first_need sorts rest is none =
    number_is Int (inl refl) ((subst (λ ss. All (λ s. is_number s ≡ false) ss) is none) 0 Int (omega arith))

pub ints_need : (op : IntsOp) (sorts : List Sort) (sort : Sort) → HasRank (Ints op) sorts sort
    → All (λ s. is_number s ≡ false) sorts → ⊥
ints_need (Left Minus) sorts sort (inl r) none = some_need sorts r.0 none
ints_need (Left Minus) sorts sort (inr r) none = numbers_need (length sorts) sorts refl r.0.0 r.0.1 none
ints_need (Left Plus) sorts sort (inl r) none = several_need sorts r.0 none
ints_need (Left Plus) sorts sort (inr r) none = many_need sorts r.0 none
ints_need (Left Times) sorts sort (inl r) none = several_need sorts r.0 none
ints_need (Left Times) sorts sort (inr r) none = many_need sorts r.0 none
ints_need (Left Div) sorts sort r none = several_need sorts r.0 none
ints_need Mod sorts sort r none = first_need sorts (Int ∷ []) r.0 none
ints_need Abs sorts sort r none = first_need sorts [] r.0 none
ints_need (Chain op) sorts sort r none = many_need sorts r.0 none
ints_need (Divisible n) sorts sort r none = by (nat_lt 0 n) r
  where
    by : (b : Bool) → HasShape (cond b (Uniform One Int Boolean) OutOfRange) sorts sort → ⊥
    by true r = first_need sorts [] r.0 none
    by false r = absurd r

reals_need : (op : RealsOp) (sorts : List Sort) (sort : Sort) → HasRank (Reals op) sorts sort
    → All (λ s. is_number s ≡ false) sorts → ⊥
reals_need Divide sorts sort r none = many_need sorts r.0 none
reals_need ToReal sorts sort r none = first_need sorts [] r.0 none
reals_need ToInt sorts sort r none = one_need sorts r.0 none
reals_need IsInt sorts sort r none = one_need sorts r.0 none

-- ---- bit vectors

-- what is known of arguments that are one vector, or two of one width
of_one : (op : BitsOp) (m : ℕ) (sorts : List Sort) (es : List Element) → sorts ≡ BitsSort m ∷ []
    → AreOfSorts sorts es
    → ((v : BitVector) → v.width ≡ m → IsSome (known_bits op (v ∷ [])))
    → IsSome (known_on_bits None op (map Some es))
of_one op m sorts es is h each =
    let all = subst (λ ss. AreOfSorts ss es) is h in
    let o = one m es all in
    rw (vectors (BitsSort m ∷ []) es (width_vectors (m ∷ [])) all, o.is) (each o.v o.width)

of_two : (op : BitsOp) (m : ℕ) (sorts : List Sort) (es : List Element) → sorts ≡ BitsSort m ∷ BitsSort m ∷ []
    → AreOfSorts sorts es
    → ((v w : BitVector) → (v.width == w.width) ≡ true → IsSome (known_bits op (v ∷ w ∷ [])))
    → IsSome (known_on_bits None op (map Some es))
of_two op m sorts es is h each =
    let all = subst (λ ss. AreOfSorts ss es) is h in
    let o = two m es all in
    rw (vectors (BitsSort m ∷ BitsSort m ∷ []) es (width_vectors (m ∷ m ∷ [])) all, o.is)
    (each o.v o.w (let a = o.width in let b = o.same in search rules))

-- of several that are combined from the left
folded_steps : (op : BitsFolded) (m : ℕ) (es : List Element) (s : BitVector) → AreAll (BitsSort m) es
    → s.width ≡ m → IsSome (steps_from (known_folded op) s (map vector_of es))
folded_steps op m [] s h width = refl
folded_steps op m (e ∷ es) s h width =
    let d = vector_is m e h.0 in
    let same : (s.width == (vector_of e).width) ≡ true = (let other = d.0 in search rules) in
    rw same (folded_steps op m es (folded_vector op s (vector_of e)) h.1 width)

concat_steps : (widths : List ℕ) (es : List Element) (s : BitVector) → AreOfSorts (map BitsSort widths) es
    → s.width + sum widths ≤ 128
    → IsSome (steps_from concatenation s (map vector_of es))
concat_steps [] [] s h within = refl
concat_steps [] (e ∷ es) s h within = absurd h
concat_steps (m ∷ widths) [] s h within = absurd h
concat_steps (m ∷ widths) (e ∷ es) s h within =
    let d = vector_is m e h.0 in
    let width : (vector_of e).width ≡ m = d.0 in
    let whole = sum-cons m widths in
    let small : s.width + (vector_of e).width ≤ 128 = omega arith in
    let fits : nat_le (s.width + (vector_of e).width) 128 ≡ true = search rules in
    rw fits (concat_steps widths es (vector (s.width + (vector_of e).width) _) h.1 (omega arith))

several_known : (op : BitsFolded) (m : ℕ) (sorts : List Sort) (es : List Element)
    → AreOf Several (BitsSort m) sorts → AreOfSorts sorts es
    → IsSome (known_step (Bits (Folded op)) (map Some es))
several_known op m [] es several h = absurd (none several.0)
  where
    none : 2 ≤ 0 → ⊥
    none n = omega arith
several_known op m (s ∷ sorts) [] several h = absurd h
several_known op m (s ∷ sorts) (e ∷ es) several h =
    let all = all_of (BitsSort m) (s ∷ sorts) (e ∷ es) several.1 h in
    let d = vector_is m e all.0 in
    rw (vectors (s ∷ sorts) (e ∷ es) (several_vectors m (s ∷ sorts) several.1) h)
    (mapped Vector _ (folded_steps op m es (vector_of e) all.1 d.0))

parts_known : (widths : List ℕ) (sorts : List Sort) (es : List Element) → sorts ≡ map BitsSort widths
    → 2 ≤ length widths → sum widths ≤ 128 → AreOfSorts sorts es
    → IsSome (known_step (Bits Concat) (map Some es))
parts_known widths sorts es is some within h = by widths es some within (subst (λ ss. AreOfSorts ss es) is h)
  where
    by : (widths : List ℕ) (es : List Element) → 2 ≤ length widths → sum widths ≤ 128
        → AreOfSorts (map BitsSort widths) es → IsSome (known_step (Bits Concat) (map Some es))
    by [] es some within h = absurd (omega arith)
    by (m ∷ widths) [] some within h = absurd h
    by (m ∷ widths) (e ∷ es) some within h =
        let d = vector_is m e h.0 in
        let width : (vector_of e).width ≡ m = d.0 in
        let whole = sum-cons m widths in
        rw (vectors (map BitsSort (m ∷ widths)) (e ∷ es) (width_vectors (m ∷ widths)) h)
        (mapped Vector _ (concat_steps widths es (vector_of e) h.1 (omega arith)))

constant_known : (x n : ℕ) (es : List Element) → AreOfSorts [] es
    → IsSome (known_step (Bits (Constant x n)) (map Some es))
constant_known x n [] h = refl
constant_known x n (e ∷ es) h = absurd h

-- of an integer so many bits
from_int_known : (n : ℕ) (sorts : List Sort) (sort : Sort) (es : List Element) → HasShape (shape_from_int n) sorts sort
    → AreOfSorts sorts es → IsSome (option_and_then (known_bits_of_int n) (known_integers (map Some es)))
from_int_known n sorts sort es r h = by (nat_le 1 n && nat_le n 128) r
  where
    of_int : (es : List Element) → AreOfSorts (Int ∷ []) es
        → IsSome (option_and_then (known_bits_of_int n) (known_integers (map Some es)))
    of_int [] h = absurd h
    of_int (Truth b ∷ es) h = absurd h.0
    of_int (Fraction top low ∷ es) h = absurd h.0
    of_int (Vector v ∷ es) h = absurd h.0
    of_int (Abstract name ∷ es) h = absurd h.0
    of_int (Integer z ∷ []) h = refl
    of_int (Integer z ∷ e ∷ es) h = absurd h.1

    by : (b : Bool) → HasShape (cond b (Uniform One Int (BitsSort n)) OutOfRange) sorts sort
        → IsSome (option_and_then (known_bits_of_int n) (known_integers (map Some es)))
    by true r = of_int es (subst (λ ss. AreOfSorts ss es) r.0 h)
    by false r = absurd r

-- what is made of one vector, but for its number as an integer
unary_known : (op : BitsUnary) (v : BitVector) → op ≢ ToInt → op ≢ ToIntOlder
    → IsSome (known_bits (Unary op) (v ∷ []))
unary_known Not v new older = refl
unary_known Negate v new older = refl
unary_known NegateOverflows v new older = refl
unary_known ToInt v new older = absurd (new refl)
unary_known ToIntOlder v new older = absurd (older refl)
unary_known SignedToInt v new older = refl

pub bits_known : (op : BitsOp) (sorts : List Sort) (sort : Sort) (es : List Element)
    → HasRank (Bits op) sorts sort → AreOfSorts sorts es → op ≢ Unary ToInt → op ≢ Unary ToIntOlder
    → IsSome (known_step (Bits op) (map Some es))
bits_known (Constant x n) sorts sort es r h new older = by (nat_le 1 n && nat_le n 128 && nat_lt x (2 ^ n)) r
  where
    by : (b : Bool) → HasShape (cond b (Nullary (BitsSort n)) OutOfRange) sorts sort
        → IsSome (known_step (Bits (Constant x n)) (map Some es))
    by true r = constant_known x n es (subst (λ ss. AreOfSorts ss es) r.0 h)
    by false r = absurd r
bits_known Concat sorts sort es r h new older = parts_known r.0 sorts es r.1 r.2 r.3 h
bits_known (Extract i j) sorts sort es r h new older =
    of_one (Extract i j) r.0 sorts es r.1 h (λ v width.
    let a : nat_le j i ≡ true = (let le = r.2.0 in search rules) in
    let less : i < v.width = (let le = r.2.1 in omega arith) in
    let b : nat_lt i v.width ≡ true = search rules in
    rw (a, b) refl)
bits_known (Unary op) sorts sort es r h new older =
    of_one (Unary op) r.0 sorts es r.1 h (λ v width. unary_known op v (λ e. new (ap Unary e)) (λ e. older (ap Unary e)))
bits_known (Folded op) sorts sort es r h new older = several_known op r.0 sorts es r.1 h
bits_known (Binary op) sorts sort es r h new older = of_two (Binary op) r.0 sorts es r.1 h (λ v w same. rw same refl)
bits_known (Comparison op) sorts sort es r h new older =
    of_two (Comparison op) r.0 sorts es r.1 h (λ v w same. rw same refl)
bits_known Comp sorts sort es r h new older = of_two Comp r.0 sorts es r.1 h (λ v w same. rw same refl)
bits_known (Repeat i) sorts sort es r h new older =
    of_one (Repeat i) r.0 sorts es r.1 h (λ v width.
    let a : nat_le 1 i ≡ true = (let some = r.2.0 in search rules) in
    let fits : i * v.width ≤ 128 = rw width r.2.1 in
    let b : nat_le (i * v.width) 128 ≡ true = search rules in
    rw (a, b) refl)
bits_known (ZeroExtend i) sorts sort es r h new older =
    of_one (ZeroExtend i) r.0 sorts es r.1 h (λ v width.
    let fits : v.width + i ≤ 128 = rw width r.2.0 in
    let b : nat_le (v.width + i) 128 ≡ true = search rules in
    rw b refl)
bits_known (SignExtend i) sorts sort es r h new older =
    of_one (SignExtend i) r.0 sorts es r.1 h (λ v width.
    let fits : v.width + i ≤ 128 = rw width r.2.0 in
    let b : nat_le (v.width + i) 128 ≡ true = search rules in
    rw b refl)
bits_known (RotateLeft i) sorts sort es r h new older = of_one (RotateLeft i) r.0 sorts es r.1 h (λ v width. refl)
bits_known (RotateRight i) sorts sort es r h new older = of_one (RotateRight i) r.0 sorts es r.1 h (λ v width. refl)
bits_known (FromInt n) sorts sort es r h new older = from_int_known n sorts sort es r h
bits_known (FromIntOlder n) sorts sort es r h new older = from_int_known n sorts sort es r h

-- ---- all

pub result_known : (op : Op) (sorts : List Sort) (sort : Sort) (es : List Element) → is_on_arrays op ≡ false
    → HasRank op sorts sort → AreOfSorts sorts es → is_number sort ≡ false → IsSome (known_step op (map Some es))
result_known (Arrays op) sorts sort es plain r h other = cc
result_known (Core op) sorts sort es plain r h other = core_known op sorts sort es r h
result_known (Ints op) sorts sort es plain r h other = ints_known op sorts sort es r h other
result_known (Reals op) sorts sort es plain r h other = reals_known op sorts sort es r h other
result_known (Bits op) sorts sort es plain r h other =
    bits_known op sorts sort es r h (λ e. integer (subst (λ o. HasRank (Bits o) sorts sort) e r).2)
    (λ e. integer (subst (λ o. HasRank (Bits o) sorts sort) e r).2)
  where
    integer : sort ≡ Int → ⊥
    integer e = let is : true ≡ false = sym (ap is_number e) ∙ other in cc

pub without_numbers : (op : Op) (sorts : List Sort) (sort : Sort) (es : List Element) → is_on_arrays op ≡ false
    → HasRank op sorts sort → AreOfSorts sorts es → All (λ s. is_number s ≡ false) sorts
    → op ≢ Bits (Unary ToInt) → op ≢ Bits (Unary ToIntOlder) → IsSome (known_step op (map Some es))
without_numbers (Arrays op) sorts sort es plain r h none new older = cc
without_numbers (Core op) sorts sort es plain r h none new older = core_known op sorts sort es r h
without_numbers (Ints op) sorts sort es plain r h none new older = absurd (ints_need op sorts sort r none)
without_numbers (Reals op) sorts sort es plain r h none new older = absurd (reals_need op sorts sort r none)
without_numbers (Bits op) sorts sort es plain r h none new older =
    bits_known op sorts sort es r h (λ e. new (ap Bits e)) (λ e. older (ap Bits e))
