-- Results are of the sorts that ranks give.
use Rattle.std.proofs.Common.{◌≡◌, inl, inr, ℕ, suc, ◌^◌, Bool, true, false, cond, List, [], ◌∷◌}
use Rattle.std.proofs.Common.{None, map, get_or, refl, sym, ◌∙◌, subst, arith, nat_lt, nat_le, ◌&&◌}
use Rattle.std.specs.Prelude.{All}
use Rattle.smt_theory.specs.Operators.{is_on_arrays}
use Rattle.smt_theory.specs.Ranks.{HasRank, shape_of}
use Rattle.smt_theory.specs.Shapes.{AreNumbers, AreOf, HasShape, IsNumber}
use Rattle.smt_theory.specs.Sort.{Sort, Boolean, Int, Real, Bits as BitsSort, Free, Array, array_of_sort}
use Rattle.smt_theory.specs.declared.op.Arithmetic.TheVariants.{Minus, Plus, Times, Div}
use Rattle.smt_theory.specs.declared.op.ArraysOp.{ArraysOp}
use Rattle.smt_theory.specs.declared.op.ArraysOp.TheVariants.{Select, Store, Const}
use Rattle.smt_theory.specs.declared.op.BitsOp.{BitsOp}
use Rattle.smt_theory.specs.declared.op.BitsOp.TheVariants as bits
use Rattle.smt_theory.specs.declared.op.CoreOp.TheVariants.{True, False, Not, Implies, And, Or, Xor, Equal}
use Rattle.smt_theory.specs.declared.op.CoreOp.TheVariants.{Distinct, Ite}
use Rattle.smt_theory.specs.declared.op.IntsOp.{IntsOp}
use Rattle.smt_theory.specs.declared.op.IntsOp.TheVariants as ints
use Rattle.smt_theory.specs.declared.op.Op.{Op}
use Rattle.smt_theory.specs.declared.op.Op.TheVariants.{Core, Ints, Reals, Bits, Arrays}
use Rattle.smt_theory.specs.declared.op.RealsOp.{RealsOp}
use Rattle.smt_theory.specs.declared.op.RealsOp.TheVariants as reals
use Rattle.smt_theory.specs.declared.shapes.Arity.{Arity}
use Rattle.smt_theory.specs.declared.shapes.Arity.TheVariants.{One, Two, OneOrMore, Several}
use Rattle.smt_theory.specs.declared.shapes.Shape.{Shape}
use Rattle.smt_theory.specs.declared.shapes.Shape.TheVariants.{Constant, Uniform, Calculated, Numbers, Alike}
use Rattle.smt_theory.specs.declared.shapes.Shape.TheVariants.{Choice, Vectors, Joined, Selected, Stored}
use Rattle.smt_theory.specs.declared.shapes.Shape.TheVariants.{Filled as FilledShape}
use Rattle.smt_theory.specs.declared.shapes.Shape.TheVariants.{OutOfRange}
use Rattle.smt_values.specs.Element as plain
use Rattle.smt_values.specs.Operations as plain_operations
use Rattle.smt_values.specs.Operations.{DivisionByZero, truth_of}
use Rattle.smt_arrays.specs.Element.{AreOfSorts, Element, Plain, Filled, Written, IsOfSort, plain_of}
use Rattle.smt_arrays.specs.Operations.{chosen, operate, operate_arrays}
use Rattle.smt_arrays.specs.Reading.{is_same_plain, read}

-- ---- operators that take no arrays

abbrev IsPlain : Sort → Type 0
IsPlain sort = array_of_sort sort ≡ None

abbrev AllPlain : List Sort → Type 0
AllPlain [] = Unit {0}
AllPlain (sort ∷ sorts) = IsPlain sort × AllPlain sorts

-- a shape whose arguments are no arrays
abbrev IsPlainShape : Shape → Type 0
IsPlainShape (Uniform arity sort given) = IsPlain sort
IsPlainShape Alike = ⊥
IsPlainShape Choice = ⊥
IsPlainShape Selected = ⊥
IsPlainShape Stored = ⊥
IsPlainShape (FilledShape given) = ⊥
IsPlainShape _ = Unit {0}

all_plain : (sorts : List Sort) → All IsPlain sorts → AllPlain sorts
all_plain [] h = tt
all_plain (s ∷ sorts) h =
    (h 0 s (omega arith), all_plain sorts (λ k d less. h (suc k) d (omega (arith, less))))

of_plain : (arity : Arity) (sort : Sort) (args : List Sort) → IsPlain sort → AreOf arity sort args → AllPlain args
of_plain One sort args p h = subst AllPlain (sym h) (p, tt)
of_plain Two sort args p h = subst AllPlain (sym h) (p, (p, tt))
of_plain OneOrMore sort args p h = all_plain args (λ k d less. subst IsPlain (sym (h.1 k d less)) p)
of_plain Several sort args p h = all_plain args (λ k d less. subst IsPlain (sym (h.1 k d less)) p)

number_plain : (sort : Sort) → IsNumber sort → IsPlain sort
number_plain sort (inl e) = subst IsPlain (sym e) refl
number_plain sort (inr e) = subst IsPlain (sym e) refl

numbers_plain : (arity : Arity) (args : List Sort) → AreNumbers arity args → AllPlain args
numbers_plain arity args h = all_plain args (λ k d less. number_plain (get_or args k d) (h.1 k d less))

vectors_plain : (widths : List ℕ) → AllPlain (map BitsSort widths)
vectors_plain [] = tt
vectors_plain (m ∷ widths) = (refl, vectors_plain widths)

shape_plain : (shape : Shape) (args : List Sort) (sort : Sort) → IsPlainShape shape → HasShape shape args sort
    → AllPlain args
shape_plain (Constant given) args sort p h = subst AllPlain (sym h.0) tt
shape_plain (Uniform arity of given) args sort p h = of_plain arity of args p h.0
shape_plain (Calculated arity) args sort p (inl h) = of_plain arity Int args refl h.0
shape_plain (Calculated arity) args sort p (inr h) = numbers_plain arity args h.0
shape_plain (Numbers arity given) args sort p h = numbers_plain arity args h.0
shape_plain (Vectors arity made) args sort p h = of_plain arity (BitsSort h.0) args refl h.1
shape_plain Joined args sort p h = subst AllPlain (sym h.1) (vectors_plain h.0)
shape_plain OutOfRange args sort p h = absurd h
shape_plain Alike args sort p h = absurd p
shape_plain Choice args sort p h = absurd p
shape_plain Selected args sort p h = absurd p
shape_plain Stored args sort p h = absurd p
shape_plain (FilledShape given) args sort p h = absurd p

either_plain : (b : Bool) (shape other : Shape) → IsPlainShape shape → IsPlainShape other → IsPlainShape
    (cond b shape other)
either_plain true shape other p q = p
either_plain false shape other p q = q

ints_plain : (op : IntsOp) → IsPlainShape (shape_of (Ints op))
ints_plain (ints.Arithmetic Minus) = tt
ints_plain (ints.Arithmetic Plus) = tt
ints_plain (ints.Arithmetic Times) = tt
ints_plain (ints.Arithmetic Div) = refl
ints_plain (ints.Comparison op) = tt
ints_plain ints.Mod = refl
ints_plain ints.Abs = refl
ints_plain (ints.Divisible n) = either_plain (nat_lt 0 n) (Uniform One Int Boolean) OutOfRange refl tt

reals_plain : (op : RealsOp) → IsPlainShape (shape_of (Reals op))
reals_plain reals.Divide = tt
reals_plain reals.ToReal = refl
reals_plain reals.ToInt = tt
reals_plain reals.IsInt = tt

bits_plain : (op : BitsOp) → IsPlainShape (shape_of (Bits op))
bits_plain (bits.Constant number n) =
    either_plain (nat_le 1 n && nat_le n 128 && nat_lt number (2 ^ n)) (Constant (BitsSort n)) OutOfRange tt tt
bits_plain bits.Concat = tt
bits_plain (bits.Extract i j) = tt
bits_plain (bits.Unary op) = tt
bits_plain (bits.Folded op) = tt
bits_plain (bits.Binary op) = tt
bits_plain (bits.Comparison op) = tt
bits_plain bits.Comp = tt
bits_plain (bits.Repeat i) = tt
bits_plain (bits.ZeroExtend i) = tt
bits_plain (bits.SignExtend i) = tt
bits_plain (bits.RotateLeft i) = tt
bits_plain (bits.RotateRight i) = tt
bits_plain (bits.FromInt n) = either_plain (nat_le 1 n && nat_le n 128) (Uniform One Int (BitsSort n))
    OutOfRange refl tt
bits_plain (bits.FromIntOlder n) = either_plain (nat_le 1 n && nat_le n 128) (Uniform One Int (BitsSort n))
    OutOfRange refl tt

-- ---- elements of those sorts

plain_there : (sort : Sort) (e : Element) → IsPlain sort → IsOfSort sort e → plain.IsOfSort sort (plain_of e)
plain_there sort (Plain p) plain_sort h = h
plain_there Boolean (Filled e) plain_sort h = absurd h
plain_there Int (Filled e) plain_sort h = absurd h
plain_there Real (Filled e) plain_sort h = absurd h
plain_there (BitsSort m) (Filled e) plain_sort h = absurd h
plain_there (Free n) (Filled e) plain_sort h = absurd h
plain_there (Array s t) (Filled e) plain_sort h = cc
plain_there Boolean (Written a i e) plain_sort h = absurd h
plain_there Int (Written a i e) plain_sort h = absurd h
plain_there Real (Written a i e) plain_sort h = absurd h
plain_there (BitsSort m) (Written a i e) plain_sort h = absurd h
plain_there (Free n) (Written a i e) plain_sort h = absurd h
plain_there (Array s t) (Written a i e) plain_sort h = cc

all_there : (sorts : List Sort) (es : List Element) → AllPlain sorts → AreOfSorts sorts es
    → plain.AreOfSorts sorts (map plain_of es)
all_there [] [] p h = tt
all_there [] (e ∷ es) p h = absurd h
all_there (s ∷ sorts) [] p h = absurd h
all_there (s ∷ sorts) (e ∷ es) p h = (plain_there s e p.0 h.0, all_there sorts es p.1 h.1)

-- ---- arrays

no_array : (s t : Sort) (e : plain.Element) → plain.IsOfSort (Array s t) e → ⊥
no_array s t (plain.Truth b) h = h
no_array s t (plain.Integer z) h = h
no_array s t (plain.Fraction n d) h = h
no_array s t (plain.Vector v) h = h
no_array s t (plain.Abstract name) h = h

pub read_sort : (s t : Sort) (a i : Element) → IsOfSort (Array s t) a → IsOfSort t (read a i)
read_sort s t (Plain e) i h = absurd (no_array s t e h)
read_sort s t (Filled e) i h = h
read_sort s t (Written a j e) i h = by (is_same_plain i j) (read_sort s t a i h.0)
  where
    by : (b : Bool) → IsOfSort t (read a i) → IsOfSort t (cond b e (read a i))
    by true rest = h.2
    by false rest = rest

arrays_sort : (op : ArraysOp) (sorts : List Sort) (sort : Sort) (es : List Element) → HasRank (Arrays op) sorts sort
    → AreOfSorts sorts es → IsOfSort sort (operate_arrays op es)
arrays_sort Select sorts sort es r h = by es (subst (λ ss. AreOfSorts ss es) r.1 h)
  where
    by : (es : List Element) → AreOfSorts (Array r.0 sort ∷ r.0 ∷ []) es → IsOfSort sort (operate_arrays Select es)
    by [] h = absurd h
    by (a ∷ []) h = absurd h.1
    by (a ∷ i ∷ e ∷ es) h = absurd h.1.1
    by (a ∷ i ∷ []) h = read_sort r.0 sort a i h.0
arrays_sort Store sorts sort es r h =
    subst (λ s. IsOfSort s (operate_arrays Store es)) (sym r.3) (by es (subst (λ ss. AreOfSorts ss es) r.2 h))
  where
    by : (es : List Element) → AreOfSorts (Array r.0 r.1 ∷ r.0 ∷ r.1 ∷ []) es
        → IsOfSort (Array r.0 r.1) (operate_arrays Store es)
    by [] h = absurd h
    by (a ∷ []) h = absurd h.1
    by (a ∷ i ∷ []) h = absurd h.1.1
    by (a ∷ i ∷ e ∷ f ∷ es) h = absurd h.1.1.1
    by (a ∷ i ∷ e ∷ []) h = (h.0, h.1.0, h.1.1.0)
arrays_sort (Const given) sorts sort es r h =
    subst (λ s. IsOfSort s (operate_arrays (Const given) es)) (sym (r.4 ∙ r.2))
    (by es (subst (λ ss. AreOfSorts ss es) r.3 h))
  where
    by : (es : List Element) → AreOfSorts (r.1 ∷ []) es → IsOfSort (Array r.0 r.1) (operate_arrays (Const given) es)
    by [] h = absurd h
    by (e ∷ f ∷ es) h = absurd h.1
    by (e ∷ []) h = h.0

-- ---- `ite`

same_choice : (sort : Sort) (es : List Element) → AreOfSorts (Boolean ∷ sort ∷ sort ∷ []) es → IsOfSort sort (chosen es)
same_choice sort [] h = absurd h
same_choice sort (c ∷ []) h = absurd h.1
same_choice sort (c ∷ a ∷ []) h = absurd h.1.1
same_choice sort (c ∷ a ∷ b ∷ d ∷ es) h = absurd h.1.1.1
same_choice sort (c ∷ a ∷ b ∷ []) h = by (truth_of (plain_of c))
  where
    by : (t : Bool) → IsOfSort sort (cond t a b)
    by true = h.1.0
    by false = h.1.1.0

-- what the law of the crate below says
abbrev pub PlainFits : Type 0
PlainFits = (z : DivisionByZero) (op : Op) (sorts : List Sort) (sort : Sort) (args : List plain.Element)
    → is_on_arrays op ≡ false → HasRank op sorts sort → plain.AreOfSorts sorts args
    → plain.IsOfSort sort (plain_operations.operate z op args)

is_plain : (sort : Sort) (e : Element) → IsPlain sort → IsOfSort sort e → e ≡ Plain (plain_of e)
is_plain sort (Plain p) plain_sort h = refl
is_plain Boolean (Filled e) plain_sort h = absurd h
is_plain Int (Filled e) plain_sort h = absurd h
is_plain Real (Filled e) plain_sort h = absurd h
is_plain (BitsSort m) (Filled e) plain_sort h = absurd h
is_plain (Free n) (Filled e) plain_sort h = absurd h
is_plain (Array s t) (Filled e) plain_sort h = cc
is_plain Boolean (Written a i e) plain_sort h = absurd h
is_plain Int (Written a i e) plain_sort h = absurd h
is_plain Real (Written a i e) plain_sort h = absurd h
is_plain (BitsSort m) (Written a i e) plain_sort h = absurd h
is_plain (Free n) (Written a i e) plain_sort h = absurd h
is_plain (Array s t) (Written a i e) plain_sort h = cc

number_choice : PlainFits → DivisionByZero → (s t : Sort) (es : List Element) → IsPlain s → IsPlain t
    → HasRank (Core Ite) (Boolean ∷ s ∷ t ∷ []) Real → AreOfSorts (Boolean ∷ s ∷ t ∷ []) es → IsOfSort Real (chosen es)
number_choice law z s t [] p q r h = absurd h
number_choice law z s t (c ∷ []) p q r h = absurd h.1
number_choice law z s t (c ∷ a ∷ []) p q r h = absurd h.1.1
number_choice law z s t (c ∷ a ∷ b ∷ d ∷ es) p q r h = absurd h.1.1.1
number_choice law z s t (c ∷ a ∷ b ∷ []) p q r h =
    subst (λ x. IsOfSort Real (cond (truth_of (plain_of c)) x b)) (sym (is_plain s a p h.1.0))
    (subst (λ y. IsOfSort Real (cond (truth_of (plain_of c)) (Plain (plain_of a)) y)) (sym (is_plain t b q h.1.1.0))
    (by (truth_of (plain_of c))
    (law z (Core Ite) (Boolean ∷ s ∷ t ∷ []) Real (plain_of c ∷ plain_of a ∷ plain_of b ∷ []) refl r
    (all_there (Boolean ∷ s ∷ t ∷ []) (c ∷ a ∷ b ∷ []) (refl, (p, (q, tt))) h))))
  where
    by : (u : Bool) → plain.IsOfSort Real (cond u (plain_of a) (plain_of b))
        → IsOfSort Real (cond u (Plain (plain_of a)) (Plain (plain_of b)))
    by true g = g
    by false g = g

-- ---- all

module _ (law : PlainFits) (z : DivisionByZero) (sorts : List Sort) (sort : Sort) (es : List Element) where
  other : (op : Op) → is_on_arrays op ≡ false → IsPlainShape (shape_of op) → HasRank op sorts sort → AreOfSorts sorts es
      → plain.IsOfSort sort (plain_operations.operate z op (map plain_of es))
  other op no_arrays shape r h =
      law z op sorts sort (map plain_of es) no_arrays r
      (all_there sorts es (shape_plain (shape_of op) sorts sort shape r) h)

  pub result_sort : (op : Op) → HasRank op sorts sort → AreOfSorts sorts es → IsOfSort sort (operate z op es)
  result_sort (Arrays op) r h = arrays_sort op sorts sort es r h
  result_sort (Core Equal) r h = subst (λ s. IsOfSort s (operate z (Core Equal) es)) (sym r.1) tt
  result_sort (Core Distinct) r h = subst (λ s. IsOfSort s (operate z (Core Distinct) es)) (sym r.1) tt
  result_sort (Core Ite) (inl r) h = same_choice sort es (subst (λ ss. AreOfSorts ss es) r h)
  result_sort (Core Ite) (inr r) h =
      subst (λ s. IsOfSort s (chosen es)) (sym r.4)
      (number_choice law z r.0 r.1 es (number_plain r.0 r.3.0) (number_plain r.1 r.3.1)
      (inr (r.0, r.1, refl, r.3, refl)) (subst (λ ss. AreOfSorts ss es) r.2 h))
  result_sort (Core True) r h = other (Core True) refl tt r h
  result_sort (Core False) r h = other (Core False) refl tt r h
  result_sort (Core Not) r h = other (Core Not) refl refl r h
  result_sort (Core Implies) r h = other (Core Implies) refl refl r h
  result_sort (Core And) r h = other (Core And) refl refl r h
  result_sort (Core Or) r h = other (Core Or) refl refl r h
  result_sort (Core Xor) r h = other (Core Xor) refl refl r h
  result_sort (Ints op) r h = other (Ints op) refl (ints_plain op) r h
  result_sort (Reals op) r h = other (Reals op) refl (reals_plain op) r h
  result_sort (Bits op) r h = other (Bits op) refl (bits_plain op) r h
