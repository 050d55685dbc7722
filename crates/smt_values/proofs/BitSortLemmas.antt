-- Results of operators on bit vectors are of the sorts that ranks give.
use Rattle.std.proofs.Common.{◌≡◌, ℕ, ◌+◌, ◌-◌, ◌*◌, ◌%◌, ◌^◌, ◌<◌, ◌≤◌, Bool, true, false, cond, ◌&&◌, List, [], ◌∷◌, length}
use Rattle.std.proofs.Common.{nat_le, nat_lt, ℤ, refl, sym, ap, ◌∙◌, subst, arith, rules}
use Rattle.std.proofs.Math.Nat.{mod-lt, one-le-mul}
use Rattle.std.proofs.Math.Pow.{pow_mono, pow_pos}
use Rattle.std.proofs.lemmas.List.Sums.{sum_by-cons}
use Rattle.std.specs.List.{sum}
use Rattle.std.specs.Prelude.{fold, map}
use Rattle.smt_bits.specs.BitVector.{BitVector, IsVector, modulo, vector}
use Rattle.smt_bits.specs.Readings.{IsModulo}
use Rattle.smt_bits.specs.Operators.{bvneg, bvadd, bvsub, bvmul, bvudiv, bvurem, bvnot, bvand, bvor, bvxor}
use Rattle.smt_bits.specs.Operators.{bvnand, bvnor, bvxnor, bvsdiv, bvsrem, bvsmod, bvshl, bvlshr, bvashr}
use Rattle.smt_bits.specs.Operators.{bvcomp, concat, extract, repeat, sign_extend, rotate_left, rotate_right}
use Rattle.smt_theory.specs.Ranks.{HasRank}
use Rattle.smt_theory.specs.Shapes.{AreOf, HasShape, IsMade}
use Rattle.smt_theory.specs.declared.shapes.Arity.TheVariants.{One as One1, Several}
use Rattle.smt_theory.specs.declared.shapes.Shape.TheVariants.{Constant as Nullary, OutOfRange, Uniform}
use Rattle.smt_theory.specs.declared.op.BitsBinary.{BitsBinary}
use Rattle.smt_theory.specs.declared.op.BitsBinary.TheVariants.{Nand, Nor, Xnor, Subtract, DivideUnsigned}
use Rattle.smt_theory.specs.declared.op.BitsBinary.TheVariants.{RemainderUnsigned, DivideSigned}
use Rattle.smt_theory.specs.declared.op.BitsBinary.TheVariants.{RemainderSigned, ModuloSigned, ShiftLeft}
use Rattle.smt_theory.specs.declared.op.BitsBinary.TheVariants.{ShiftRight, ShiftRightSigned}
use Rattle.smt_theory.specs.declared.op.BitsFolded.{BitsFolded}
use Rattle.smt_theory.specs.declared.op.BitsFolded.TheVariants.{And, Or, Xor, Add, Multiply}
use Rattle.smt_theory.specs.declared.op.BitsOp.{BitsOp}
use Rattle.smt_theory.specs.declared.op.BitsOp.TheVariants.{Constant, Concat, Extract, Unary, Folded, Binary}
use Rattle.smt_theory.specs.declared.op.BitsOp.TheVariants.{Comparison, Comp, Repeat, ZeroExtend, SignExtend}
use Rattle.smt_theory.specs.declared.op.BitsOp.TheVariants.{RotateLeft, RotateRight, FromInt, FromIntOlder}
use Rattle.smt_theory.specs.declared.op.BitsUnary.{BitsUnary}
use Rattle.smt_theory.specs.declared.op.BitsUnary.TheVariants.{Not, Negate, NegateOverflows, ToInt, ToIntOlder}
use Rattle.smt_theory.specs.declared.op.BitsUnary.TheVariants.{SignedToInt}
use Rattle.smt_theory.specs.Bits.{made_of_one, shape_from_int}
use Rattle.smt_theory.specs.declared.op.Op.TheVariants.{Bits}
use Rattle.smt_theory.specs.Sort.{Sort}
use Rattle.smt_theory.specs.Sort.{Boolean as BoolSort, Int as IntSort, Bits as BitsSort}
use Rattle.smt_values.specs.BitOperations.{binary, bits_of_int, concatenated, folded, folded_vector, of_one as unary_element}
use Rattle.smt_values.specs.BitOperations.{operate_bits, width_from_int}
use Rattle.smt_values.specs.Element.{Element, Truth, Integer, Fraction, Vector, Abstract, IsOfSort, AreOfSorts}
use Rattle.smt_values.specs.Operations.{integer_of, operate_on_bits, vector_of}

-- the results fit their widths
pub record ResultsFit : Type 0 where
  pub not_fits : (m s : ℕ) → bvnot m s < 2 ^ m
  pub negative_fits : (m s : ℕ) → bvneg m s < 2 ^ m
  pub integer_fits : (m : ℕ) (z : ℤ) → IsModulo m z (modulo m z)
  pub folded_fits : (op : BitsFolded) (m s t : ℕ) → folded op m s t < 2 ^ m
  pub binary_fits : (op : BitsBinary) (m s t : ℕ) → 1 ≤ m → s < 2 ^ m → binary op m s t < 2 ^ m
  pub concat_fits : (m n s t : ℕ) → s < 2 ^ m → t < 2 ^ n → concat n s t < 2 ^ (m + n)
  pub extract_fits : (i j s : ℕ) → extract i j s < 2 ^ (i - j + 1)
  pub repeat_fits : (i m s : ℕ) → s < 2 ^ m → repeat i m s < 2 ^ (i * m)
  pub sign_extend_fits : (i m s : ℕ) → sign_extend i m s < 2 ^ (m + i)
  pub rotate_left_fits : (i m s : ℕ) → 1 ≤ m → s < 2 ^ m → rotate_left i m s < 2 ^ m
  pub rotate_right_fits : (i m s : ℕ) → 1 ≤ m → s < 2 ^ m → rotate_right i m s < 2 ^ m
  pub comp_fits : (s t : ℕ) → bvcomp s t < 2

-- every result of an operator fits, whatever the numbers are
abbrev pub AllFit : (ℕ → ℕ → ℕ → ℕ) → Type 0
AllFit f = (m s t : ℕ) → f m s t < 2 ^ m

-- it fits where the first number does
abbrev pub FitWith : (ℕ → ℕ → ℕ → ℕ) → Type 0
FitWith f = (m s t : ℕ) → s < 2 ^ m → f m s t < 2 ^ m

pub folded_fits_by : AllFit bvand → AllFit bvor → AllFit bvxor → AllFit bvadd → AllFit bvmul
    → (op : BitsFolded) (m s t : ℕ) → folded op m s t < 2 ^ m
folded_fits_by and or xor add mul And m s t = and m s t
folded_fits_by and or xor add mul Or m s t = or m s t
folded_fits_by and or xor add mul Xor m s t = xor m s t
folded_fits_by and or xor add mul Add m s t = add m s t
folded_fits_by and or xor add mul Multiply m s t = mul m s t

pub record BinaryFit : Type 0 where
  pub nand : AllFit bvnand
  pub nor : AllFit bvnor
  pub xnor : AllFit bvxnor
  pub sub : AllFit bvsub
  pub udiv : FitWith bvudiv
  pub urem : FitWith bvurem
  pub sdiv : (m s t : ℕ) → 1 ≤ m → bvsdiv m s t < 2 ^ m
  pub srem : FitWith bvsrem
  pub smod : FitWith bvsmod
  pub shl : AllFit bvshl
  pub lshr : FitWith bvlshr
  pub ashr : AllFit bvashr

pub binary_fits_by : BinaryFit → (op : BitsBinary) (m s t : ℕ) → 1 ≤ m → s < 2 ^ m → binary op m s t < 2 ^ m
binary_fits_by fit Nand m s t some below = fit.nand m s t
binary_fits_by fit Nor m s t some below = fit.nor m s t
binary_fits_by fit Xnor m s t some below = fit.xnor m s t
binary_fits_by fit Subtract m s t some below = fit.sub m s t
binary_fits_by fit DivideUnsigned m s t some below = fit.udiv m s t below
binary_fits_by fit RemainderUnsigned m s t some below = fit.urem m s t below
binary_fits_by fit DivideSigned m s t some below = fit.sdiv m s t some
binary_fits_by fit RemainderSigned m s t some below = fit.srem m s t below
binary_fits_by fit ModuloSigned m s t some below = fit.smod m s t below
binary_fits_by fit ShiftLeft m s t some below = fit.shl m s t
binary_fits_by fit ShiftRight m s t some below = fit.lshr m s t below
binary_fits_by fit ShiftRightSigned m s t some below = fit.ashr m s t

-- ---- arguments

-- an element of a sort of bit vectors
pub vector_is : (m : ℕ) (e : Element) → IsOfSort (BitsSort m) e
    → ((vector_of e).width ≡ m) × IsVector (vector_of e)
vector_is m (Truth b) h = absurd h
vector_is m (Integer z) h = absurd h
vector_is m (Vector v) h = h
vector_is m (Fraction top low) h = absurd h
vector_is m (Abstract name) h = absurd h

pub record One (m : ℕ) (es : List Element) : Type 0 where
  pub v : BitVector
  pub is : map vector_of es ≡ v ∷ []
  pub width : v.width ≡ m
  pub some : 1 ≤ v.width
  pub below : v.number < 2 ^ v.width

pub one : (m : ℕ) (es : List Element) → AreOfSorts (BitsSort m ∷ []) es → One m es
one m [] h = absurd h
one m (e ∷ f ∷ es) h = absurd h.1
one m (e ∷ []) h = let d = vector_is m e h.0
    in record { v = vector_of e; is = refl; width = d.0; some = d.1.0; below = d.1.1 }

pub record Two (m : ℕ) (es : List Element) : Type 0 where
  pub v : BitVector
  pub w : BitVector
  pub is : map vector_of es ≡ v ∷ w ∷ []
  pub width : v.width ≡ m
  pub same : w.width ≡ m
  pub some : 1 ≤ v.width
  pub below : v.number < 2 ^ v.width

pub two : (m : ℕ) (es : List Element) → AreOfSorts (BitsSort m ∷ BitsSort m ∷ []) es → Two m es
two m [] h = absurd h
two m (e ∷ []) h = absurd h.1
two m (e ∷ f ∷ g ∷ es) h = absurd h.1.1
two m (e ∷ f ∷ []) h = let d = vector_is m e h.0
    in record {
      v = vector_of e;
      w = vector_of f;
      is = refl;
      width = d.0;
      same = (vector_is m f h.1.0).0;
      some = d.1.0;
      below = d.1.1;
    }

-- ---- results

wider : (m i s : ℕ) → s < 2 ^ m → s < 2 ^ (m + i)
wider m i s h = let more : 2 ^ m ≤ 2 ^ (m + i) = pow_mono (omega arith) in omega arith

pub sum-cons : (m : ℕ) (widths : List ℕ) → sum (m ∷ widths) ≡ m + sum widths
sum-cons m widths = sum_by-cons (λ n. n) m widths

module _ (fits : ResultsFit) where
  folded_of : (op : BitsFolded) (m : ℕ) (vs : List BitVector) (s : BitVector) → s.width ≡ m → 1 ≤ s.width
      → s.number < 2 ^ s.width → IsOfSort (BitsSort m) (Vector (fold (folded_vector op) s vs))
  folded_of op m [] s e some below = (e, (some, below))
  folded_of op m (t ∷ vs) s e some below =
      folded_of op m vs (folded_vector op s t) e some (fits.folded_fits op s.width s.number t.number)

  concat_of : (widths : List ℕ) (es : List Element) (s : BitVector) → AreOfSorts (map BitsSort widths) es
      → 1 ≤ s.width → s.number < 2 ^ s.width
      → IsOfSort (BitsSort (s.width + sum widths)) (Vector (fold concatenated s (map vector_of es)))
  concat_of [] [] s h some below = (omega arith, (some, below))
  concat_of [] (e ∷ es) s h some below = absurd h
  concat_of (m ∷ widths) [] s h some below = absurd h
  concat_of (m ∷ widths) (e ∷ es) s h some below =
      let d = vector_is m e h.0 in
      let t = vector_of e in
      let width : t.width ≡ m = d.0 in
      let whole = sum-cons m widths in
      let same : s.width + t.width + sum widths ≡ s.width + sum (m ∷ widths) = omega arith in
      subst (λ n. IsOfSort (BitsSort n) (Vector (fold concatenated (concatenated s t) (map vector_of es))))
      same
      (concat_of widths es (concatenated s t) h.1 (let w = some in omega arith)
      (fits.concat_fits s.width t.width s.number t.number below d.1.1))

  several_of : (op : BitsFolded) (m : ℕ) (sorts : List Sort) (es : List Element)
      → AreOf Several (BitsSort m) sorts → AreOfSorts sorts es
      → IsOfSort (BitsSort m) (operate_bits (Folded op) (map vector_of es))
  several_of op m [] es h all = absurd (none h.0)
    where
      none : 2 ≤ 0 → ⊥
      none n = omega arith
  several_of op m (sort ∷ sorts) [] h all = absurd all
  several_of op m (sort ∷ sorts) (e ∷ es) h all =
      let first : sort ≡ BitsSort m = h.1 0 (BitsSort m) (omega arith) in
      let d = vector_is m e (subst (λ s. IsOfSort s e) first all.0) in
      folded_of op m (map vector_of es) (vector_of e) d.0 d.1.0 d.1.1

  several_parts : (widths : List ℕ) (es : List Element) → 2 ≤ length widths
      → AreOfSorts (map BitsSort widths) es
      → IsOfSort (BitsSort (sum widths)) (operate_bits Concat (map vector_of es))
  several_parts [] es h all = absurd (omega arith)
  several_parts (m ∷ widths) [] h all = absurd all
  several_parts (m ∷ widths) (e ∷ es) h all =
      let d = vector_is m e all.0 in
      subst (λ n. IsOfSort (BitsSort n) (Vector (fold concatenated (vector_of e) (map vector_of es))))
      (ap (λ n. n + sum widths) d.0 ∙ sym (sum-cons m widths))
      (concat_of widths es (vector_of e) all.1 d.1.0 d.1.1)

  -- the result of an operator on one vector, and on two
  of_one : (f : BitVector → BitVector) (op : BitsOp) (m n : ℕ) (es : List Element)
      → ((v : BitVector) → operate_bits op (v ∷ []) ≡ Vector (f v))
      → ((v : BitVector) → v.width ≡ m → 1 ≤ v.width → v.number < 2 ^ v.width
      → IsOfSort (BitsSort n) (Vector (f v)))
      → AreOfSorts (BitsSort m ∷ []) es → IsOfSort (BitsSort n) (operate_bits op (map vector_of es))
  of_one f op m n es is fit all =
      let o = one m es all in
      subst (IsOfSort (BitsSort n)) (sym (ap (operate_bits op) o.is ∙ is o.v))
      (fit o.v o.width o.some o.below)

  unary_of : (op : BitsUnary) (m : ℕ) (sort : Sort) (v : BitVector) → v.width ≡ m → 1 ≤ v.width
      → IsMade (made_of_one op) m sort → IsOfSort sort (unary_element op v)
  unary_of Not m sort v w some is =
      subst (λ s. IsOfSort s (unary_element Not v)) (sym is) (w, (some, fits.not_fits v.width v.number))
  unary_of Negate m sort v w some is =
      subst (λ s. IsOfSort s (unary_element Negate v)) (sym is) (w, (some, fits.negative_fits v.width v.number))
  unary_of NegateOverflows m sort v w some is = subst (λ s. IsOfSort s (unary_element NegateOverflows v)) (sym is) tt
  unary_of ToInt m sort v w some is = subst (λ s. IsOfSort s (unary_element ToInt v)) (sym is) tt
  unary_of ToIntOlder m sort v w some is = subst (λ s. IsOfSort s (unary_element ToIntOlder v)) (sym is) tt
  unary_of SignedToInt m sort v w some is = subst (λ s. IsOfSort s (unary_element SignedToInt v)) (sym is) tt

  -- of an integer so many bits
  from_int : (n : ℕ) (sorts : List Sort) (sort : Sort) (es : List Element) → HasShape (shape_from_int n) sorts sort
      → AreOfSorts sorts es → IsOfSort sort (bits_of_int n (map integer_of es))
  from_int n sorts sort es r h = by (nat_le 1 n && nat_le n 128) positive r
    where
      positive : (nat_le 1 n && nat_le n 128) ≡ true → 1 ≤ n
      positive e = search rules

      only : (es : List Element) → 1 ≤ n → AreOfSorts (IntSort ∷ []) es
          → IsOfSort (BitsSort n) (bits_of_int n (map integer_of es))
      only [] some h = absurd h
      only (e ∷ []) some h = (refl, (some, (fits.integer_fits n (integer_of e)).below))
      only (e ∷ f ∷ es) some h = absurd h.1

      by : (b : Bool) → (b ≡ true → 1 ≤ n) → HasShape (cond b (Uniform One1 IntSort (BitsSort n)) OutOfRange) sorts sort
          → IsOfSort sort (bits_of_int n (map integer_of es))
      by true some r = subst (λ s. IsOfSort s (bits_of_int n (map integer_of es))) (sym r.1)
          (only es (some refl) (subst (λ ss. AreOfSorts ss es) r.0 h))
      by false some r = absurd r

  pub bits : (op : BitsOp) (sorts : List Sort) (sort : Sort) (es : List Element) → HasRank (Bits op) sorts sort
      → AreOfSorts sorts es → IsOfSort sort (operate_on_bits (width_from_int op) op es)
  bits (Constant x n) sorts sort es r h = by (nat_le 1 n && nat_le n 128 && nat_lt x (2 ^ n)) positive r
    where
      positive : (nat_le 1 n && nat_le n 128 && nat_lt x (2 ^ n)) ≡ true → 1 ≤ n
      positive e = search rules

      by : (b : Bool) → (b ≡ true → 1 ≤ n) → HasShape (cond b (Nullary (BitsSort n)) OutOfRange) sorts sort
          → IsOfSort sort (Vector (vector n (x % 2 ^ n)))
      by true some r =
          subst (λ s. IsOfSort s (Vector (vector n (x % 2 ^ n)))) (sym r.1) (refl, (some refl, mod-lt x (pow_pos n)))
      by false some r = absurd r
  bits Concat sorts sort es r h = subst (λ s. IsOfSort s (operate_bits Concat (map vector_of es))) (sym r.4)
      (several_parts r.0 es r.2 (subst (λ ss. AreOfSorts ss es) r.1 h))
  bits (Extract i j) sorts sort es r h =
      subst (λ s. IsOfSort s (operate_bits (Extract i j) (map vector_of es))) (sym r.2.2)
      (of_one (λ v. vector (i - j + 1) (extract i j v.number)) (Extract i j) r.0 (i - j + 1) es (λ v. refl)
      (λ v w some below. (refl, (omega arith, fits.extract_fits i j v.number)))
      (subst (λ ss. AreOfSorts ss es) r.1 h))
  bits (Unary op) sorts sort es r h =
      let o = one r.0 es (subst (λ ss. AreOfSorts ss es) r.1 h) in
      subst (λ vs. IsOfSort sort (operate_bits (Unary op) vs)) (sym o.is) (unary_of op r.0 sort o.v o.width o.some r.2)
  bits (Folded op) sorts sort es r h = subst (λ s. IsOfSort s (operate_bits (Folded op) (map vector_of es)))
      (sym r.2) (several_of op r.0 sorts es r.1 h)
  bits (Binary op) sorts sort es r h =
      let o = two r.0 es (subst (λ ss. AreOfSorts ss es) r.1 h) in
      subst (λ s. IsOfSort s (operate_bits (Binary op) (map vector_of es))) (sym r.2)
      (subst (λ vs. IsOfSort (BitsSort r.0) (operate_bits (Binary op) vs)) (sym o.is)
      (o.width, (o.some, fits.binary_fits op o.v.width o.v.number o.w.number o.some o.below)))
  bits (Comparison op) sorts sort es r h =
      let o = two r.0 es (subst (λ ss. AreOfSorts ss es) r.1 h) in
      subst (λ s. IsOfSort s (operate_bits (Comparison op) (map vector_of es))) (sym r.2)
      (subst (λ vs. IsOfSort BoolSort (operate_bits (Comparison op) vs)) (sym o.is) tt)
  bits Comp sorts sort es r h =
      let o = two r.0 es (subst (λ ss. AreOfSorts ss es) r.1 h) in
      subst (λ s. IsOfSort s (operate_bits Comp (map vector_of es))) (sym r.2)
      (subst (λ vs. IsOfSort (BitsSort 1) (operate_bits Comp vs)) (sym o.is)
      (refl, (omega arith, fits.comp_fits o.v.number o.w.number)))
  bits (Repeat i) sorts sort es r h =
      subst (λ s. IsOfSort s (operate_bits (Repeat i) (map vector_of es))) (sym r.2.2)
      (of_one (λ v. vector (i * v.width) (repeat i v.width v.number)) (Repeat i) r.0 (i * r.0) es (λ v. refl)
      (λ v w some below. (
        ap (λ n. i * n) w,
        (positive i v.width r.2.0 some, fits.repeat_fits i v.width v.number below),
      ))
      (subst (λ ss. AreOfSorts ss es) r.1 h))
    where
      positive : (i m : ℕ) → 1 ≤ i → 1 ≤ m → 1 ≤ i * m
      positive i m a b = one-le-mul a b
  bits (ZeroExtend i) sorts sort es r h =
      subst (λ s. IsOfSort s (operate_bits (ZeroExtend i) (map vector_of es))) (sym r.2.1)
      (of_one (λ v. vector (v.width + i) v.number) (ZeroExtend i) r.0 (r.0 + i) es (λ v. refl)
      (λ v w some below. (ap (λ n. n + i) w, (omega arith, wider v.width i v.number below)))
      (subst (λ ss. AreOfSorts ss es) r.1 h))
  bits (SignExtend i) sorts sort es r h =
      subst (λ s. IsOfSort s (operate_bits (SignExtend i) (map vector_of es))) (sym r.2.1)
      (of_one (λ v. vector (v.width + i) (sign_extend i v.width v.number)) (SignExtend i) r.0 (r.0 + i) es
      (λ v. refl)
      (λ v w some below. (ap (λ n. n + i) w, (omega arith, fits.sign_extend_fits i v.width v.number)))
      (subst (λ ss. AreOfSorts ss es) r.1 h))
  bits (RotateLeft i) sorts sort es r h =
      subst (λ s. IsOfSort s (operate_bits (RotateLeft i) (map vector_of es))) (sym r.2)
      (of_one (λ v. vector v.width (rotate_left i v.width v.number)) (RotateLeft i) r.0 r.0 es (λ v. refl)
      (λ v w some below. (w, (some, fits.rotate_left_fits i v.width v.number some below)))
      (subst (λ ss. AreOfSorts ss es) r.1 h))
  bits (RotateRight i) sorts sort es r h =
      subst (λ s. IsOfSort s (operate_bits (RotateRight i) (map vector_of es))) (sym r.2)
      (of_one (λ v. vector v.width (rotate_right i v.width v.number)) (RotateRight i) r.0 r.0 es (λ v. refl)
      (λ v w some below. (w, (some, fits.rotate_right_fits i v.width v.number some below)))
      (subst (λ ss. AreOfSorts ss es) r.1 h))
  bits (FromInt n) sorts sort es r h = from_int n sorts sort es r h
  bits (FromIntOlder n) sorts sort es r h = from_int n sorts sort es r h
