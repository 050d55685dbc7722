-- What is known of the results of operators on bit vectors is true.
use Rattle.std.proofs.Common.{◌≡◌, ℕ, ◌^◌, ℤ, pos, Bool, true, false, cond, List, [], ◌∷◌, Option, Some, None, nat_le, nat_lt}
use Rattle.std.proofs.Common.{refl, sym, subst}
use Rattle.std.specs.Prelude.{fold, option_map, option_and_then, ◌==◌, ◌&&◌, ◌+◌, ◌*◌}
use Rattle.smt_bits.specs.BitVector.{BitVector}
use Rattle.smt_bits.specs.Parts.{concatenation}
use Rattle.smt_theory.specs.declared.op.BitsFolded.{BitsFolded}
use Rattle.smt_theory.specs.declared.op.BitsOp.{BitsOp}
use Rattle.smt_theory.specs.declared.op.BitsOp.TheVariants.{Constant, Concat, Extract, Unary, Folded, Binary}
use Rattle.smt_theory.specs.declared.op.BitsOp.TheVariants.{Comparison, Comp, Repeat, ZeroExtend, SignExtend}
use Rattle.smt_theory.specs.declared.op.BitsOp.TheVariants.{RotateLeft, RotateRight, FromInt, FromIntOlder}
use Rattle.smt_theory.specs.declared.op.BitsUnary.{BitsUnary}
use Rattle.smt_theory.specs.declared.op.BitsUnary.TheVariants.{Not, Negate, NegateOverflows, ToInt, ToIntOlder}
use Rattle.smt_theory.specs.declared.op.BitsUnary.TheVariants.{SignedToInt}
use Rattle.smt_values.specs.BitOperations.{bits_of_int, concatenated, folded_vector, of_one, operate_bits}
use Rattle.smt_values.specs.Element.{Element, Integer, Vector, Agrees}
use Rattle.smt_values.specs.KnownBitOperations.{known_bits, known_bits_of_int, known_folded, known_of_one}
use Rattle.smt_values.specs.Lists.{steps_from}

-- what is given where a test holds
given : {A : Type 0} (f : A → Element) (b : Bool) (x : A) → Agrees (option_map f (cond b (Some x) None)) (f x)
given f true x = refl
given f false x = tt

is_given : {A : Type 0} (b : Bool) (x y : A) → cond b (Some x) None ≡ Some y → x ≡ y
is_given true x y h = cc
is_given false x y h = cc

-- what is combined from the left
steps_true : (combine : BitVector → BitVector → Option BitVector) (f : BitVector → BitVector → BitVector)
    → ((a b c : BitVector) → combine a b ≡ Some c → f a b ≡ c)
    → (a : BitVector) (vs : List BitVector)
    → Agrees (option_map Vector (steps_from combine a vs)) (Vector (fold f a vs))
steps_true combine f same a [] = refl
steps_true combine f same a (b ∷ vs) = by (combine a b) (same a b) (λ c. steps_true combine f same c vs)
  where
    by : (o : Option BitVector) → ((c : BitVector) → o ≡ Some c → f a b ≡ c)
        → ((c : BitVector) → Agrees (option_map Vector (steps_from combine c vs)) (Vector (fold f c vs)))
        → Agrees (option_map Vector (option_and_then (λ c. steps_from combine c vs) o))
        (Vector (fold f (f a b) vs))
    by None same rest = tt
    by (Some c) same rest = subst
        (λ d. Agrees (option_map Vector (steps_from combine c vs)) (Vector (fold f d vs))) (sym (same c refl))
        (rest c)

concatenation_is : (a b c : BitVector) → concatenation a b ≡ Some c → concatenated a b ≡ c
concatenation_is a b c h = is_given (nat_le (a.width + b.width) 128) (concatenated a b) c h

folded_is : (op : BitsFolded) (a b c : BitVector) → known_folded op a b ≡ Some c → folded_vector op a b ≡ c
folded_is op a b c h = is_given (a.width == b.width) (folded_vector op a b) c h

number_true : (s : BitVector) (b : Bool) → Agrees (cond b (Some (Integer (pos s.number))) None) (Integer (pos s.number))
number_true s true = refl
number_true s false = tt

one_true : (op : BitsUnary) (s : BitVector) → Agrees (known_of_one op s) (of_one op s)
one_true Not s = refl
one_true Negate s = refl
one_true NegateOverflows s = refl
one_true ToInt s = number_true s (nat_lt s.number (2 ^ 127))
one_true ToIntOlder s = number_true s (nat_lt s.number (2 ^ 127))
one_true SignedToInt s = refl

-- of an integer
pub int_true : (n : ℕ) (zs : List ℤ) → Agrees (known_bits_of_int n zs) (bits_of_int n zs)
int_true n [] = tt
int_true n (z ∷ []) = refl
int_true n (z ∷ y ∷ zs) = tt

pub bits_true : (op : BitsOp) (vs : List BitVector) → Agrees (known_bits op vs) (operate_bits op vs)
bits_true (Constant x n) [] = refl
bits_true (Constant x n) (s ∷ vs) = tt
bits_true Concat [] = tt
bits_true Concat (s ∷ vs) = steps_true concatenation concatenated concatenation_is s vs
bits_true (Extract i j) [] = tt
bits_true (Extract i j) (s ∷ []) = given Vector (nat_le j i && nat_lt i s.width) _
bits_true (Extract i j) (s ∷ t ∷ vs) = tt
bits_true (Unary op) [] = tt
bits_true (Unary op) (s ∷ []) = one_true op s
bits_true (Unary op) (s ∷ t ∷ vs) = tt
bits_true (Folded op) [] = tt
bits_true (Folded op) (s ∷ vs) = steps_true (known_folded op) (folded_vector op) (folded_is op) s vs
bits_true (Binary op) [] = tt
bits_true (Binary op) (s ∷ []) = tt
bits_true (Binary op) (s ∷ t ∷ []) = given _ (s.width == t.width) (s, t)
bits_true (Binary op) (s ∷ t ∷ u ∷ vs) = tt
bits_true (Comparison op) [] = tt
bits_true (Comparison op) (s ∷ []) = tt
bits_true (Comparison op) (s ∷ t ∷ []) = given _ (s.width == t.width) (s, t)
bits_true (Comparison op) (s ∷ t ∷ u ∷ vs) = tt
bits_true Comp [] = tt
bits_true Comp (s ∷ []) = tt
bits_true Comp (s ∷ t ∷ []) = given _ (s.width == t.width) (s, t)
bits_true Comp (s ∷ t ∷ u ∷ vs) = tt
bits_true (Repeat i) [] = tt
bits_true (Repeat i) (s ∷ []) = given Vector (nat_le 1 i && nat_le (i * s.width) 128) _
bits_true (Repeat i) (s ∷ t ∷ vs) = tt
bits_true (ZeroExtend i) [] = tt
bits_true (ZeroExtend i) (s ∷ []) = given Vector (nat_le (s.width + i) 128) _
bits_true (ZeroExtend i) (s ∷ t ∷ vs) = tt
bits_true (SignExtend i) [] = tt
bits_true (SignExtend i) (s ∷ []) = given Vector (nat_le (s.width + i) 128) _
bits_true (SignExtend i) (s ∷ t ∷ vs) = tt
bits_true (RotateLeft i) [] = tt
bits_true (RotateLeft i) (s ∷ []) = refl
bits_true (RotateLeft i) (s ∷ t ∷ vs) = tt
bits_true (RotateRight i) [] = tt
bits_true (RotateRight i) (s ∷ []) = refl
bits_true (RotateRight i) (s ∷ t ∷ vs) = tt
bits_true (FromInt n) vs = tt
bits_true (FromIntOlder n) vs = tt
