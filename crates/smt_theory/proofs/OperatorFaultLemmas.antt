-- Why no operator is found: none has the name, or none with that name has the indexes.
use Rattle.std.proofs.Common.{◌≡◌, ◌≢◌, ◌⊎◌, inl, inr, ℕ, ◌++◌, Bool, true, false, cond, ◌&&◌, ◌||◌, List, [], ◌∷◌}
use Rattle.std.proofs.Common.{Option, Some, None, Result, Ok, Err, refl, sym, ap, subst}
use Rattle.std.specs.Prelude.{IsTrue, bytes_eq, codes, ok_or, option_map}
use Rattle.std.proofs.lemmas.Slice.Eq.{bytes_eq-Decides}
use Rattle.smt_theory.proofs.BitsOperatorLemmas.{constant_digits-own, conversions_of}
use Rattle.smt_theory.proofs.OperatorLemmas.{op_by-name, op_by-own}
use Rattle.smt_theory.specs.Bits.{AreInRange, bits_indexes, constant_by, constant_digits, extract_by}
use Rattle.smt_theory.specs.Bits.{has_bits_op, has_conversions, indexed_bits, indexed_constant, only_width, repeat_by}
use Rattle.smt_theory.specs.Index.{IndexView}
use Rattle.smt_theory.specs.Numbers.{is_numeral}
use Rattle.smt_theory.specs.Operators.{IsIndexedName, IsNameOf, IsOfTheories, IsOperatorBy, IsOperatorOf}
use Rattle.smt_theory.specs.Operators.{has_ints_op, IsPlainName, indexed_op, indexes_of, op_by, plain_op}
use Rattle.smt_theory.specs.Ints.{divisible_by}
use Rattle.smt_theory.specs.Words.{result_and_then}
use Rattle.smt_theory.specs.declared.op.BitsOp.{BitsOp}
use Rattle.smt_theory.specs.declared.op.BitsOp.TheVariants.{Constant, Concat, Extract, Unary, Folded, Binary}
use Rattle.smt_theory.specs.declared.op.BitsOp.TheVariants.{Comparison as BitsComparison, Comp, Repeat}
use Rattle.smt_theory.specs.declared.op.BitsOp.TheVariants.{ZeroExtend, SignExtend, RotateLeft, RotateRight}
use Rattle.smt_theory.specs.declared.op.BitsOp.TheVariants.{FromInt, FromIntOlder}
use Rattle.smt_theory.specs.declared.op.IntsOp.TheVariants.{Arithmetic, Comparison, Mod, Abs, Divisible}
use Rattle.smt_theory.specs.declared.op.Op.{Op}
use Rattle.smt_theory.specs.declared.op.Op.TheVariants.{Core, Ints, Reals, Bits, Arrays}
use Rattle.smt_theory.specs.declared.op.OpFault.{OpFault}
use Rattle.smt_theory.specs.declared.op.OpFault.TheVariants.{Unknown, Index as WrongIndex}
use Rattle.smt_theory.specs.declared.theories.Theories.{Theories}

-- an operator of the theories is one of them, and one without indexes has none out of range
of_theories : (theories : Theories) (op : Op) → IsOperatorOf theories op → IsOfTheories theories op
of_theories theories (Core op) h = tt
of_theories theories (Ints (Arithmetic op)) h = h
of_theories theories (Ints (Comparison op)) h = h
of_theories theories (Ints Mod) h = h
of_theories theories (Ints Abs) h = h
of_theories theories (Ints (Divisible n)) h = rw h.0 refl
of_theories theories (Reals op) h = h
of_theories theories (Bits op) h = h.0
of_theories theories (Arrays op) h = h

plain_in_range : (op : BitsOp) → bits_indexes op ≡ [] → AreInRange op
plain_in_range (Constant number width) e = cc
plain_in_range (Extract i j) e = cc
plain_in_range (Repeat i) e = cc
plain_in_range Concat e = tt
plain_in_range (Unary op) e = tt
plain_in_range (Folded op) e = tt
plain_in_range (Binary op) e = tt
plain_in_range (BitsComparison op) e = tt
plain_in_range Comp e = tt
plain_in_range (ZeroExtend i) e = tt
plain_in_range (SignExtend i) e = tt
plain_in_range (RotateLeft i) e = tt
plain_in_range (RotateRight i) e = tt
plain_in_range (FromInt n) e = cc
plain_in_range (FromIntOlder n) e = cc

plain_of : (theories : Theories) (op : Op) → IsOfTheories theories op → indexes_of op ≡ []
    → IsOperatorOf theories op
plain_of theories (Core op) h e = tt
plain_of theories (Ints (Arithmetic op)) h e = h
plain_of theories (Ints (Comparison op)) h e = h
plain_of theories (Ints Mod) h e = h
plain_of theories (Ints Abs) h e = h
plain_of theories (Ints (Divisible n)) h e = cc
plain_of theories (Reals op) h e = h
plain_of theories (Bits op) h e = (h, plain_in_range op e)
plain_of theories (Arrays op) h e = h

-- ---- without indexes

pub plain_unknown : (theories : Theories) (symbol : List ℕ) → op_by theories symbol [] ≡ Err Unknown
    → ¬ IsPlainName theories symbol
plain_unknown theories symbol h name =
    let found = op_by-name theories symbol [] name.0
    (plain_of theories name.0 name.1 name.3, name.2, sym name.3) in cc

pub unknown_plain : (theories : Theories) (symbol : List ℕ) → ¬ IsPlainName theories symbol
    → op_by theories symbol [] ≡ Err Unknown
unknown_plain theories symbol none =
    by (plain_op theories symbol) (λ op e. op_by-own theories symbol [] op (ap (λ o. ok_or o Unknown) e))
  where
    by : (o : Option Op) → ((op : Op) → o ≡ Some op → IsOperatorBy theories symbol [] op)
        → ok_or o Unknown ≡ Err Unknown
    by None own = refl
    by (Some op) own =
        let is = own op refl in absurd (none (op, of_theories theories op is.0, is.1, sym is.2))

plain_fault : (o : Option Op) → ok_or o Unknown ≡ Err WrongIndex → ⊥
plain_fault None h = cc
plain_fault (Some op) h = cc

-- ---- with indexes: a name of an indexed operator tells what to make of them

-- what is made of the indexes, or nothing where they do not fit
abbrev Made : Result Op OpFault → Type 0
Made answer = (o : Option Op) × (answer ≡ ok_or o WrongIndex)

bits_made : (found : Option BitsOp) → Made (result_and_then (ok_or found WrongIndex) (λ op. Ok (Bits op)))
bits_made None = (None, refl)
bits_made (Some op) = (Some (Bits op), refl)

-- by the name of an operator on bit vectors
bits_by : (theories : Theories) (symbol : List ℕ) (found : Option BitsOp) (indexes : List IndexView)
    → IsTrue theories.bits → bytes_eq symbol (codes "divisible") ≡ false
    → indexed_bits (has_conversions theories) symbol indexes ≡ ok_or found WrongIndex
    → Made (indexed_op theories symbol indexes)
bits_by theories symbol found indexes here other is = rw (is, other, here) (by theories.ints)
  where
    by : (b : Bool) → Made (cond (b && false) (ok_or (divisible_by indexes) WrongIndex)
        (result_and_then (ok_or found WrongIndex) (λ op. Ok (Bits op))))
    by true = bits_made found
    by false = bits_made found

-- by the name of one that makes a bit vector of an integer
converted_made : (theories : Theories) (symbol : List ℕ) (found : Option BitsOp) (indexes : List IndexView)
    → IsTrue (has_conversions theories) → bytes_eq symbol (codes "divisible") ≡ false
    → indexed_bits true symbol indexes ≡ ok_or found WrongIndex → Made (indexed_op theories symbol indexes)
converted_made theories symbol found indexes here other is =
    bits_by theories symbol found indexes (conversions_of theories here).1 other
    (subst (λ c. indexed_bits c symbol indexes ≡ ok_or found WrongIndex) (sym here) is)

bits_named_made : (theories : Theories) (symbol : List ℕ) (op : BitsOp) (indexes : List IndexView)
    → IsTrue (has_bits_op theories op) → IsNameOf (Bits op) symbol → bits_indexes op ≢ []
    → Made (indexed_op theories symbol indexes)
bits_named_made theories symbol (Constant number width) indexes here h some =
    rw h.1 (bits_by theories (codes "bv" ++ h.0) (constant_by h.0 indexes) indexes here refl (rw h.2 refl))
bits_named_made theories symbol (Extract i j) indexes here h some =
    rw h (bits_by theories (codes "extract") (extract_by indexes) indexes here refl refl)
bits_named_made theories symbol (Repeat i) indexes here h some =
    rw h (bits_by theories (codes "repeat") (repeat_by indexes) indexes here refl refl)
bits_named_made theories symbol (ZeroExtend i) indexes here h some =
    rw h (bits_by theories (codes "zero_extend") _ indexes here refl refl)
bits_named_made theories symbol (SignExtend i) indexes here h some =
    rw h (bits_by theories (codes "sign_extend") _ indexes here refl refl)
bits_named_made theories symbol (RotateLeft i) indexes here h some =
    rw h (bits_by theories (codes "rotate_left") _ indexes here refl refl)
bits_named_made theories symbol (RotateRight i) indexes here h some =
    rw h (bits_by theories (codes "rotate_right") _ indexes here refl refl)
bits_named_made theories symbol (FromInt n) indexes here h some = rw h (converted_made theories (codes "int_to_bv")
    (option_map FromInt (only_width indexes)) indexes here refl refl)
bits_named_made theories symbol (FromIntOlder n) indexes here h some = rw h (converted_made theories (codes "int2bv")
    (option_map FromIntOlder (only_width indexes)) indexes here refl refl)
bits_named_made theories symbol Concat indexes here h some = absurd (some refl)
bits_named_made theories symbol (Unary op) indexes here h some = absurd (some refl)
bits_named_made theories symbol (Folded op) indexes here h some = absurd (some refl)
bits_named_made theories symbol (Binary op) indexes here h some = absurd (some refl)
bits_named_made theories symbol (BitsComparison op) indexes here h some = absurd (some refl)
bits_named_made theories symbol Comp indexes here h some = absurd (some refl)

-- `divisible` is there with Ints alone
with_ints : (theories : Theories) (n : ℕ) → IsTrue (has_ints_op theories (Divisible n)) → IsTrue theories.ints
with_ints theories n h = by theories.ints theories.reals h
  where
    by : (ints reals : Bool) → (ints || reals && false) ≡ true → ints ≡ true
    by true reals h = refl
    by false true h = cc
    by false false h = cc

named_made : (theories : Theories) (symbol : List ℕ) (indexes : List IndexView)
    → IsIndexedName theories symbol → Made (indexed_op theories symbol indexes)
named_made theories symbol indexes name = by name.0 name.1 name.2 name.3
  where
    by : (op : Op) → IsOfTheories theories op → IsNameOf op symbol → indexes_of op ≢ []
        → Made (indexed_op theories symbol indexes)
    by (Core op) of is some = absurd (some refl)
    by (Ints (Arithmetic op)) of is some = absurd (some refl)
    by (Ints (Comparison op)) of is some = absurd (some refl)
    by (Ints Mod) of is some = absurd (some refl)
    by (Ints Abs) of is some = absurd (some refl)
    by (Ints (Divisible n)) of is some = rw (is, with_ints theories n of) (divisible_by indexes, refl)
    by (Reals op) of is some = absurd (some refl)
    by (Bits op) of is some = bits_named_made theories symbol op indexes of is some
    by (Arrays op) of is some = absurd (some refl)

-- ---- any other name is unknown

-- the name is unknown, or an indexed operator's
abbrev IsTold : Theories → List ℕ → Result Op OpFault → Type 0
IsTold theories symbol answer = (answer ≡ Err Unknown) ⊎ IsIndexedName theories symbol

bits_told : (theories : Theories) (symbol : List ℕ) (indexes : List IndexView) → IsTrue theories.bits
    → (indexed_bits (has_conversions theories) symbol indexes ≡ Err Unknown) ⊎ IsIndexedName theories symbol
bits_told theories symbol indexes here =
    named_or (codes "extract") _ _ (Extract 0 0) here (λ is. is) (λ e. cc)
    (named_or (codes "repeat") _ _ (Repeat 0) here (λ is. is) (λ e. cc)
    (named_or (codes "zero_extend") _ _ (ZeroExtend 0) here (λ is. is) (λ e. cc)
    (named_or (codes "sign_extend") _ _ (SignExtend 0) here (λ is. is) (λ e. cc)
    (named_or (codes "rotate_left") _ _ (RotateLeft 0) here (λ is. is) (λ e. cc)
    (named_or (codes "rotate_right") _ _ (RotateRight 0) here (λ is. is) (λ e. cc)
    (converting_or (codes "int_to_bv") _ _ (FromInt 0) (λ so. so) (λ is. is) (λ e. cc)
    (converting_or (codes "int2bv") _ _ (FromIntOlder 0) (λ so. so) (λ is. is) (λ e. cc)
    (constant (constant_digits symbol) (constant_digits-own symbol)))))))))
  where
    converting_or : (name : List ℕ) (this others : Result BitsOp OpFault) (op : BitsOp)
        → (IsTrue (has_conversions theories) → IsTrue (has_bits_op theories op))
        → (symbol ≡ name → IsNameOf (Bits op) symbol) → bits_indexes op ≢ []
        → (others ≡ Err Unknown) ⊎ IsIndexedName theories symbol
        → (cond (bytes_eq symbol name && has_conversions theories) this others ≡ Err Unknown)
        ⊎ IsIndexedName theories symbol
    converting_or name this others op there named some rest =
        by (bytes_eq symbol name) (has_conversions theories) (bytes_eq-Decides symbol name).0 (λ e. e)
      where
        by : (b c : Bool) → (b ≡ true → symbol ≡ name) → (c ≡ true → IsTrue (has_conversions theories))
            → (cond (b && c) this others ≡ Err Unknown) ⊎ IsIndexedName theories symbol
        by true true is so = inr (Bits op, there (so refl), named (is refl), some)
        by true false is so = rest
        by false c is so = rest

    named_or : (name : List ℕ) (this others : Result BitsOp OpFault) (op : BitsOp)
        → IsTrue (has_bits_op theories op)
        → (symbol ≡ name → IsNameOf (Bits op) symbol) → bits_indexes op ≢ []
        → (others ≡ Err Unknown) ⊎ IsIndexedName theories symbol
        → (cond (bytes_eq symbol name) this others ≡ Err Unknown) ⊎ IsIndexedName theories symbol
    named_or name this others op there named some rest = by (bytes_eq symbol name) (bytes_eq-Decides symbol name).0
      where
        by : (b : Bool) → (b ≡ true → symbol ≡ name)
            → (cond b this others ≡ Err Unknown) ⊎ IsIndexedName theories symbol
        by true is = inr (Bits op, there, named (is refl), some)
        by false is = rest

    constant : (o : Option (List ℕ))
        → ((digits : List ℕ) → o ≡ Some digits → (symbol ≡ codes "bv" ++ digits) × IsTrue (is_numeral digits))
        → (indexed_constant o indexes ≡ Err Unknown) ⊎ IsIndexedName theories symbol
    constant None own = inl refl
    constant (Some digits) own =
        let is = own digits refl in inr (Bits (Constant _ 0), here, (digits, is.0, is.1, refl), λ e. cc)

told : (theories : Theories) (symbol : List ℕ) (indexes : List IndexView)
    → IsTold theories symbol (indexed_op theories symbol indexes)
told theories symbol indexes = by theories.ints (bytes_eq symbol (codes "divisible")) theories.bits (λ e. e)
    (bytes_eq-Decides symbol (codes "divisible")).0 (λ e. e)
  where
    or_bits : (bits : Bool) → (bits ≡ true → IsTrue theories.bits)
        → IsTold theories symbol
        (cond bits (result_and_then (indexed_bits (has_conversions theories) symbol indexes) (λ op. Ok (Bits op)))
        (Err Unknown))
    or_bits false b = inl refl
    or_bits true b = elim (bits_told theories symbol indexes (b refl))
        [ inl e ↦ inl (ap (λ a. result_and_then a (λ op. Ok (Bits op))) e) | inr name ↦ inr name ]

    by : (ints named bits : Bool) → (ints ≡ true → IsTrue theories.ints)
        → (named ≡ true → symbol ≡ codes "divisible") → (bits ≡ true → IsTrue theories.bits)
        → IsTold theories symbol
        (cond (ints && named) (ok_or (divisible_by indexes) WrongIndex)
        (cond bits (result_and_then (indexed_bits (has_conversions theories) symbol indexes) (λ op. Ok (Bits op)))
        (Err Unknown)))
    by true true bits i n b = inr (Ints (Divisible 0), rw (i refl) refl, n refl, λ e. cc)
    by true false bits i n b = or_bits bits b
    by false named bits i n b = or_bits bits b

made_known : (answer : Result Op OpFault) → Made answer → answer ≡ Err Unknown → ⊥
made_known answer (None, e) h = cc
made_known answer (Some op, e) h = cc

pub indexed_unknown : (theories : Theories) (symbol : List ℕ) (first : IndexView) (rest : List IndexView)
    → op_by theories symbol (first ∷ rest) ≡ Err Unknown → ¬ IsIndexedName theories symbol
indexed_unknown theories symbol first rest h name =
    made_known (indexed_op theories symbol (first ∷ rest)) (named_made theories symbol (first ∷ rest) name) h

pub unknown_indexed : (theories : Theories) (symbol : List ℕ) (first : IndexView) (rest : List IndexView)
    → ¬ IsIndexedName theories symbol → op_by theories symbol (first ∷ rest) ≡ Err Unknown
unknown_indexed theories symbol first rest none =
    elim (told theories symbol (first ∷ rest)) [ inl e ↦ e | inr name ↦ absurd (none name) ]

-- ---- the indexes are at fault

-- the name is an indexed operator's, and no operator fits
abbrev IsMissed : Theories → List ℕ → List IndexView → Type 0
IsMissed theories symbol indexes =
    (indexes ≢ []) × IsIndexedName theories symbol × ((op : Op) → ¬ IsOperatorBy theories symbol indexes op)

pub index_missed : (theories : Theories) (symbol : List ℕ) (indexes : List IndexView)
    → op_by theories symbol indexes ≡ Err WrongIndex → IsMissed theories symbol indexes
index_missed theories symbol [] h = absurd (plain_fault (plain_op theories symbol) h)
index_missed theories symbol (first ∷ rest) h = (
  λ e. cc,
  elim (told theories symbol (first ∷ rest)) [ inl e ↦ cc | inr name ↦ name ],
  λ op is. let
      found = op_by-name theories symbol (first ∷ rest) op is in cc,
)

pub missed_index : (theories : Theories) (symbol : List ℕ) (indexes : List IndexView)
    → IsMissed theories symbol indexes → op_by theories symbol indexes ≡ Err WrongIndex
missed_index theories symbol [] h = absurd (h.0 refl)
missed_index theories symbol (first ∷ rest) h = by (named_made theories symbol (first ∷ rest) h.1)
  where
    by : Made (indexed_op theories symbol (first ∷ rest))
        → indexed_op theories symbol (first ∷ rest) ≡ Err WrongIndex
    by (None, e) = e
    by (Some op, e) = absurd (h.2 op (op_by-own theories symbol (first ∷ rest) op e))
