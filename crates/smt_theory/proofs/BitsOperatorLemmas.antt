-- Operators on bit vectors are found by their own names and indexes, and by no others.
use Rattle.std.proofs.Common.{◌≡◌, ℕ, ◌<◌, ◌≤◌, ◌^◌, ◌++◌, ◌==◌, Bool, true, false, cond, ◌&&◌, List, [], ◌∷◌}
use Rattle.std.proofs.Common.{Option, Some, None, Result, Ok, nat_lt, nat_le, refl, sym, subst, ◌∙◌}
use Rattle.std.proofs.Common.{rules}
use Rattle.std.specs.Prelude.{IsTrue, bytes_eq, codes, option_map, ok_or}
use Rattle.std.specs.Option.{option_and_then}
use Rattle.std.specs.Str.Parse.{digits_value}
use Rattle.std.proofs.Math.Pow.{pow_mono}
use Rattle.std.proofs.lemmas.Slice.Eq.{bytes_eq-Decides}
use Rattle.smt_theory.proofs.DigitLemmas.{large_below_word}
use Rattle.smt_theory.proofs.LookUpLemmas.{map-some, ok_or-Ok}
use Rattle.smt_theory.specs.Bits.{AreInRange, IsBitsName, bits_indexes}
use Rattle.smt_theory.specs.Bits.{bits_named, constant_by, conversion_plain}
use Rattle.smt_theory.specs.Bits.{constant_digits, extract_by, indexed_bits, indexed_constant}
use Rattle.smt_theory.specs.Bits.{has_bits_op, has_conversions, named_among, only_number, only_width, overflow_plain}
use Rattle.smt_theory.specs.Bits.{repeat_by}
use Rattle.smt_theory.specs.Numbers.{below_word, is_numeral}
use Rattle.smt_theory.specs.Core.{core_named}
use Rattle.smt_theory.specs.Ints.{divisible_by, ints_named}
use Rattle.smt_theory.specs.Operators.{op_by}
use Rattle.smt_theory.specs.declared.op.Op.{Op}
use Rattle.smt_theory.specs.Arrays.{arrays_named}
use Rattle.smt_theory.specs.Reals.{reals_named}
use Rattle.smt_theory.specs.Width.{width_of}
use Rattle.smt_theory.specs.Index.{IndexView}
use Rattle.smt_theory.specs.Index.{Number, Large, Name}
use Rattle.smt_theory.specs.declared.op.BitsBinary.TheVariants.{Nand, Nor, Xnor, Subtract, DivideUnsigned}
use Rattle.smt_theory.specs.declared.op.BitsBinary.TheVariants.{RemainderUnsigned, DivideSigned}
use Rattle.smt_theory.specs.declared.op.BitsBinary.TheVariants.{RemainderSigned, ModuloSigned, ShiftLeft}
use Rattle.smt_theory.specs.declared.op.BitsBinary.TheVariants.{ShiftRight, ShiftRightSigned}
use Rattle.smt_theory.specs.declared.op.BitsComparison.TheVariants.{UnsignedLess, UnsignedAtMost}
use Rattle.smt_theory.specs.declared.op.BitsComparison.TheVariants.{UnsignedGreater, UnsignedAtLeast}
use Rattle.smt_theory.specs.declared.op.BitsComparison.TheVariants.{SignedLess, SignedAtMost, SignedGreater}
use Rattle.smt_theory.specs.declared.op.BitsComparison.TheVariants.{SignedAtLeast, UnsignedAddOverflows}
use Rattle.smt_theory.specs.declared.op.BitsComparison.TheVariants.{SignedAddOverflows, UnsignedMultiplyOverflows}
use Rattle.smt_theory.specs.declared.op.BitsComparison.TheVariants.{SignedMultiplyOverflows}
use Rattle.smt_theory.specs.declared.op.BitsComparison.TheVariants.{UnsignedSubtractOverflows}
use Rattle.smt_theory.specs.declared.op.BitsComparison.TheVariants.{SignedSubtractOverflows, SignedDivideOverflows}
use Rattle.smt_theory.specs.declared.op.BitsFolded.TheVariants.{And, Or, Xor, Add, Multiply}
use Rattle.smt_theory.specs.declared.op.BitsOp.{BitsOp}
use Rattle.smt_theory.specs.declared.op.BitsOp.TheVariants.{Constant, Concat, Extract, Unary, Folded, Binary}
use Rattle.smt_theory.specs.declared.op.BitsOp.TheVariants.{Comparison, Comp, Repeat, ZeroExtend, SignExtend}
use Rattle.smt_theory.specs.declared.op.BitsOp.TheVariants.{RotateLeft, RotateRight, FromInt, FromIntOlder}
use Rattle.smt_theory.specs.declared.op.BitsUnary.TheVariants.{Not, Negate, NegateOverflows, ToInt, ToIntOlder}
use Rattle.smt_theory.specs.declared.op.BitsUnary.TheVariants.{SignedToInt}
use Rattle.smt_theory.specs.declared.op.Op.TheVariants.{Bits}
use Rattle.smt_theory.specs.declared.op.OpFault.{OpFault}
use Rattle.smt_theory.specs.declared.op.OpFault.TheVariants.{Index as WrongIndex}
use Rattle.smt_theory.specs.declared.theories.Theories.{Theories}

-- a number that fits no word is no constant's
within : (o : Option ℕ) (width : ℕ) → option_and_then width_of o ≡ Some width → width ≤ 128
within None width h = cc
within (Some n) width h = by (nat_le 1 n) (nat_le n 128) (search rules) h
  where
    by : (a b : Bool) → (b ≡ true → n ≤ 128) → cond (a && b) (Some n) None ≡ Some width → width ≤ 128
    by true true le h = let e : n ≡ width = cc in subst (λ w. w ≤ 128) e (le refl)
    by true false le h = cc
    by false b le h = cc

pub constant_by-large : (digits : List ℕ) (indexes : List IndexView) (width : ℕ)
    → option_and_then width_of (only_number indexes) ≡ Some width
    → below_word (digits_value 10 digits) ≡ None → constant_by digits indexes ≡ None
constant_by-large digits indexes width is large =
    let limit : 2 ^ width ≤ 2 ^ 128 = pow_mono (within (only_number indexes) width is) in
    let below = large_below_word (digits_value 10 digits) large in
    let e : nat_lt (digits_value 10 digits) (2 ^ width) ≡ false = search rules in
    rw (is, e) refl

-- ---- what is found

-- of these theories' operators one by this name with these indexes
abbrev IsFound : Theories → List ℕ → List IndexView → BitsOp → Type 0
IsFound theories symbol indexes op =
    IsTrue (has_bits_op theories op) × AreInRange op × IsBitsName op symbol × (indexes ≡ bits_indexes op)

only_number-own : (indexes : List IndexView) (i : ℕ) → only_number indexes ≡ Some i → indexes ≡ Number i ∷ []
only_number-own [] i h = cc
only_number-own (Number n ∷ []) i h = cc
only_number-own (Large ∷ []) i h = cc
only_number-own (Name s ∷ []) i h = cc
only_number-own (Number n ∷ x ∷ indexes) i h = cc
only_number-own (Large ∷ x ∷ indexes) i h = cc
only_number-own (Name s ∷ x ∷ indexes) i h = cc

extract_own : (theories : Theories) (here : IsTrue theories.bits) (symbol : List ℕ) (indexes : List IndexView) (op : BitsOp) → symbol ≡ codes "extract"
    → extract_by indexes ≡ Some op → IsFound theories symbol indexes op
extract_own theories here symbol [] op is h = cc
extract_own theories here symbol (Large ∷ indexes) op is h = cc
extract_own theories here symbol (Name s ∷ indexes) op is h = cc
extract_own theories here symbol (Number i ∷ []) op is h = cc
extract_own theories here symbol (Number i ∷ Large ∷ indexes) op is h = cc
extract_own theories here symbol (Number i ∷ Name s ∷ indexes) op is h = cc
extract_own theories here symbol (Number i ∷ Number j ∷ x ∷ indexes) op is h = cc
extract_own theories here symbol (Number i ∷ Number j ∷ []) op is h = by (nat_le j i) (search rules) h
  where
    by : (b : Bool) → (b ≡ true → j ≤ i) → cond b (Some (Extract i j)) None ≡ Some op
        → IsFound theories symbol (Number i ∷ Number j ∷ []) op
    by true le h = let e : Extract i j ≡ op = cc
        in subst (IsFound theories symbol (Number i ∷ Number j ∷ [])) e (here, le refl, is, refl)
    by false le h = cc

repeat_own : (theories : Theories) (here : IsTrue theories.bits) (symbol : List ℕ) (indexes : List IndexView) (op : BitsOp) → symbol ≡ codes "repeat"
    → repeat_by indexes ≡ Some op → IsFound theories symbol indexes op
repeat_own theories here symbol indexes op is h = of (only_number indexes) (only_number-own indexes) h
  where
    by : (i : ℕ) → indexes ≡ Number i ∷ [] → (b : Bool) → (b ≡ true → 0 < i)
        → cond b (Some (Repeat i)) None ≡ Some op → IsFound theories symbol indexes op
    by i own true positive h =
        let e : Repeat i ≡ op = cc in subst (IsFound theories symbol indexes) e (here, positive refl, is, own)
    by i own false positive h = cc

    of : (o : Option ℕ) → ((i : ℕ) → o ≡ Some i → indexes ≡ Number i ∷ [])
        → option_and_then (λ i. cond (nat_lt 0 i) (Some (Repeat i)) None) o ≡ Some op
        → IsFound theories symbol indexes op
    of None own h = cc
    of (Some i) own h = by i (own i refl) (nat_lt 0 i) (search rules) h

-- of an operator that takes a width
width_own : (theories : Theories) (symbol : List ℕ) (indexes : List IndexView) (make : ℕ → BitsOp) (op : BitsOp)
    → ((n : ℕ) → 1 ≤ n → n ≤ 128 → IsFound theories symbol (Number n ∷ []) (make n))
    → option_map make (only_width indexes) ≡ Some op → IsFound theories symbol indexes op
width_own theories symbol indexes make op each h = of (only_number indexes) (only_number-own indexes) h
  where
    by : (n : ℕ) → indexes ≡ Number n ∷ [] → (a b : Bool) → (a ≡ true → 1 ≤ n) → (b ≡ true → n ≤ 128)
        → option_map make (cond (a && b) (Some n) None) ≡ Some op → IsFound theories symbol indexes op
    by n own true true some within h =
        let e : make n ≡ op = cc in
        subst (IsFound theories symbol indexes) e
        (subst (λ is. IsFound theories symbol is (make n)) (sym own) (each n (some refl) (within refl)))
    by n own true false some within h = cc
    by n own false b some within h = cc

    of : (o : Option ℕ) → ((n : ℕ) → o ≡ Some n → indexes ≡ Number n ∷ [])
        → option_map make (option_and_then width_of o) ≡ Some op → IsFound theories symbol indexes op
    of None own h = cc
    of (Some n) own h = by n (own n refl) (nat_le 1 n) (nat_le n 128) (search rules) (search rules) h

-- of an operator that takes one index of any number
extended_own : (theories : Theories) (symbol : List ℕ) (indexes : List IndexView) (make : ℕ → BitsOp) (op : BitsOp)
    → ((i : ℕ) → IsFound theories symbol (Number i ∷ []) (make i))
    → option_map make (only_number indexes) ≡ Some op → IsFound theories symbol indexes op
extended_own theories symbol indexes make op each h =
    let found = map-some make (only_number indexes) op h in
    subst (IsFound theories symbol indexes) found.2
    (subst (λ is. IsFound theories symbol is (make found.0)) (sym (only_number-own indexes found.0 found.1))
    (each found.0))

pub constant_digits-own : (symbol digits : List ℕ) → constant_digits symbol ≡ Some digits
    → (symbol ≡ codes "bv" ++ digits) × IsTrue (is_numeral digits)
constant_digits-own [] digits h = cc
constant_digits-own (b ∷ []) digits h = cc
constant_digits-own (b ∷ v ∷ rest) digits h =
    by (b == 98) (v == 118) (is_numeral rest) (search rules) (search rules) (λ e. e) h
  where
    by : (x y z : Bool) → (x ≡ true → b ≡ 98) → (y ≡ true → v ≡ 118) → (z ≡ true → is_numeral rest ≡ true)
        → cond ((x && y) && z) (Some rest) None ≡ Some digits
        → (b ∷ v ∷ rest ≡ codes "bv" ++ digits) × IsTrue (is_numeral digits)
    by true true true f g n h =
        let e : rest ≡ digits = cc in
        let first = f refl in
        let second = g refl in
        (cc, subst (λ ds. is_numeral ds ≡ true) e (n refl))
    by true true false f g n h = cc
    by true false z f g n h = cc
    by false y z f g n h = cc

constant_own : (theories : Theories) (here : IsTrue theories.bits) (symbol digits : List ℕ) (indexes : List IndexView) (op : BitsOp)
    → (symbol ≡ codes "bv" ++ digits) × IsTrue (is_numeral digits)
    → constant_by digits indexes ≡ Some op → IsFound theories symbol indexes op
constant_own theories here symbol digits indexes op is h = of (only_number indexes) (only_number-own indexes) h
  where
    make : ℕ → Option BitsOp
    make width = cond (nat_lt (digits_value 10 digits) (2 ^ width))
        (Some (Constant (digits_value 10 digits) width)) None

    fits : (n : ℕ) → indexes ≡ Number n ∷ [] → 1 ≤ n → n ≤ 128 → (b : Bool)
        → (b ≡ true → digits_value 10 digits < 2 ^ n)
        → cond b (Some (Constant (digits_value 10 digits) n)) None ≡ Some op → IsFound theories symbol indexes op
    fits n own some within true below h =
        let e : Constant (digits_value 10 digits) n ≡ op = cc in
        subst (IsFound theories symbol indexes) e (here, (some, within, below refl), (digits, is.0, is.1, refl), own)
    fits n own some within false below h = cc

    by : (n : ℕ) → indexes ≡ Number n ∷ [] → (a b : Bool) → (a ≡ true → 1 ≤ n) → (b ≡ true → n ≤ 128)
        → option_and_then make (cond (a && b) (Some n) None) ≡ Some op
        → IsFound theories symbol indexes op
    by n own true true some within h =
        fits n own (some refl) (within refl) (nat_lt (digits_value 10 digits) (2 ^ n)) (search rules) h
    by n own true false some within h = cc
    by n own false b some within h = cc

    of : (o : Option ℕ) → ((n : ℕ) → o ≡ Some n → indexes ≡ Number n ∷ [])
        → option_and_then make (option_and_then width_of o) ≡ Some op → IsFound theories symbol indexes op
    of None own h = cc
    of (Some n) own h = by n (own n refl) (nat_le 1 n) (nat_le n 128) (search rules) (search rules) h

indexed_constant-own : (theories : Theories) (here : IsTrue theories.bits) (symbol : List ℕ) (indexes : List IndexView) (op : BitsOp)
    → indexed_constant (constant_digits symbol) indexes ≡ Ok op → IsFound theories symbol indexes op
indexed_constant-own theories here symbol indexes op h = by (constant_digits symbol) (constant_digits-own symbol) h
  where
    by : (o : Option (List ℕ))
        → ((digits : List ℕ) → o ≡ Some digits → (symbol ≡ codes "bv" ++ digits) × IsTrue (is_numeral digits))
        → indexed_constant o indexes ≡ Ok op
        → IsFound theories symbol indexes op
    by None own h = cc
    by (Some digits) own h = constant_own theories here symbol digits indexes op (own digits refl)
        (ok_or-Ok (constant_by digits indexes) WrongIndex op h)

-- one name after another
named_or : {G : Type 0} (symbol name : List ℕ) (found : Option BitsOp) (others : Result BitsOp OpFault)
    (op : BitsOp) → (symbol ≡ name → found ≡ Some op → G)
    → (others ≡ Ok op → G) → cond (bytes_eq symbol name) (ok_or found WrongIndex) others ≡ Ok op → G
named_or {G} symbol name found others op this other h =
    by (bytes_eq symbol name) (bytes_eq-Decides symbol name).0 h
  where
    by : (b : Bool) → (b ≡ true → symbol ≡ name) → cond b (ok_or found WrongIndex) others ≡ Ok op → G
    by true is h = this (is refl) (ok_or-Ok found WrongIndex op h)
    by false is h = other h

-- the same where integers become bit vectors
converting_or : {G : Type 0} (converts : Bool) (symbol name : List ℕ) (found : Option BitsOp)
    (others : Result BitsOp OpFault) (op : BitsOp)
    → (IsTrue converts → symbol ≡ name → found ≡ Some op → G) → (others ≡ Ok op → G)
    → cond (bytes_eq symbol name && converts) (ok_or found WrongIndex) others ≡ Ok op → G
converting_or {G} converts symbol name found others op this other h =
    by (bytes_eq symbol name) converts (bytes_eq-Decides symbol name).0 (λ e. e) h
  where
    by : (b c : Bool) → (b ≡ true → symbol ≡ name) → (c ≡ true → IsTrue converts)
        → cond (b && c) (ok_or found WrongIndex) others ≡ Ok op → G
    by true true is so h = this (so refl) (is refl) (ok_or-Ok found WrongIndex op h)
    by true false is so h = other h
    by false c is so h = other h

pub indexed_bits-own : (theories : Theories) (here : IsTrue theories.bits) (symbol : List ℕ)
    (indexes : List IndexView) (op : BitsOp) → indexed_bits (has_conversions theories) symbol indexes ≡ Ok op
    → IsTrue (has_bits_op theories op) × AreInRange op × IsBitsName op symbol × (indexes ≡ bits_indexes op)
indexed_bits-own theories here symbol indexes op =
    named_or symbol (codes "extract") (extract_by indexes) _ op (extract_own theories here symbol indexes op)
    (named_or symbol (codes "repeat") (repeat_by indexes) _ op (repeat_own theories here symbol indexes op)
    (named_or symbol (codes "zero_extend") (option_map ZeroExtend (only_number indexes)) _ op
    (λ is. extended_own theories symbol indexes ZeroExtend op (λ i. (here, tt, is, refl)))
    (named_or symbol (codes "sign_extend") (option_map SignExtend (only_number indexes)) _ op
    (λ is. extended_own theories symbol indexes SignExtend op (λ i. (here, tt, is, refl)))
    (named_or symbol (codes "rotate_left") (option_map RotateLeft (only_number indexes)) _ op
    (λ is. extended_own theories symbol indexes RotateLeft op (λ i. (here, tt, is, refl)))
    (named_or symbol (codes "rotate_right") (option_map RotateRight (only_number indexes)) _ op
    (λ is. extended_own theories symbol indexes RotateRight op (λ i. (here, tt, is, refl)))
    (converting_or (has_conversions theories) symbol (codes "int_to_bv") (option_map FromInt (only_width indexes)) _ op
    (λ so is. width_own theories symbol indexes FromInt op (λ n some within. (so, (some, within), is, refl)))
    (converting_or (has_conversions theories) symbol (codes "int2bv") (option_map FromIntOlder (only_width indexes)) _ op
    (λ so is. width_own theories symbol indexes FromIntOlder op (λ n some within. (so, (some, within), is, refl)))
    (indexed_constant-own theories here symbol indexes op))))))))

-- ---- each is found

-- a plain operator on bit vectors has no name of another theory's
plain_found : (theories : Theories) (symbol : List ℕ) (op : BitsOp) → IsTrue theories.bits
    → core_named symbol ≡ None → ints_named symbol ≡ None → bits_named symbol ≡ Some op
    → op_by theories symbol [] ≡ Ok (Bits op)
plain_found theories symbol op here core ints is = rw (core, ints, here, is) refl

indexed_found : (theories : Theories) (symbol : List ℕ) (i : IndexView) (indexes : List IndexView)
    (op : BitsOp) → IsTrue theories.bits → bytes_eq symbol (codes "divisible") ≡ false
    → indexed_bits (has_conversions theories) symbol (i ∷ indexes) ≡ Ok op
    → op_by theories symbol (i ∷ indexes) ≡ Ok (Bits op)
indexed_found theories symbol i indexes op here other is =
    rw (is, other, here) (by (ok_or (divisible_by (i ∷ indexes)) WrongIndex) (Ok (Bits op)) theories.ints)
  where
    by : {A : Type 0} (a x : A) (b : Bool) → cond (b && false) a x ≡ x
    by a x true = refl
    by a x false = refl

constant_found : (digits : List ℕ) (n : ℕ) → 1 ≤ n → n ≤ 128 → digits_value 10 digits < 2 ^ n
    → constant_by digits (Number n ∷ []) ≡ Some (Constant (digits_value 10 digits) n)
constant_found digits n some within below =
    let a : nat_le 1 n ≡ true = search rules in
    let b : nat_le n 128 ≡ true = search rules in
    let c : nat_lt (digits_value 10 digits) (2 ^ n) ≡ true = search rules in
    rw (a, b, c) refl

-- where integers become bit vectors there are both, and the profile is Wide
pub conversions_of : (theories : Theories) → IsTrue (has_conversions theories)
    → IsTrue theories.wide × IsTrue theories.bits × IsTrue theories.ints
conversions_of theories h = by theories.wide theories.bits theories.ints h
  where
    by : (wide bits ints : Bool) → (wide && bits && ints) ≡ true → (wide ≡ true) × (bits ≡ true) × (ints ≡ true)
    by true true true h = (refl, refl, refl)
    by true true false h = cc
    by true false ints h = cc
    by false bits ints h = cc

overflows_of : (theories : Theories) → IsTrue (theories.wide && theories.bits)
    → IsTrue theories.wide × IsTrue theories.bits
overflows_of theories h = by theories.wide theories.bits h
  where
    by : (wide bits : Bool) → (wide && bits) ≡ true → (wide ≡ true) × (bits ≡ true)
    by true true h = (refl, refl)
    by true false h = cc
    by false bits h = cc

-- a name that no theory of every profile has, nor the theories Reals and ArraysEx
abbrev IsOther : List ℕ → Type 0
IsOther symbol = (core_named symbol ≡ None) × (ints_named symbol ≡ None) × (bits_named symbol ≡ None)
    × (reals_named symbol ≡ None) × (arrays_named symbol ≡ None)

no_array : (b : Bool) → cond {A = Option Op} b None None ≡ None
no_array true = refl
no_array false = refl

overflow_found : (theories : Theories) (symbol : List ℕ) (op : BitsOp) → IsTrue (theories.wide && theories.bits)
    → IsOther symbol → named_among overflow_plain symbol ≡ Some op → op_by theories symbol [] ≡ Ok (Bits op)
overflow_found theories symbol op here other is =
    let there = overflows_of theories here in rw (other.0, other.1, other.2, other.3, other.4, no_array theories.arrays, there.0, there.1, is) refl

conversion_found : (theories : Theories) (symbol : List ℕ) (op : BitsOp) → IsTrue (has_conversions theories)
    → IsOther symbol → named_among overflow_plain symbol ≡ None → named_among conversion_plain symbol ≡ Some op
    → op_by theories symbol [] ≡ Ok (Bits op)
conversion_found theories symbol op here other none is =
    let there = conversions_of theories here in
    rw (other.0, other.1, other.2, other.3, other.4, no_array theories.arrays, there.0, there.1, there.2, none, is) refl

-- of n bits of an integer
from_int_found : (theories : Theories) (symbol : List ℕ) (make : ℕ → BitsOp) (n : ℕ)
    → IsTrue (has_conversions theories) → 1 ≤ n → n ≤ 128 → bytes_eq symbol (codes "divisible") ≡ false
    → (indexed_bits true symbol (Number n ∷ []) ≡ ok_or (option_map make (only_width (Number n ∷ []))) WrongIndex)
    → op_by theories symbol (Number n ∷ []) ≡ Ok (Bits (make n))
from_int_found theories symbol make n here some within other is =
    let there = conversions_of theories here in
    let a : nat_le 1 n ≡ true = search rules in
    let b : nat_le n 128 ≡ true = search rules in
    let found : ok_or (option_map make (only_width (Number n ∷ []))) WrongIndex ≡ Ok (make n) = rw (a, b) refl in
    indexed_found theories symbol (Number n) [] (make n) there.1 other
    (subst (λ c. indexed_bits c symbol (Number n ∷ []) ≡ Ok (make n)) (sym here) (is ∙ found))

pub bits_found : (theories : Theories) (symbol : List ℕ) (op : BitsOp) → IsTrue (has_bits_op theories op)
    → AreInRange op
    → IsBitsName op symbol
    → op_by theories symbol (bits_indexes op) ≡ Ok (Bits op)
bits_found theories symbol Concat here range h =
    rw h (plain_found theories (codes "concat") Concat here refl refl refl)
bits_found theories symbol (Unary Not) here range h =
    rw h (plain_found theories (codes "bvnot") (Unary Not) here refl refl refl)
bits_found theories symbol (Unary Negate) here range h =
    rw h (plain_found theories (codes "bvneg") (Unary Negate) here refl refl refl)
bits_found theories symbol (Unary NegateOverflows) here range h =
    rw h (overflow_found theories (codes "bvnego") (Unary NegateOverflows) here (refl, refl, refl, refl, refl) refl)
bits_found theories symbol (Unary ToInt) here range h =
    rw h (conversion_found theories (codes "ubv_to_int") (Unary ToInt) here (refl, refl, refl, refl, refl) refl refl)
bits_found theories symbol (Unary ToIntOlder) here range h =
    rw h (conversion_found theories (codes "bv2nat") (Unary ToIntOlder) here (refl, refl, refl, refl, refl) refl refl)
bits_found theories symbol (Unary SignedToInt) here range h =
    rw h (conversion_found theories (codes "sbv_to_int") (Unary SignedToInt) here (refl, refl, refl, refl, refl) refl refl)
bits_found theories symbol (Folded And) here range h =
    rw h (plain_found theories (codes "bvand") (Folded And) here refl refl refl)
bits_found theories symbol (Folded Or) here range h =
    rw h (plain_found theories (codes "bvor") (Folded Or) here refl refl refl)
bits_found theories symbol (Folded Xor) here range h =
    rw h (plain_found theories (codes "bvxor") (Folded Xor) here refl refl refl)
bits_found theories symbol (Folded Add) here range h =
    rw h (plain_found theories (codes "bvadd") (Folded Add) here refl refl refl)
bits_found theories symbol (Folded Multiply) here range h =
    rw h (plain_found theories (codes "bvmul") (Folded Multiply) here refl refl refl)
bits_found theories symbol (Binary Nand) here range h =
    rw h (plain_found theories (codes "bvnand") (Binary Nand) here refl refl refl)
bits_found theories symbol (Binary Nor) here range h =
    rw h (plain_found theories (codes "bvnor") (Binary Nor) here refl refl refl)
bits_found theories symbol (Binary Xnor) here range h =
    rw h (plain_found theories (codes "bvxnor") (Binary Xnor) here refl refl refl)
bits_found theories symbol (Binary Subtract) here range h =
    rw h (plain_found theories (codes "bvsub") (Binary Subtract) here refl refl refl)
bits_found theories symbol (Binary DivideUnsigned) here range h =
    rw h (plain_found theories (codes "bvudiv") (Binary DivideUnsigned) here refl refl refl)
bits_found theories symbol (Binary RemainderUnsigned) here range h =
    rw h (plain_found theories (codes "bvurem") (Binary RemainderUnsigned) here refl refl refl)
bits_found theories symbol (Binary DivideSigned) here range h =
    rw h (plain_found theories (codes "bvsdiv") (Binary DivideSigned) here refl refl refl)
bits_found theories symbol (Binary RemainderSigned) here range h =
    rw h (plain_found theories (codes "bvsrem") (Binary RemainderSigned) here refl refl refl)
bits_found theories symbol (Binary ModuloSigned) here range h =
    rw h (plain_found theories (codes "bvsmod") (Binary ModuloSigned) here refl refl refl)
bits_found theories symbol (Binary ShiftLeft) here range h =
    rw h (plain_found theories (codes "bvshl") (Binary ShiftLeft) here refl refl refl)
bits_found theories symbol (Binary ShiftRight) here range h =
    rw h (plain_found theories (codes "bvlshr") (Binary ShiftRight) here refl refl refl)
bits_found theories symbol (Binary ShiftRightSigned) here range h =
    rw h (plain_found theories (codes "bvashr") (Binary ShiftRightSigned) here refl refl refl)
bits_found theories symbol (Comparison UnsignedLess) here range h =
    rw h (plain_found theories (codes "bvult") (Comparison UnsignedLess) here refl refl refl)
bits_found theories symbol (Comparison UnsignedAtMost) here range h =
    rw h (plain_found theories (codes "bvule") (Comparison UnsignedAtMost) here refl refl refl)
bits_found theories symbol (Comparison UnsignedGreater) here range h =
    rw h (plain_found theories (codes "bvugt") (Comparison UnsignedGreater) here refl refl refl)
bits_found theories symbol (Comparison UnsignedAtLeast) here range h =
    rw h (plain_found theories (codes "bvuge") (Comparison UnsignedAtLeast) here refl refl refl)
bits_found theories symbol (Comparison SignedLess) here range h =
    rw h (plain_found theories (codes "bvslt") (Comparison SignedLess) here refl refl refl)
bits_found theories symbol (Comparison SignedAtMost) here range h =
    rw h (plain_found theories (codes "bvsle") (Comparison SignedAtMost) here refl refl refl)
bits_found theories symbol (Comparison SignedGreater) here range h =
    rw h (plain_found theories (codes "bvsgt") (Comparison SignedGreater) here refl refl refl)
bits_found theories symbol (Comparison SignedAtLeast) here range h =
    rw h (plain_found theories (codes "bvsge") (Comparison SignedAtLeast) here refl refl refl)
bits_found theories symbol (Comparison UnsignedAddOverflows) here range h =
    rw h (overflow_found theories (codes "bvuaddo") (Comparison UnsignedAddOverflows) here (refl, refl, refl, refl, refl) refl)
bits_found theories symbol (Comparison SignedAddOverflows) here range h =
    rw h (overflow_found theories (codes "bvsaddo") (Comparison SignedAddOverflows) here (refl, refl, refl, refl, refl) refl)
bits_found theories symbol (Comparison UnsignedMultiplyOverflows) here range h =
    rw h (overflow_found theories (codes "bvumulo") (Comparison UnsignedMultiplyOverflows) here (refl, refl, refl, refl, refl) refl)
bits_found theories symbol (Comparison SignedMultiplyOverflows) here range h =
    rw h (overflow_found theories (codes "bvsmulo") (Comparison SignedMultiplyOverflows) here (refl, refl, refl, refl, refl) refl)
bits_found theories symbol (Comparison UnsignedSubtractOverflows) here range h =
    rw h (overflow_found theories (codes "bvusubo") (Comparison UnsignedSubtractOverflows) here (refl, refl, refl, refl, refl) refl)
bits_found theories symbol (Comparison SignedSubtractOverflows) here range h =
    rw h (overflow_found theories (codes "bvssubo") (Comparison SignedSubtractOverflows) here (refl, refl, refl, refl, refl) refl)
bits_found theories symbol (Comparison SignedDivideOverflows) here range h =
    rw h (overflow_found theories (codes "bvsdivo") (Comparison SignedDivideOverflows) here (refl, refl, refl, refl, refl) refl)
bits_found theories symbol Comp here range h =
    rw h (plain_found theories (codes "bvcomp") Comp here refl refl refl)
bits_found theories symbol (ZeroExtend i) here range h =
    rw h (indexed_found theories (codes "zero_extend") (Number i) [] (ZeroExtend i) here refl refl)
bits_found theories symbol (SignExtend i) here range h =
    rw h (indexed_found theories (codes "sign_extend") (Number i) [] (SignExtend i) here refl refl)
bits_found theories symbol (RotateLeft i) here range h =
    rw h (indexed_found theories (codes "rotate_left") (Number i) [] (RotateLeft i) here refl refl)
bits_found theories symbol (RotateRight i) here range h =
    rw h (indexed_found theories (codes "rotate_right") (Number i) [] (RotateRight i) here refl refl)
bits_found theories symbol (Extract i j) here range h =
    let le : nat_le j i ≡ true = search rules
    in rw h (indexed_found theories (codes "extract") (Number i) (Number j ∷ []) (Extract i j) here refl
    (rw le refl))
bits_found theories symbol (Repeat i) here range h =
    let positive : nat_lt 0 i ≡ true = search rules
    in rw h (indexed_found theories (codes "repeat") (Number i) [] (Repeat i) here refl
    (rw positive refl))
bits_found theories symbol (Constant number n) here range h =
    let named = constant_found h.0 n range.0 range.1 (rw h.3 range.2) in
    rw h.1 (indexed_found theories (codes "bv" ++ h.0) (Number n) [] (Constant number n) here refl
    (rw (h.2, named, h.3) refl))
bits_found theories symbol (FromInt n) here range h =
    rw h (from_int_found theories (codes "int_to_bv") FromInt n here range.0 range.1 refl refl)
bits_found theories symbol (FromIntOlder n) here range h =
    rw h (from_int_found theories (codes "int2bv") FromIntOlder n here range.0 range.1 refl refl)
