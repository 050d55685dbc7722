-- Operators are found by their own names and indexes, and by no others.
use Rattle.std.proofs.Common.{◌≡◌, inl, inr, ℕ, ◌<◌, Bool, true, false, cond, ◌&&◌, ◌||◌, List, [], ◌∷◌, Option}
use Rattle.std.proofs.Common.{Some, None, Result, Ok, Err, length, map, nat_eq, nat_lt, refl, sym, subst, ◌∙◌}
use Rattle.std.proofs.Common.{rules}
use Rattle.std.specs.Prelude.{IsTrue, bytes_eq, codes, option_map, ok_or}
use Rattle.std.specs.Option.{option_or}
use Rattle.smt_theory.specs.Arrays.{IsArraysName, arrays_name, arrays_named, arrays_plain}
use Rattle.smt_theory.specs.declared.op.ArraysOp.{ArraysOp}
use Rattle.smt_theory.specs.declared.op.ArraysOp.TheVariants.{Select, Store, Const}
use Rattle.smt_theory.specs.declared.op.RealsOp.{RealsOp}
use Rattle.smt_theory.specs.declared.op.RealsOp.TheVariants.{Divide, ToReal, ToInt, IsInt}
use Rattle.std.proofs.lemmas.Slice.Eq.{bytes_eq-Decides}
use Rattle.smt_theory.proofs.BitsOperatorLemmas.{bits_found, indexed_bits-own}
use Rattle.smt_theory.proofs.LookUpLemmas.{Each, find_named, map-some, ok_or-Ok, option_or-some, passes-some}
use Rattle.smt_theory.proofs.LookUpLemmas.{when-some}
use Rattle.smt_theory.specs.Bits.{AreInRange, IsBitsName, added_op, bits_indexes, bits_name, bits_named}
use Rattle.smt_theory.specs.Bits.{bits_plain, conversion_plain, has_bits_op, has_conversions, indexed_bits}
use Rattle.smt_theory.specs.Bits.{named_among, overflow_plain}
use Rattle.smt_theory.specs.Core.{core_name, core_plain, core_named}
use Rattle.smt_theory.specs.Ints.{ints_name, ints_plain, ints_named}
use Rattle.smt_theory.specs.Operators.{plain_op, indexed_op, op_by, indexes_of, has_ints_op, IsNameOf}
use Rattle.smt_theory.specs.Reals.{has_reals_op, is_of_reals, reals_name, reals_named, reals_plain}
use Rattle.smt_theory.specs.Ints.{divisible_by}
use Rattle.smt_theory.specs.Operators.{IsOperatorOf}
use Rattle.smt_theory.specs.Index.{IndexView, index_view}
use Rattle.smt_theory.specs.Index.{Number, Large, Name}
use Rattle.smt_theory.specs.Words.{if_passes, result_and_then}
use Rattle.smt_theory.specs.declared.index.Index.{Index}
use Rattle.smt_theory.specs.declared.op.Arithmetic.TheVariants.{Minus, Plus, Times, Div}
use Rattle.smt_theory.specs.declared.op.BitsOp.{BitsOp}
use Rattle.smt_theory.specs.declared.op.Comparison.TheVariants.{AtMost, Less, AtLeast, Greater}
use Rattle.smt_theory.specs.declared.op.CoreOp.{CoreOp}
use Rattle.smt_theory.specs.declared.op.CoreOp.TheVariants.{True, False, Not, Implies, And, Or, Xor, Equal}
use Rattle.smt_theory.specs.declared.op.CoreOp.TheVariants.{Distinct, Ite}
use Rattle.smt_theory.specs.declared.op.IntsOp.{IntsOp}
use Rattle.smt_theory.specs.declared.op.IntsOp.TheVariants.{Arithmetic, Comparison, Mod, Abs, Divisible}
use Rattle.smt_theory.specs.declared.op.Op.{Op}
use Rattle.smt_theory.specs.declared.op.Op.TheVariants.{Core, Ints, Reals, Bits, Arrays}
use Rattle.smt_theory.specs.declared.op.OpFault.{OpFault}
use Rattle.smt_theory.specs.declared.op.OpFault.TheVariants.{Unknown, Index as WrongIndex}
use Rattle.smt_theory.specs.declared.theories.Theories.{Theories}

-- with an index
pub op_by_indexed : (theories : Theories) (symbol : List ℕ) (indexes : List Index)
    → nat_eq (length indexes) 0 ≡ false
    → op_by theories symbol (map index_view indexes) ≡ indexed_op theories symbol (map index_view indexes)
op_by_indexed theories symbol [] h = cc
op_by_indexed theories symbol (index ∷ indexes) h = refl

-- the operator is one of the theories, and these are its name and indexes
abbrev IsFound : Theories → List ℕ → List IndexView → Op → Type 0
IsFound theories symbol indexes op = IsOperatorOf theories op × IsNameOf op symbol × (indexes ≡ indexes_of op)

-- a plain operator of Ints has no indexes, and is one wherever it is there
abbrev IsPlain : Theories → IntsOp → Type 0
IsPlain theories op =
    (indexes_of (Ints op) ≡ []) × (IsTrue (has_ints_op theories op) → IsOperatorOf theories (Ints op))

each_plain : (theories : Theories) → Each (IsPlain theories) ints_plain
each_plain theories = search rules

core_own : (theories : Theories) (symbol : List ℕ) (op : Op) → option_map Core (core_named symbol) ≡ Some op
    → IsFound theories symbol [] op
core_own theories symbol op h =
    let found = map-some Core (core_named symbol) op h in
    subst (λ op. IsFound theories symbol [] op) found.2
    (tt, (find_named core_name (λ _. Unit {0}) symbol core_plain found.0 (search rules) found.1).0, refl)

ints_own : (theories : Theories) (symbol : List ℕ) (op : Op)
    → option_map Ints (if_passes (has_ints_op theories) (ints_named symbol)) ≡ Some op
    → IsFound theories symbol [] op
ints_own theories symbol op h =
    let found = map-some Ints (if_passes (has_ints_op theories) (ints_named symbol)) op h in
    let passed = passes-some (has_ints_op theories) (ints_named symbol) found.0 found.1 in
    let own = find_named ints_name (IsPlain theories) symbol ints_plain found.0 (each_plain theories) passed.1
    in
    subst (λ op. IsFound theories symbol [] op) found.2 (own.1.1 passed.0, own.0, sym own.1.0)

reals_own : (theories : Theories) (symbol : List ℕ) (op : Op)
    → option_map Reals (if_passes (has_reals_op theories) (reals_named symbol)) ≡ Some op
    → IsFound theories symbol [] op
reals_own theories symbol op h =
    let found = map-some Reals (if_passes (has_reals_op theories) (reals_named symbol)) op h in
    let passed = passes-some (has_reals_op theories) (reals_named symbol) found.0 found.1 in
    let own = find_named reals_name (λ _. Unit {0}) symbol reals_plain found.0 (search rules) passed.1 in
    subst (λ op. IsFound theories symbol [] op) found.2 (passed.0, own.0, refl)

-- an operator on arrays that a symbol names is named so
abbrev IsPlainArrays : ArraysOp → Type 0
IsPlainArrays op = (symbol : List ℕ) → symbol ≡ arrays_name op → IsArraysName op symbol

arrays_own : (theories : Theories) (symbol : List ℕ) (op : Op) → theories.arrays ≡ true
    → option_map Arrays (arrays_named symbol) ≡ Some op → IsFound theories symbol [] op
arrays_own theories symbol op there h =
    let found = map-some Arrays (arrays_named symbol) op h in
    let own = find_named arrays_name IsPlainArrays symbol arrays_plain found.0
    ((λ s e. e), ((λ s e. e), tt)) found.1 in
    subst (λ op. IsFound theories symbol [] op) found.2 (there, own.1 symbol own.0, refl)

-- a plain operator on bit vectors is in range without indexes, and is there where this is so of the theories
abbrev IsPlainBits : (Theories → Bool) → BitsOp → Type 0
IsPlainBits there op = AreInRange op × ((symbol : List ℕ) → symbol ≡ bits_name op → IsBitsName op symbol)
    × ([] ≡ bits_indexes op) × ((theories : Theories) → has_bits_op theories op ≡ there theories)

each_plain_bits : Each (IsPlainBits (λ theories. theories.bits)) bits_plain
each_plain_bits = search rules

each_overflow : Each (IsPlainBits (λ theories. theories.wide && theories.bits)) overflow_plain
each_overflow = search rules

each_conversion : Each (IsPlainBits has_conversions) conversion_plain
each_conversion = search rules

among_own : (theories : Theories) (there : Theories → Bool) (ops : List BitsOp) (symbol : List ℕ) (op : BitsOp)
    → Each (IsPlainBits there) ops → IsTrue (there theories) → named_among ops symbol ≡ Some op
    → IsFound theories symbol [] (Bits op)
among_own theories there ops symbol op each here h =
    let own = find_named bits_name (IsPlainBits there) symbol ops op each h in
    ((own.1.3 theories ∙ here, own.1.0), own.1.1 symbol own.0, own.1.2)

bits_own : (theories : Theories) (symbol : List ℕ) (op : Op) → IsTrue theories.bits
    → option_map Bits (bits_named symbol) ≡ Some op → IsFound theories symbol [] op
bits_own theories symbol op bits h =
    let found = map-some Bits (bits_named symbol) op h in
    subst (λ op. IsFound theories symbol [] op) found.2
    (among_own theories (λ theories. theories.bits) bits_plain symbol found.0 each_plain_bits bits found.1)

added_own : (theories : Theories) (symbol : List ℕ) (op : Op) → option_map Bits (added_op theories symbol) ≡ Some op
    → IsFound theories symbol [] op
added_own theories symbol op h =
    let found = map-some Bits (added_op theories symbol) op h in
    subst (λ op. IsFound theories symbol [] op) found.2
    (by found.0 theories.wide theories.bits theories.ints (λ e. e) (λ e. e) found.1)
  where
    by : (b : BitsOp) (wide bits ints : Bool) → ((wide && bits) ≡ true → IsTrue (theories.wide && theories.bits))
        → ((wide && bits && ints) ≡ true → IsTrue (has_conversions theories))
        → cond (wide && bits) (option_or (named_among overflow_plain symbol)
        (cond ints (named_among conversion_plain symbol) None)) None ≡ Some b → IsFound theories symbol [] (Bits b)
    by b true true true both all h = elim (option_or-some (named_among overflow_plain symbol) _ b h) [
      | inl e ↦ among_own theories (λ theories. theories.wide && theories.bits) overflow_plain symbol b each_overflow
          (both refl) e
      | inr e ↦ among_own theories has_conversions conversion_plain symbol b each_conversion (all refl) e
    ]
    by b true true false both all h = elim (option_or-some (named_among overflow_plain symbol) _ b h) [
      | inl e ↦ among_own theories (λ theories. theories.wide && theories.bits) overflow_plain symbol b each_overflow
          (both refl) e
      | inr e ↦ cc
    ]
    by b true false ints both all h = cc
    by b false bits ints both all h = cc

plain_own : (theories : Theories) (symbol : List ℕ) (op : Op)
    → ok_or (plain_op theories symbol) Unknown ≡ Ok op → IsFound theories symbol [] op
plain_own theories symbol op h =
    elim (option_or-some (option_map Core (core_named symbol)) _ op
    (ok_or-Ok (plain_op theories symbol) Unknown op h)) [
      | inl e ↦ core_own theories symbol op e
      | inr e ↦ elim (option_or-some (option_map Ints (if_passes (has_ints_op theories) (ints_named symbol))) _ op e) [
        | inl e ↦ ints_own theories symbol op e
        | inr e ↦ elim (option_or-some (cond theories.bits (option_map Bits (bits_named symbol)) None) _ op e) [
          | inl e ↦ (let own = when-some theories.bits (option_map Bits (bits_named symbol)) op e
              in bits_own theories symbol op own.0 own.1)
          | inr e ↦ elim (option_or-some (option_map Reals (if_passes (has_reals_op theories) (reals_named symbol))) _ op e) [
            | inl e ↦ reals_own theories symbol op e
            | inr e ↦ elim (option_or-some (cond theories.arrays (option_map Arrays (arrays_named symbol)) None) _ op e) [
              | inl e ↦ (let own = when-some theories.arrays (option_map Arrays (arrays_named symbol)) op e
                  in arrays_own theories symbol op own.0 own.1)
              | inr e ↦ added_own theories symbol op e
            ]
          ]
        ]
      ]
    ]

divisible_own : (indexes : List IndexView) (op : Op) → divisible_by indexes ≡ Some op
    → (n : ℕ) × (op ≡ Ints (Divisible n)) × (indexes ≡ Number n ∷ []) × (0 < n)
divisible_own [] op h = cc
divisible_own (Large ∷ indexes) op h = cc
divisible_own (Name s ∷ indexes) op h = cc
divisible_own (Number n ∷ i ∷ indexes) op h = cc
divisible_own (Number n ∷ []) op h = by (nat_lt 0 n) (search rules) h
  where
    by : (b : Bool) → (b ≡ true → 0 < n) → cond b (Some (Ints (Divisible n))) None ≡ Some op
        → (k : ℕ) × (op ≡ Ints (Divisible k)) × (Number n ∷ [] ≡ Number k ∷ []) × (0 < k)
    by true is h = (n, cc, refl, is refl)
    by false is h = cc

bits_indexed_own : (theories : Theories) (symbol : List ℕ) (indexes : List IndexView) (op : Op)
    (found : Result BitsOp OpFault) → indexed_bits (has_conversions theories) symbol indexes ≡ found
    → IsTrue theories.bits → result_and_then found (λ op. Ok (Bits op)) ≡ Ok op
    → IsFound theories symbol indexes op
bits_indexed_own theories symbol indexes op (Err fault) is bits h = cc
bits_indexed_own theories symbol indexes op (Ok o) is bits h =
    let own = indexed_bits-own theories bits symbol indexes o is in
    let e : Bits o ≡ op = cc in
    subst (λ op. IsFound theories symbol indexes op) e ((own.0, own.1), own.2, own.3)

indexed_own : (theories : Theories) (symbol : List ℕ) (indexes : List IndexView) (op : Op)
    → indexed_op theories symbol indexes ≡ Ok op
    → IsFound theories symbol indexes op
indexed_own theories symbol indexes op h =
    by theories.ints (bytes_eq symbol (codes "divisible")) theories.bits (λ e. e)
    (bytes_eq-Decides symbol (codes "divisible")).0 (λ e. e) h
  where
    found : IsTrue theories.ints → symbol ≡ codes "divisible" → (o : Option Op) → divisible_by indexes ≡ o
        → ok_or o WrongIndex ≡ Ok op → IsFound theories symbol indexes op
    found ints is None e h = cc
    found ints is (Some x) e h =
        let own = divisible_own indexes x e in
        let e : Ints (Divisible own.0) ≡ op = (let a = own.1 in cc) in
        subst (λ op. IsFound theories symbol indexes op) e ((ints, own.3), is, own.2)

    or_bits : (bits : Bool) → (bits ≡ true → IsTrue theories.bits)
        → cond bits (result_and_then (indexed_bits (has_conversions theories) symbol indexes) (λ op. Ok (Bits op)))
        (Err Unknown) ≡ Ok op → IsFound theories symbol indexes op
    or_bits true b h = bits_indexed_own theories symbol indexes op
        (indexed_bits (has_conversions theories) symbol indexes) refl (b refl) h
    or_bits false b h = cc

    by : (ints named bits : Bool) → (ints ≡ true → IsTrue theories.ints)
        → (named ≡ true → symbol ≡ codes "divisible") → (bits ≡ true → IsTrue theories.bits)
        → cond (ints && named) (ok_or (divisible_by indexes) WrongIndex)
        (cond bits (result_and_then (indexed_bits (has_conversions theories) symbol indexes) (λ op. Ok (Bits op)))
        (Err Unknown)) ≡ Ok op → IsFound theories symbol indexes op
    by true true bits i n b h = found (i refl) (n refl) (divisible_by indexes) refl h
    by true false bits i n b h = or_bits bits b h
    by false named bits i n b h = or_bits bits b h

-- what is found is one of the theories' operators, with its own name and indexes
pub op_by-own : (theories : Theories) (symbol : List ℕ) (indexes : List IndexView) (op : Op)
    → op_by theories symbol indexes ≡ Ok op
    → IsOperatorOf theories op × IsNameOf op symbol × (indexes ≡ indexes_of op)
op_by-own theories symbol [] op h = plain_own theories symbol op h
op_by-own theories symbol (index ∷ indexes) op h = indexed_own theories symbol (index ∷ indexes) op h

-- an operator of the theories is found
core_found : (theories : Theories) (op : CoreOp) → op_by theories (core_name op) [] ≡ Ok (Core op)
core_found theories True = refl
core_found theories False = refl
core_found theories Not = refl
core_found theories Implies = refl
core_found theories And = refl
core_found theories Or = refl
core_found theories Xor = refl
core_found theories Equal = refl
core_found theories Distinct = refl
core_found theories Ite = refl

ints_found : (theories : Theories) (op : IntsOp) → IsOperatorOf theories (Ints op)
    → op_by theories (ints_name op) (indexes_of (Ints op)) ≡ Ok (Ints op)
ints_found theories (Arithmetic Minus) h = rw h refl
ints_found theories (Arithmetic Plus) h = rw h refl
ints_found theories (Arithmetic Times) h = rw h refl
ints_found theories (Arithmetic Div) h = rw h refl
ints_found theories Mod h = rw h refl
ints_found theories Abs h = rw h refl
ints_found theories (Comparison AtMost) h = rw h refl
ints_found theories (Comparison Less) h = rw h refl
ints_found theories (Comparison AtLeast) h = rw h refl
ints_found theories (Comparison Greater) h = rw h refl
ints_found theories (Divisible n) h =
    let positive : nat_lt 0 n ≡ true = (let below = h.1 in search rules) in rw (h.0, positive) refl

reals_found : (theories : Theories) (op : RealsOp) → IsOperatorOf theories (Reals op)
    → op_by theories (reals_name op) [] ≡ Ok (Reals op)
reals_found theories Divide h = by theories.ints theories.bits
  where
    by : (ints bits : Bool) → ok_or (option_or (option_map Ints (if_passes (λ op. ints || theories.reals && is_of_reals op) None))
        (option_or (cond bits None None) (option_or (option_map Reals (if_passes (has_reals_op theories) (Some Divide)))
        (option_or (cond theories.arrays None None) (option_map Bits (added_op theories (codes "/"))))))) Unknown ≡ Ok (Reals Divide)
    by true true = rw h refl
    by true false = rw h refl
    by false true = rw h refl
    by false false = rw h refl
reals_found theories ToReal h = by theories.bits
  where
    by : (bits : Bool) → ok_or (option_or (cond bits None None)
        (option_or (option_map Reals (if_passes (has_reals_op theories) (Some ToReal)))
        (option_or (cond theories.arrays None None) (option_map Bits (added_op theories (codes "to_real")))))) Unknown ≡ Ok (Reals ToReal)
    by true = rw h refl
    by false = rw h refl
reals_found theories ToInt h = by theories.bits
  where
    by : (bits : Bool) → ok_or (option_or (cond bits None None)
        (option_or (option_map Reals (if_passes (has_reals_op theories) (Some ToInt)))
        (option_or (cond theories.arrays None None) (option_map Bits (added_op theories (codes "to_int")))))) Unknown ≡ Ok (Reals ToInt)
    by true = rw h refl
    by false = rw h refl
reals_found theories IsInt h = by theories.bits
  where
    by : (bits : Bool) → ok_or (option_or (cond bits None None)
        (option_or (option_map Reals (if_passes (has_reals_op theories) (Some IsInt)))
        (option_or (cond theories.arrays None None) (option_map Bits (added_op theories (codes "is_int")))))) Unknown ≡ Ok (Reals IsInt)
    by true = rw h refl
    by false = rw h refl

arrays_found : (theories : Theories) (op : ArraysOp) (symbol : List ℕ) → IsTrue theories.arrays → IsArraysName op symbol
    → op_by theories symbol [] ≡ Ok (Arrays op)
arrays_found theories Select symbol h is = rw is (by theories.bits)
  where
    by : (bits : Bool) → ok_or (option_or (cond bits None None)
        (option_or (cond theories.arrays (Some (Arrays Select)) None) (option_map Bits (added_op theories (codes "select")))))
        Unknown ≡ Ok (Arrays Select)
    by true = rw h refl
    by false = rw h refl
arrays_found theories Store symbol h is = rw is (by theories.bits)
  where
    by : (bits : Bool) → ok_or (option_or (cond bits None None)
        (option_or (cond theories.arrays (Some (Arrays Store)) None) (option_map Bits (added_op theories (codes "store")))))
        Unknown ≡ Ok (Arrays Store)
    by true = rw h refl
    by false = rw h refl
arrays_found theories (Const sort) symbol h is = absurd is

pub op_by-name : (theories : Theories) (symbol : List ℕ) (indexes : List IndexView) (op : Op)
    → IsOperatorOf theories op × IsNameOf op symbol × (indexes ≡ indexes_of op)
    → op_by theories symbol indexes ≡ Ok op
op_by-name theories symbol indexes (Core op) h = rw (h.1, h.2) (core_found theories op)
op_by-name theories symbol indexes (Ints op) h = rw (h.1, h.2) (ints_found theories op h.0)
op_by-name theories symbol indexes (Reals op) h = rw (h.1, h.2) (reals_found theories op h.0)
op_by-name theories symbol indexes (Arrays op) h = rw h.2 (arrays_found theories op symbol h.0 h.1)
op_by-name theories symbol indexes (Bits op) h = rw h.2 (bits_found theories symbol op h.0.0 h.0.1 h.1)
