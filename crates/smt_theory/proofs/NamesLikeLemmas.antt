-- A name is looked for among all operators as it is compared with the one that it can be.
use Rattle.std.proofs.Common.{◌≡◌, ◌==◌, ℕ, Bool, true, false, cond, List, Option, Some, None, length, get_or}
use Rattle.std.proofs.Common.{refl, sym, ap, ◌∙◌, subst, rules}
use Rattle.std.specs.Prelude.{bytes_eq, find, option_map}
use Rattle.std.specs.Bool.{then_some}
use Rattle.std.proofs.lemmas.Slice.Eq.{bytes_eq-Decides}
use Rattle.smt_theory.proofs.LookUpLemmas.{Each, find_named}
use Rattle.smt_theory.specs.Bits.{bits_name, bits_named, bits_plain}
use Rattle.smt_theory.specs.Bits.{bits_like, bits_of_five, bits_of_six}
use Rattle.smt_theory.specs.Core.{core_like}
use Rattle.smt_theory.specs.Words.{if_named}
use Rattle.smt_theory.specs.Ints.{ints_like}
use Rattle.smt_theory.specs.Core.{core_name, core_named, core_plain}
use Rattle.smt_theory.specs.Ints.{ints_name, ints_named, ints_plain}
use Rattle.smt_theory.specs.Operators.{name_of}
use Rattle.smt_theory.specs.PlainOp.{op_of_plain}
use Rattle.smt_theory.specs.declared.op.Arithmetic.TheVariants as arithmetic
use Rattle.smt_theory.specs.declared.op.Comparison.TheVariants as order
use Rattle.smt_theory.specs.declared.op.CoreOp.{CoreOp}
use Rattle.smt_theory.specs.declared.op.CoreOp.TheVariants as core
use Rattle.smt_theory.specs.declared.op.IntsOp.{IntsOp}
use Rattle.smt_theory.specs.declared.op.IntsOp.TheVariants as ints
use Rattle.smt_theory.specs.declared.op.Op.{Op}
use Rattle.smt_theory.specs.declared.op.Op.TheVariants.{Core, Ints, Bits}
use Rattle.smt_theory.specs.declared.op.plain.PlainOp.{PlainOp}
use Rattle.smt_theory.specs.declared.op.BitsBinary.TheVariants.{Nand, Nor, Xnor, Subtract, DivideUnsigned}
use Rattle.smt_theory.specs.declared.op.BitsBinary.TheVariants.{RemainderUnsigned, DivideSigned}
use Rattle.smt_theory.specs.declared.op.BitsBinary.TheVariants.{RemainderSigned, ModuloSigned, ShiftLeft}
use Rattle.smt_theory.specs.declared.op.BitsBinary.TheVariants.{ShiftRight, ShiftRightSigned}
use Rattle.smt_theory.specs.declared.op.BitsComparison.TheVariants.{UnsignedLess, UnsignedAtMost}
use Rattle.smt_theory.specs.declared.op.BitsComparison.TheVariants.{UnsignedGreater, UnsignedAtLeast}
use Rattle.smt_theory.specs.declared.op.BitsComparison.TheVariants.{SignedLess, SignedAtMost, SignedGreater}
use Rattle.smt_theory.specs.declared.op.BitsComparison.TheVariants.{SignedAtLeast}
use Rattle.smt_theory.specs.declared.op.BitsFolded.TheVariants as folded
use Rattle.smt_theory.specs.declared.op.BitsOp.{BitsOp}
use Rattle.smt_theory.specs.declared.op.BitsOp.TheVariants as bits
use Rattle.smt_theory.specs.declared.op.BitsUnary.TheVariants as unary

-- the first of these operators that has the name
abbrev named : {O : Type 0} → (O → List ℕ) → List O → List ℕ → Option O
named name ops symbol = find (λ o. bytes_eq symbol (name o)) ops

-- an operator is found by its own name
abbrev IsFound : {O : Type 0} → (O → List ℕ) → List O → O → Type 0
IsFound name ops op = named name ops (name op) ≡ Some op

-- an operator is what its own name can be
abbrev IsLike : {O : Type 0} → (O → List ℕ) → (List ℕ → Option O) → O → Type 0
IsLike name like op = like (name op) ≡ Some op

named-compared : {O : Type 0} (name : O → List ℕ) (ops : List O) (like : List ℕ → Option O) (symbol : List ℕ)
    → Each (IsLike name like) ops → ((op : O) → like symbol ≡ Some op → IsFound name ops op)
    → named name ops symbol ≡ if_named name symbol (like symbol)
named-compared {O} name ops like symbol each found =
    by (named name ops symbol) refl (like symbol) refl
  where
    own : (op : O) → named name ops symbol ≡ Some op → (symbol ≡ name op) × (like symbol ≡ Some op)
    own op e = let f = find_named name (IsLike name like) symbol ops op each e in (f.0, ap like f.0 ∙ f.1)

    with : (b : Bool) (op : O) (o : Option O) → bytes_eq symbol (name op) ≡ b → named name ops symbol ≡ o
        → like symbol ≡ Some op → IsFound name ops op → o ≡ then_some b op
    with true op o h e k is = sym e ∙ ap (named name ops) ((bytes_eq-Decides symbol (name op)).0 h) ∙ is
    with false op None h e k is = refl
    with false op (Some p) h e k is =
        let f = own p e in
        let same : p ≡ op = cc in
        let equal = (bytes_eq-Decides symbol (name op)).1 (f.0 ∙ ap name same) in
        absurd (cc)

    by : (o : Option O) → named name ops symbol ≡ o → (l : Option O) → like symbol ≡ l
        → o ≡ if_named name symbol l
    by None e None k = refl
    by (Some op) e None k = let f = own op e in absurd (cc)
    by o e (Some op) k = with (bytes_eq symbol (name op)) op o refl e k (found op k)

-- one after another
or_by : {O : Type 0} (P : O → Type 0) (op o : O) (b : Bool) (others : Option O) → P o
    → (others ≡ Some op → P op) → cond b (Some o) others ≡ Some op → P op
or_by P op o true others this rest h = let e : o ≡ op = cc in subst P e this
or_by P op o false others this rest h = rest h

or_none : {O : Type 0} (P : O → Type 0) (op : O) → None ≡ Some op → P op
or_none P op h = cc

abbrev bits_by_bytes : List ℕ → Option BitsOp
bits_by_bytes symbol = bits_like (length symbol) (get_or symbol 2 0) (get_or symbol 3 0) (get_or symbol 4 0)

each_bits : Each (IsLike bits_name bits_by_bytes) bits_plain
each_bits = search rules

abbrev IsFoundBits : BitsOp → Type 0
IsFoundBits op = IsFound bits_name bits_plain op

found_of_five : (c d e : ℕ) (op : BitsOp) → bits_of_five c d e ≡ Some op → IsFoundBits op
found_of_five c d e op =
    let P = IsFoundBits in
    or_by P op (bits.Folded folded.Add) _ _ refl
    (or_by P op (bits.Folded folded.And) _ _ refl
    (or_by P op (bits.Folded folded.Multiply) _ _ refl
    (or_by P op (bits.Unary unary.Negate) _ _ refl
    (or_by P op (bits.Unary unary.Not) _ _ refl
    (or_by P op (bits.Binary Nor) _ _ refl
    (or_by P op (bits.Binary ShiftLeft) _ _ refl
    (or_by P op (bits.Binary Subtract) _ _ refl
    (or_by P op (bits.Comparison SignedAtLeast) _ _ refl
    (or_by P op (bits.Comparison SignedGreater) _ _ refl
    (or_by P op (bits.Comparison SignedAtMost) _ _ refl
    (or_by P op (bits.Comparison SignedLess) _ _ refl
    (or_by P op (bits.Comparison UnsignedAtLeast) _ _ refl
    (or_by P op (bits.Comparison UnsignedGreater) _ _ refl
    (or_by P op (bits.Comparison UnsignedAtMost) _ _ refl
    (or_by P op (bits.Comparison UnsignedLess) _ _ refl
    (or_by P op (bits.Folded folded.Xor) _ _ refl (or_none P op)))))))))))))))))

found_of_six : (c d : ℕ) (op : BitsOp) → bits_of_six c d ≡ Some op → IsFoundBits op
found_of_six c d op =
    let P = IsFoundBits in
    or_by P op (bits.Binary ShiftRightSigned) _ _ refl
    (or_by P op bits.Comp _ _ refl
    (or_by P op (bits.Binary ShiftRight) _ _ refl
    (or_by P op (bits.Binary Nand) _ _ refl
    (or_by P op bits.Concat _ _ refl
    (or_by P op (bits.Binary DivideSigned) _ _ refl
    (or_by P op (bits.Binary ModuloSigned) _ _ refl
    (or_by P op (bits.Binary RemainderSigned) _ _ refl
    (or_by P op (bits.Binary DivideUnsigned) _ _ refl
    (or_by P op (bits.Binary RemainderUnsigned) _ _ refl
    (or_by P op (bits.Binary Xnor) _ _ refl (or_none P op)))))))))))

-- one list after another
or_of : {O : Type 0} (P : O → Type 0) (op : O) (b : Bool) (some others : Option O)
    → (some ≡ Some op → P op) → (others ≡ Some op → P op) → cond b some others ≡ Some op → P op
or_of P op true some others this rest h = this h
or_of P op false some others this rest h = rest h

found_bits : (n c d e : ℕ) (op : BitsOp) → bits_like n c d e ≡ Some op → IsFoundBits op
found_bits n c d e op =
    let P = IsFoundBits in
    or_of P op (n == 5) _ _ (found_of_five c d e op) (or_of P op (n == 6) _ _ (found_of_six c d op)
    (or_by P op (bits.Folded folded.Or) _ _ refl (or_none P op)))

pub bits_named-compared : (symbol : List ℕ) → bits_named symbol ≡ if_named bits_name symbol
    (bits_like (length symbol) (get_or symbol 2 0) (get_or symbol 3 0) (get_or symbol 4 0))
bits_named-compared symbol =
    named-compared bits_name bits_plain bits_by_bytes symbol each_bits
    (found_bits (length symbol) (get_or symbol 2 0) (get_or symbol 3 0) (get_or symbol 4 0))

-- ---- those of Core and of Ints

abbrev core_by_bytes : List ℕ → Option CoreOp
core_by_bytes symbol = core_like (length symbol) (get_or symbol 0 0)

abbrev ints_by_bytes : List ℕ → Option IntsOp
ints_by_bytes symbol = ints_like (length symbol) (get_or symbol 0 0)

each_core : Each (IsLike core_name core_by_bytes) core_plain
each_core = search rules

each_ints : Each (IsLike ints_name ints_by_bytes) ints_plain
each_ints = search rules

found_core : (n a : ℕ) (op : CoreOp) → core_like n a ≡ Some op → IsFound core_name core_plain op
found_core n a op =
    let P = IsFound core_name core_plain in
    or_by P op core.Equal _ _ refl
    (or_by P op core.Implies _ _ refl
    (or_by P op core.Or _ _ refl
    (or_by P op core.And _ _ refl
    (or_by P op core.Ite _ _ refl
    (or_by P op core.Not _ _ refl
    (or_by P op core.Xor _ _ refl
    (or_by P op core.True _ _ refl
    (or_by P op core.False _ _ refl
    (or_by P op core.Distinct _ _ refl (or_none P op))))))))))

found_ints : (n a : ℕ) (op : IntsOp) → ints_like n a ≡ Some op → IsFound ints_name ints_plain op
found_ints n a op =
    let P = IsFound ints_name ints_plain in
    or_by P op (ints.Arithmetic arithmetic.Minus) _ _ refl
    (or_by P op (ints.Arithmetic arithmetic.Plus) _ _ refl
    (or_by P op (ints.Arithmetic arithmetic.Times) _ _ refl
    (or_by P op (ints.Comparison order.Less) _ _ refl
    (or_by P op (ints.Comparison order.Greater) _ _ refl
    (or_by P op (ints.Comparison order.AtMost) _ _ refl
    (or_by P op (ints.Comparison order.AtLeast) _ _ refl
    (or_by P op ints.Abs _ _ refl
    (or_by P op (ints.Arithmetic arithmetic.Div) _ _ refl
    (or_by P op ints.Mod _ _ refl (or_none P op))))))))))

pub core_named-compared : (symbol : List ℕ)
    → core_named symbol ≡ if_named core_name symbol (core_like (length symbol) (get_or symbol 0 0))
core_named-compared symbol =
    named-compared core_name core_plain core_by_bytes symbol each_core
    (found_core (length symbol) (get_or symbol 0 0))

pub ints_named-compared : (symbol : List ℕ)
    → ints_named symbol ≡ if_named ints_name symbol (ints_like (length symbol) (get_or symbol 0 0))
ints_named-compared symbol =
    named-compared ints_name ints_plain ints_by_bytes symbol each_ints
    (found_ints (length symbol) (get_or symbol 0 0))

-- ---- in two bytes

-- an operator in two bytes is compared as the one that it is
compared_as : {O : Type 0} (K : O → Op) (name : O → List ℕ) (symbol : List ℕ) (found : Option PlainOp)
    (like : Option O) → ((o : O) → name_of (K o) ≡ name o)
    → option_map op_of_plain found ≡ option_map K like
    → option_map op_of_plain (if_named (λ op. name_of (op_of_plain op)) symbol found)
    ≡ option_map K (if_named name symbol like)
compared_as K name symbol None None names same = refl
compared_as K name symbol None (Some o) names same = cc
compared_as K name symbol (Some op) None names same = cc
compared_as K name symbol (Some op) (Some o) names same =
    let is : op_of_plain op ≡ K o = cc in
    let own : name_of (op_of_plain op) ≡ name o = ap name_of is ∙ names o in
    ap (λ x. option_map op_of_plain (then_some (bytes_eq symbol x) op)) own
    ∙ by (bytes_eq symbol (name o)) is
  where
    by : (b : Bool) → op_of_plain op ≡ K o
        → option_map op_of_plain (then_some b op) ≡ option_map K (then_some b o)
    by true is = ap Some is
    by false is = refl

pub core_found : (symbol : List ℕ) (first : ℕ) (found : Option PlainOp) → first ≡ get_or symbol 0 0
    → option_map op_of_plain found ≡ option_map Core (core_like (length symbol) first)
    → option_map op_of_plain (if_named (λ op. name_of (op_of_plain op)) symbol found)
    ≡ option_map Core (core_named symbol)
core_found symbol first found is same =
    compared_as Core core_name symbol found _ (λ o. refl)
    (same ∙ ap (λ a. option_map Core (core_like (length symbol) a)) is)
    ∙ sym (ap (option_map Core) (core_named-compared symbol))

pub ints_found : (symbol : List ℕ) (first : ℕ) (found : Option PlainOp) → first ≡ get_or symbol 0 0
    → option_map op_of_plain found ≡ option_map Ints (ints_like (length symbol) first)
    → option_map op_of_plain (if_named (λ op. name_of (op_of_plain op)) symbol found)
    ≡ option_map Ints (ints_named symbol)
ints_found symbol first found is same =
    compared_as Ints ints_name symbol found _ (λ o. refl)
    (same ∙ ap (λ a. option_map Ints (ints_like (length symbol) a)) is)
    ∙ sym (ap (option_map Ints) (ints_named-compared symbol))

pub bits_found_by : (symbol : List ℕ) (c d e : ℕ) (found : Option PlainOp) → c ≡ get_or symbol 2 0
    → d ≡ get_or symbol 3 0 → e ≡ get_or symbol 4 0
    → option_map op_of_plain found ≡ option_map Bits (bits_like (length symbol) c d e)
    → option_map op_of_plain (if_named (λ op. name_of (op_of_plain op)) symbol found)
    ≡ option_map Bits (bits_named symbol)
bits_found_by symbol c d e found is_c is_d is_e same =
    compared_as Bits bits_name symbol found _ (λ o. refl)
    (same ∙ ap (λ c. option_map Bits (bits_like (length symbol) c d e)) is_c
    ∙ ap (λ d. option_map Bits (bits_like (length symbol) (get_or symbol 2 0) d e)) is_d
    ∙ ap (λ e. option_map Bits (bits_like (length symbol) (get_or symbol 2 0) (get_or symbol 3 0) e)) is_e)
    ∙ sym (ap (option_map Bits) (bits_named-compared symbol))
