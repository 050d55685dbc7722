-- Constants by their widths.
use Rattle.std.proofs.Common.{◌≡◌, ℕ, ◌*◌, ◌<◌, ◌≤◌, cond, List, length, ap, ◌∙◌}
use Rattle.std.proofs.Common.{Option, Some, None, arith, le-leb, option_map, is_some, ◌&&◌, nat_le}
use Rattle.std.proofs.lemmas.Bool.{lt-leb}
use Rattle.smt_bits.specs.BitVector.{BitVector}
use Rattle.smt_bits.specs.Literals.{constant, known_constant}
use Rattle.smt_theory.specs.Width.{width_of}
use Rattle.smt_values.specs.Element.{Element, Vector}

within : (n : ℕ) → 1 ≤ n → n ≤ 128 → width_of n ≡ Some n
within n some few =
    ap (λ b. cond (b && nat_le n 128) (Some n) None) (le-leb 1 n some)
    ∙ ap (λ b. cond b (Some n) None) (le-leb n 128 few)

beyond : (n : ℕ) → 128 < n → width_of n ≡ None
beyond n many =
    ap (λ b. cond (b && nat_le n 128) (Some n) None) (le-leb 1 n (omega arith))
    ∙ ap (λ b. cond b (Some n) None) (lt-leb n 128 many)

abbrev element : Option BitVector → Option Element
element v = option_map Vector v

abbrev chosen : ℕ → ℕ → List ℕ → Option ℕ → Option Element
chosen base bits digits w = element (cond (is_some w) (Some (constant base bits digits)) None)

pub constant_known : (base bits : ℕ) (digits : List ℕ) (v : BitVector) → constant base bits digits ≡ v
    → 1 ≤ bits * length digits → bits * length digits ≤ 128
    → option_map Vector (known_constant base bits digits) ≡ Some (Vector v)
constant_known base bits digits v is some few =
    ap (chosen base bits digits) (within (bits * length digits) some few) ∙ ap (λ x. Some (Vector x)) is

pub constant_open : (base bits : ℕ) (digits : List ℕ) → 128 < bits * length digits
    → option_map Vector (known_constant base bits digits) ≡ None
constant_open base bits digits many = ap (chosen base bits digits) (beyond (bits * length digits) many)
