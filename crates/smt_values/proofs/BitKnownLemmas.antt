-- What is known of bit vectors as arguments, by their number.
use Rattle.std.proofs.Common.{◌≡◌, ◌≢◌, ◌≤◌, ℕ, ℤ, List, [], ◌∷◌, Option, Some, None, length, drop, get_or, refl}
use Rattle.std.proofs.Common.{sym, ap, ◌∙◌, arith}
use Rattle.std.specs.Prelude.{map, option_map, option_and_then}
use Rattle.smt_bits.specs.BitVector.{BitVector}
use Rattle.smt_values.specs.declared.value.Value.{Value}
use Rattle.smt_values.specs.Element.{known_element, known_elements}
use Rattle.smt_values.specs.KnownBitOperations.{known_bits_of_int, known_from_left, none_given, the_only, two_of_one_width}
use Rattle.smt_values.specs.KnownOperations.{known_vector, known_vectors}
use Rattle.smt_values.specs.Lists.{steps_from}
use Rattle.smt_values.proofs.KnownLoopLemmas.{then_more}

pub given_none : {A : Type 0} (f : Unit {0} → A) (vs : List BitVector) → length vs ≢ 0
    → option_map f (none_given vs) ≡ None
given_none f [] n = absurd (n refl)
given_none f (v ∷ vs) n = refl

pub only_none : (vs : List BitVector) → length vs ≢ 1 → the_only vs ≡ None
only_none [] n = refl
only_none (v ∷ []) n = absurd (n refl)
only_none (v ∷ w ∷ vs) n = refl

pub two_none : (vs : List BitVector) → length vs ≢ 2 → two_of_one_width vs ≡ None
two_none [] n = refl
two_none (v ∷ []) n = refl
two_none (v ∷ w ∷ []) n = absurd (n refl)
two_none (v ∷ w ∷ u ∷ vs) n = refl

pub int_none : (n : ℕ) (zs : List ℤ) → length zs ≢ 1 → known_bits_of_int n zs ≡ None
int_none n [] other = refl
int_none n (z ∷ []) other = absurd (other refl)
int_none n (z ∷ y ∷ zs) other = refl

-- the first argument, and what is combined with it
pub from_first : (combine : BitVector → BitVector → Option BitVector) (xs : List (Option Value))
    (item : Option Value) (first : BitVector) → 1 ≤ length xs → item ≡ get_or xs 0 item
    → known_vector (known_element item) ≡ Some first
    → option_and_then (steps_from combine first) (known_vectors (known_elements (drop 1 xs)))
    ≡ option_and_then (known_from_left combine) (known_vectors (known_elements xs))
from_first combine [] item first some is e = absurd (omega arith)
from_first combine (x ∷ xs) item first some is e =
    sym (then_more (known_from_left combine) (known_vector (known_element x)) first
    (map known_vector (known_elements xs)) (ap (λ z. known_vector (known_element z)) (sym is) ∙ e))
