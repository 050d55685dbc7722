use Rattle.std.proofs.Common.{◌≡◌, ℕ, ◌^◌, ◌<◌, pos, ap, List, [], ◌∷◌, refl, sym}
use Rattle.std.proofs.Math.Nat.{mod-eq_of_lt}
use Rattle.smt_bits.specs.BitVector.{modulo, signed, vector}
use Rattle.smt_values.specs.Element.{Element, Integer, Vector}
use Rattle.smt_values.proofs.ReadingLemmas.{modulo_only}
use Rattle.smt_values.proofs.laws.integers_become_vectors_and_back.Goals as goal

pub returns-clause-bits : goal.returns-clause-bits
returns-clause-bits c = λ z n r i.
    modulo_only n (modulo n i) r i (c.the_signed_reading_is_one_to_one.ensures.modulo n i)

pub returns-clause-back : goal.returns-clause-back
returns-clause-back c = λ z m s below. ap (λ n. Vector (vector m n)) (mod-eq_of_lt below)

pub returns-clause-signed_back : goal.returns-clause-signed_back
returns-clause-signed_back c = λ z m s below.
    ap (λ n. Vector (vector m n)) (c.the_signed_reading_is_one_to_one.ensures.number m s below)

pub returns-clause-signed_there : goal.returns-clause-signed_there
returns-clause-signed_there c = λ z n i low high.
    ap Integer (c.the_signed_reading_is_one_to_one.ensures.integer n i low high)
