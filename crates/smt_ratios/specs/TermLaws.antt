-- What the model of a `Ratio` rests on.
use Rattle.std.specs.Cmp.{and_equiv, IsEquivalence, on_equiv}
use Rattle.std.specs.Prelude.{◌≡◌, ℕ, ◌^◌, ◌/◌, ◌%◌}
use Rattle.std.specs.Int.{cast_signed, cast_unsigned, w128}
use Rattle.std.proofs.Common.{◌∙◌, ap}
use Rattle.std.proofs.lemmas.Cmp.{int_eq_equiv, nat_eq_equiv}
use Rattle.std.proofs.lemmas.Int.{of_z-to_z}
use Rattle.std.proofs.lemmas.Nat.{div-mul-add, mod-mul-add, mul-add-lt}
use Rattle.smt_ratios.specs.Terms.{from_words, IsPacked, same_terms, Terms, terms_of}

-- being of the same terms is an equivalence
pub same_terms_equiv : IsEquivalence same_terms
same_terms_equiv = and_equiv (on_equiv (λ (t : Terms). t.numerator) int_eq_equiv)
    (on_equiv (λ (t : Terms). t.denominator) nat_eq_equiv)

-- the terms of words give back the words
pub unpacked : {R : Type 0} (make : ℕ → ℕ → ℕ → ℕ → R) (n m d e : ℕ) → IsPacked n m d e
    → make (cast_unsigned w128 (terms_of n m d e).numerator / 2 ^ 64)
    (cast_unsigned w128 (terms_of n m d e).numerator % 2 ^ 64)
    ((terms_of n m d e).denominator / 2 ^ 64) ((terms_of n m d e).denominator % 2 ^ 64) ≡ make n m d e
unpacked make n m d e h =
    let bits : cast_unsigned w128 (cast_signed w128 (from_words n m)) ≡ from_words n m =
    of_z-to_z w128 (from_words n m) (mul-add-lt n (2 ^ 64) m (2 ^ 64) h.high_fits h.low_fits) in
    ap (λ x. make (x / 2 ^ 64) (x % 2 ^ 64) (from_words d e / 2 ^ 64) (from_words d e % 2 ^ 64)) bits
    ∙ ap (λ x. make x (from_words n m % 2 ^ 64) (from_words d e / 2 ^ 64) (from_words d e % 2 ^ 64))
    (div-mul-add n (2 ^ 64) m h.low_fits)
    ∙ ap (λ x. make n x (from_words d e / 2 ^ 64) (from_words d e % 2 ^ 64)) (mod-mul-add n (2 ^ 64) m h.low_fits)
    ∙ ap (λ x. make n m x (from_words d e % 2 ^ 64)) (div-mul-add d (2 ^ 64) e h.denominator_low_fits)
    ∙ ap (λ x. make n m d x) (mod-mul-add d (2 ^ 64) e h.denominator_low_fits)
