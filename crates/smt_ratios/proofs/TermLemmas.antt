-- Fractions as their words.
use Rattle.std.specs.Prelude.{◌≡◌, ℕ, ◌^◌, ◌<◌, ◌/◌, ◌%◌, ℤ}
use Rattle.std.specs.Int.{cast_signed, w128}
use Rattle.std.proofs.Common.{sym, ◌∙◌, ap, arith, subst}
use Rattle.std.proofs.lemmas.Nat.{div_below, mod_below, shr_split}
use Rattle.smt_ratios.specs.Terms.{from_words, IsLowest, IsPacked, terms_of}

terms_back : (n : ℤ) (d bits : ℕ) → cast_signed w128 bits ≡ n
    → terms_of (bits / 2 ^ 64) (bits % 2 ^ 64) (d / 2 ^ 64) (d % 2 ^ 64) ≡ record { numerator = n; denominator = d }
terms_back n d bits e =
    ap (λ (x : ℕ). record { numerator = cast_signed w128 x; denominator = from_words (d / 2 ^ 64) (d % 2 ^ 64) }) (shr_split bits 64)
    ∙ ap (λ (x : ℕ). record { numerator = cast_signed w128 bits; denominator = x }) (shr_split d 64)
    ∙ ap (λ (x : ℤ). record { numerator = x; denominator = d }) e

packed_bits : (n : ℤ) (d bits : ℕ) → bits < 2 ^ 128 → cast_signed w128 bits ≡ n → IsLowest (record { numerator = n; denominator = d })
    → IsPacked (bits / 2 ^ 64) (bits % 2 ^ 64) (d / 2 ^ 64) (d % 2 ^ 64)
packed_bits n d bits h e lowest = record {
  high_fits = div_below bits (2 ^ 64) (2 ^ 64) (omega arith) h;
  low_fits = mod_below bits (2 ^ 64) (omega arith);
  denominator_high_fits = div_below d (2 ^ 64) (2 ^ 56) (omega arith) lowest.below;
  denominator_low_fits = mod_below d (2 ^ 64) (omega arith);
  lowest = subst IsLowest (sym (terms_back n d bits e)) lowest;
}

pub packed : (n : ℤ) (d bits a b x y : ℕ) → bits < 2 ^ 128 → cast_signed w128 bits ≡ n → IsLowest (record { numerator = n; denominator = d })
    → a ≡ bits / 2 ^ 64 → b ≡ bits % 2 ^ 64 → x ≡ d / 2 ^ 64 → y ≡ d % 2 ^ 64 → IsPacked a b x y
packed n d bits a b x y h e lowest p q r s =
    subst (λ (z : ℕ). IsPacked z b x y) (sym p)
    (subst (λ (z : ℕ). IsPacked (bits / 2 ^ 64) z x y) (sym q)
    (subst (λ (z : ℕ). IsPacked (bits / 2 ^ 64) (bits % 2 ^ 64) z y) (sym r)
    (subst (λ (z : ℕ). IsPacked (bits / 2 ^ 64) (bits % 2 ^ 64) (d / 2 ^ 64) z) (sym s) (packed_bits n d bits h e lowest))))
