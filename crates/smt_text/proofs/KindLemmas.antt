-- The table of bytes is right.
use Rattle.std.proofs.Common.{◌≡◌, ◌==◌, ◌<◌, ℕ, zero, suc, Bool, true, false, not, ◌&&◌, get_or, refl, ap}
use Rattle.std.proofs.Common.{◌∙◌}
use Rattle.std.proofs.lemmas.Bool.Decides.{Decides-below_and}
use Rattle.std.proofs.lemmas.Bool.{eqb-true}
use Rattle.smt_text.specs.Internal.ByteKinds.{kind_of, kinds}
use Rattle.smt_text.specs.Lexical.{is_letter, is_digit, is_symbol_byte}

abbrev agrees : ℕ → Bool
agrees b = get_or kinds b 0 == kind_of b

abbrev all_agree : ℕ → Bool
all_agree zero = true
all_agree (suc n) = agrees n && all_agree n

pub kind-right : (b : ℕ) → b < 256 → get_or kinds b 0 ≡ kind_of b
kind-right b h =
    eqb-true (get_or kinds b 0) (kind_of b)
    ((Decides-below_and agrees (λ k. agrees k ≡ true) all_agree (λ k. (λ x. x, λ x. x)) refl
    (λ _. refl) 256).0 refl b h)

pub kind-letter : (b n : ℕ) → b < 256 → n ≡ get_or kinds b 0 → (n == 97) ≡ is_letter b
kind-letter b n h e = ap (λ k. k == 97) (e ∙ kind-right b h) ∙ by (is_letter b) (is_digit b) refl refl where
  by : (s t : Bool) → is_letter b ≡ s → is_digit b ≡ t → (kind_of b == 97) ≡ is_letter b
  by true t l d = rw l refl
  by false true l d = rw l (rw d refl)
  by false false l d = rw l (rw d refl)

pub kind-symbol : (b n : ℕ) → b < 256 → n ≡ get_or kinds b 0 → not (n == 32) ≡ is_symbol_byte b
kind-symbol b n h e =
    ap (λ k. not (k == 32)) (e ∙ kind-right b h) ∙ by (is_letter b) (is_digit b) refl refl where
      by : (s t : Bool) → is_letter b ≡ s → is_digit b ≡ t → not (kind_of b == 32) ≡ is_symbol_byte b
      by true t l d = rw l refl
      by false true l d = rw l (rw d refl)
      by false false l d = rw l (rw d refl)
