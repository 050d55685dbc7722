-- The table of digits is right.
use Rattle.std.proofs.Common.{◌≡◌, ◌==◌, ◌<◌, ◌+◌, ℕ, zero, suc, Bool, true, ◌&&◌, get_or, refl, ◌∙◌}
use Rattle.std.proofs.lemmas.Bool.Decides.{Decides-below_and}
use Rattle.std.proofs.lemmas.Bool.{eqb-true}
use Rattle.std.specs.Char.{digit_value}
use Rattle.smt_theory.specs.Internal.Digits.{digit_table}

abbrev agrees : ℕ → Bool
agrees b = get_or digit_table b 0 == digit_value b + 48

abbrev all_agree : ℕ → Bool
all_agree zero = true
all_agree (suc n) = agrees n && all_agree n

pub digit_right : (b n : ℕ) → b < 256 → n ≡ get_or digit_table b 0 → n ≡ digit_value b + 48
digit_right b n h e =
    e ∙ eqb-true (get_or digit_table b 0) (digit_value b + 48)
    ((Decides-below_and agrees (λ k. agrees k ≡ true) all_agree (λ k. (λ x. x, λ x. x)) refl
    (λ _. refl) 256).0 refl b h)
