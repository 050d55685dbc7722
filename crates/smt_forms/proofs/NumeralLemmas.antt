-- Which texts are numerals.
use Rattle.std.proofs.Common.{◌≡◌, ◌⊎◌, inl, inr, ℕ, ◌<◌, ◌≤◌, Bool, true, false, not, ◌&&◌, List, [], ◌∷◌, ◌++◌, refl}
use Rattle.std.proofs.Common.{ap, ◌∙◌, arith}
use Rattle.std.proofs.lemmas.Bool.Decides.{nat_tests}
use Rattle.std.proofs.lemmas.List.Elements.{All-head, All-tail}
use Rattle.std.specs.Char.{is_ascii_digit}
use Rattle.std.specs.List.{All, list_all}
use Rattle.std.specs.Prelude.{◌==◌}
use Rattle.smt_forms.specs.ElementNames.{is_numeral}

is_digit : (d : ℕ) → 48 ≤ d → d ≤ 57 → is_ascii_digit d ≡ true
is_digit d low high = grind (arith, nat_tests)

no_digit : (c : ℕ) → (c < 48) ⊎ (57 < c) → is_ascii_digit c ≡ false
no_digit c (inl low) = grind (arith, nat_tests)
no_digit c (inr high) = grind (arith, nat_tests)

no_zero : (d : ℕ) → 49 ≤ d → (d == 48) ≡ false
no_zero d low = grind (arith, nat_tests)

all_digits : (ds : List ℕ) → All (λ e. (48 ≤ e) × (e ≤ 57)) ds → list_all is_ascii_digit ds ≡ true
all_digits [] all = refl
all_digits (d ∷ ds) all =
    let here = All-head (λ e. (48 ≤ e) × (e ≤ 57)) d ds all in
    ap (λ b. b && list_all is_ascii_digit ds) (is_digit d here.0 here.1)
    ∙ all_digits ds (All-tail (λ e. (48 ≤ e) × (e ≤ 57)) d ds all)

pub of_digits : (d : ℕ) (ds : List ℕ) → 49 ≤ d → d ≤ 57 → All (λ e. (48 ≤ e) × (e ≤ 57)) ds
    → is_numeral (d ∷ ds) ≡ true
of_digits d [] low high all = is_digit d (grind arith) high
of_digits d (e ∷ es) low high all =
    ap (λ b. not b && (is_ascii_digit d && list_all is_ascii_digit (e ∷ es))) (no_zero d low)
    ∙ ap (λ b. b && list_all is_ascii_digit (e ∷ es)) (is_digit d (grind arith) high) ∙ all_digits (e ∷ es) all

and_false : (a : Bool) → (a && false) ≡ false
and_false true = refl
and_false false = refl

not_all : (before after : List ℕ) (c : ℕ) → is_ascii_digit c ≡ false
    → list_all is_ascii_digit (before ++ c ∷ after) ≡ false
not_all [] after c h = ap (λ b. b && list_all is_ascii_digit after) h
not_all (d ∷ ds) after c h = ap (λ b. is_ascii_digit d && b) (not_all ds after c h) ∙ and_false (is_ascii_digit d)

pub no_numeral : (before after : List ℕ) (c : ℕ) → (c < 48) ⊎ (57 < c) → is_numeral (before ++ c ∷ after) ≡ false
no_numeral [] [] c h = no_digit c h
no_numeral [] (a ∷ as') c h =
    ap (λ b. not (c == 48) && (b && list_all is_ascii_digit (a ∷ as'))) (no_digit c h) ∙ and_false (not (c == 48))
no_numeral (d ∷ []) after c h =
    ap (λ b. not (d == 48) && (is_ascii_digit d && (b && list_all is_ascii_digit after))) (no_digit c h)
    ∙ ap (λ b. not (d == 48) && b) (and_false (is_ascii_digit d)) ∙ and_false (not (d == 48))
no_numeral (d ∷ e ∷ ds) after c h =
    ap (λ b. not (d == 48) && b) (not_all (d ∷ e ∷ ds) after c (no_digit c h)) ∙ and_false (not (d == 48))
