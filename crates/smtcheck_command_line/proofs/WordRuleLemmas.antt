-- An option with one of some words has its rule, wherever its words lie.
use Rattle.std.proofs.Common.{◌≡◌, ◌∙◌, ℕ, zero, suc, ap, refl, List, [], ◌∷◌, Option, Some}
use Rattle.std.specs.Borrow.{Bor}
use Rattle.clap.specs.Words.{Text}
use Rattle.clap.specs.Walk.{texts}
use Rattle.clap.specs.declared.builder.value_parser.ValueParser.{ValueParser}
use Rattle.clap.specs.declared.builder.value_parser.ValueParser.TheVariants.{Names}
use Rattle.smtcheck_command_line.specs.Settings.{Places, choices, placed}

abbrev behind : ℕ × ℕ → (ℕ → ℕ × ℕ) → ℕ → ℕ × ℕ
behind first at zero = first
behind first at (suc i) = at i

-- each word lies somewhere
lie : (words : List (Bor Text)) → (at : ℕ → ℕ × ℕ) × (words ≡ placed (texts words) at)
lie [] = (λ i. (0, 0), refl)
lie (w ∷ ws) =
    let rest = lie ws in
    (behind w.ref_ptr rest.0, ap (λ l. w ∷ l) rest.1)

-- a parser of words has them at some places
pub with_places : (o : Option ValueParser) (p : ValueParser) (words : Bor (List (Bor Text)))
    → o ≡ Some p → p ≡ Names words
    → (places : Places) × (o ≡ Some (Names (choices (texts words.now) places)))
with_places o p words some names =
    let at = lie words.now in (
      record { list = words.ref_ptr; word = at.0 },
      some ∙ ap Some names ∙ ap (λ l. Some (Names (record { ref_ptr = words.ref_ptr; now = l }))) at.1,
    )
