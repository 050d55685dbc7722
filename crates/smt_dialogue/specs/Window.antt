-- The window of a check, and the models printed in it. These are this project's rules.
use Rattle.std.specs.Prelude.{ℕ, ◌+◌, List, [], ◌∷◌, ◌++◌, Bool, true, false, ◌&&◌, ◌||◌, Option, Some}
use Rattle.std.specs.Prelude.{if◌then◌else◌}
use Rattle.smt_trees.specs.Sexp.{Sexp, Sexps, Items}
use Rattle.smt_theory.specs.declared.profile.Profile.{Profile}
use Rattle.smt_terms.specs.Signature.{Signature}
use Rattle.smt_eval.specs.Structure.{structure_of}
use Rattle.smt_script.specs.Command.{Command, closes_window, is_check, kind_of}
use Rattle.smt_script.specs.declared.command.Kind.{Kind}
use Rattle.smt_script.specs.declared.command.Kind.TheVariants as kinds
use Rattle.smt_dialogue.specs.InForce.{signature_after}
use Rattle.smt_dialogue.specs.Pairs.{Pair, is_effective}

-- whether a pair ends the window of an earlier check: a check does, and what changes something where it took
-- effect
abbrev pub closes : Pair → Bool
closes pair = is_check pair.command || closes_window pair.command && is_effective pair

-- the structure of a check behind these pairs, over the definitions of a model: those, and then the script's
-- definitions in force
abbrev pub structure_at : Profile → Signature → List Pair → Signature
structure_at profile definitions before = structure_of (signature_after profile before) definitions

-- the pairs up to the first that ends the window
abbrev pub window : List Pair → List Pair
window [] = []
window (pair ∷ pairs) = if closes pair then [] else pair ∷ window pairs

-- a model that was printed, and the command that asked for it
pub record Printed : Type 0 where
  pub command : ℕ
  pub parts : Sexps

abbrev pub asks_model : Kind → Bool
asks_model kinds.Model = true
asks_model _ = false

abbrev pub printed_in : ℕ → Option Sexp → List Printed
printed_in n (Some (Items parts)) = record { command = n; parts = parts } ∷ []
printed_in n _ = []

-- the model that command n printed by its answer: a list, for a command that asks for one
abbrev pub printed_by : ℕ → Command → Option Sexp → List Printed
printed_by n command answer = if asks_model (kind_of command) then printed_in n answer else []

-- the models that the pairs printed, the first pair being command n
abbrev pub models_from : ℕ → List Pair → List Printed
models_from n [] = []
models_from n (pair ∷ pairs) =
    (if is_effective pair then printed_by n pair.command pair.answer else []) ++ models_from (n + 1) pairs
