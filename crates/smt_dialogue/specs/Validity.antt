-- What a valid and an invalid verdict mean, in the words of the standard and beside the report.
use Rattle.std.specs.Prelude.{◌≡◌, ℕ, ◌+◌, List, [], ◌∷◌, ◌++◌, length, true, false, Some, Ok, codes, slice_get}
use Rattle.std.specs.List.{AllByRecursion}
use Rattle.smt_text.specs.Grammar.{Forest}
use Rattle.smt_trees.specs.Sexp.{Sexp, Sexps, Nil, is_symbol}
use Rattle.smt_theory.specs.declared.profile.Profile.{Profile}
use Rattle.smt_theory.specs.Sort.{Boolean}
use Rattle.smt_arrays.specs.Operations.{truth}
use Rattle.smt_values.specs.Operations.{DivisionByZero}
use Rattle.smt_terms.specs.Checking.{sort_in}
use Rattle.smt_terms.specs.Signature.{Names, Signature, in_assertion, names_of}
use Rattle.smt_eval.specs.CompleteModel.{IsModelOf}
use Rattle.smt_eval.specs.Meaning.{value_over}
use Rattle.smt_eval.specs.Structure.{IsStructure}
use Rattle.smt_script.specs.Command.{Assert}
use Rattle.smt_script.specs.Stack.{Stands, literals_of}
use Rattle.smt_dialogue.specs.InForce.{signature_after, start_by}
use Rattle.smt_script.specs.Command.{is_check}
use Rattle.smt_dialogue.specs.Pairing.{IsPairing}
use Rattle.smt_dialogue.specs.Pairs.{Pair, checks_in, effective_commands, is_effective}
use Rattle.smt_dialogue.specs.Depth.{max_depth_of}
use Rattle.smt_dialogue.specs.declared.options.Options.{Options}
use Rattle.smt_dialogue.specs.Window.{Printed, models_from, structure_at, window}
use Rattle.smt_report.specs.declared.claim.Claim.{Claim}
use Rattle.smt_report.specs.declared.claim.Claim.TheVariants.{Assertion, Assumption}
use Rattle.smt_report.specs.declared.line.Line.{Line}
use Rattle.smt_report.specs.declared.line.Line.TheVariants.{Refuted}

-- both texts are of trees, and the pairs pair every command with every answer
pub record IsFullyPaired (options : Options) (script answers : List ℕ) (pairs : List Pair) : Type 0 where
  pub script_trees : Sexps
  pub script_forest : Forest (max_depth_of options.profile) script script_trees
  pub answer_trees : Sexps
  pub answers_forest : Forest (max_depth_of options.profile) answers answer_trees
  pub pairing : IsPairing (start_by options) pairs script_trees Nil answer_trees Nil

-- the pair is a check that was answered `sat`
pub record IsSatCheck (pair : Pair) : Type 0 where
  pub check : is_check pair.command ≡ true
  pub answer : Sexp
  pub answered : pair.answer ≡ Some answer
  pub sat : is_symbol (codes "sat") answer ≡ true

-- an assertion of this term that took effect stands behind the earlier pairs, and is in force among the
-- commands that took effect: no later one removed all, and none left fewer levels than there were behind it
pub record IsAsserted (before : List Pair) (earlier : List Pair) (term : Sexp) : Type 0 where
  pub pair : Pair
  pub between : List Pair
  pub place : before ≡ earlier ++ pair ∷ between
  pub command : pair.command ≡ Assert term
  pub effective : is_effective pair ≡ true
  pub stands : Stands (effective_commands before) (effective_commands earlier)
      (record { number = length earlier + 1; command = pair.command })

-- the term is the assumption of the check at this place, which counts from 1
abbrev pub IsAssumed : (check : Pair) → (place : ℕ) → (term : Sexp) → Type 0
IsAssumed check place term =
    (k : ℕ) × (place ≡ k + 1) × (slice_get (literals_of check.command) k ≡ Some term)

-- a check behind pairs claims the term of each of its models, the term having been read behind the earlier
-- pairs: it is an assertion in force, or an assumption of the check itself
abbrev pub IsClaimed : (before : List Pair) (check : Pair) → Claim → (earlier : List Pair) (term : Sexp)
    → Type 0
IsClaimed before check (Assertion command) earlier term =
    IsAsserted before earlier term × (command ≡ length earlier + 1)
IsClaimed before check (Assumption place) earlier term = (earlier ≡ before) × IsAssumed check place term

-- the names under which a claim is read: an assertion may have labels
abbrev pub names_of_claim : Claim → Names → Names
names_of_claim (Assertion command) names = in_assertion names
names_of_claim (Assumption place) names = names

-- the parts are those of a model of the names in force, whose definitions and the script's behind them give a
-- structure. And all that the check claims, every assertion in force and every assumption of the check, is well
-- sorted under the names in force before its command, and true in that structure, whatever division by zero
-- gives
pub record IsTrueModel (profile : Profile) (before : List Pair) (check : Pair) (parts : Sexps) : Type 0 where
  pub definitions : Signature
  pub model : IsModelOf (signature_after profile before) parts definitions
  pub structure : IsStructure (structure_at profile definitions before)
  pub sorted : (claim : Claim) (earlier : List Pair) (term : Sexp) → IsClaimed before check claim earlier term
      → sort_in (names_of_claim claim (names_of (signature_after profile earlier))) [] term ≡ Ok Boolean
  pub true_in : (z : DivisionByZero) (claim : Claim) (earlier : List Pair) (term : Sexp)
      → IsClaimed before check claim earlier term
      → value_over z (structure_at profile definitions before) [] term ≡ truth true

-- a check that was answered `sat`, behind the pairs before it, has a model in its window, and each model
-- there is a true one
pub record IsConfirmed (profile : Profile) (before : List Pair) (check : Pair) (after : List Pair) : Type 0 where
  pub first : Printed
  pub others : List Printed
  pub models : models_from (length before + 2) (window after) ≡ first ∷ others
  pub true_models : AllByRecursion (λ (m : Printed). IsTrueModel profile before check m.parts) (first ∷ others)

-- what a valid verdict means. No other pairing of all commands exists, whatever answers it might leave
pub record IsValid (options : Options) (script answers : List ℕ) : Type 0 where
  pub pairs : List Pair
  pub paired : IsFullyPaired options script answers pairs
  pub only : (others : List Pair) (script_trees answer_trees rest : Sexps)
      → Forest (max_depth_of options.profile) script script_trees
      → Forest (max_depth_of options.profile) answers answer_trees
      → IsPairing (start_by options) others script_trees Nil answer_trees rest
      → (others ≡ pairs) × (rest ≡ Nil)
  pub confirmed : (before after : List Pair) (check : Pair) → pairs ≡ before ++ check ∷ after
      → IsSatCheck check
      → IsConfirmed options.profile before check after

-- what an invalid verdict means: in the window of a check that was answered `sat` stands a model of the names
-- in force, which with the script's definitions gives a structure that makes a claim of the check, a
-- well-sorted assertion in force or assumption, false, whatever division by zero gives, and the report has the
-- line that says so
pub record IsInvalid (options : Options) (script answers : List ℕ) (ls : List Line) : Type 0 where
  pub pairs : List Pair
  pub paired : IsFullyPaired options script answers pairs
  pub before : List Pair
  pub check : Pair
  pub after : List Pair
  pub place : pairs ≡ before ++ check ∷ after
  pub sat : IsSatCheck check
  pub models_before : List Printed
  pub model : Printed
  pub models_after : List Printed
  pub models : models_from (length before + 2) (window after) ≡ models_before ++ model ∷ models_after
  pub definitions : Signature
  pub model_of : IsModelOf (signature_after options.profile before) model.parts definitions
  pub structure : IsStructure (structure_at options.profile definitions before)
  pub claim : Claim
  pub earlier : List Pair
  pub term : Sexp
  pub claimed : IsClaimed before check claim earlier term
  pub sorted : sort_in (names_of_claim claim (names_of (signature_after options.profile earlier))) [] term ≡ Ok Boolean
  pub false_in : (z : DivisionByZero)
      → value_over z (structure_at options.profile definitions before) [] term ≡ truth false
  pub lines_before : List Line
  pub lines_after : List Line
  pub line : ls ≡ lines_before ++ Refuted (checks_in before + 1) (length before + 1) model.command claim
      ∷ lines_after
