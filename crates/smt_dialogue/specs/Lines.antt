-- The lines of a report on pairs of commands and answers. These are this project's rules.
use Rattle.std.specs.Prelude.{ℕ, ◌+◌, List, [], ◌∷◌, ◌++◌, length, Bool, true, false, not, ◌||◌, Option, Some}
use Rattle.std.specs.Prelude.{None, codes, if◌then◌else◌}
use Rattle.std.specs.List.{list_any}
use Rattle.std.specs.Option.{option_or}
use Rattle.smt_trees.specs.Sexp.{Sexp, is_symbol}
use Rattle.smt_script.specs.Command.{Command, is_check}
use Rattle.smt_script.specs.Stack.{literals_of}
use Rattle.smt_dialogue.specs.InForce.{signature_after, assertions_after}
use Rattle.smt_dialogue.specs.Answers.{is_error}
use Rattle.smt_dialogue.specs.Pairs.{Pair, checks_in}
use Rattle.smt_dialogue.specs.Window.{Printed, closes, models_from, window}
use Rattle.smt_dialogue.specs.Judgement.{Claimed, all_claims, judgement_of}
use Rattle.smt_theory.specs.declared.profile.Profile.{Profile}
use Rattle.smt_terms.specs.Signature.{Signature}
use Rattle.smt_dialogue.specs.declared.judgement.Judgement.{Judgement}
use Rattle.smt_dialogue.specs.declared.judgement.Judgement.TheVariants as judgements
use Rattle.smt_report.specs.declared.line.CheckAnswer.{CheckAnswer}
use Rattle.smt_report.specs.declared.line.CheckAnswer.TheVariants.{Unsat, Unknown, Unsupported, Error}
use Rattle.smt_report.specs.declared.line.Line.{Line}
use Rattle.smt_report.specs.declared.line.Line.TheVariants as lines

-- the line on check k at command n for a model of command g, if it isn't confirmed
abbrev pub line_of_judgement : ℕ → ℕ → ℕ → Judgement → Option Line
line_of_judgement k n g (judgements.ItemFault item flaw) = Some (lines.ItemFault k n g item flaw)
line_of_judgement k n g (judgements.Lacks declaration) = Some (lines.Lacks k n g declaration)
line_of_judgement k n g judgements.TooLong = Some (lines.TooLong k n g)
line_of_judgement k n g (judgements.Refuted claim) = Some (lines.Refuted k n g claim)
line_of_judgement k n g (judgements.NotDecided claim) = Some (lines.NotDecided k n g claim)
line_of_judgement k n g judgements.Confirmed = None

-- the line of the first model that isn't confirmed
abbrev pub unconfirmed_line : ℕ → ℕ → ℕ → Signature → List Claimed → List Printed → Option Line
unconfirmed_line limit k n names claims [] = None
unconfirmed_line limit k n names claims (m ∷ ms) =
    option_or (line_of_judgement k n m.command (judgement_of limit names claims m.parts))
    (unconfirmed_line limit k n names claims ms)

abbrev pub is_empty : {A : Type 0} → List A → Bool
is_empty [] = true
is_empty (x ∷ xs) = false

-- the line of a check whose models are all confirmed
abbrev pub confirmed_line : ℕ → ℕ → Bool → Line
confirmed_line k n some_model = if some_model then lines.Confirmed k n else lines.NoModel k n

-- the line on a check that was answered `sat`: that of a model that isn't confirmed; else, once the window
-- has closed, that all models are confirmed, or that there is none
abbrev pub sat_lines : ℕ → ℕ → Option Line → Bool → Bool → List Line
sat_lines k n (Some line) some_model closed = line ∷ []
sat_lines k n None some_model closed = if closed then confirmed_line k n some_model ∷ [] else []

-- the lines of a check that was answered `sat`, the pairs `after` it beginning with command m. `closed` says
-- that its window is closed behind these, whatever they are
abbrev pub lines_of_sat : ℕ → Bool → ℕ → ℕ → Signature → List Claimed → ℕ → List Pair → List Line
lines_of_sat limit closed k n names claims m after =
    let models = models_from m (window after) in
    sat_lines k n (unconfirmed_line limit k n names claims models) (not (is_empty models))
    (closed || list_any closes after)

-- what a check was answered otherwise than `sat`
abbrev pub unchecked_answer : Sexp → Option CheckAnswer
unchecked_answer answer =
    if is_symbol (codes "unsat") answer then Some Unsat
    else if is_symbol (codes "unknown") answer then Some Unknown
    else if is_symbol (codes "unsupported") answer then Some Unsupported
    else if is_error answer then Some Error
    else None

-- the line of a check that was answered otherwise than `sat`, or else other lines
abbrev pub unchecked_line_or : ℕ → ℕ → Option CheckAnswer → List Line → List Line
unchecked_line_or k n (Some answer) others = lines.Unchecked k n answer ∷ []
unchecked_line_or k n None others = others

-- what a check behind pairs claims of its models
abbrev pub claims_of_check : Profile → List Pair → Command → List Claimed
claims_of_check profile before check = all_claims (assertions_after profile before) (literals_of check)

-- the lines of a check with these claims and its answer
abbrev pub lines_of_answer : Profile → ℕ → Bool → List Pair → List Claimed → ℕ → Option Sexp → List Pair
    → List Line
lines_of_answer profile limit closed before claims k None after = []
lines_of_answer profile limit closed before claims k (Some answer) after =
    let n = length before + 1 in
    unchecked_line_or k n (unchecked_answer answer)
    (if is_symbol (codes "sat") answer
    then lines_of_sat limit closed k n (signature_after profile before) claims (n + 1) after else [])

-- the lines that a pair has, for what stands before and after it: a check has one, once it is decided
abbrev pub lines_of_pair : Profile → ℕ → Bool → List Pair → Pair → List Pair → List Line
lines_of_pair profile limit closed before pair after =
    if is_check pair.command
    then lines_of_answer profile limit closed before (claims_of_check profile before pair.command)
    (checks_in before + 1) pair.answer after
    else []

-- the lines that pairs have, for what stands before and after them; `closed` says that every window is closed
-- behind these
abbrev pub lines_in : Profile → ℕ → Bool → List Pair → List Pair → List Pair → List Line
lines_in profile limit closed before [] after = []
lines_in profile limit closed before (pair ∷ pairs) after =
    lines_of_pair profile limit closed before pair (pairs ++ after)
    ++ lines_in profile limit closed (before ++ pair ∷ []) pairs after
