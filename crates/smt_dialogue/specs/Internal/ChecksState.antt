-- What is kept of the checks so far, and how it goes on with one more pair.
use Rattle.std.specs.Prelude.{ℕ, ◌+◌, List, [], ◌∷◌, ◌++◌, Bool, false, true, not, ◌||◌, ◌&&◌, Option, Some}
use Rattle.std.specs.Prelude.{None, option_map, if◌then◌else◌}
use Rattle.std.specs.List.{list_any}
use Rattle.smt_trees.specs.Sexp.{Sexp, Items}
use Rattle.smt_terms.specs.Signature.{Signature}
use Rattle.smt_script.specs.Command.{asks_check, changes_force}
use Rattle.smt_script.specs.declared.command.Kind.{Kind}
use Rattle.smt_dialogue.specs.Answers.{is_effective_with}
use Rattle.smt_dialogue.specs.Judgement.{Claimed, judgement_of}
use Rattle.smt_dialogue.specs.Lines.{confirmed_line, is_empty, line_of_judgement, sat_lines, unconfirmed_line}
use Rattle.smt_dialogue.specs.Pairs.{Pair}
use Rattle.smt_dialogue.specs.Report.{lines_of_end}
use Rattle.smt_dialogue.specs.Window.{asks_model, closes, models_from, window}
use Rattle.smt_dialogue.specs.Internal.AnswerView.{answer_of, is_sat, unchecked}
use Rattle.smt_report.specs.declared.line.CheckAnswer.{CheckAnswer}
use Rattle.smt_report.specs.declared.line.Line.{Line}
use Rattle.smt_report.specs.declared.line.Line.TheVariants as lines
use Rattle.smt_dialogue.specs.declared.answer.Answer.{Answer}
use Rattle.smt_dialogue.specs.declared.checks.Checks.{Checks}
use Rattle.smt_dialogue.specs.declared.checks.NewLines.{NewLines}
use Rattle.smt_dialogue.specs.declared.checks.PendingCheck.{PendingCheck}

-- how many steps a model may take, how many checks there were, and the one whose window has not ended
pub record ChecksState : Type 0 where
  pub limit : ℕ
  pub count : ℕ
  pub pending : Option PendingCheck

abbrev pub checks_state : Checks → ChecksState
checks_state c = record { limit = c.limit.steps; count = c.count; pending = c.pending }

-- the lines that a command decides, in order
abbrev pub new_lines : NewLines → List Line
new_lines new = lines_of_end new.ended ++ lines_of_end new.own

-- the lines of the check whose window has not ended, for the pairs after, which begin with command m
abbrev pub pending_lines : ℕ → Bool → Option PendingCheck → Signature → List Claimed → ℕ → List Pair → List Line
pending_lines limit closed None names claims m after = []
pending_lines limit closed (Some c) names claims m after =
    let models = models_from m (window after) in
    sat_lines c.check c.command (unconfirmed_line limit c.check c.command names claims models)
    (c.some_model || not (is_empty models)) (closed || list_any closes after)

-- what a command comes to: what is kept after it, and the lines that it decides
pub record Step : Type 0 where
  pub after : ChecksState
  pub decided : List Line

-- what it came to in the code
abbrev pub step_of : Checks → NewLines → Step
step_of c new = record { after = checks_state c; decided = new_lines new }

-- nothing changes
abbrev pub unchanged : ChecksState → Step
unchanged s = record { after = s; decided = [] }

-- the line of a check whose window ends
abbrev pub closing_line : Option PendingCheck → Option Line
closing_line pending = option_map (λ (c : PendingCheck). confirmed_line c.check c.command c.some_model) pending

-- the window that has not ended does
abbrev pub with_window_ended : ChecksState → Step
with_window_ended s = record {
  after = record s { pending = None };
  decided = lines_of_end (closing_line s.pending);
}

-- check k at command n has a window where it is answered `sat`, and else a line of its own
abbrev pub begun : ℕ → ℕ → Option Answer → Option PendingCheck
begun k n None = None
begun k n (Some answer) =
    if is_sat answer then Some (record { check = k; command = n; some_model = false }) else None

abbrev pub own_line : ℕ → ℕ → Option Answer → Option Line
own_line k n None = None
own_line k n (Some answer) = option_map (λ (tells : CheckAnswer). lines.Unchecked k n tells) (unchecked answer)

-- a check at command n with its answer
abbrev pub with_check : ChecksState → ℕ → Option Answer → Step
with_check s n answer = record {
  after = record { limit = s.limit; count = s.count + 1; pending = begun (s.count + 1) n answer };
  decided = lines_of_end (closing_line s.pending) ++ lines_of_end (own_line (s.count + 1) n answer);
}

-- a model that isn't confirmed gives the line of the check, and its window is let go; a model that is
-- confirmed is noted
abbrev pub with_line : ChecksState → PendingCheck → Option Line → Step
with_line s c (Some line) = record { after = record s { pending = None }; decided = line ∷ [] }
with_line s c None = unchanged (record s { pending = Some (record c { some_model = true }) })

-- the answer to a `get-model` at command n, which took effect or did not: a list in a window is a model
abbrev pub with_models : ChecksState → Option PendingCheck → Signature → List Claimed → ℕ → Bool → Option Sexp
    → Step
with_models s (Some c) names claims n true (Some (Items parts)) =
    with_line s c (line_of_judgement c.check c.command n (judgement_of s.limit names claims parts))
with_models s pending names claims n effective answer = unchanged s

-- command n, of this kind, with its answer
abbrev pub checks_after : ChecksState → Signature → List Claimed → ℕ → Kind → Option Sexp → Step
checks_after s names claims n kind answer =
    if asks_check kind then with_check s n (option_map answer_of answer)
    else if asks_model kind then with_models s s.pending names claims n (is_effective_with answer) answer
    else if changes_force kind && is_effective_with answer then with_window_ended s
    else unchanged s
