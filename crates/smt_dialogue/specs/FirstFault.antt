-- Whose turn it is in a dialogue so far, and which fault ends it. The order in which faults are told is this
-- project's rule.
use Rattle.std.specs.Prelude.{ℕ, ◌+◌, List, length, Bool, true, false, ◌||◌, Option, Some, None, is_some}
use Rattle.std.specs.Prelude.{Result, Ok, Err, if◌then◌else◌}
use Rattle.smt_trees.specs.Sexp.{Sexps, Nil, Cons}
use Rattle.smt_faults.specs.declared.text_flaw.TextFlaw.{TextFlaw}
use Rattle.smt_theory.specs.declared.profile.Profile.{Profile}
use Rattle.smt_script.specs.Command.{Command, command_of}
use Rattle.smt_script.specs.declared.stack.Start.{Start}
use Rattle.smt_faults.specs.declared.command_flaw.CommandFlaw.{CommandFlaw}
use Rattle.smt_faults.specs.declared.command_flaw.CommandFlaw.TheVariants.{AfterExit}
use Rattle.smt_dialogue.specs.Answers as answers
use Rattle.smt_dialogue.specs.Answers.{Taken, Takes, Missing, Unexpected, taken}
use Rattle.smt_dialogue.specs.InForce.{flaw_of_pair, has_exited_after, need_after}
use Rattle.smt_script.specs.Command.{is_check}
use Rattle.smt_dialogue.specs.Pairs.{Pair, answers_taken, next_of, pair_of}
use Rattle.smt_report.specs.declared.line.Line.{Line}
use Rattle.smt_report.specs.declared.line.Line.TheVariants as lines
use Rattle.smt_report.specs.declared.line.Side.TheVariants.{Script, Answers}

-- what there is of a text so far: its trees, the fault behind them, and whether its end was told
pub record TextSoFar : Type 0 where
  pub told : Bool
  pub trees : Sexps
  pub fault : Option TextFlaw

-- there is no more of a text than these trees and this fault
abbrev pub whole_text : Sexps → Option TextFlaw → TextSoFar
whole_text trees fault = record { told = true; trees = trees; fault = fault }

-- no tree comes behind those that there are
abbrev pub is_over : TextSoFar → Bool
is_over text = text.told || is_some text.fault

-- the command in turn is taken up, and the dialogue goes on; or it waits for more of a text, with every
-- window closed or not; or it ends, with a fault or without one
pub data Turn : Type 0 where
  GoesOn : Turn
  Waits : (closed : Bool) → Turn
  Ends : (fault : Option Line) → Turn

-- the dialogue does not go on: it waits, or has ended
abbrev pub IsRest : Turn → Type 0
IsRest GoesOn = ⊥
IsRest (Waits closed) = Unit {0}
IsRest (Ends fault) = Unit {0}

abbrev pub turn_of_flaw : ℕ → Option CommandFlaw → Turn
turn_of_flaw n None = GoesOn
turn_of_flaw n (Some flaw) = Ends (Some (lines.CommandFault n flaw))

abbrev pub want_of_answer : ℕ → Option TextFlaw → Line
want_of_answer n None = lines.MissingAnswer n
want_of_answer n (Some fault) = lines.TextFault Answers fault

-- a command, by what it takes of the answers: its effect decides where that is what it needs. A check that
-- waits closes every window
abbrev pub turn_of_taken : Profile → List Pair → Command → Option TextFlaw → Taken → Turn
turn_of_taken profile pairs command fault (Takes answer) =
    turn_of_flaw (length pairs + 1) (flaw_of_pair profile pairs (pair_of command answer))
turn_of_taken profile pairs command fault answers.Waits = Waits (is_check command)
turn_of_taken profile pairs command fault Missing = Ends (Some (want_of_answer (length pairs + 1) fault))
turn_of_taken profile pairs command fault Unexpected =
    Ends (Some (lines.UnexpectedAnswer (length pairs + 1) (answers_taken pairs + 1)))

abbrev pub turn_of_command : Start → List Pair → Result Command CommandFlaw → TextSoFar → Turn
turn_of_command start pairs (Err flaw) answers = Ends (Some (lines.CommandFault (length pairs + 1) flaw))
turn_of_command start pairs (Ok command) answers =
    turn_of_taken start.profile pairs command answers.fault
    (taken (is_over answers) (need_after start pairs command) (next_of answers.trees))

-- after the last answer: the fault of the answers, or their end, for which the dialogue waits
abbrev pub turn_of_end : Bool → Option TextFlaw → Turn
turn_of_end told (Some fault) = Ends (Some (lines.TextFault Answers fault))
turn_of_end told None = if told then Ends None else Waits true

-- after the last command: an answer that is left over, or else the end of the answers
abbrev pub turn_of_rest : List Pair → Bool → Option TextFlaw → Sexps → Turn
turn_of_rest pairs told fault (Cons answer rest) = Ends (Some (lines.ExtraAnswer (answers_taken pairs + 1)))
turn_of_rest pairs told fault Nil = turn_of_end told fault

-- the turn behind pairs, of what is left of the script: its trees, its fault, and whether its end was told.
-- No command comes behind an `exit`
abbrev pub turn_at : Start → List Pair → TextSoFar → Bool → Option TextFlaw → Sexps → Turn
turn_at start pairs answers told fault (Cons tree trees) =
    if has_exited_after pairs then Ends (Some (lines.CommandFault (length pairs + 1) AfterExit))
    else turn_of_command start pairs (command_of start.profile tree) answers
turn_at start pairs answers told (Some fault) Nil = Ends (Some (lines.TextFault Script fault))
turn_at start pairs answers told None Nil =
    if told then turn_of_rest pairs answers.told answers.fault answers.trees else Waits false

-- the turn behind pairs, of what is left of both texts
abbrev pub turn_after : Start → List Pair → (script answers : TextSoFar) → Turn
turn_after start pairs script answers = turn_at start pairs answers script.told script.fault script.trees
