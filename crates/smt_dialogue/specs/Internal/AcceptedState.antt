-- What the dialogue so far keeps, and what it stands for: which pairs of commands and answers it accepted.
use Rattle.std.specs.Prelude.{◌≡◌, ◌≤◌, ℕ, ◌+◌, List, [], ◌++◌, length, Bool, true, false, ◌||◌, Option, None}
use Rattle.std.specs.List.{list_any}
use Rattle.std.specs.Prelude.{option_map, if◌then◌else◌}
use Rattle.smt_theory.specs.declared.profile.Profile.{Profile}
use Rattle.smt_script.specs.Command.{Command}
use Rattle.smt_script.specs.CommandView.{command_view}
use Rattle.smt_script.specs.declared.command.Command as code
use Rattle.smt_script.specs.Stack.{Numbered, flaw_of_effect}
use Rattle.smt_script.specs.StackView as stacks
use Rattle.smt_script.specs.StackView.{last_of, profile_of, start_of}
use Rattle.smt_faults.specs.declared.command_flaw.CommandFlaw.{CommandFlaw}
use Rattle.smt_script.specs.declared.stack.Stack.{Stack}
use Rattle.smt_dialogue.specs.InForce.{signature_after}
use Rattle.smt_dialogue.specs.Internal.Claims.{claims_after}
use Rattle.smt_dialogue.specs.Lines.{lines_in}
use Rattle.smt_dialogue.specs.Pairs.{Pair, answers_taken, checks_in, effective_commands, pair_of}
use Rattle.smt_dialogue.specs.Internal.AnswerView.{tree_of}
use Rattle.smt_dialogue.specs.Internal.ChecksState.{ChecksState, checks_state, pending_lines}
use Rattle.smt_dialogue.specs.Window.{closes, window}
use Rattle.smt_dialogue.specs.declared.answer.TakenAnswer.{TakenAnswer}
use Rattle.smt_dialogue.specs.declared.accepted.AcceptedPairs.{AcceptedPairs}
use Rattle.smt_dialogue.specs.declared.options.Options.{Options}
use Rattle.smt_report.specs.Verdict.{tally_of}
use Rattle.smt_report.specs.declared.line.Line.{Line}
use Rattle.smt_report.specs.declared.verdict.Tally.{Tally}

-- what is known: what is in force, the checks, the lines that are decided, with their tally, and the counts of
-- commands and answers
pub record State : Type 0 where
  pub stack : Stack
  pub checks : ChecksState
  pub lines : List Line
  pub tally : Tally
  pub commands : ℕ
  pub answers : ℕ

-- the state of a dialogue of which these lines were handed out
abbrev pub state_behind : List Line → AcceptedPairs → State
state_behind taken d = record {
  stack = d.stack;
  checks = checks_state d.checks;
  lines = taken ++ d.decided.lines.items;
  tally = d.decided.tally;
  commands = d.commands;
  answers = d.answers;
}

-- what a dialogue was begun with
abbrev pub options_of : AcceptedPairs → Options
options_of d = record {
  print_success = (start_of d.stack).print_success;
  profile = (start_of d.stack).profile;
  limit = d.checks.limit;
}

-- the pair of a command and what it took of the answers
abbrev pub answered : code.Command → Option TakenAnswer → Pair
answered command answer = pair_of (command_view command) (option_map tree_of answer)

-- the fault of a command's effect, if it took effect
abbrev pub flaw_if : Profile → Bool → List Numbered → ℕ → Command → Option CommandFlaw
flaw_if profile effective before n command = if effective then flaw_of_effect profile before n command else None

-- every window is closed at once: the first of the pairs that come closes it, or none comes and all are closed
pub record Closing (ended : Bool) (after : List Pair) : Type 0 where
  pub none : window after ≡ []
  pub closed : ended || list_any closes after ≡ true

-- the state fits these pairs: what it keeps is in force behind them, and whatever pairs come, the lines are
-- those that are decided and those of the check whose window has not ended. `early` says that windows were
-- ended before the pair came that closes them
pub record Fits (early : Bool) (s : State) (pairs : List Pair) : Type 0 where
  pub stack : stacks.StandsFor s.stack (effective_commands pairs)
  pub last : last_of s.stack ≤ s.commands
  pub commands : s.commands ≡ length pairs
  pub answers : s.answers ≡ answers_taken pairs
  pub checks : s.checks.count ≡ checks_in pairs
  pub tally : s.tally ≡ tally_of s.lines
  pub lines : (closed : Bool) (after : List Pair) → (early ≡ true → Closing closed after)
      → lines_in (profile_of s.stack) s.checks.limit closed [] pairs after
      ≡ s.lines ++ pending_lines s.checks.limit closed s.checks.pending
      (signature_after (profile_of s.stack) pairs) (claims_after (profile_of s.stack) pairs) (length pairs + 1) after

abbrev pub StandsFor : State → List Pair → Type 0
StandsFor s pairs = Fits false s pairs
