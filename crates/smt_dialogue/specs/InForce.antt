-- SMT-LIB 2.6, sections 4.1 and 4.2: what is in force after pairs of commands and answers, and the faults of
-- pairs. A command that was answered by `unsupported` or an error took no effect.
use Rattle.std.specs.Prelude.{◌≡◌, ℕ, ◌+◌, List, [], ◌∷◌, ◌++◌, length, Bool, false, Option, None}
use Rattle.std.specs.Prelude.{if◌then◌else◌}
use Rattle.smt_theory.specs.declared.profile.Profile.{Profile}
use Rattle.smt_terms.specs.Signature.{Signature}
use Rattle.smt_script.specs.Command.{Command}
use Rattle.smt_trees.specs.Sexp.{Sexp}
use Rattle.smt_script.specs.Stack.{Assertion, assertions_in_force, assumptions_in_force, depth_in_force}
use Rattle.smt_script.specs.Stack.{flaw_of_effect}
use Rattle.smt_script.specs.Stack.{has_exited, print_success_in_force, signature_in_force}
use Rattle.smt_faults.specs.declared.command_flaw.CommandFlaw.{CommandFlaw}
use Rattle.smt_dialogue.specs.Answers.{need_of}
use Rattle.smt_dialogue.specs.Pairs.{Pair, effective_commands, is_effective}
use Rattle.smt_script.specs.declared.stack.Start.{Start}
use Rattle.smt_dialogue.specs.declared.need.Need.{Need}
use Rattle.smt_dialogue.specs.declared.options.Options.{Options}

-- what holds before the first command
abbrev pub start_by : Options → Start
start_by options = record { print_success = options.print_success; profile = options.profile }

-- the theories and names in force after pairs
abbrev pub signature_after : Profile → List Pair → Signature
signature_after profile pairs = signature_in_force profile (effective_commands pairs)

-- the assertions in force after pairs
abbrev pub assertions_after : Profile → List Pair → List Assertion
assertions_after profile pairs = assertions_in_force profile (effective_commands pairs)

-- the assumptions after pairs: those of the last check, if nothing in force has changed since
abbrev pub assumptions_after : List Pair → List Sexp
assumptions_after pairs = assumptions_in_force (effective_commands pairs)

-- whether `success` is printed after pairs, `initial` saying whether it is at the start; and what a command then
-- needs of the answers
abbrev pub print_success_after : Bool → List Pair → Bool
print_success_after initial pairs = print_success_in_force initial (effective_commands pairs)

abbrev pub need_after : Start → List Pair → Command → Need
need_after start pairs command =
    need_of start.profile (print_success_after start.print_success pairs) command

-- whether an `exit` is among pairs
abbrev pub has_exited_after : List Pair → Bool
has_exited_after pairs = has_exited (effective_commands pairs)

-- how many assertion levels there are after pairs
abbrev pub levels_after : List Pair → ℕ
levels_after pairs = depth_in_force (effective_commands pairs)

-- the fault of a pair's effect behind others: a command that took no effect has none
abbrev pub flaw_of_pair : Profile → List Pair → Pair → Option CommandFlaw
flaw_of_pair profile before pair =
    if is_effective pair then flaw_of_effect profile (effective_commands before) (length before + 1) pair.command
    else None

-- no pair has a fault, behind those that come before: none stands behind an `exit`, and no effect has a fault
abbrev pub AreFaultless : Profile → List Pair → List Pair → Type 0
AreFaultless profile before [] = Unit {0}
AreFaultless profile before (pair ∷ pairs) =
    (has_exited_after before ≡ false) × (flaw_of_pair profile before pair ≡ None)
    × AreFaultless profile (before ++ pair ∷ []) pairs
