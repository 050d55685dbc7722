-- What a call answers that may be refused: the outcome that is expected of what it read, or want of memory,
-- which says nothing of it.
use Rattle.std.specs.Prelude.{◌≡◌, ◌⊎◌, true, Option, Some, is_some, Result, Ok, Err, MatchResult, unwrap_or}
use Rattle.smt_faults.specs.Faults.{flaw_of_command_fault, flaw_of_term_fault}
use Rattle.smt_faults.specs.declared.command_fault.CommandFault.{CommandFault}
use Rattle.smt_faults.specs.declared.command_fault.CommandFault.TheVariants as commands
use Rattle.smt_faults.specs.declared.command_flaw.CommandFlaw.{CommandFlaw}
use Rattle.smt_faults.specs.declared.term_fault.TermFault.{TermFault}
use Rattle.smt_faults.specs.declared.term_fault.TermFault.TheVariants as terms
use Rattle.smt_faults.specs.declared.term_flaw.TermFlaw.{TermFlaw}
use Rattle.smt_faults.specs.declared.term_flaw.TermFlaw.TheVariants.{Form}

-- the flaw that a fault tells. (Want of memory tells none: what stands there is nothing that a use of this
-- depends on.)
abbrev pub flaw_told : TermFault → TermFlaw
flaw_told fault = unwrap_or (flaw_of_term_fault fault) Form

-- the fault is want of memory, or tells the flaw that is expected
abbrev pub Tells : {A : Type 0} → Result A TermFlaw → TermFault → Type 0
Tells expected fault = (fault ≡ terms.Memory) ⊎ (expected ≡ Err (flaw_told fault))

-- the same where a flaw alone is expected
abbrev pub TellsSome : Option TermFlaw → TermFault → Type 0
TellsSome expected fault = (fault ≡ terms.Memory) ⊎ (expected ≡ Some (flaw_told fault))

-- the result is what is expected, of which a view is told, or a fault that tells its flaw
abbrev pub IsOutcome : {A T : Type 0} → (T → A) → Result A TermFlaw → Result T TermFault → Type 0
IsOutcome view expected result = MatchResult result (λ x. expected ≡ Ok (view x)) (Tells expected)

-- of a command: the fault is want of memory, or tells the flaw that is expected
abbrev pub TellsCommand : Option CommandFlaw → CommandFault → Type 0
TellsCommand expected fault =
    (fault ≡ commands.Memory)
    ⊎ ((is_some (flaw_of_command_fault fault) ≡ true) × (expected ≡ flaw_of_command_fault fault))
