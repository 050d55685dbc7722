-- A fault is a flaw of what was read, or want of memory, which says nothing of it.
use Rattle.std.specs.Prelude.{ℕ, Option, Some, None, option_map}
use Rattle.smt_faults.specs.declared.failure.Failure.{Failure}
use Rattle.smt_faults.specs.declared.failure.Failure.TheVariants as failures
use Rattle.smt_faults.specs.declared.text_fault.TextFault.{TextFault}
use Rattle.smt_faults.specs.declared.text_fault.TextFault.TheVariants as texts
use Rattle.smt_faults.specs.declared.text_flaw.TextFlaw.{TextFlaw}
use Rattle.smt_faults.specs.declared.text_flaw.TextFlaw.TheVariants.{Byte, Deep, End}
use Rattle.smt_faults.specs.declared.command_fault.CommandFault.{CommandFault}
use Rattle.smt_faults.specs.declared.command_fault.CommandFault.TheVariants as commands
use Rattle.smt_faults.specs.declared.command_flaw.CommandFlaw.{CommandFlaw}
use Rattle.smt_faults.specs.declared.command_flaw.CommandFlaw.TheVariants as refusals
use Rattle.smt_faults.specs.declared.term_fault.TermFault.{TermFault}
use Rattle.smt_faults.specs.declared.term_fault.TermFault.TheVariants as terms
use Rattle.smt_faults.specs.declared.term_flaw.TermFlaw.{TermFlaw}
use Rattle.smt_faults.specs.declared.term_flaw.TermFlaw.TheVariants.{Form, Unsupported, Unknown, IllSorted}
use Rattle.smt_faults.specs.declared.term_flaw.TermFlaw.TheVariants.{Index, BoundTwice, NotFresh, Label}

-- where a text has a flaw
abbrev pub place_of : TextFlaw → ℕ
place_of (Byte place) = place
place_of (Deep place) = place
place_of (End place) = place

abbrev pub text_fault : TextFlaw → TextFault
text_fault (Byte place) = texts.Byte place
text_fault (Deep place) = texts.Deep place
text_fault (End place) = texts.End place

abbrev pub text_failure : Failure TextFlaw → TextFault
text_failure (failures.Fault flaw) = text_fault flaw
text_failure failures.Memory = texts.Memory

abbrev pub flaw_in : TextFault → Option TextFlaw
flaw_in (texts.Byte place) = Some (Byte place)
flaw_in (texts.Deep place) = Some (Deep place)
flaw_in (texts.End place) = Some (End place)
flaw_in texts.Memory = None

abbrev pub flaw_of_term_fault : TermFault → Option TermFlaw
flaw_of_term_fault terms.Form = Some Form
flaw_of_term_fault terms.Unsupported = Some Unsupported
flaw_of_term_fault terms.Unknown = Some Unknown
flaw_of_term_fault terms.IllSorted = Some IllSorted
flaw_of_term_fault terms.Index = Some Index
flaw_of_term_fault terms.BoundTwice = Some BoundTwice
flaw_of_term_fault terms.NotFresh = Some NotFresh
flaw_of_term_fault terms.Label = Some Label
flaw_of_term_fault terms.Memory = None

abbrev pub flaw_of_command_fault : CommandFault → Option CommandFlaw
flaw_of_command_fault commands.Form = Some refusals.Form
flaw_of_command_fault commands.Unsupported = Some refusals.Unsupported
flaw_of_command_fault commands.TooDeep = Some refusals.TooDeep
flaw_of_command_fault commands.NoLevel = Some refusals.NoLevel
flaw_of_command_fault commands.Logic = Some refusals.Logic
flaw_of_command_fault commands.AfterExit = Some refusals.AfterExit
flaw_of_command_fault (commands.Term fault) = option_map refusals.Term (flaw_of_term_fault fault)
flaw_of_command_fault commands.Memory = None

-- a fault of a term as one of its command
abbrev pub fault_by_term : TermFault → CommandFault
fault_by_term terms.Memory = commands.Memory
fault_by_term terms.Form = commands.Term terms.Form
fault_by_term terms.Unsupported = commands.Term terms.Unsupported
fault_by_term terms.Unknown = commands.Term terms.Unknown
fault_by_term terms.IllSorted = commands.Term terms.IllSorted
fault_by_term terms.Index = commands.Term terms.Index
fault_by_term terms.BoundTwice = commands.Term terms.BoundTwice
fault_by_term terms.NotFresh = commands.Term terms.NotFresh
fault_by_term terms.Label = commands.Term terms.Label
