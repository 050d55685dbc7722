-- The names of the flaws of texts, terms and commands in a report, which are this project's own.
use Rattle.std.specs.Prelude.{ℕ, List, ◌++◌, codes}
use Rattle.smt_faults.specs.declared.command_flaw.CommandFlaw.{CommandFlaw}
use Rattle.smt_faults.specs.declared.command_flaw.CommandFlaw.TheVariants as commands
use Rattle.smt_faults.specs.declared.term_flaw.TermFlaw.{TermFlaw}
use Rattle.smt_faults.specs.declared.term_flaw.TermFlaw.TheVariants as terms
use Rattle.smt_faults.specs.declared.text_flaw.TextFlaw.{TextFlaw}
use Rattle.smt_faults.specs.declared.text_flaw.TextFlaw.TheVariants as texts

abbrev pub text_of_flaw : TextFlaw → List ℕ
text_of_flaw (texts.Byte place) = codes "X1"
text_of_flaw (texts.Deep place) = codes "X2"
text_of_flaw (texts.End place) = codes "X3"

abbrev pub text_of_term_flaw : TermFlaw → List ℕ
text_of_term_flaw terms.Form = codes "F1"
text_of_term_flaw terms.Unsupported = codes "F2"
text_of_term_flaw terms.Unknown = codes "F3"
text_of_term_flaw terms.IllSorted = codes "F4"
text_of_term_flaw terms.Index = codes "F5"
text_of_term_flaw terms.BoundTwice = codes "F6"
text_of_term_flaw terms.NotFresh = codes "F7"
text_of_term_flaw terms.Label = codes "F8"

abbrev pub text_of_command_flaw : CommandFlaw → List ℕ
text_of_command_flaw commands.Form = codes "C1"
text_of_command_flaw commands.Unsupported = codes "C2"
text_of_command_flaw commands.TooDeep = codes "C3"
text_of_command_flaw commands.NoLevel = codes "C4"
text_of_command_flaw commands.Logic = codes "C5"
text_of_command_flaw commands.AfterExit = codes "C6"
text_of_command_flaw (commands.Term flaw) = codes "C7 " ++ text_of_term_flaw flaw
