use Rattle.std.proofs.Common.{◌≡◌}
use Rattle.std.specs.Prelude.{drop}
use Rattle.clap.specs.Walk.{texts}
use Rattle.smtcheck_command_line.specs.Settings.{has_form}
use Rattle.smtcheck_command_line.proofs.command.has_form.Given as goal

-- whether a word gives a form is left to the words to come
abbrev pub invariant-loop-word : goal.invariant-loop-word
invariant-loop-word l = has_form (texts l.words) ≡ has_form (texts (drop l.word-index l.words))
