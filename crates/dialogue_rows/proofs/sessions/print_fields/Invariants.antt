-- the session stands for what it was told, and its ends are those that were told
use Rattle.std.proofs.Common.{◌≡◌}
use Rattle.smt_dialogue.specs.History.{History}
use Rattle.smt_dialogue.specs.Session.{StandsFor, is_answers_ended, is_script_ended}
use Rattle.dialogue_rows.proofs.sessions.print_fields.Given as goal

abbrev pub invariant-loop-field : goal.invariant-loop-field
invariant-loop-field g l =
    ((h : History) × StandsFor l.session h)
    × (is_script_ended l.session ≡ l.ended.script)
    × (is_answers_ended l.session ≡ l.ended.answers)
