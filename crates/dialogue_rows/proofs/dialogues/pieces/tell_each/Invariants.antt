-- the session stands for what it was told, and the end of neither text was told
use Rattle.std.proofs.Common.{◌≡◌}
use Rattle.std.specs.Prelude.{false}
use Rattle.smt_dialogue.specs.History.{History}
use Rattle.smt_dialogue.specs.Session.{StandsFor, is_answers_ended, is_script_ended}
use Rattle.dialogue_rows.proofs.dialogues.pieces.tell_each.Given as goal

abbrev pub invariant-loop-place : goal.invariant-loop-place
invariant-loop-place l =
    ((h : History) × StandsFor l.session h)
    × (is_script_ended l.session ≡ false)
    × (is_answers_ended l.session ≡ false)
