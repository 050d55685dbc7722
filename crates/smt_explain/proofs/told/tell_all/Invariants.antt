-- what is in force is what some commands leave, each turn reads a command, and the lines so far are few
use Rattle.std.proofs.Common.{◌≡◌, ◌≤◌, ◌+◌, ◌*◌, ◌-◌, length, true}
use Rattle.smt_dialogue.specs.Replays.{number_of}
use Rattle.smt_remarks.specs.Lines.{count_in, is_lined}
use Rattle.smt_explain.specs.InForce.{IsInForce}
use Rattle.smt_explain.proofs.told.tell_all.Given as goal

abbrev pub invariant-loop-dialogue : goal.invariant-loop-dialogue
invariant-loop-dialogue l =
    IsInForce l.dialogue.replay × (is_lined l.form l.out.items ≡ true)
    × (count_in l.form l.out.items + 200 * length l.left
    ≤ count_in l.form l.fn.out.items + 200 * length l.fn.lines)

abbrev pub decreases-loop-dialogue : goal.decreases-loop-dialogue
decreases-loop-dialogue l = 18446744073709551615 - number_of l.dialogue.replay
