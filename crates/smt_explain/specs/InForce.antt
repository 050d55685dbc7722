-- What an explanation of a claim rests on.
use Rattle.std.specs.Prelude.{List}
use Rattle.smt_script.specs.Stack.{Numbered}
use Rattle.smt_dialogue.specs.Replays.{StandsFor}
use Rattle.smt_dialogue.specs.declared.replay.Replay.{Replay}

-- what is in force before the command in turn is what some commands leave
abbrev pub IsInForce : Replay → Type 0
IsInForce replay = (commands : List Numbered) × StandsFor replay commands
