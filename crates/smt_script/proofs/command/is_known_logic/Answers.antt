use Rattle.std.proofs.Common.{rules}
use Rattle.smt_script.specs.Command.{is_known_logic}
use Rattle.smt_script.proofs.command.is_known_logic.Goals as goal

pub returns : goal.returns
unfolding is_known_logic
returns c = search rules
