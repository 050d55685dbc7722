use Rattle.smt_script.proofs.ProfileLemmas.{same_command}
use Rattle.smt_script.proofs.laws.commands.wide_reads_what_base_reads.Goals as goal

pub returns : goal.returns
returns c = same_command
