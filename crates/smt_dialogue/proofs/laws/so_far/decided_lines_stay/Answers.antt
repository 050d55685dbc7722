use Rattle.smt_dialogue.proofs.SoFarLemmas.{lines_stay}
use Rattle.smt_dialogue.proofs.laws.so_far.decided_lines_stay.Goals as goal

pub returns : goal.returns
returns c = lines_stay
