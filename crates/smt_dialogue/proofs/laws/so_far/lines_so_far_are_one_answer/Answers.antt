use Rattle.smt_dialogue.proofs.ReadSoFarLemmas.{one_so_far, some_so_far}
use Rattle.smt_dialogue.proofs.laws.so_far.lines_so_far_are_one_answer.Goals as goal

pub returns-clause-some : goal.returns-clause-some
returns-clause-some c = some_so_far c.every_text_reads.ensures.some

pub returns-clause-one : goal.returns-clause-one
returns-clause-one c = one_so_far c.one_reading.ensures.one
