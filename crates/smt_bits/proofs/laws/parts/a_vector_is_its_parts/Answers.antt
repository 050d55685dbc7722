use Rattle.smt_bits.proofs.PartLemmas.{parts_whole}
use Rattle.smt_bits.proofs.laws.parts.a_vector_is_its_parts.Goals as goal

pub returns : goal.returns
returns c = parts_whole
