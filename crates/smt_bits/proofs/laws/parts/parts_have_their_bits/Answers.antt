use Rattle.smt_bits.proofs.PlaceLemmas.{concat_high, concat_low, extract_at, repeat_at}
use Rattle.smt_bits.proofs.laws.parts.parts_have_their_bits.Goals as goal

pub returns-clause-concat_low : goal.returns-clause-concat_low
returns-clause-concat_low c = concat_low

pub returns-clause-concat_high : goal.returns-clause-concat_high
returns-clause-concat_high c = concat_high

pub returns-clause-extract : goal.returns-clause-extract
returns-clause-extract c = extract_at

pub returns-clause-repeat : goal.returns-clause-repeat
returns-clause-repeat c = repeat_at
