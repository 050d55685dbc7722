use Rattle.smt_bits.proofs.PartLemmas.{concat_below, extract_below, left_below, repeat_below, right_below}
use Rattle.smt_bits.proofs.laws.parts.parts_fit.Goals as goal

pub returns-clause-concat : goal.returns-clause-concat
returns-clause-concat c = concat_below

pub returns-clause-extract : goal.returns-clause-extract
returns-clause-extract c = extract_below

pub returns-clause-repeat : goal.returns-clause-repeat
returns-clause-repeat c = repeat_below

pub returns-clause-rotate_left : goal.returns-clause-rotate_left
returns-clause-rotate_left c = left_below

pub returns-clause-rotate_right : goal.returns-clause-rotate_right
returns-clause-rotate_right c = right_below
