use Rattle.smt_bits.proofs.PlaceLemmas.{rotate_left_at, rotate_right_at}
use Rattle.smt_bits.proofs.laws.parts.rotations_move_bits_around.Goals as goal

pub returns-clause-left : goal.returns-clause-left
returns-clause-left c = rotate_left_at

pub returns-clause-right : goal.returns-clause-right
returns-clause-right c = rotate_right_at
