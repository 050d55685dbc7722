use Rattle.smt_values.proofs.laws.places.bits_keep_their_order.Goals as goal

pub returns-clause-concat_low : goal.returns-clause-concat_low
returns-clause-concat_low c = λ z m. c.parts_have_their_bits.ensures.concat_low

pub returns-clause-concat_high : goal.returns-clause-concat_high
returns-clause-concat_high c = λ z m. c.parts_have_their_bits.ensures.concat_high

pub returns-clause-extract : goal.returns-clause-extract
returns-clause-extract c = λ z i j m. c.parts_have_their_bits.ensures.extract i j

pub returns-clause-repeat : goal.returns-clause-repeat
returns-clause-repeat c = λ z. c.parts_have_their_bits.ensures.repeat

pub returns-clause-sign_extend : goal.returns-clause-sign_extend
returns-clause-sign_extend c = λ z. c.extensions_keep_bits.ensures.sign_extend

pub returns-clause-signs : goal.returns-clause-signs
returns-clause-signs c = λ z. c.extensions_keep_bits.ensures.signs

pub returns-clause-sign : goal.returns-clause-sign
returns-clause-sign c = λ z. c.sign_extension_keeps_the_integer.ensures

pub returns-clause-rotate_left : goal.returns-clause-rotate_left
returns-clause-rotate_left c = λ z. c.rotations_move_bits_around.ensures.left

pub returns-clause-rotate_right : goal.returns-clause-rotate_right
returns-clause-rotate_right c = λ z. c.rotations_move_bits_around.ensures.right
