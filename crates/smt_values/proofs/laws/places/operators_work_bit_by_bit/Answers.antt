use Rattle.smt_values.proofs.laws.places.operators_work_bit_by_bit.Goals as goal

pub returns-clause-not : goal.returns-clause-not
returns-clause-not c = λ z. c.bits_are_taken_by_place.ensures.not

pub returns-clause-and : goal.returns-clause-and
returns-clause-and c = λ z. c.bits_are_taken_by_place.ensures.and

pub returns-clause-or : goal.returns-clause-or
returns-clause-or c = λ z. c.bits_are_taken_by_place.ensures.or

pub returns-clause-xor : goal.returns-clause-xor
returns-clause-xor c = λ z. c.bits_are_taken_by_place.ensures.xor

pub returns-clause-nand : goal.returns-clause-nand
returns-clause-nand c = λ z. c.bits_are_taken_by_place.ensures.nand

pub returns-clause-nor : goal.returns-clause-nor
returns-clause-nor c = λ z. c.bits_are_taken_by_place.ensures.nor

pub returns-clause-xnor : goal.returns-clause-xnor
returns-clause-xnor c = λ z. c.bits_are_taken_by_place.ensures.xnor
