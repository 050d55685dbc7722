use Rattle.smt_bits.proofs.BitLawLemmas.{and_by_bit, nand_by_bit, nor_by_bit, not_by_bit, or_by_bit, xnor_by_bit, xor_by_bit}
use Rattle.smt_bits.proofs.laws.bitwise.bits_are_taken_by_place.Goals as goal

pub returns-clause-not : goal.returns-clause-not
returns-clause-not c = not_by_bit

pub returns-clause-and : goal.returns-clause-and
returns-clause-and c = and_by_bit

pub returns-clause-or : goal.returns-clause-or
returns-clause-or c = or_by_bit

pub returns-clause-xor : goal.returns-clause-xor
returns-clause-xor c = xor_by_bit

pub returns-clause-nand : goal.returns-clause-nand
returns-clause-nand c = nand_by_bit

pub returns-clause-nor : goal.returns-clause-nor
returns-clause-nor c = nor_by_bit

pub returns-clause-xnor : goal.returns-clause-xnor
returns-clause-xnor c = xnor_by_bit
