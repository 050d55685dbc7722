use Rattle.smt_bits.proofs.BitwiseLemmas.{and_below, nand_below, nor_below, not_below, or_below, xnor_below}
use Rattle.smt_bits.proofs.BitwiseLemmas.{xor_below}
use Rattle.smt_bits.proofs.laws.bitwise.bitwise_fits.Goals as goal

pub returns-clause-not : goal.returns-clause-not
returns-clause-not c = not_below

pub returns-clause-and : goal.returns-clause-and
returns-clause-and c = and_below

pub returns-clause-or : goal.returns-clause-or
returns-clause-or c = or_below

pub returns-clause-xor : goal.returns-clause-xor
returns-clause-xor c = xor_below

pub returns-clause-nand : goal.returns-clause-nand
returns-clause-nand c = nand_below

pub returns-clause-nor : goal.returns-clause-nor
returns-clause-nor c = nor_below

pub returns-clause-xnor : goal.returns-clause-xnor
returns-clause-xnor c = xnor_below
