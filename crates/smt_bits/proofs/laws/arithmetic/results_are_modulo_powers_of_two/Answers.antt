use Rattle.smt_bits.proofs.ModuloLemmas.{add_is, mul_is, neg_is, shl_is, sub_is}
use Rattle.smt_bits.proofs.laws.arithmetic.results_are_modulo_powers_of_two.Goals as goal

pub returns-clause-neg : goal.returns-clause-neg
returns-clause-neg c = neg_is

pub returns-clause-add : goal.returns-clause-add
returns-clause-add c = add_is

pub returns-clause-sub : goal.returns-clause-sub
returns-clause-sub c = sub_is

pub returns-clause-mul : goal.returns-clause-mul
returns-clause-mul c = mul_is

pub returns-clause-shl : goal.returns-clause-shl
returns-clause-shl c = shl_is
