use Rattle.std.proofs.Common.{refl, rules}
use Rattle.smt_theory.proofs.WideLemmas.{logics_of}
use Rattle.smt_theory.proofs.laws.names.wide_logics_of_arrays_are_those_of_their_theories.Goals as goal

pub returns-clause-arrays : goal.returns-clause-arrays
returns-clause-arrays c = logics_of _ _ _ refl (search rules)

pub returns-clause-ints : goal.returns-clause-ints
returns-clause-ints c = logics_of _ _ _ refl (search rules)

pub returns-clause-reals : goal.returns-clause-reals
returns-clause-reals c = logics_of _ _ _ refl (search rules)

pub returns-clause-ints_and_reals : goal.returns-clause-ints_and_reals
returns-clause-ints_and_reals c = logics_of _ _ _ refl (search rules)

pub returns-clause-bits : goal.returns-clause-bits
returns-clause-bits c = logics_of _ _ _ refl (search rules)

pub returns-clause-bits_and_ints : goal.returns-clause-bits_and_ints
returns-clause-bits_and_ints c = logics_of _ _ _ refl (search rules)

pub returns-clause-bits_and_reals : goal.returns-clause-bits_and_reals
returns-clause-bits_and_reals c = logics_of _ _ _ refl (search rules)

pub returns-clause-all : goal.returns-clause-all
returns-clause-all c = logics_of _ _ _ refl (search rules)
