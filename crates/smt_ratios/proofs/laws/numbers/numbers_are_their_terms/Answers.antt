use Rattle.smt_ratios.proofs.LawLemmas.{integer_ratio, own_terms}
use Rattle.smt_ratios.proofs.laws.numbers.numbers_are_their_terms.Goals as goal

pub returns-clause-integer : goal.returns-clause-integer
returns-clause-integer c = integer_ratio

pub returns-clause-number : goal.returns-clause-number
returns-clause-number c = own_terms
