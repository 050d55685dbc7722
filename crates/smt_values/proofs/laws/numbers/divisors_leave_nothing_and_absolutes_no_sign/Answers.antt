use Rattle.smt_values.proofs.DivisionLemmas.{divides_is}
use Rattle.smt_values.proofs.laws.numbers.divisors_leave_nothing_and_absolutes_no_sign.Goals as goal

pub returns-clause-divisible : goal.returns-clause-divisible
returns-clause-divisible c = divides_is
