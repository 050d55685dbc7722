use Rattle.smt_values.proofs.AllKnownLemmas.{core_known, result_known, without_numbers}
use Rattle.smt_values.proofs.laws.known_arguments_give_known_results.Goals as goal

pub returns-clause-other_sorts : goal.returns-clause-other_sorts
returns-clause-other_sorts c = result_known

pub returns-clause-without_numbers : goal.returns-clause-without_numbers
returns-clause-without_numbers c = without_numbers

pub returns-clause-core : goal.returns-clause-core
returns-clause-core c = core_known
