use Rattle.smt_ratios.proofs.KnownLemmas.{known_is, known_result, known_small, known_within}
use Rattle.smt_ratios.proofs.laws.numbers.known_results_are_results.Goals as goal

pub returns-clause-result : goal.returns-clause-result
returns-clause-result c = known_result

pub returns-clause-within : goal.returns-clause-within
returns-clause-within c = known_within

pub returns-clause-small : goal.returns-clause-small
returns-clause-small c = known_small

pub returns-clause-known : goal.returns-clause-known
returns-clause-known c = known_is
