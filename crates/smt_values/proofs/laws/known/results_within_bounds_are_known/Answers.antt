use Rattle.smt_values.proofs.KnownNumberLemmas.{more_known}
use Rattle.smt_values.proofs.laws.known.results_within_bounds_are_known.Goals as goal

pub returns-clause-more : goal.returns-clause-more
returns-clause-more c = more_known record {
  results = c.known_results_are_results.ensures.result;
  steps_within = c.known_results_are_results.ensures.within;
  sums = c.integers_are_known_as_integers.ensures.sum;
  differences = c.integers_are_known_as_integers.ensures.difference;
  products = c.integers_are_known_as_integers.ensures.product;
}
