use Rattle.smt_eval.proofs.SortedValueLemmas.{sorted-value}
use Rattle.smt_eval.proofs.laws.well_sorted_terms_have_values.Goals as goal

pub returns : goal.returns
returns c =
    sorted-value (λ z op sorts sort es ranked h. c.results_are_of_their_sorts.ensures z op sorts sort es
    ((c.ranks_are_the_table.ensures.computed op sorts sort).0 ranked) h)
    c.decimals_are_reals.ensures
    (λ a b same. (c.sorts_are_compared.ensures a b).0 same)
