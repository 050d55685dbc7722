use Rattle.smt_terms.proofs.FirstFaultLemmas.{item_element, item_parameters, item_rank, item_sort, item_taken, item_twice}
use Rattle.smt_terms.proofs.laws.first_faults.items_are_checked_from_the_left.Goals as goal

pub returns-clause-twice : goal.returns-clause-twice
returns-clause-twice c = item_twice

pub returns-clause-taken : goal.returns-clause-taken
returns-clause-taken c = item_taken

pub returns-clause-element : goal.returns-clause-element
returns-clause-element c = item_element

pub returns-clause-parameters : goal.returns-clause-parameters
returns-clause-parameters c = item_parameters

pub returns-clause-sort : goal.returns-clause-sort
returns-clause-sort c = item_sort

pub returns-clause-rank : goal.returns-clause-rank
returns-clause-rank c = item_rank
