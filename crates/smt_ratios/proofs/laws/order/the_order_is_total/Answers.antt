use Rattle.smt_ratios.proofs.LawLemmas.{less_integers, less_irreflexive, less_total, less_transitive}
use Rattle.smt_ratios.proofs.laws.order.the_order_is_total.Goals as goal

pub returns-clause-irreflexive : goal.returns-clause-irreflexive
returns-clause-irreflexive c = less_irreflexive

pub returns-clause-transitive : goal.returns-clause-transitive
returns-clause-transitive c = less_transitive

pub returns-clause-total : goal.returns-clause-total
returns-clause-total c = less_total

pub returns-clause-integers : goal.returns-clause-integers
returns-clause-integers c = less_integers
