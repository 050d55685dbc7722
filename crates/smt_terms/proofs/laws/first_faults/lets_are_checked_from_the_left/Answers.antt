use Rattle.smt_terms.proofs.FirstFaultLemmas.{let_body, let_form, let_term, let_twice}
use Rattle.smt_terms.proofs.laws.first_faults.lets_are_checked_from_the_left.Goals as goal

pub returns-clause-form : goal.returns-clause-form
returns-clause-form c = let_form

pub returns-clause-term : goal.returns-clause-term
returns-clause-term c = let_term

pub returns-clause-twice : goal.returns-clause-twice
returns-clause-twice c = let_twice

pub returns-clause-body : goal.returns-clause-body
returns-clause-body c = let_body
