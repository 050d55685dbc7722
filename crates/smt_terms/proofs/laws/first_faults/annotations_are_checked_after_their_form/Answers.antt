use Rattle.smt_terms.proofs.FirstFaultLemmas.{annotation_form, annotation_term, label_open, label_refused}
use Rattle.smt_terms.proofs.laws.first_faults.annotations_are_checked_after_their_form.Goals as goal

pub returns-clause-form : goal.returns-clause-form
returns-clause-form c = annotation_form

pub returns-clause-term : goal.returns-clause-term
returns-clause-term c = annotation_term

pub returns-clause-refused : goal.returns-clause-refused
returns-clause-refused c = label_refused

pub returns-clause-open : goal.returns-clause-open
returns-clause-open c = label_open
