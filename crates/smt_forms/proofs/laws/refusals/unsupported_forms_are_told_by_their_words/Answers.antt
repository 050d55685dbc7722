use Rattle.smt_forms.proofs.RefusalLemmas.{base_as, recursive_item, unsupported_item, unsupported_term, wide_as}
use Rattle.smt_forms.proofs.laws.refusals.unsupported_forms_are_told_by_their_words.Goals as goal

pub returns-clause-applied_as : goal.returns-clause-applied_as
returns-clause-applied_as c = base_as

pub returns-clause-constants : goal.returns-clause-constants
returns-clause-constants c = wide_as

pub returns-clause-terms : goal.returns-clause-terms
returns-clause-terms c = unsupported_term

pub returns-clause-items : goal.returns-clause-items
returns-clause-items c = λ tree. (unsupported_item tree, recursive_item tree)
