use Rattle.smt_terms.proofs.ElementLawLemmas.{is_told, told_is}
use Rattle.smt_terms.proofs.laws.elements.items_that_tell_of_elements_are_set_aside.Goals as goal

pub returns : goal.returns
returns c = λ script tree.
    (told_is c.sorts_are_compared.ensures script tree, is_told c.sorts_are_compared.ensures script tree)
