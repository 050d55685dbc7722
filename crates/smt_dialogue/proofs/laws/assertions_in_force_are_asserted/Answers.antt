use Rattle.smt_dialogue.proofs.AssertedLemmas.{asserted_from, asserted_here, asserted_in_force}
use Rattle.smt_dialogue.proofs.AssertedLemmas.{asserted_stays}
use Rattle.smt_dialogue.proofs.laws.assertions_in_force_are_asserted.Goals as goal

pub returns-clause-found : goal.returns-clause-found
returns-clause-found c = λ profile. asserted_from profile c.assertions_in_force_stand.ensures.found

pub returns-clause-stand : goal.returns-clause-stand
returns-clause-stand c = λ profile. asserted_in_force profile c.assertions_in_force_stand.ensures.stands

pub returns-clause-here : goal.returns-clause-here
returns-clause-here c = asserted_here

pub returns-clause-stays : goal.returns-clause-stays
returns-clause-stays c = asserted_stays
