use Rattle.smt_eval.proofs.LetLemmas.{let_exchanged, let_put}
use Rattle.smt_eval.specs.Meaning.{meaning_in}
use Rattle.smt_eval.proofs.laws.terms.lets_are_put_in_place.Goals as goal

pub returns-clause-closed : goal.returns-clause-closed
returns-clause-closed c = λ z definitions r bs body closed. let_put (meaning_in z definitions) bs r body closed

pub returns-clause-parallel : goal.returns-clause-parallel
returns-clause-parallel c = λ z definitions r x y s t bs body differ.
    let_exchanged (meaning_in z definitions) r x y s t bs body differ
