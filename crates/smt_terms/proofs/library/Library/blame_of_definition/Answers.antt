use Rattle.smt_terms.proofs.BlameLemmas.{is_taken_as, told_by}
use Rattle.smt_terms.proofs.library.Library.blame_of_definition.Goals as goal

pub returns-clause-told : goal.returns-clause-told
returns-clause-told c = λ s stands.
    told_by c.args.self.now s c.blame_in_definition.result stands c.blame_in_definition.ensures.told

pub returns-clause-taken : goal.returns-clause-taken
returns-clause-taken c = λ s stands h.
    c.blame_in_definition.ensures.taken (is_taken_as c.args.self.now s c.args.name.now stands h)
