use Rattle.smt_terms.proofs.BlameLemmas.{is_taken_as, told_over}
use Rattle.smt_terms.proofs.library.Library.blame_of_declaration.Goals as goal

pub returns-clause-told : goal.returns-clause-told
returns-clause-told c = λ s stands.
    told_over c.args.self.now s c.blame_in_declaration.result stands c.blame_in_declaration.ensures.told

pub returns-clause-taken : goal.returns-clause-taken
returns-clause-taken c = λ s stands h.
    c.blame_in_declaration.ensures.taken (is_taken_as c.args.self.now s c.args.name.now stands h)
