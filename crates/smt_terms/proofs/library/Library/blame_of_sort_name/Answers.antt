use Rattle.smt_terms.proofs.BlameLemmas.{is_sort_taken_as, told_over}
use Rattle.smt_terms.proofs.library.Library.blame_of_sort_name.Goals as goal

pub returns-clause-told : goal.returns-clause-told
returns-clause-told c = λ s stands.
    told_over c.args.self.now s c.blame_in_sort_name.result stands c.blame_in_sort_name.ensures.told

pub returns-clause-taken : goal.returns-clause-taken
returns-clause-taken c = λ s stands h.
    c.blame_in_sort_name.ensures.taken (is_sort_taken_as c.args.self.now s c.args.name.now stands h)
