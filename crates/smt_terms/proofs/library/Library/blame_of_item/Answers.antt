use Rattle.smt_terms.proofs.BlameLemmas.{told_of}
use Rattle.smt_terms.proofs.library.Library.blame_of_item.Goals as goal

pub returns-clause-told : goal.returns-clause-told
returns-clause-told c = λ s m stands reads.
    told_of c.args.script.now c.args.self.now s m c.blame_in_item.result stands reads c.blame_in_item.ensures.told
