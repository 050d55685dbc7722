use Rattle.smt_terms.proofs.BlameLemmas.{right_by}
use Rattle.smt_terms.proofs.library.Library.blame_of_ranked_item.Goals as goal

pub returns-in-Ok-None : goal.returns-in-Ok-None
returns-in-Ok-None c =
    right_by c.args.script.now c.args.self.now c.blame_of_term.result c.blame_of_term.ensures.told
