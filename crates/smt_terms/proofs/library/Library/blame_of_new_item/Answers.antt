use Rattle.smt_terms.proofs.BlameLemmas.{left_by}
use Rattle.smt_terms.proofs.library.Library.blame_of_new_item.Goals as goal

pub returns : goal.returns
returns c =
    left_by c.args.script.now c.args.self.now c.blame_of_params.result c.blame_of_params.ensures
