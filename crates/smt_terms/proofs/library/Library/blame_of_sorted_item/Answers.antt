use Rattle.smt_terms.proofs.BlameLemmas.{left_told}
use Rattle.smt_terms.proofs.library.Library.blame_of_sorted_item.Goals as goal

pub returns-in-Err : goal.returns-in-Err
returns-in-Err c =
    left_told c.args.script.now c.args.self.now c.blame_of_sort.result c.blame_of_sort.ensures
