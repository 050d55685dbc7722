use Rattle.smt_trees.specs.Sexp.{Items}
use Rattle.smt_trees.specs.View.{sexps_of}
use Rattle.smt_terms.specs.Internal.Frames.{begun}
use Rattle.smt_terms.proofs.BlameLemmas.{walked}
use Rattle.smt_terms.proofs.library.Library.blame_of_walk.Goals as goal

pub returns-clause-whole : goal.returns-clause-whole
returns-clause-whole c =
    c.blame_of_checked.ensures.whole _
    (walked c.args.self.now (begun (Items (sexps_of c.args.whole)) 0 c.args.draft.now) c.walk-checked.new.draft c.walk-checked.result
    c.walk-checked.ensures.done c.walk-checked.ensures.fault)
