use Rattle.std.proofs.Common.{subst}
use Rattle.smt_trees.specs.View.{sexps_of}
use Rattle.smt_terms.specs.Blame.{IsFirstTold}
use Rattle.smt_terms.proofs.BlameLemmas.{told_by}
use Rattle.smt_terms.proofs.ItemLemmas.{names_as}
use Rattle.smt_terms.proofs.library.Library.blame_of_assumptions.Goals as goal

pub returns-clause-told : goal.returns-clause-told
returns-clause-told c = λ s stands.
    told_by c.args.self.now s c.blame_in_assumptions.result stands c.blame_in_assumptions.ensures.told

pub returns-clause-first : goal.returns-clause-first
returns-clause-first c = λ s stands.
    subst (λ names. IsFirstTold names (sexps_of c.args.terms) c.blame_in_assumptions.result)
    (names_as c.args.self.now s stands) c.blame_in_assumptions.ensures.first
