use Rattle.rows.proofs.DeclaredLemmas.{stands}
use Rattle.rows.proofs.trees.define.Goals as goal

pub returns : goal.returns
returns g c =
    stands c.define-answer.result _ _ _ c.define-answer.ensures.defined c.define-answer.ensures.unchanged
