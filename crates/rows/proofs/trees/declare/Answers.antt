use Rattle.rows.proofs.DeclaredLemmas.{stands}
use Rattle.rows.proofs.trees.declare.Goals as goal

pub returns : goal.returns
returns g c =
    stands c.declare-answer.result _ _ _ c.declare-answer.ensures.declared c.declare-answer.ensures.unchanged
