use Rattle.rows.proofs.DeclaredLemmas.{stands_labelled}
use Rattle.rows.proofs.trees.assert.Goals as goal

pub returns : goal.returns
returns g c =
    stands_labelled c.assert.result _ _ _ c.assert.ensures.asserted c.assert.ensures.unchanged
