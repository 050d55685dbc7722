use Rattle.smt_diagrams.proofs.DiagramLemmas.{diagram-grown, element-grown}
use Rattle.smt_diagrams.proofs.laws.diagrams_stay.Goals as goal

pub returns : goal.returns
returns c forks more n d h = (diagram-grown n forks more d h, element-grown n forks more d h)
