use Rattle.smt_diagrams.proofs.DiagramLemmas.{one_diagram}
use Rattle.smt_diagrams.proofs.laws.functions_have_one_diagram.Goals as goal

pub returns : goal.returns
returns c forks n a b = one_diagram n forks a b
