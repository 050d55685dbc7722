use Rattle.smt_theory.specs.Ranks.{shape_of}
use Rattle.smt_theory.proofs.MisfitLemmas.{exact}
use Rattle.smt_theory.proofs.laws.flaws_of_ranks_are_told.Goals as goal

pub returns : goal.returns
returns c = λ op. exact (shape_of op)
