use Rattle.std.proofs.Common.{ap}
use Rattle.smt_theory.specs.declared.theories.Theories.{Theories}
use Rattle.smt_terms.proofs.library.Library.is_wide.Goals as goal

pub returns : goal.returns
returns c = λ s stands. ap (λ (t : Theories). t.wide) (c.theories.ensures s stands)
