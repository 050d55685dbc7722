use Rattle.smt_theory.proofs.SortLemmas.{same_codes}
use Rattle.smt_theory.proofs.sort.Sort.is_same.Goals as goal

pub returns : goal.returns
returns c =
    same_codes c.args.self c.args.other c.self.inside.code c.other.inside.code c.self.view_is c.other.view_is
    c.self.invariant.0 c.other.invariant.0
