use Rattle.std.proofs.Common.{arith}
use Rattle.smt_forms.specs.ScopeOf.{scope_of}
use Rattle.smt_forms.proofs.ScopeLemmas.{first-length}
use Rattle.smt_forms.proofs.scope.Scope.len.Goals as goal

pub returns : goal.returns
unfolding scope_of
returns g c =
    omega (arith, first-length c.args.self.now.places c.args.self.now.values.items c.args.self.now.paired)
