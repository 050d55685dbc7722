use Rattle.smt_forms.specs.ScopeOf.{scope_of}
use Rattle.smt_forms.proofs.ScopeLemmas.{first-none}
use Rattle.smt_forms.proofs.scope.Scope.new.Goals as goal

pub returns : goal.returns
unfolding scope_of
returns g c = first-none c.new.result c.new-2.result.items c.new.ensures
