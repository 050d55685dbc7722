use Rattle.smt_forms.specs.ScopeOf.{scope_of}
use Rattle.smt_forms.proofs.ScopeLemmas.{first-cut}
use Rattle.smt_forms.proofs.scope.Scope.cut.Goals as goal

pub returns : goal.returns
unfolding scope_of
returns g c =
    first-cut c.args.len c.args.self.now.places c.cut.new.self c.args.self.now.values.items
    c.truncate.new.self.items c.args.self.now.paired c.cut.ensures c.truncate.ensures.items
