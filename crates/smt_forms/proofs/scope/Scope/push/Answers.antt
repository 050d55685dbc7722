use Rattle.std.proofs.Common.{refl}
use Rattle.smt_forms.specs.ScopeOf.{scope_of}
use Rattle.smt_forms.proofs.ScopeLemmas.{first-pushed, first-same, on_err}
use Rattle.smt_forms.proofs.scope.Scope.push.Goals as goal

pub returns-in_err-reserve-clause-unchanged : goal.returns-in_err-reserve-clause-unchanged
unfolding scope_of
returns-in_err-reserve-clause-unchanged g c =
    on_err c.from_residual.result
    (first-same c.args.self.now.places c.args.self.now.places c.args.self.now.values.items
    c.reserve.new.self.items refl c.reserve.ensures.items)

pub returns-in_err-push-clause-unchanged : goal.returns-in_err-push-clause-unchanged
unfolding scope_of
returns-in_err-push-clause-unchanged g c =
    on_err c.from_residual-in_err-push.result
    (first-same c.args.self.now.places c.push.new.self c.args.self.now.values.items
    c.reserve.new.self.items c.in_err-push.ensures.unchanged c.reserve.ensures.items)

pub returns-clause-pushed : goal.returns-clause-pushed
unfolding scope_of
returns-clause-pushed g c =
    first-pushed c.args.self.now.places c.push.new.self c.args.self.now.values.items
    c.reserve.new.self.items c.push-2.new.self.items c.args.name.now c.args.value
    c.args.self.now.paired c.in_ok-push.ensures.pushed c.reserve.ensures.items
    c.in_ok-push-2.ensures.items
