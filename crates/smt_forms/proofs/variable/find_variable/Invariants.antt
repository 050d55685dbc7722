use Rattle.std.proofs.Common.{◌≡◌, drop}
use Rattle.smt_theory.specs.Words.{look_up}
use Rattle.smt_forms.specs.ScopeView.{scope_view}
use Rattle.smt_forms.proofs.variable.find_variable.Given as goal

abbrev pub invariant-loop-variable : goal.invariant-loop-variable
invariant-loop-variable g l =
    look_up (scope_view l.scope) l.name ≡ look_up (scope_view (drop l.variable-index l.scope)) l.name
