use Rattle.std.proofs.Common.{◌≡◌, ◌++◌, drop, map}
use Rattle.smt_forms.specs.ScopeView.{scope_view}
use Rattle.smt_terms.proofs.library.params.named_parameters.Given as goal

abbrev pub invariant-loop-variable : goal.invariant-loop-variable
invariant-loop-variable l = scope_view l.variables
    ≡ map (λ p. (p.0.items, p.1)) l.params.items ++ scope_view (drop l.variable-index l.variables)
