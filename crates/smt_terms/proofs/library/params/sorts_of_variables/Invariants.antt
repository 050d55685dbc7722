use Rattle.std.proofs.Common.{◌≡◌, ◌++◌, drop, map}
use Rattle.smt_forms.specs.ScopeView.{scope_view}
use Rattle.smt_terms.proofs.library.params.sorts_of_variables.Given as goal

abbrev pub invariant-loop-variable : goal.invariant-loop-variable
invariant-loop-variable l = map (λ p. p.1) (scope_view l.variables)
    ≡ l.sorts.items ++ map (λ p. p.1) (scope_view (drop l.variable-index l.variables))
