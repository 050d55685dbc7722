-- What a contract sees of the variables that a term sees.
use Rattle.std.specs.Prelude.{ℕ, List, map}
use Rattle.smt_forms.specs.declared.variable.Variable.{Variable}

abbrev pub scope_view : {V : Type 0} → List (Variable V) → List (List ℕ × V)
scope_view variables = map (λ v. (v.name.now, v.value)) variables
