-- What a contract sees of the variables in scope, the innermost first.
use Rattle.std.specs.Prelude.{ℕ, List, [], ◌∷◌, ◌++◌}
use Rattle.smt_forms.specs.declared.scope.Scope.{Scope}

-- names with what stands for each, the last first
abbrev pub innermost_first : {V : Type 0} → List (List ℕ) → List V → List (List ℕ × V)
innermost_first (x ∷ xs) (v ∷ vs) = innermost_first xs vs ++ (x, v) ∷ []
innermost_first _ _ = []

unfoldable pub scope_of : {V : Type 0} → Scope V → List (List ℕ × V)
scope_of scope = innermost_first scope.places scope.values.items
