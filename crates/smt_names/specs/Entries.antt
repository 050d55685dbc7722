-- Names with what each stands for.
use Rattle.std.specs.Prelude.{ℕ, List, [], ◌∷◌, bytes_eq, if◌then◌else◌}
use Rattle.smt_names.specs.declared.map.NameMap.{NameMap}

-- each name with the value at its place
abbrev pub paired : {V : Type 0} → List (List ℕ) → List V → List (List ℕ × V)
paired (x ∷ xs) (v ∷ vs) = (x, v) ∷ paired xs vs
paired _ _ = []

unfoldable pub entries_of : {V : Type 0} → NameMap V → List (List ℕ × V)
entries_of map = paired map.names map.values.items

-- the entries, where a name stands for this value: in the place of its entry, or else behind all
abbrev pub with_value : {V : Type 0} → List (List ℕ × V) → List ℕ → V → List (List ℕ × V)
with_value [] name value = (name, value) ∷ []
with_value (e ∷ es) name value =
    if bytes_eq name e.0 then (e.0, value) ∷ es else e ∷ with_value es name value
