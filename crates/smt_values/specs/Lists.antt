-- Words on the arguments of operators.
use Rattle.std.specs.Prelude.{List, [], ◌∷◌, Bool, true, not, ◌&&◌, Option, Some, None, option_map}
use Rattle.std.specs.Prelude.{option_and_then}
use Rattle.std.specs.List.{list_any}

-- all of them, where each is known
abbrev pub all_known : {A : Type 0} → List (Option A) → Option (List A)
all_known [] = Some []
all_known (None ∷ xs) = None
all_known (Some x ∷ xs) = option_map (λ ys. x ∷ ys) (all_known xs)

-- the argument, where there is one
abbrev pub only_one : {A : Type 0} → List A → Option A
only_one (a ∷ []) = Some a
only_one _ = None

-- whether the relation holds of each and the one after it
abbrev pub are_chained : {A : Type 0} → (A → A → Bool) → List A → Bool
are_chained relation [] = true
are_chained relation (a ∷ []) = true
are_chained relation (a ∷ b ∷ rest) = relation a b && are_chained relation (b ∷ rest)

-- whether no two are the same
abbrev pub are_distinct : {A : Type 0} → (A → A → Bool) → List A → Bool
are_distinct same [] = true
are_distinct same (a ∷ rest) = not (list_any (same a) rest) && are_distinct same rest

-- what an operation that may have no answer gives, applied from the left
abbrev pub steps_from : {A : Type 0} → (A → A → Option A) → A → List A → Option A
steps_from combine a [] = Some a
steps_from combine a (b ∷ rest) = option_and_then (λ c. steps_from combine c rest) (combine a b)
