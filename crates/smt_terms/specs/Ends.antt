-- How many nodes bodies of definitions need.
use Rattle.std.specs.Prelude.{ℕ, ◌+◌, List, [], ◌∷◌, max}

-- more than the number of each
abbrev pub end_of : List ℕ → ℕ
end_of [] = 0
end_of (j ∷ js) = max (j + 1) (end_of js)

-- for each of these how many it and those before it need, and at least n
abbrev pub ends_from : ℕ → List ℕ → List ℕ
ends_from n [] = []
ends_from n (j ∷ js) = max n (j + 1) ∷ ends_from (max n (j + 1)) js
