-- The numbers of elements as they are stored: one more than the number, so that there is one for no element.
use Rattle.std.specs.Prelude.{ℕ, zero, suc, List, [], ◌∷◌}

abbrev pub listed : ℕ → List ℕ
listed zero = []
listed (suc number) = number ∷ []

abbrev pub code_of : List ℕ → ℕ
code_of [] = 0
code_of (number ∷ rest) = suc number
