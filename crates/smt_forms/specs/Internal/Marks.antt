-- Marks of names, by which most names are told that are not among some. No part of any claim.
use Rattle.std.specs.Prelude.{◌≡◌, ℕ, ◌+◌, ◌-◌, ◌*◌, ◌/◌, ◌%◌, ◌^◌, ◌==◌, List, [], ◌∷◌, Bool, true, get_or, length}

-- the mark of a name, by its first byte, its last one and its length
abbrev pub mark_of : List ℕ → ℕ
mark_of name = (get_or name 0 0 * 5 + get_or name (length name - 1) 0 * 3 + length name % 64) % 64

-- whether a set of marks, each a bit, has that of a name
abbrev pub is_marked : ℕ → List ℕ → Bool
is_marked marks name = marks / 2 ^ mark_of name % 2 == 1

abbrev pub AreMarked : ℕ → List (List ℕ) → Type 0
AreMarked marks [] = Unit {0}
AreMarked marks (name ∷ names) = (is_marked marks name ≡ true) × AreMarked marks names
