-- Entries that are definitions, and the first of them.
use Rattle.std.specs.Prelude.{ℕ, List, [], ◌∷◌, take}
use Rattle.smt_terms.specs.Signature.{Entry, Origin, Declared, Defined, Signature}

-- the first so many definitions
abbrev pub first : ℕ → Signature → Signature
first n definitions = record definitions { entries = take n definitions.entries }

-- each is a definition
abbrev pub IsDefined : Origin → Type 0
IsDefined (Defined parameters body) = Unit {0}
IsDefined (Declared command) = ⊥

abbrev pub AllDefined : List Entry → Type 0
AllDefined [] = Unit {0}
AllDefined (e ∷ es) = IsDefined e.origin × AllDefined es
