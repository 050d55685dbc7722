-- When a table of terms is that of a signature: its names, and the bodies of its definitions, are the
-- signature's. Nothing here knows a value.
use Rattle.std.specs.List.{All}
use Rattle.std.specs.Prelude.{◌≡◌, ℕ, ◌+◌, List, [], ◌∷◌, false, length, map, take}
use Rattle.smt_theory.specs.Operators.{is_plain_operator}
use Rattle.smt_trees.specs.Sexp.{Sexp}
use Rattle.smt_terms.specs.Denotes.{Denotes, Head, Table, slots_from}
use Rattle.smt_terms.specs.Signature.{Entry, Origin, Declared, Defined, Signature, defined_among}
use Rattle.smt_terms.specs.declared.library.Found.{Found}
use Rattle.smt_terms.specs.declared.library.Found.TheVariants as place

-- where an entry stands behind so many that are declared, and so many that are defined
abbrev pub place_behind : ℕ → ℕ → Origin → Found
place_behind declared defined (Declared command) = place.Declared declared
place_behind declared defined (Defined parameters body) = place.Defined defined

-- how many are declared, and how many defined, with one more
abbrev pub with_declared : ℕ → Origin → ℕ
with_declared n (Declared command) = n + 1
with_declared n (Defined parameters body) = n

abbrev pub with_defined : ℕ → Origin → ℕ
with_defined n (Declared command) = n
with_defined n (Defined parameters body) = n + 1

-- the names of entries, where each stands, behind so many that are declared, and so many that are defined,
-- and how many arguments it takes
abbrev pub heads_from : (declared defined : ℕ) → List Entry → List (List ℕ × Head)
heads_from declared defined [] = []
heads_from declared defined (e ∷ es) =
    (e.name, record { place = place_behind declared defined e.origin; arity = length e.parameters })
    ∷ heads_from (with_declared declared e.origin) (with_defined defined e.origin) es

abbrev pub heads_of : List Entry → List (List ℕ × Head)
heads_of entries = heads_from 0 0 entries

-- the names of the entries that are defined, in order
abbrev pub names_of_defined : List Entry → List (List ℕ)
names_of_defined entries = map (λ e. e.name) (defined_among entries)

-- the table in which the first so many names are in force
abbrev pub first_heads : ℕ → Table → Table
first_heads n t = record t { heads = take n t.heads }

-- a node is the body of a definition that takes so many arguments and sees the first n names: its parameters
-- are the first places of a frame
pub record IsBody (t : Table) (n arity : ℕ) (parameters : List (List ℕ)) (body : Sexp) (j : ℕ) : Type 0 where
  pub counted : length parameters ≡ arity
  pub denotes : Denotes (first_heads n t) (slots_from 0 parameters) (length parameters) 0 j body

-- the first of the bodies is that of this origin, if it has one, and the rest is as said
abbrev pub IsNextBody : Table → (n arity : ℕ) → Origin → List ℕ → (List ℕ → Type 0) → Type 0
IsNextBody t n arity (Declared command) bodies rest = rest bodies
IsNextBody t n arity (Defined parameters body) [] rest = ⊥
IsNextBody t n arity (Defined parameters body) (j ∷ js) rest = IsBody t n arity parameters body j × rest js

-- these are the bodies of the definitions among entries that stand behind n others, in order: each sees the
-- names before its own
abbrev pub AreBodies : Table → ℕ → List ℕ → List Entry → Type 0
AreBodies t n bodies [] = bodies ≡ []
AreBodies t n bodies (e ∷ es) =
    IsNextBody t n (length e.parameters) e.origin bodies (λ rest. AreBodies t (n + 1) rest es)

-- the table has the theories, the elements, the names and the definitions of the signature, in which no name is a
-- plain operator's
pub record AreTermsOf (t : Table) (s : Signature) : Type 0 where
  pub theories : t.theories ≡ s.theories
  pub elements : t.elements ≡ s.elements
  pub heads : t.heads ≡ heads_of s.entries
  pub free : All (λ e. is_plain_operator s.theories e.name ≡ false) s.entries
  pub names : t.names ≡ names_of_defined s.entries
  pub bodies : AreBodies t 0 t.bodies s.entries
