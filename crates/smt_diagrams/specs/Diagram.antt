-- Functions from the numbers of n bits to numbers, as reduced decision diagrams: the lowest bit of a number leads to
-- one of the two halves of a fork, the bits above it on from there.
use Rattle.std.specs.Prelude.{◌≡◌, ◌≢◌, ◌<◌, ◌^◌, ◌/◌, ◌%◌, ◌==◌, ◌++◌, ℕ, zero, suc, Bool, false, List, length}
use Rattle.std.specs.Prelude.{if◌then◌else◌}
use Rattle.std.specs.Prelude.{slice_index_or}
use Rattle.smt_diagrams.specs.declared.diagram.Diagram.{Diagram}
use Rattle.smt_diagrams.specs.declared.diagram.Diagram.TheVariants.{Leaf, Branch}
use Rattle.std.specs.List.{All, Contains}
use Rattle.smt_diagrams.specs.declared.diagram.Difference.{Difference}
use Rattle.smt_diagrams.specs.declared.diagram.Fork.{Fork}

-- where there is no fork
abbrev pub no_fork : Fork
no_fork = record { even = Leaf 0; odd = Leaf 0 }

-- both halves: of a leaf they are the leaf
abbrev pub halves : List Fork → Diagram → Fork
halves forks (Leaf e) = record { even = Leaf e; odd = Leaf e }
halves forks (Branch k) = slice_index_or forks k (no_fork)

abbrev pub element_of_leaf : Diagram → ℕ
element_of_leaf (Leaf e) = e
element_of_leaf (Branch k) = 0

-- what a diagram over the numbers of n bits has at a number
abbrev pub element_at : List Fork → ℕ → Diagram → ℕ → ℕ
element_at forks zero d i = element_of_leaf d
element_at forks (suc n) d i =
    if i % 2 == 0 then element_at forks n (halves forks d).even (i / 2)
    else element_at forks n (halves forks d).odd (i / 2)

-- whether both are leaves with one element
abbrev pub is_one_leaf : Diagram → Diagram → Bool
is_one_leaf (Leaf e) (Leaf f) = e == f
is_one_leaf _ _ = false

-- a diagram over the numbers of n bits: each fork is there, and none has one leaf twice
abbrev pub IsDiagram : List Fork → ℕ → Diagram → Type 0
IsDiagram forks n (Leaf e) = Unit {0}
IsDiagram forks zero (Branch k) = ⊥
IsDiagram forks (suc n) (Branch k) =
    (k < length forks)
    × (is_one_leaf (halves forks (Branch k)).even (halves forks (Branch k)).odd ≡ false)
    × IsDiagram forks n (halves forks (Branch k)).even
    × IsDiagram forks n (halves forks (Branch k)).odd

-- no fork stands at two places
abbrev pub AreDistinct : List Fork → Type 0
AreDistinct forks =
    (j k : ℕ) → j < length forks → k < length forks
    → slice_index_or forks j (no_fork)
    ≡ slice_index_or forks k (no_fork)
    → j ≡ k

-- two functions of n bits have the same at each number
abbrev pub AreAlike : ℕ → (ℕ → ℕ) → (ℕ → ℕ) → Type 0
AreAlike n f g = (i : ℕ) → i < 2 ^ n → f i ≡ g i

-- the second has this element at this number, and at each other what the first has
abbrev pub IsStored : ℕ → (ℕ → ℕ) → ℕ → ℕ → (ℕ → ℕ) → Type 0
IsStored n old number element new = AreAlike n new (λ i. if i == number then element else old i)

-- the places of the first stay
abbrev pub Grows : List Fork → List Fork → Type 0
Grows old new = (more : List Fork) × (new ≡ old ++ more)

-- the diagram has these halves
abbrev pub IsJoined : List Fork → Diagram → Diagram → Diagram → Type 0
IsJoined forks even odd d =
    (halves forks d ≡ record { even = even; odd = odd })
    × ((n : ℕ) → IsDiagram forks n even → IsDiagram forks n odd → IsDiagram forks (suc n) d)

-- the second diagram has this element at this number, and elsewhere what the first has among the older forks
abbrev pub IsWritten : List Fork → List Fork → ℕ → Diagram → ℕ → ℕ → Diagram → Type 0
IsWritten old new n d number element made =
    IsDiagram new n made × IsStored n (element_at old n d) number element (element_at new n made)

-- at some number the first has x and the second has y, another
abbrev pub IsDifference : ℕ → (ℕ → ℕ) → (ℕ → ℕ) → ℕ → ℕ → Type 0
IsDifference n f g x y = (i : ℕ) × (i < 2 ^ n) × (f i ≡ x) × (g i ≡ y) × (x ≢ y)

-- these are the differences of two functions
abbrev pub AreDifferences : ℕ → (ℕ → ℕ) → (ℕ → ℕ) → List Difference → Type 0
AreDifferences n f g found =
    All (λ d. IsDifference n f g d.first d.second) found
    × ((x y : ℕ) → IsDifference n f g x y → Contains found (record { first = x; second = y }))

-- behind what was there are the differences of two diagrams
abbrev pub AreAdded : List Fork → ℕ → Diagram → Diagram → List Difference → List Difference → Type 0
AreAdded forks n a b old new =
    (more : List Difference) × (new ≡ old ++ more) × AreDifferences n (element_at forks n a) (element_at forks n b) more
