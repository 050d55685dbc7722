-- Words on what operators give, for the laws.
use Rattle.std.specs.Prelude.{ℕ}
use Rattle.std.specs.Int.{bit_at}
use Rattle.smt_values.specs.Element.{Element}
use Rattle.smt_values.specs.Operations.{vector_of}

-- the number of the bit vector that an element is
abbrev pub number_of : Element → ℕ
number_of e = (vector_of e).number

-- its bit at a place, of which the lowest is 0
abbrev pub bit_of : Element → ℕ → ℕ
bit_of e k = bit_at (number_of e) k
