-- What a sort is, as code matches on it.
use Rattle.smt_theory.specs.Sort.{Sort, Boolean, Int, Real, Bits, Free, Array}
use Rattle.smt_theory.specs.declared.sort_kind.SortKind.{SortKind}
use Rattle.smt_theory.specs.declared.sort_kind.SortKind.TheVariants as kinds

-- the sort of a kind
abbrev pub sort_of_kind : SortKind → Sort
sort_of_kind kinds.Bool = Boolean
sort_of_kind kinds.Int = Int
sort_of_kind kinds.Real = Real
sort_of_kind (kinds.Bits width) = Bits width
sort_of_kind (kinds.Free command) = Free command
sort_of_kind (kinds.Array index element) = Array index element
