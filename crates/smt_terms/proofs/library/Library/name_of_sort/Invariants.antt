-- the sort is none of those so far
use Rattle.std.proofs.Common.{◌≡◌, drop}
use Rattle.smt_terms.specs.DeclaredSorts.{name_of_sort}
use Rattle.smt_terms.specs.Internal.LibraryView.{abbreviations_of}
use Rattle.smt_terms.proofs.library.Library.name_of_sort.Given as goal

abbrev pub invariant-loop-place : goal.invariant-loop-place
invariant-loop-place l = name_of_sort (abbreviations_of l.self.sorts) l.sort
    ≡ name_of_sort (drop l.place (abbreviations_of l.self.sorts)) l.sort
