-- The sorts that trees name, one more at a time.
use Rattle.std.proofs.Common.{List, ◌++◌}
use Rattle.std.proofs.Common.{Result, Ok}
use Rattle.smt_trees.specs.Sexp.{Sexps}
use Rattle.smt_theory.specs.Words.{result_and_then}
use Rattle.smt_theory.specs.Sort.{Sort}
use Rattle.smt_terms.specs.SortTrees.{SortNames, sorts_named}
use Rattle.smt_faults.specs.declared.term_flaw.TermFlaw.{TermFlaw}

-- the sorts that trees name behind earlier ones
abbrev pub named_behind : SortNames → List Sort → Sexps → Result (List Sort) TermFlaw
named_behind names before left = result_and_then (sorts_named names left) (λ ss. Ok (before ++ ss))
