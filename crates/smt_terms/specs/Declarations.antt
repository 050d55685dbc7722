-- SMT-LIB 2.6, section 4.2.3: declarations of names by the sorts of their parameters and of their result,
-- declarations of sorts, and abbreviations of sorts. The order of the faults is this project's rule.
use Rattle.std.specs.Prelude.{ℕ, List, true, false, Result, Ok, Err}
use Rattle.smt_trees.specs.Sexp.{Sexp, Sexps}
use Rattle.smt_theory.specs.Words.{result_and_then}
use Rattle.smt_theory.specs.Sort.{Free}
use Rattle.smt_terms.specs.Freshness.{NewAbbreviation, NewSymbol, where_fresh}
use Rattle.smt_terms.specs.Signature.{Entry, Declared, Rank, Signature, names_of, sort_names_of}
use Rattle.smt_terms.specs.SortTrees.{SortNames, sort_named, sorts_named}
use Rattle.smt_terms.specs.declared.named_sort.NamedSort.{NamedSort}
use Rattle.smt_faults.specs.declared.term_flaw.TermFlaw.{TermFlaw}

-- the rank that trees name: the sorts of parameters, and the sort of a result
abbrev pub rank_named : SortNames → Sexps → Sexp → Result Rank TermFlaw
rank_named sorts parameters tree =
    result_and_then (sorts_named sorts parameters)
    (λ ps. result_and_then (sort_named sorts tree) (λ s. Ok (record { parameters = ps; sort = s })))

-- a name declared by the command, of this rank
abbrev pub declaration : List ℕ → ℕ → Rank → Entry
declaration x command rank =
    record { name = x; parameters = rank.parameters; sort = rank.sort; origin = Declared command }

-- what the declaration of a name with parameters and a result of these sorts brings, or its first fault
abbrev pub declared_in : Signature → ℕ → List ℕ → Sexps → Sexp → Result Entry TermFlaw
declared_in s command x parameters tree =
    where_fresh (NewSymbol (names_of s)) x Err
    (result_and_then (rank_named (sort_names_of s) parameters tree)
    (λ rank. Ok (declaration x command rank)))

-- what a new abbreviation stands for, or its first fault: the sort that the tree names now
abbrev pub abbreviated_in : SortNames → List ℕ → Sexp → Result NamedSort TermFlaw
abbreviated_in names x tree =
    where_fresh (NewAbbreviation names) x Err
    (result_and_then (sort_named names tree) (λ s. Ok (record { sort = s; is_declared = false })))

-- what a new name of a sort stands for that a command declares, or its first fault: a sort of its own, by the number
-- of the command
abbrev pub sort_declared_in : SortNames → ℕ → List ℕ → Result NamedSort TermFlaw
sort_declared_in names command x =
    where_fresh (NewAbbreviation names) x Err (Ok (record { sort = Free command; is_declared = true }))
