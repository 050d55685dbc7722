-- SMT-LIB 2.6, sections 3.6.5 and 4.2.4: the terms that are asserted, and the labels that they bring, which
-- stand for their terms from the next command on.
use Rattle.std.specs.Prelude.{ℕ, List, [], ◌∷◌, ◌++◌, Result, Ok, Err, if◌then◌else◌}
use Rattle.smt_trees.specs.Sexp.{Sexp}
use Rattle.smt_theory.specs.Sort.{is_same_sort}
use Rattle.smt_theory.specs.Words.{result_and_then}
use Rattle.smt_theory.specs.Sort.{Sort}
use Rattle.smt_theory.specs.Sort.{Boolean}
use Rattle.smt_terms.specs.Checking.{sort_in}
use Rattle.smt_terms.specs.Definitions.{definition}
use Rattle.smt_forms.specs.Labels.{labels_in}
use Rattle.smt_terms.specs.Signature.{Entry, Names, in_assertion, unlabelled}
use Rattle.smt_faults.specs.declared.term_flaw.TermFlaw.{TermFlaw}
use Rattle.smt_faults.specs.declared.term_flaw.TermFlaw.TheVariants.{IllSorted}

-- a label of a term of this sort: a constant that the term defines
abbrev pub label_or_none : List ℕ × Sexp → Result Sort TermFlaw → List Entry
label_or_none label (Ok sort) = definition label.0 [] sort label.1 ∷ []
label_or_none label (Err fault) = []

-- what labels bring, each with its term
abbrev pub label_entries : Names → List (List ℕ × Sexp) → List Entry
label_entries names [] = []
label_entries names (label ∷ labels) =
    label_or_none label (sort_in (unlabelled names) [] label.1) ++ label_entries names labels

-- the names that an asserted term brings, which are its labels; or its first fault: the term has to be a
-- formula
abbrev pub asserted_in : Names → Sexp → Result (List Entry) TermFlaw
asserted_in names term =
    result_and_then (sort_in (in_assertion names) [] term)
    (λ sort. if is_same_sort sort Boolean then Ok (label_entries names (labels_in term))
    else Err IllSorted)
