-- How the sort that a tree names is read part by part: sorts of arrays wait for the sorts of their parts.
use Rattle.std.specs.Prelude.{◌≡◌, ◌<◌, ◌+◌, ◌*◌, ℕ, List, [], ◌∷◌, Bool, true, false, Option, Some, None, Result}
use Rattle.std.specs.Prelude.{Ok, sum, map}
use Rattle.smt_theory.specs.Sort.{Sort}
use Rattle.smt_theory.specs.Words.{result_and_then}
use Rattle.smt_faults.specs.declared.term_flaw.TermFlaw.{TermFlaw}
use Rattle.smt_trees.specs.Sexp.{Sexp, Sexps, Nil, Cons, weight}
use Rattle.smt_trees.specs.View.{sexp_of}
use Rattle.smt_terms.specs.SortTrees.{SortNames, array_of, sort_named}
use Rattle.smt_terms.specs.declared.sorts.Begun.{Begun}
use Rattle.smt_terms.specs.declared.sorts.Begun.TheVariants as begun
use Rattle.smt_terms.specs.declared.sorts.Step.{Step}
use Rattle.smt_terms.specs.declared.sorts.Step.TheVariants as step
use Rattle.smt_terms.specs.declared.sorts.Waiting.{Waiting}

abbrev pub are_two : Sexps → Bool
are_two (Cons x (Cons y Nil)) = true
are_two _ = false

-- the sort of arrays, by what its parts name
abbrev pub array_by : (index element : Result Sort TermFlaw) → Result Sort TermFlaw
array_by index element = result_and_then index (λ i. result_and_then element (array_of i))

-- what is found of a tree: what it names, or the trees of the indexes and of the elements of arrays
abbrev pub IsBegun : SortNames → Sexp → Begun → Type 0
IsBegun names tree (begun.Found found) = sort_named names tree ≡ found
IsBegun names tree (begun.Parts index element) =
    (sort_named names tree ≡ array_by (sort_named names (sexp_of index)) (sort_named names (sexp_of element)))
    × (weight (sexp_of index) + weight (sexp_of element) < weight tree)

-- what a sort of arrays is whose part comes to this: the elements where the sort of the indexes is known, or else
-- these
abbrev pub completed_by : SortNames → (element : Sexp) → (index : Option Sort) → Result Sort TermFlaw
    → Result Sort TermFlaw
completed_by names element None part = array_by part (sort_named names element)
completed_by names element (Some index) part = array_by (Ok index) part

abbrev pub completed : SortNames → Waiting → Result Sort TermFlaw → Result Sort TermFlaw
completed names w part = completed_by names (sexp_of w.element) w.index part

-- what the first of the sorts comes to that wait for one another, where the part comes to this for which the last waits
abbrev pub all_completed : SortNames → List Waiting → Result Sort TermFlaw → Result Sort TermFlaw
all_completed names [] part = part
all_completed names (w ∷ ws) part = completed names w (all_completed names ws part)

-- what is known of a part: its tree, or its sort
abbrev pub step_result : SortNames → Step → Result Sort TermFlaw
step_result names (step.Read tree) = sort_named names (sexp_of tree)
step_result names (step.Named sort) = Ok sort

-- what is read so far comes to this
abbrev pub ComesTo : SortNames → Result Sort TermFlaw → List Waiting → Step → Type 0
ComesTo names result waiting step = result ≡ all_completed names waiting (step_result names step)

-- ---- how much is left

abbrev pub work_behind : (element : Sexp) → (index : Option Sort) → ℕ
work_behind element None = 3 * weight element + 2
work_behind element (Some index) = 1

abbrev pub waiting_work : Waiting → ℕ
waiting_work w = work_behind (sexp_of w.element) w.index

abbrev pub step_work : Step → ℕ
step_work (step.Read tree) = 3 * weight (sexp_of tree)
step_work (step.Named sort) = 0

abbrev pub work_left : List Waiting → Step → ℕ
work_left waiting step = sum (map waiting_work waiting) + step_work step
