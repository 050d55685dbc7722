-- The sort that a tree names, read part by part.
use Rattle.std.proofs.Common.{◌≡◌, List, [], ◌∷◌, ◌++◌}
use Rattle.std.proofs.Common.{Option, Some, None, Result, Ok, Err, refl, ap, sym, ◌∙◌, subst, inl, inr}
use Rattle.smt_trees.specs.Sexp.{Sexp}
use Rattle.smt_trees.specs.View.{sexp_of}
use Rattle.smt_theory.specs.Sort.{Sort}
use Rattle.smt_faults.specs.Outcome.{Tells, flaw_told}
use Rattle.smt_faults.specs.declared.term_fault.TermFault.{TermFault}
use Rattle.smt_faults.specs.declared.term_flaw.TermFlaw.{TermFlaw}
use Rattle.smt_terms.specs.SortTrees.{SortNames, array_of, sort_named}
use Rattle.smt_terms.specs.Internal.ReadSorts.{ComesTo, IsBegun, all_completed, array_by, completed}
use Rattle.smt_terms.specs.Internal.ReadSorts.{completed_by}
use Rattle.smt_terms.specs.declared.sorts.Begun.{Begun}
use Rattle.smt_terms.specs.declared.sorts.Step.{Step}
use Rattle.smt_terms.specs.declared.sorts.Waiting.{Waiting}

-- what is begun of the same tree
pub begun_as : (names : SortNames) (t u : Sexp) (b : Begun) → t ≡ u → IsBegun names u b → IsBegun names t b
begun_as names t u b same h = subst (λ x. IsBegun names x b) (sym same) h

-- ## Sorts that wait

pub completed_err : (names : SortNames) (w : Waiting) (f : TermFlaw) → completed names w (Err f) ≡ Err f
completed_err names w f = by w.index
  where
    by : (o : Option Sort) → completed_by names (sexp_of w.element) o (Err f) ≡ Err f
    by None = refl
    by (Some i) = refl

pub all_err : (names : SortNames) (ws : List Waiting) (f : TermFlaw) → all_completed names ws (Err f) ≡ Err f
all_err names [] f = refl
all_err names (w ∷ ws) f = ap (completed names w) (all_err names ws f) ∙ completed_err names w f

pub all_last : (names : SortNames) (ws : List Waiting) (w : Waiting) (r : Result Sort TermFlaw)
    → all_completed names (ws ++ w ∷ []) r ≡ all_completed names ws (completed names w r)
all_last names [] w r = refl
all_last names (v ∷ ws) w r = ap (completed names v) (all_last names ws w r)

-- a fault of a part is that of the whole
pub told_by_part : (names : SortNames) (whole part : Result Sort TermFlaw) (ws : List Waiting) (fault : TermFault)
    → whole ≡ all_completed names ws part → Tells part fault → Tells whole fault
told_by_part names whole part ws fault is (inl m) = inl m
told_by_part names whole part ws fault is (inr h) =
    inr (is ∙ ap (all_completed names ws) h ∙ all_err names ws (flaw_told fault))

-- the parts of a sort of arrays that is made to wait
pub parts_wait : (names : SortNames) (whole : Result Sort TermFlaw) (old new : List Waiting) (tree index element : Sexp)
    (w : Waiting) → whole ≡ all_completed names old (sort_named names tree)
    → sort_named names tree ≡ array_by (sort_named names index) (sort_named names element) → new ≡ old ++ w ∷ []
    → completed names w (sort_named names index) ≡ array_by (sort_named names index) (sort_named names element)
    → whole ≡ all_completed names new (sort_named names index)
parts_wait names whole old new tree index element w is begun pushed done =
    is ∙ ap (all_completed names old) (begun ∙ sym done) ∙ sym (all_last names old w (sort_named names index))
    ∙ ap (λ ws. all_completed names ws (sort_named names index)) (sym pushed)

-- one that waits for its elements, and they are of this sort
pub index_known : (names : SortNames) (whole : Result Sort TermFlaw) (ws : List Waiting) (w : Waiting) (i sort : Sort)
    → whole ≡ all_completed names (ws ++ w ∷ []) (Ok sort) → w.index ≡ Some i
    → whole ≡ all_completed names ws (array_of i sort)
index_known names whole ws w i sort is known = is ∙ all_last names ws w (Ok sort)
    ∙ ap (λ o. all_completed names ws (completed_by names (sexp_of w.element) o (Ok sort))) known

-- one that waits for its indexes, and they are of this sort: now it waits for its elements
pub index_read : (names : SortNames) (whole : Result Sort TermFlaw) (ws new : List Waiting) (w v : Waiting)
    (sort : Sort) → whole ≡ all_completed names (ws ++ w ∷ []) (Ok sort) → w.index ≡ None → new ≡ ws ++ v ∷ []
    → completed names v (sort_named names (sexp_of w.element))
    ≡ array_by (Ok sort) (sort_named names (sexp_of w.element))
    → whole ≡ all_completed names new (sort_named names (sexp_of w.element))
index_read names whole ws new w v sort is none pushed done = is ∙ all_last names ws w (Ok sort)
    ∙ ap (λ o. all_completed names ws (completed_by names (sexp_of w.element) o (Ok sort))) none
    ∙ ap (all_completed names ws) (sym done) ∙ sym (all_last names ws v (sort_named names (sexp_of w.element)))
    ∙ ap (λ xs. all_completed names xs (sort_named names (sexp_of w.element))) (sym pushed)

pub comes_as : (names : SortNames) (whole : Result Sort TermFlaw) (ws : List Waiting) (s t : Step)
    → ComesTo names whole ws s → s ≡ t → ComesTo names whole ws t
comes_as names whole ws s t h same = subst (λ x. ComesTo names whole ws x) same h

pub popped : (names : SortNames) (whole : Result Sort TermFlaw) (ws vs : List Waiting) (s : Step)
    → ComesTo names whole ws s → ws ≡ vs → ComesTo names whole vs s
popped names whole ws vs s h same = subst (λ xs. ComesTo names whole xs s) same h
