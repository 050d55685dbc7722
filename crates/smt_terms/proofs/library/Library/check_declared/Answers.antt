use Rattle.std.proofs.Common.{◌≡◌, Ok, None, MatchResult, true, false, inr, subst, sym, ◌∙◌}
use Rattle.smt_trees.specs.View.{sexp_of}
use Rattle.smt_faults.specs.Outcome.{Tells}
use Rattle.smt_terms.proofs.RepeatedLemmas.{told_as}
use Rattle.smt_terms.proofs.library.Library.check_declared.Goals as goal

pub returns-then-has_entry : goal.returns-then-has_entry
returns-then-has_entry c = λ s stands wide.
    inr (c.in-Some.ensures s
    ∙ told_as c.args.self.now s c.in-Some.name.now (sexp_of c.in-Some.tree) c.in-Some-element_sort.element
    c.has_entry.result true stands c.in-Some-element_sort.ensures c.has_entry.ensures c.if-has_entry.true)

pub returns : goal.returns
returns c = λ s stands wide.
    subst (λ r. MatchResult c.check_element_sort.result (λ _. r ≡ Ok None) (Tells r))
    (sym (c.in-Some.ensures s
    ∙ told_as c.args.self.now s c.in-Some.name.now (sexp_of c.in-Some.tree) c.in-Some-element_sort.element
    c.has_entry.result false stands c.in-Some-element_sort.ensures c.has_entry.ensures c.if-has_entry.false))
    c.check_element_sort.ensures
