use Rattle.std.proofs.Common.{[], ap, subst, sym, ◌∙◌}
use Rattle.smt_terms.specs.Blame.{IsToldWhole}
use Rattle.smt_terms.specs.Internal.LabelsView.{labels_view}
use Rattle.smt_trees.specs.View.{sexp_of}
use Rattle.smt_terms.specs.Checking.{sort_in}
use Rattle.smt_terms.specs.Internal.LibraryView.{names_for}
use Rattle.smt_terms.specs.Signature.{in_assertion, names_of}
use Rattle.smt_theory.specs.Sort.{Boolean as Bool}
use Rattle.smt_terms.proofs.BlameLemmas.{told_by, whole_as}
use Rattle.smt_terms.proofs.ItemLemmas.{names_as}
use Rattle.smt_terms.proofs.library.Library.blame_of_assertion.Goals as goal

pub returns-clause-told : goal.returns-clause-told
returns-clause-told c = λ s stands.
    told_by c.args.self.now s c.blame_of_term.result stands c.blame_of_term.ensures.told

pub returns-clause-whole : goal.returns-clause-whole
returns-clause-whole c = λ s stands.
    let term = sexp_of c.args.term in
    whole_as Bool _ (sort_in (in_assertion (names_of s)) [] term) c.blame_of_term.result
    (ap (λ names. sort_in (in_assertion names) [] term) (sym (names_as c.args.self.now s stands))
    ∙ ap (λ labels. sort_in (names_for c.args.self.now labels) [] term) (sym c.new.ensures.view))
    (subst (λ sort. IsToldWhole sort (sort_in (names_for c.args.self.now (labels_view c.new.result)) [] term) c.blame_of_term.result)
    c.bool.ensures c.blame_of_term.ensures.whole)
