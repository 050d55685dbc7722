use Rattle.std.proofs.Common.{[], Ok, Some, ap, sym, subst, ◌∙◌}
use Rattle.smt_trees.specs.View.{sexp_of}
use Rattle.smt_terms.specs.Checking.{sort_in}
use Rattle.smt_terms.specs.Blame.{IsToldWhole}
use Rattle.smt_terms.specs.Internal.LabelsView.{labels_view}
use Rattle.smt_terms.specs.Internal.LibraryView.{names_for, names_of_library}
use Rattle.smt_theory.specs.Sort.{Boolean as Bool}
use Rattle.smt_terms.proofs.BlameLemmas.{first_none, first_whole, whole_as}
use Rattle.smt_terms.proofs.library.Library.blame_from.Goals as goal

pub returns-in-Ok-None-clause-first : goal.returns-in-Ok-None-clause-first
returns-in-Ok-None-clause-first c =
    let names = names_of_library c.args.self.now in
    let term = sexp_of c.args.first in
    first_none names term c.blame_among.result
    (subst (λ r. IsToldWhole Bool (sort_in names [] term) r) (c.in-Ok-None.is ∙ ap Ok c.in-Ok-None.field-0-is)
    (whole_as Bool _ (sort_in names [] term) c.blame_of_term.result
    (ap (λ labels. sort_in (names_for c.args.self.now labels) [] term) (sym c.refused.ensures.view))
    (subst (λ sort. IsToldWhole sort (sort_in (names_for c.args.self.now (labels_view c.refused.result)) [] term) c.blame_of_term.result)
    c.bool.ensures c.blame_of_term.ensures.whole)))

pub returns-in-Ok-Some-clause-first : goal.returns-in-Ok-Some-clause-first
returns-in-Ok-Some-clause-first c =
    let names = names_of_library c.args.self.now in
    let term = sexp_of c.args.first in
    first_whole names term (Ok (Some c.in-Ok-Some.blame))
    (subst (λ r. IsToldWhole Bool (sort_in names [] term) r) (c.in-Ok-Some.is ∙ ap Ok c.in-Ok-Some.field-0-is)
    (whole_as Bool _ (sort_in names [] term) c.blame_of_term.result
    (ap (λ labels. sort_in (names_for c.args.self.now labels) [] term) (sym c.refused.ensures.view))
    (subst (λ sort. IsToldWhole sort (sort_in (names_for c.args.self.now (labels_view c.refused.result)) [] term) c.blame_of_term.result)
    c.bool.ensures c.blame_of_term.ensures.whole)))
