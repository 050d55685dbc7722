use Rattle.std.proofs.Common.{ap, sym}
use Rattle.smt_forms.specs.ScopeView.{scope_view}
use Rattle.smt_trees.specs.View.{sexp_of}
use Rattle.smt_terms.specs.Checking.{sort_in}
use Rattle.smt_terms.specs.Internal.LabelsView.{labels_view}
use Rattle.smt_terms.specs.Internal.LibraryView.{names_for}
use Rattle.smt_terms.proofs.BlameLemmas.{whole_as}
use Rattle.smt_terms.proofs.library.Library.blame_of_term.Goals as goal

pub returns-clause-whole : goal.returns-clause-whole
returns-clause-whole c =
    whole_as c.args.wanted _ _ c.blame_over.result
    (ap (λ ls. sort_in (names_for c.args.self.now (labels_view ls)) (scope_view c.args.variables.now)
    (sexp_of c.args.term)) (sym c.draft-draft.ensures.labels)) c.blame_over.ensures.whole
