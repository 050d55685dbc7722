use Rattle.std.proofs.Common.{ap, ◌∙◌}
use Rattle.smt_forms.specs.ScopeView.{scope_view}
use Rattle.smt_trees.specs.Sexp.{Items}
use Rattle.smt_trees.specs.View.{sexp_of, sexps_of}
use Rattle.smt_terms.specs.Checking.{sort_in}
use Rattle.smt_terms.specs.Internal.LabelsView.{labels_view}
use Rattle.smt_terms.specs.Internal.LibraryView.{names_for}
use Rattle.smt_terms.proofs.BlameLemmas.{whole_as}
use Rattle.smt_terms.proofs.WholeTermLemmas.{whole_placed, whole_sort}
use Rattle.smt_terms.proofs.library.Library.blame_over.Goals as goal

pub blame_of_walk-requires : goal.blame_of_walk-requires
blame_of_walk-requires c =
    whole_placed c.args.draft.now c.bind.new.self (scope_view c.args.variables.now) c.requires.none c.requires.base
    c.in_ok-bind.ensures.bound c.bind.ensures.base

pub blame_of_whole_atom-requires : goal.blame_of_whole_atom-requires
blame_of_whole_atom-requires c =
    whole_placed c.args.draft.now c.bind.new.self (scope_view c.args.variables.now) c.requires.none c.requires.base
    c.in_ok-bind.ensures.bound c.bind.ensures.base

pub returns-in-List-clause-whole : goal.returns-in-List-clause-whole
returns-in-List-clause-whole c =
    let bound = scope_view c.args.variables.now in
    let names = names_for c.args.self.now (labels_view c.args.draft.now.labels) in
    whole_as c.args.wanted _ (sort_in names bound (sexp_of c.args.term)) c.blame_of_walk.result
    (ap (λ t. sort_in names bound (sexp_of t)) c.in-List.is
    ∙ whole_sort c.args.draft.now c.bind.new.self bound c.requires.none c.requires.base c.in_ok-bind.ensures.bound
    c.bind.ensures.base c.args.self.now (Items (sexps_of c.in-List.whole)) c.bind.ensures.labels)
    c.blame_of_walk.ensures.whole

pub returns-in_default-clause-whole : goal.returns-in_default-clause-whole
returns-in_default-clause-whole c =
    whole_as c.args.wanted _ _ c.blame_of_whole_atom.result
    (whole_sort c.args.draft.now c.bind.new.self (scope_view c.args.variables.now) c.requires.none c.requires.base
    c.in_ok-bind.ensures.bound c.bind.ensures.base c.args.self.now (sexp_of c.args.term) c.bind.ensures.labels)
    c.blame_of_whole_atom.ensures.whole
