use Rattle.std.proofs.Common.{rules, [], ◌∷◌, append-nil, ◌∙◌, sym}
use Rattle.smt_trees.specs.View.{sexp_of}
use Rattle.smt_terms.specs.Internal.LibraryView.{names_of_library}
use Rattle.smt_terms.proofs.LabelLemmas.{AreGiven-push}
use Rattle.smt_terms.proofs.LabelNodeLemmas.{named_pushed}
use Rattle.smt_terms.proofs.library.Library.give_label.Goals as goal

pub returns-clause-labels : goal.returns-clause-labels
returns-clause-labels c =
    let p = c.in_ok-push.ensures.pushed in
    AreGiven-push (names_of_library c.args.self.now) c.args.labels.now c.push.new.self c.args.name.now
    c.args.checked.now.sort (sexp_of c.args.term) p.0 c.push.ensures.refuses p.1 p.2 p.3 p.4
    (c.requires (search rules))

pub returns-clause-longer : goal.returns-clause-longer
returns-clause-longer c =
    let p = c.in_ok-push.ensures.pushed in (p.0 ∷ [], p.1)

pub returns-clause-named : goal.returns-clause-named
returns-clause-named c =
    let p = c.in_ok-push.ensures.pushed in
    named_pushed c.args.labels.now c.push.new.self p.0 c.args.checked.now.node (sexp_of c.args.term) p.1 p.5 p.4

pub returns-in_err-push-clause-longer : goal.returns-in_err-push-clause-longer
returns-in_err-push-clause-longer c =
    ([], c.in_err-push.ensures.unchanged ∙ sym (append-nil c.args.labels.now.given.items))
