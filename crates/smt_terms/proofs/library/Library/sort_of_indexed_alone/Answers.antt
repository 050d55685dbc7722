use Rattle.std.proofs.Common.{[], refl, ap, sym, ◌∙◌}
use Rattle.smt_trees.specs.Sexp.{Cons, Items, Reserved}
use Rattle.smt_trees.specs.View.{sexps_of}
use Rattle.smt_trees.specs.declared.reserved.Word.TheVariants.{Underscore}
use Rattle.smt_forms.specs.IdentifierView.{identifier_view}
use Rattle.smt_terms.specs.Checking.{sort_applied, sort_in}
use Rattle.smt_terms.specs.Internal.Calls.{HasTheSame, SeesTheSame}
use Rattle.smt_terms.specs.Internal.DraftView.{sorts_from, sorts_seen, terms_from}
use Rattle.smt_terms.specs.Internal.Frames.{begun}
use Rattle.smt_terms.specs.Internal.LabelsView.{AreGiven, labels_view}
use Rattle.smt_terms.specs.Internal.LibraryView.{names_for, names_of_library}
use Rattle.smt_terms.specs.Internal.NodesView.{AddsApplied, Stands}
use Rattle.smt_terms.proofs.ApplicationLemmas.{done_by, none_given, on_ok, same_seen, same_waiting}
use Rattle.smt_terms.proofs.ArgumentLemmas.{applied_alone, no_sorts}
use Rattle.smt_terms.proofs.CheckerLemmas.{indexed_ok}
use Rattle.smt_terms.proofs.DraftLemmas.{carried_sort}
use Rattle.smt_terms.proofs.LabelLemmas.{applied_without_labels}
use Rattle.smt_terms.proofs.NodeLemmas.{if_answered, indexed_stands}
use Rattle.smt_terms.proofs.library.Library.sort_of_indexed_alone.Goals as goal

pub returns-clause-done : goal.returns-clause-done
returns-clause-done c =
    let d = c.args.draft.now in
    let new = c.sort_applied.new.draft in
    let r = c.sort_applied.result in
    let f = identifier_view c.in_ok-identifier.identifier in
    let start = c.len-start.result in
    let args = sexps_of c.args.args in
    let parts = Cons (Reserved Underscore) args in
    let names = names_for c.args.self.now (labels_view d.labels) in
    done_by r c.args.self.now (begun (Items parts) c.args.around d) new
    (carried_sort r
    (sort_applied (names_of_library c.args.self.now) f (sorts_from start d.arguments))
    (sort_in names (sorts_seen d) (Items parts))
    (indexed_ok names (sorts_seen d) (Reserved Underscore) args parts f refl refl c.in_ok-identifier.ensures
    ∙ applied_without_labels c.args.self.now (labels_view d.labels) f []
    ∙ ap (λ ss. sort_applied (names_of_library c.args.self.now) f ss) (sym (no_sorts d start c.len-start.ensures)))
    c.sort_applied.ensures.sort)
    (on_ok r (AreGiven (names_of_library c.args.self.now) d.labels new.labels [])
    (none_given (names_of_library c.args.self.now) d.labels new.labels c.sort_applied.ensures.labels))
    (on_ok r (SeesTheSame d new) (same_seen d new c.sort_applied.ensures.scope c.sort_applied.ensures.base))
    (on_ok r (HasTheSame d new) (same_waiting d new c.sort_applied.ensures.arguments))
    c.sort_applied.ensures.open
    (if_answered r
    (AddsApplied c.args.self.now d new c.args.around f (sorts_from start d.arguments) (terms_from start d.arguments))
    (Stands c.args.self.now d new c.args.around (Items parts))
    (λ found adds. indexed_stands c.args.self.now d new c.args.around (Reserved Underscore) args parts f found refl refl
    c.in_ok-identifier.ensures c.sort_applied.ensures.longer
    (applied_alone c.args.self.now d new c.args.around f start c.len-start.ensures found adds))
    c.sort_applied.ensures.added)
    c.sort_applied.ensures.longer
