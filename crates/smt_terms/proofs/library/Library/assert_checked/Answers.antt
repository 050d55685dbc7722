use Rattle.std.proofs.Common.{[], map, refl, ap, sym, subst, ◌∙◌, inr}
use Rattle.std.proofs.lemmas.Result.{err_from_is_err_and}
use Rattle.smt_nodes.specs.Nodes.{rows_of}
use Rattle.smt_trees.specs.View.{sexp_of}
use Rattle.smt_terms.specs.Contents.{contents_of, terms_in}
use Rattle.smt_terms.specs.Internal.Growing.{AreFitUnder, HoldsUnder, bodies_in}
use Rattle.smt_terms.specs.Internal.LabelsView.{AreNew, label_entry, labels_view}
use Rattle.smt_terms.specs.Internal.LibraryView.{elements_of_library, ranks_of_library}
use Rattle.smt_terms.specs.Internal.TableView.{names_of_definitions, table_with}
use Rattle.smt_terms.specs.Signature.{with_entries}
use Rattle.smt_terms.proofs.AssertionLemmas.{asserted_by, asserted_fault, asserted_ill, given_are_new}
use Rattle.smt_terms.proofs.AssertionLemmas.{given_named, labels_added}
use Rattle.smt_terms.proofs.ApartLemmas.{apart_same}
use Rattle.smt_terms.proofs.BodyLemmas.{ready}
use Rattle.smt_terms.proofs.ContentsLemmas.{extends_on, grown_by, nothing_more}
use Rattle.smt_terms.proofs.DenotesLemmas.{denotes_kept}
use Rattle.smt_terms.proofs.StandsLemmas.{and_more, stands_kept, under, under_more, whole}
use Rattle.smt_terms.proofs.KeptTermLemmas.{checked_keeps, checked_longer}
use Rattle.smt_theory.specs.Sort.{is_same_sort}
use Rattle.smt_terms.proofs.library.Library.assert_checked.Goals as goal

pub add_labels-requires : goal.add_labels-requires
add_labels-requires c =
    let old = c.args.self.now in
    let e = c.check_whole.ensures in
    let kept =
    (checked_keeps c.check_whole.result c.args.self.now c.check_whole.new.self e.grown e.unchanged e.names e.sorts
    e.elements e.declared e.definitions e.bodies) in
    subst (λ ls. AreNew (elements_of_library c.check_whole.new.self) (ranks_of_library c.check_whole.new.self) ls)
    (sym c.as_slice.ensures.value)
    (subst (λ rs. AreNew (elements_of_library c.check_whole.new.self) rs c.in_ok-checked.given.items) (sym kept.ranks)
    (subst (λ es. AreNew es (ranks_of_library old) c.in_ok-checked.given.items) (sym kept.elements)
    (given_are_new old (labels_view c.new.result) c.in_ok-checked.given.items (sexp_of c.args.term)
    c.in_ok-checked.checked.sort c.new.ensures.view c.in_ok-checked.ensures.sort
    c.in_ok-checked.ensures.given.0)))

pub returns-in_err-checked-clause-grown : goal.returns-in_err-checked-clause-grown
returns-in_err-checked-clause-grown c =
    let e = c.check_whole.ensures in
    grown_by (contents_of c.args.self.now) (contents_of c.check_whole.new.self)
    (checked_keeps c.check_whole.result c.args.self.now c.check_whole.new.self e.grown e.unchanged e.names e.sorts
    e.elements e.declared e.definitions e.bodies)

pub returns-in_err-checked-clause-refused : goal.returns-in_err-checked-clause-refused
returns-in_err-checked-clause-refused c =
    let p = err_from_is_err_and c.from_residual.result c.from_residual.ensures.1 in
    rw (p.1, p.2)
    (λ s stands. asserted_fault c.args.self.now s (labels_view c.new.result) (sexp_of c.args.term) _ stands
    c.new.ensures.view c.in_err-checked.ensures.sort)

pub returns-then-not-are_equal-clause-refused : goal.returns-then-not-are_equal-clause-refused
returns-then-not-are_equal-clause-refused c = λ s stands.
    inr (asserted_ill c.args.self.now s (labels_view c.new.result) (sexp_of c.args.term) c.in_ok-checked.checked.sort
    stands c.new.ensures.view c.in_ok-checked.ensures.sort (ap (λ s. is_same_sort c.in_ok-checked.checked.sort s) (sym c.bool.ensures) ∙ (sym c.are_equal.ensures ∙ c.if-not-are_equal.true)))

pub returns-then-not-are_equal-clause-grown : goal.returns-then-not-are_equal-clause-grown
returns-then-not-are_equal-clause-grown c =
    let e = c.check_whole.ensures in
    grown_by (contents_of c.args.self.now) (contents_of c.check_whole.new.self)
    (checked_keeps c.check_whole.result c.args.self.now c.check_whole.new.self e.grown e.unchanged e.names e.sorts
    e.elements e.declared e.definitions e.bodies)

pub returns-clause-asserted : goal.returns-clause-asserted
returns-clause-asserted c = λ s stands.
    let old = c.args.self.now in
    let now = contents_of c.check_whole.new.self in
    let term = sexp_of c.args.term in
    let labels = labels_view c.new.result in
    let e = c.check_whole.ensures in
    let given = c.in_ok-checked.given.items in
    let sort = c.in_ok-checked.checked.sort in
    let rows = rows_of c.check_whole.new.self.nodes in
    let before = bodies_in (contents_of old) in
    let names = map (λ l. l.name.items) given in
    let nodes = map (λ l. l.node) given in
    let bodies = and_more before names nodes in
    let kept =
    (checked_keeps c.check_whole.result c.args.self.now c.check_whole.new.self e.grown e.unchanged e.names e.sorts
    e.elements e.declared e.definitions e.bodies) in
    let longer =
    checked_longer old now given rows bodies kept.theories kept.elements (nothing_more _ _ kept.heads)
    (apart_same _ _ _ kept.heads) (nothing_more _ _ refl)
    (nothing_more _ _ refl) (nothing_more _ _ refl) in
    let fits =
    given_named old labels given term sort rows bodies now s stands c.new.ensures.view
    c.in_ok-checked.ensures.sort c.in_ok-checked.ensures.given.0 longer
    (c.in_ok-checked.ensures.node (ready (terms_in (contents_of old)) s stands.terms)).1 in (
      map label_entry given,
      asserted_by old s labels given term sort stands c.new.ensures.view c.in_ok-checked.ensures.sort
          (ap (λ s. is_same_sort sort s) (sym c.bool.ensures) ∙ (sym c.are_equal.ensures ∙ c.if-not-are_equal.false)) c.in_ok-checked.ensures.given.0
          c.in_ok-checked.ensures.given.1,
      whole bodies (contents_of c.add_labels.new.self) (with_entries s (map label_entry given))
          (labels_added (λ l. l.node) before.nodes _ given c.in_ok-add_labels.ensures.bodies kept.bodies
          c.as_slice.ensures.value)
          (labels_added (λ l. l.name.items) before.names _ given c.in_ok-add_labels.ensures.names
          (ap names_of_definitions kept.definitions) c.as_slice.ensures.value)
          (subst (λ ls. HoldsUnder bodies (contents_of c.add_labels.new.self)
          (with_entries s (map label_entry ls))) c.as_slice.ensures.value
          (c.in_ok-add_labels.ensures.added bodies s
          (under_more before names nodes now s
          (stands_kept before (contents_of old) now s kept (under (contents_of old) s stands)))
          (subst (λ ls. AreFitUnder bodies now s ls) (sym c.as_slice.ensures.value) fits))),
    )

pub returns-clause-term : goal.returns-clause-term
returns-clause-term c = λ s stands.
    let old = c.args.self.now in
    let new = contents_of c.add_labels.new.self in
    let e = c.check_whole.ensures in
    let given = c.in_ok-checked.given.items in
    let rows = rows_of c.check_whole.new.self.nodes in
    let kept =
    (checked_keeps c.check_whole.result c.args.self.now c.check_whole.new.self e.grown e.unchanged e.names e.sorts
    e.elements e.declared e.definitions e.bodies) in
    let more = extends_on _ _ _ (grown_by _ _ kept) c.add_labels.ensures.grown in
    let longer =
    checked_longer old new given rows (bodies_in new) more.theories more.elements more.heads more.apart
    (nothing_more _ _
    (labels_added (λ l. l.name.items) _ _ given c.in_ok-add_labels.ensures.names
    (ap names_of_definitions kept.definitions) c.as_slice.ensures.value))
    (nothing_more _ _
    (labels_added (λ l. l.node) old.bodies.items _ given c.in_ok-add_labels.ensures.bodies kept.bodies
    c.as_slice.ensures.value))
    c.add_labels.ensures.grown.rows in
    denotes_kept (table_with old given rows) (terms_in (contents_of c.add_labels.new.self)) longer [] 0 0
    c.in_ok-checked.checked.node (sexp_of c.args.term)
    (c.in_ok-checked.ensures.node (ready (terms_in (contents_of old)) s stands.terms)).0

pub returns-clause-grown : goal.returns-clause-grown
returns-clause-grown c =
    let e = c.check_whole.ensures in
    extends_on _ _ _ (grown_by (contents_of c.args.self.now) (contents_of c.check_whole.new.self)
    (checked_keeps c.check_whole.result c.args.self.now c.check_whole.new.self e.grown e.unchanged e.names e.sorts
    e.elements e.declared e.definitions e.bodies)) c.add_labels.ensures.grown

pub returns-in_err-add_labels-clause-grown : goal.returns-in_err-add_labels-clause-grown
returns-in_err-add_labels-clause-grown c =
    let e = c.check_whole.ensures in
    extends_on _ _ _ (grown_by (contents_of c.args.self.now) (contents_of c.check_whole.new.self)
    (checked_keeps c.check_whole.result c.args.self.now c.check_whole.new.self e.grown e.unchanged e.names e.sorts
    e.elements e.declared e.definitions e.bodies)) c.add_labels.ensures.grown
