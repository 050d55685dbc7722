use Rattle.std.proofs.Common.{[], ap, refl, sym, ◌∙◌}
use Rattle.smt_nodes.specs.Nodes.{rows_of}
use Rattle.smt_trees.specs.View.{sexp_of}
use Rattle.smt_terms.specs.Checking.{sort_in}
use Rattle.smt_terms.specs.Contents.{contents_of, terms_in}
use Rattle.smt_terms.specs.Internal.LabelsView.{labels_view}
use Rattle.smt_terms.specs.Internal.Growing.{bodies_in}
use Rattle.smt_terms.specs.Internal.TableView.{names_of_definitions, table_with}
use Rattle.smt_terms.proofs.ApartLemmas.{apart_same}
use Rattle.smt_terms.proofs.BodyLemmas.{ready}
use Rattle.smt_terms.proofs.ContentsLemmas.{grown_by, nothing_more}
use Rattle.smt_terms.proofs.DenotesLemmas.{denotes_kept}
use Rattle.smt_terms.proofs.ItemLemmas.{names_as}
use Rattle.smt_terms.proofs.StandsLemmas.{stands_still}
use Rattle.smt_terms.proofs.KeptTermLemmas.{checked_keeps, checked_longer, none_given, none_more, without_labels}
use Rattle.smt_terms.proofs.ContentsLemmas.{keeps_names, restored}
use Rattle.smt_terms.proofs.StandsLemmas.{on_err}
use Rattle.smt_terms.proofs.library.Library.check.Goals as goal

pub returns-in_err-checked-clause-kept : goal.returns-in_err-checked-clause-kept
returns-in_err-checked-clause-kept c = λ s stands.
    let e = c.check_whole.ensures in
    stands_still (contents_of c.args.self.now) (contents_of c.check_whole.new.self) s
    (checked_keeps c.check_whole.result c.args.self.now c.check_whole.new.self e.grown e.unchanged e.names e.sorts
    e.elements e.declared e.definitions e.bodies) stands

pub returns-in_err-checked-clause-grown : goal.returns-in_err-checked-clause-grown
returns-in_err-checked-clause-grown c =
    let e = c.check_whole.ensures in
    grown_by (contents_of c.args.self.now) (contents_of c.check_whole.new.self)
    (checked_keeps c.check_whole.result c.args.self.now c.check_whole.new.self e.grown e.unchanged e.names e.sorts
    e.elements e.declared e.definitions e.bodies)

pub returns-clause-kept : goal.returns-clause-kept
returns-clause-kept c = λ s stands.
    let e = c.check_whole.ensures in
    stands_still (contents_of c.args.self.now) (contents_of c.check_whole.new.self) s
    (checked_keeps c.check_whole.result c.args.self.now c.check_whole.new.self e.grown e.unchanged e.names e.sorts
    e.elements e.declared e.definitions e.bodies) stands

pub returns-clause-grown : goal.returns-clause-grown
returns-clause-grown c =
    let e = c.check_whole.ensures in
    grown_by (contents_of c.args.self.now) (contents_of c.check_whole.new.self)
    (checked_keeps c.check_whole.result c.args.self.now c.check_whole.new.self e.grown e.unchanged e.names e.sorts
    e.elements e.declared e.definitions e.bodies)

pub returns-clause-answer : goal.returns-clause-answer
returns-clause-answer c = λ s stands.
    let old = c.args.self.now in
    let new = c.check_whole.new.self in
    let t = sexp_of c.args.term in
    let e = c.check_whole.ensures in
    let given = c.in_ok-checked.field-0-1.items in
    let rows = rows_of new.nodes in
    let kept =
    checked_keeps c.check_whole.result old new e.grown e.unchanged e.names e.sorts e.elements e.declared e.definitions
    e.bodies in
    let none =
    none_given old (labels_view c.refused.result) [] t c.in_ok-checked.checked.sort given c.refused.ensures.view
    c.in_ok-checked.ensures.sort c.in_ok-checked.ensures.given.0 in
    let longer =
    checked_longer old (contents_of new) given rows (bodies_in (contents_of new)) kept.theories kept.elements
    (nothing_more _ _ kept.heads) (apart_same _ _ _ kept.heads)
    (none_more (λ l. l.name.items) _ given _ none (nothing_more _ _ (ap names_of_definitions kept.definitions)))
    (none_more (λ l. l.node) old.bodies.items given new.bodies.items none (nothing_more _ _ kept.bodies))
    (nothing_more _ _ refl) in (
      ap (λ n. sort_in n [] t) (sym (names_as old s stands))
          ∙ without_labels old (labels_view c.refused.result) [] t _ c.refused.ensures.view
          c.in_ok-checked.ensures.sort,
      denotes_kept (table_with old given rows) (terms_in (contents_of new)) longer [] 0 0 c.in_ok-checked.checked.node t
          (c.in_ok-checked.ensures.node (ready (terms_in (contents_of old)) s stands.terms)).0,
    )

pub returns-in_err-checked-clause-restored : goal.returns-in_err-checked-clause-restored
returns-in_err-checked-clause-restored c =
    let e = c.check_whole.ensures in
    let same = c.in_err-checked.ensures.unchanged in
    on_err c.from_residual.result
    (restored (contents_of c.args.self.now) (contents_of c.check_whole.new.self)
    (keeps_names c.args.self.now c.check_whole.new.self e.names e.sorts e.elements e.declared e.definitions e.bodies
    (nothing_more _ _ same)) same)
