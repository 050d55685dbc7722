use Rattle.std.proofs.Common.{ℕ, List, ◌++◌, ◌∷◌, [], true, false, inr, ap, sym, ◌∙◌, refl}
use Rattle.std.proofs.lemmas.Result.{err_from_is_err_and}
use Rattle.smt_nodes.specs.Nodes.{rows_of}
use Rattle.smt_trees.specs.View.{sexp_of}
use Rattle.smt_forms.specs.ScopeView.{scope_view}
use Rattle.smt_terms.specs.Checking.{sort_in}
use Rattle.smt_terms.specs.Contents.{contents_of, terms_in}
use Rattle.smt_terms.specs.Definitions.{definition}
use Rattle.smt_terms.specs.Internal.Growing.{bodies_in}
use Rattle.smt_terms.specs.Internal.LabelsView.{labels_view}
use Rattle.smt_terms.specs.Internal.LibraryView.{names_for, names_of_library}
use Rattle.smt_terms.specs.Internal.TableView.{names_of_definitions}
use Rattle.smt_terms.specs.Signature.{names_of, with_entry}
use Rattle.smt_terms.specs.declared.library.Definition.{Definition}
use Rattle.smt_terms.proofs.ApartLemmas.{apart_same}
use Rattle.smt_terms.proofs.BodyLemmas.{ready}
use Rattle.smt_terms.proofs.ContentsLemmas.{extends_on, grown_by, nothing_more}
use Rattle.smt_terms.proofs.DefinitionLemmas.{definition_by, fault_of_body, same_fault}
use Rattle.smt_terms.proofs.ItemLemmas.{names_as}
use Rattle.smt_terms.proofs.StandsLemmas.{and_more, stands_kept, under, under_more, whole}
use Rattle.smt_terms.proofs.KeptTermLemmas.{body_checked, checked_keeps, checked_longer, none_given, none_more}
use Rattle.smt_terms.proofs.KeptTermLemmas.{without_labels}
use Rattle.smt_terms.proofs.library.Library.add_checked.Goals as goal

pub returns-in_err-checked-clause-refused : goal.returns-in_err-checked-clause-refused
returns-in_err-checked-clause-refused c =
    let p =
    err_from_is_err_and c.from_residual.result c.from_residual.ensures.1 in
    let old = c.args.self.now in
    let ps = scope_view c.args.parameters.now in
    let body = sexp_of c.args.body in
    let labels = labels_view c.refused.result in
    rw (p.1, p.2)
    (λ s stands. fault_of_body (names_of s) (names_of_library old) c.args.name.now ps c.args.sort body _
    (names_as old s stands)
    (same_fault (sort_in (names_for old labels) ps body) (sort_in (names_of_library old) ps body) _
    (without_labels old labels ps body _ c.refused.ensures.view refl) c.in_err-checked.ensures.sort))

pub returns-in_err-checked-clause-grown : goal.returns-in_err-checked-clause-grown
returns-in_err-checked-clause-grown c =
    let e = c.check_whole.ensures in
    grown_by (contents_of c.args.self.now) (contents_of c.check_whole.new.self)
    (checked_keeps c.check_whole.result c.args.self.now c.check_whole.new.self e.grown e.unchanged e.names e.sorts
    e.elements e.declared e.definitions e.bodies)

pub returns-then-not-are_equal-clause-refused : goal.returns-then-not-are_equal-clause-refused
returns-then-not-are_equal-clause-refused c =
    let old = c.args.self.now in
    let ps = scope_view c.args.parameters.now in
    let body = sexp_of c.args.body in
    λ s stands. inr (definition_by (names_of s) (names_of_library old) c.args.name.now ps c.args.sort
    c.in_ok-checked.checked.sort body false (names_as old s stands)
    (without_labels old (labels_view c.refused.result) ps body _ c.refused.ensures.view c.in_ok-checked.ensures.sort)
    (sym c.are_equal.ensures ∙ c.if-not-are_equal.true))

pub returns-then-not-are_equal-clause-grown : goal.returns-then-not-are_equal-clause-grown
returns-then-not-are_equal-clause-grown c =
    let e = c.check_whole.ensures in
    grown_by (contents_of c.args.self.now) (contents_of c.check_whole.new.self)
    (checked_keeps c.check_whole.result c.args.self.now c.check_whole.new.self e.grown e.unchanged e.names e.sorts
    e.elements e.declared e.definitions e.bodies)

pub returns-in_err-insert_definition-clause-grown : goal.returns-in_err-insert_definition-clause-grown
returns-in_err-insert_definition-clause-grown c =
    let e = c.check_whole.ensures in
    extends_on _ _ _ (grown_by (contents_of c.args.self.now) (contents_of c.check_whole.new.self)
    (checked_keeps c.check_whole.result c.args.self.now c.check_whole.new.self e.grown e.unchanged e.names e.sorts
    e.elements e.declared e.definitions e.bodies)) c.insert_definition.ensures.grown

pub returns-clause-grown : goal.returns-clause-grown
returns-clause-grown c =
    let e = c.check_whole.ensures in
    extends_on _ _ _ (grown_by (contents_of c.args.self.now) (contents_of c.check_whole.new.self)
    (checked_keeps c.check_whole.result c.args.self.now c.check_whole.new.self e.grown e.unchanged e.names e.sorts
    e.elements e.declared e.definitions e.bodies)) c.insert_definition.ensures.grown

pub returns-clause-added : goal.returns-clause-added
returns-clause-added c = λ s stands.
    let old = c.args.self.now in
    let now = contents_of c.check_whole.new.self in
    let ps = scope_view c.args.parameters.now in
    let t = sexp_of c.args.body in
    let e = c.check_whole.ensures in
    let given = c.in_ok-checked.field-0-1.items in
    let node = c.in_ok-checked.checked.node in
    let rows = rows_of c.check_whole.new.self.nodes in
    let before = bodies_in (contents_of old) in
    let bodies = and_more before (c.args.name.now ∷ []) (node ∷ []) in
    let kept =
    (checked_keeps c.check_whole.result c.args.self.now c.check_whole.new.self e.grown e.unchanged e.names e.sorts
    e.elements e.declared e.definitions e.bodies) in
    let none =
    none_given old (labels_view c.refused.result) ps t c.in_ok-checked.checked.sort given c.refused.ensures.view
    c.in_ok-checked.ensures.sort c.in_ok-checked.ensures.given.0 in
    let longer =
    checked_longer old now given rows bodies kept.theories kept.elements (nothing_more _ _ kept.heads)
    (apart_same _ _ _ kept.heads)
    (none_more (λ l. l.name.items) before.names given bodies.names none (c.args.name.now ∷ [], refl))
    (none_more (λ l. l.node) before.nodes given bodies.nodes none (node ∷ [], refl)) (nothing_more _ _ refl) in (
      definition c.args.name.now ps c.args.sort t,
      definition_by (names_of s) (names_of_library old) c.args.name.now ps c.args.sort
          c.in_ok-checked.checked.sort t true (names_as old s stands)
          (without_labels old (labels_view c.refused.result) ps t _ c.refused.ensures.view
          c.in_ok-checked.ensures.sort)
          (sym c.are_equal.ensures ∙ c.if-not-are_equal.false),
      λ free. whole bodies (contents_of c.insert_definition.new.self)
          (with_entry s (definition c.args.name.now ps c.args.sort t))
          (c.in_ok-insert_definition.ensures.bodies ∙ ap (λ (bs : List ℕ). bs ++ node ∷ []) kept.bodies)
          (c.in_ok-insert_definition.ensures.names
          ∙ ap (λ (ds : List Definition). names_of_definitions ds ++ c.args.name.now ∷ []) kept.definitions)
          (c.in_ok-insert_definition.ensures.added bodies s t
          (under_more before (c.args.name.now ∷ []) (node ∷ []) now s
          (stands_kept before (contents_of old) now s kept (under (contents_of old) s stands)))
          free
          (body_checked old now given rows bodies c.args.parameters.now node t longer
          (c.in_ok-checked.ensures.node (ready (terms_in (contents_of old)) s stands.terms)).0)),
    )
