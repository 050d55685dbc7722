use Rattle.std.proofs.Common.{List, [], ◌++◌, ◌≡◌, length, map, take, refl, append-nil, append_assoc, ap, subst, sym, ◌∙◌}
use Rattle.std.proofs.Math.Seq.{take-append_seam}
use Rattle.smt_nodes.specs.Node.{Row}
use Rattle.smt_nodes.specs.Nodes.{rows_of}
use Rattle.smt_trees.specs.View.{sexp_of}
use Rattle.smt_forms.specs.Labels.{labels_in}
use Rattle.smt_terms.specs.Checking.{sort_in}
use Rattle.smt_terms.specs.Denotes.{Denotes}
use Rattle.smt_terms.specs.Internal.LabelsView.{labels_view}
use Rattle.smt_terms.specs.Internal.LibraryView.{names_for}
use Rattle.smt_terms.specs.Internal.TableView.{table_in}
use Rattle.smt_terms.specs.Library.{held_terms_of, terms_of}
use Rattle.smt_terms.specs.declared.labels.Labels.{Labels}
use Rattle.smt_terms.proofs.ApartLemmas.{apart_same}
use Rattle.smt_terms.proofs.BodyLemmas.{ready}
use Rattle.smt_terms.proofs.ContentsLemmas.{nothing_more}
use Rattle.smt_terms.proofs.DenotesLemmas.{denotes_kept}
use Rattle.smt_terms.proofs.ItemLemmas.{names_as}
use Rattle.smt_terms.proofs.TableLemmas.{ready_longer, rows_grow}
use Rattle.smt_terms.proofs.KeptTermLemmas.{none_given, none_more, without_labels}
use Rattle.smt_terms.proofs.library.Library.check_transient.Goals as goal

pub returns-in-Ok-clause-grown : goal.returns-in-Ok-clause-grown
returns-in-Ok-clause-grown c =
    let rows = rows_grow c.new-draft.result c.check_over-result.new.draft c.check_over-result.ensures.longer
    (record c.args.self.now { nodes = c.new.result }) c.new.ensures.rows in (
      rows.0,
      ap rows_of c.replace.ensures.value ∙ rows.1
          ∙ ap (λ ns. rows_of ns ++ rows.0) (c.new-draft.ensures.nodes ∙ c.replace-nodes.ensures.value),
    )

pub returns-in-Ok-clause-kept : goal.returns-in-Ok-clause-kept
returns-in-Ok-clause-kept c = λ i t is.
    let old = c.args.self.now in
    let new = record old { transient = c.replace.result } in
    let grown = returns-in-Ok-clause-grown c in
    denotes_kept (terms_of old) (terms_of new) (record {
      theories = refl;
      elements = refl;
      heads = nothing_more _ _ refl;
      apart = apart_same _ _ _ refl;
      names = nothing_more _ _ refl;
      bodies = nothing_more _ _ refl;
      rows = (
        grown.0,
        ap (λ (rs : List Row). rows_of old.nodes ++ rs) grown.1
            ∙ sym (append_assoc (rows_of old.nodes) (rows_of old.transient) grown.0),
      );
    }) [] 0 0 i t is

pub returns-clause-unchanged : goal.returns-clause-unchanged
returns-clause-unchanged c =
    let rows = rows_grow c.new-draft.result c.check_over-result.new.draft c.check_over-result.ensures.longer
    (record c.args.self.now { nodes = c.new.result }) c.new.ensures.rows in
    let old = rows_of c.args.self.now.transient in
    c.cut.ensures.rows
    ∙ ap (λ ns. take c.len-count.result (rows_of ns)) c.replace.ensures.value
    ∙ ap (λ n. take n (rows_of c.check_over-result.new.draft.nodes)) c.len-count.ensures
    ∙ ap (λ rs. take (length old) rs)
    (rows.1 ∙ ap (λ ns. rows_of ns ++ rows.0) (c.new-draft.ensures.nodes ∙ c.replace-nodes.ensures.value))
    ∙ take-append_seam old rows.0

pub returns-clause-grown : goal.returns-clause-grown
returns-clause-grown c =
    ([], returns-clause-unchanged c ∙ sym (append-nil (rows_of c.args.self.now.transient)))

pub returns-clause-kept : goal.returns-clause-kept
returns-clause-kept c = λ i t is.
    let old = c.args.self.now in
    subst (λ (rs : List Row). Denotes (record (held_terms_of old) { rows = rows_of old.nodes ++ rs }) [] 0 0 i t)
    (sym (returns-clause-unchanged c)) is

pub returns-in-Ok-clause-answer : goal.returns-in-Ok-clause-answer
returns-in-Ok-clause-answer c = λ s stands.
    let old = c.args.self.now in
    let new = record old { transient = c.replace.result } in
    let t = sexp_of c.args.term in
    let draft = c.new-draft.result in
    let last = c.check_over-result.new.draft in
    let e = c.in-Ok.ensures in
    let labels = c.new-draft.ensures.labels in
    let none : draft.labels.given.items ≡ [] =
    ap (λ (ls : Labels). ls.given.items) labels ∙ c.refused-labels.ensures.given in
    let sort = ap (λ (ls : Labels). sort_in (names_for old (labels_view ls)) [] t) (sym labels) ∙ e.sort in
    let given : map (λ l. (l.name.items, sexp_of l.body)) last.labels.given.items ≡ labels_in t =
    e.labels.given ∙ ap (λ ls. map (λ l. (l.name.items, sexp_of l.body)) ls ++ labels_in t) none in
    let no_more = none_given old (labels_view c.refused-labels.result) [] t c.in-Ok.checked.sort last.labels.given.items
    c.refused-labels.ensures.view sort given in
    let moved = c.new-draft.ensures.nodes ∙ c.replace-nodes.ensures.value in
    let is_ready = ready_longer (held_terms_of old) (table_in old draft) (record {
      theories = refl;
      elements = refl;
      heads = nothing_more _ _ refl;
      apart = apart_same _ _ _ refl;
      names = (_, refl);
      bodies = (_, refl);
      rows = (_, refl);
    }) refl (ready (held_terms_of old) s stands.terms) in (
      ap (λ n. sort_in n [] t) (sym (names_as old s stands))
          ∙ without_labels old (labels_view c.refused-labels.result) [] t _ c.refused-labels.ensures.view sort,
      denotes_kept (table_in old last) (terms_of new) (record {
        theories = refl;
        elements = refl;
        heads = nothing_more _ _ refl;
        apart = apart_same _ _ _ refl;
        names = none_more (λ l. l.name.items) _ last.labels.given.items _ no_more (nothing_more _ _ refl);
        bodies = none_more (λ l. l.node) old.bodies.items last.labels.given.items _ no_more (nothing_more _ _ refl);
        rows = nothing_more _ _
            (ap (λ ns. rows_of old.nodes ++ rows_of ns) c.replace.ensures.value);
      }) [] 0 0 c.in-Ok.checked.node t (e.node is_ready),
    )
