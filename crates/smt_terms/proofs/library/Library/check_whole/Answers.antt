use Rattle.std.proofs.Common.{◌≡◌, List, [], ◌++◌, length, map, take, append-nil, refl, ap, subst, sym, ◌∙◌}
use Rattle.std.proofs.Math.Seq.{take-append_seam}
use Rattle.smt_nodes.specs.Node.{Row}
use Rattle.smt_nodes.specs.Nodes.{rows_of}
use Rattle.smt_trees.specs.View.{sexp_of}
use Rattle.smt_forms.specs.Labels.{labels_in}
use Rattle.smt_forms.specs.ScopeView.{scope_view}
use Rattle.smt_terms.specs.Denotes.{Denotes, Table, slots_from}
use Rattle.smt_terms.specs.Internal.LabelsView.{AreSorted}
use Rattle.smt_terms.specs.Internal.LibraryView.{names_of_library}
use Rattle.smt_terms.specs.Internal.TableView.{AreNamed, table_in, table_of, table_with}
use Rattle.smt_terms.specs.declared.labels.Label.{Label}
use Rattle.smt_terms.specs.declared.labels.Labels.{Labels}
use Rattle.smt_terms.proofs.ApartLemmas.{apart_same}
use Rattle.smt_terms.proofs.TableLemmas.{ready_longer, rows_grow}
use Rattle.smt_terms.proofs.library.Library.check_whole.Goals as goal

pub returns-in-Ok-clause-grown : goal.returns-in-Ok-clause-grown
returns-in-Ok-clause-grown c =
    let rows = rows_grow c.new-draft.result c.check_over-result.new.draft c.check_over-result.ensures.longer
    (record c.args.self.now { nodes = c.new.result }) c.new.ensures.rows in (
      rows.0,
      ap rows_of c.replace.ensures.value ∙ rows.1
          ∙ ap (λ ns. rows_of ns ++ rows.0) (c.new-draft.ensures.nodes ∙ c.replace-nodes.ensures.value),
    )

pub returns-clause-unchanged : goal.returns-clause-unchanged
returns-clause-unchanged c =
    let rows = rows_grow c.new-draft.result c.check_over-result.new.draft c.check_over-result.ensures.longer
    (record c.args.self.now { nodes = c.new.result }) c.new.ensures.rows in
    let old = rows_of c.args.self.now.nodes in
    c.cut.ensures.rows
    ∙ ap (λ ns. take c.len-count.result (rows_of ns)) c.replace.ensures.value
    ∙ ap (λ n. take n (rows_of c.check_over-result.new.draft.nodes)) c.len-count.ensures
    ∙ ap (λ rs. take (length old) rs)
    (rows.1 ∙ ap (λ ns. rows_of ns ++ rows.0) (c.new-draft.ensures.nodes ∙ c.replace-nodes.ensures.value))
    ∙ take-append_seam old rows.0

pub returns-in-Ok-clause-given : goal.returns-in-Ok-clause-given
returns-in-Ok-clause-given c =
    let names = names_of_library c.args.self.now in
    let e = c.in-Ok.ensures in
    let taken = c.take_given-given.ensures in
    let none : c.new-draft.result.labels.given.items ≡ [] =
    ap (λ (ls : Labels). ls.given.items) c.new-draft.ensures.labels ∙ c.requires in (
      ap (λ (ls : List Label). map (λ l. (l.name.items, sexp_of l.body)) ls) taken
          ∙ e.labels.given
          ∙ ap (λ (ls : List Label). map (λ l. (l.name.items, sexp_of l.body)) ls ++ labels_in (sexp_of c.args.term))
          none,
      subst (λ (ls : List Label). AreSorted names ls) (sym taken)
          (e.labels.sorted (subst (λ (ls : List Label). AreSorted names ls) (sym none) tt)),
    )

pub returns-in-Ok-clause-node : goal.returns-in-Ok-clause-node
returns-in-Ok-clause-node c = λ ready.
    let old = c.args.self.now in
    let left = record old { nodes = c.replace-nodes.new.dest } in
    let draft = c.new-draft.result in
    let last = c.check_over-result.new.draft in
    let given = c.take_given-given.result.items in
    let e = c.in-Ok.ensures in
    let taken = c.take_given-given.ensures in
    let none : draft.labels.given.items ≡ [] =
    ap (λ (ls : Labels). ls.given.items) c.new-draft.ensures.labels ∙ c.requires in
    let moved = c.new-draft.ensures.nodes ∙ c.replace-nodes.ensures.value in
    let empty : rows_of left.nodes ≡ [] = ap rows_of c.replace-nodes.ensures.after ∙ c.new.ensures.rows in
    let is_ready = ready_longer (table_of old) (table_in left draft) (record {
      theories = refl;
      elements = refl;
      heads = ([], sym (append-nil (table_of old).heads));
      apart = apart_same (table_of old).elements (table_of old).heads (table_of old).heads refl;
      names = (_, refl);
      bodies = (_, refl);
      rows = (
        [],
        ap (λ (rs : List Row). rs ++ rows_of draft.nodes) empty
            ∙ ap rows_of moved
            ∙ sym (append-nil (rows_of old.nodes)),
      );
    }) refl ready in
    let rows : rows_of left.nodes ++ rows_of last.nodes ≡ rows_of c.replace.result =
    ap (λ (rs : List Row). rs ++ rows_of last.nodes) empty ∙ sym (ap rows_of c.replace.ensures.value) in
    let same : table_in left last ≡ table_with old given (rows_of c.replace.result) =
    ap (λ (ls : List Label). table_with old ls (rows_of left.nodes ++ rows_of last.nodes)) (sym taken)
    ∙ ap (λ (rs : List Row). table_with old given rs) rows in (
      subst (λ (t : Table). Denotes t (slots_from 0 (map (λ v. v.0) (scope_view c.args.variables.now)))
          (length c.args.variables.now) 0 c.in-Ok.checked.node (sexp_of c.args.term)) same (e.node is_ready),
      subst (λ (ls : List Label). AreNamed (table_with old given (rows_of c.replace.result)) ls) (sym taken)
          (subst (λ (t : Table). AreNamed t last.labels.given.items) same
          (e.named is_ready (subst (λ (ls : List Label). AreNamed (table_in left draft) ls) (sym none) tt))),
    )
