-- Terms with labels.
use Rattle.std.proofs.Common.{◌≡◌, ◌+◌, ℕ, List, [], ◌++◌, false, Ok, refl, ap, sym, subst, ◌∙◌, length, map}
use Rattle.smt_trees.specs.Sexp.{Sexp, Sexps, Cons, Items, Reserved}
use Rattle.smt_trees.specs.declared.reserved.Word.TheVariants.{Bang}
use Rattle.smt_trees.specs.declared.view.Trees.{Trees}
use Rattle.smt_forms.specs.Labels.{labels_among, labels_in}
use Rattle.smt_forms.specs.ScopeOf.{scope_of}
use Rattle.smt_forms.specs.Variables.{uses_variable}
use Rattle.smt_faults.specs.Outcome.{TellsSome}
use Rattle.smt_faults.specs.declared.term_fault.TermFault.{TermFault}
use Rattle.smt_nodes.specs.Node as node
use Rattle.smt_terms.specs.Checking.{flaw_of_labels, sort_in}
use Rattle.std.proofs.Common.{None}
use Rattle.smt_terms.specs.Denotes.{Denotes, Table}
use Rattle.smt_terms.specs.Internal.DraftView.{is_open, seen_by, sorts_seen}
use Rattle.smt_forms.specs.Bindings.{are_attributes}
use Rattle.smt_terms.specs.Internal.Calls.{has_labels}
use Rattle.smt_terms.specs.Internal.Frames.{Begun, HasFault, IsDone, LabelledWaits, Lie, begun}
use Rattle.smt_terms.specs.Internal.LabelsView.{AreGiven, labels_view}
use Rattle.smt_terms.specs.Internal.LibraryView.{names_for, names_of_library}
use Rattle.smt_terms.specs.Internal.NodesView.{AddsNode, GrowsTo, Stands, nodes_given}
use Rattle.smt_terms.specs.Internal.TableView.{AreNamed}
use Rattle.smt_terms.specs.declared.labels.Label.{Label}
use Rattle.smt_terms.specs.declared.labels.Labels.{Labels}
use Rattle.smt_terms.specs.declared.library.Library.{Library}
use Rattle.smt_terms.specs.declared.library.draft.CheckedTerm.{CheckedTerm}
use Rattle.smt_terms.specs.declared.library.draft.Draft.{Draft}
use Rattle.smt_terms.specs.declared.library.frames.Labelled.{Labelled}
use Rattle.smt_terms.proofs.BinderLemmas.{annotated, fault_of_annotation}
use Rattle.smt_terms.proofs.BinderNodeLemmas.{labelled_stands}
use Rattle.smt_terms.proofs.DraftLemmas.{closed_by_labels, closed_within, open_whole, tells_same}
use Rattle.smt_terms.proofs.LabelLemmas.{AreGiven-append, names_behind}
use Rattle.smt_terms.proofs.TableLemmas.{grows_labelled}

-- the term in it, checked where no variable is inside
abbrev pub here_done : (library : Library) (whole : Trees) (l : Labelled) (outer inner : Begun) (last : Draft)
    (c : CheckedTerm) → LabelledWaits whole l outer inner → IsDone library inner last c
    → IsDone library (begun inner.term inner.around (record outer.draft { base = length (seen_by outer.draft) })) last c
here_done library whole l outer inner last c w done =
    subst (λ (x : Draft). IsDone library (begun inner.term inner.around x) last c) w.inside done

-- whether it uses a variable from outside
pub used_whole : (library : Library) (whole : Trees) (l : Labelled) (outer inner : Begun) (last : Draft)
    (c : CheckedTerm) → LabelledWaits whole l outer inner → IsDone library inner last c
    → uses_variable (sorts_seen outer.draft) inner.term ≡ c.is_open
used_whole library whole l outer inner last c w done =
    sym (open_whole (seen_by outer.draft) (length (seen_by outer.draft)) refl inner.term)
    ∙ sym ((here_done library whole l outer inner last c w done).used)

-- a fault of a label is that of the term
pub label_fault : (library : Library) (whole : Trees) (l : Labelled) (outer inner : Begun) (last : Draft)
    (c : CheckedTerm) (e : TermFault) → (w : LabelledWaits whole l outer inner) → IsDone library inner last c
    → TellsSome (flaw_of_labels (names_for library (labels_view last.labels)) (sorts_seen outer.draft) inner.term
    (labels_among w.attributes)) e
    → HasFault library outer e
label_fault library whole l outer inner last c e w done h =
    let d = outer.draft in
    let here = here_done library whole l outer inner last c w done in
    let names = names_for library (labels_view d.labels) in
    tells_same _ _ e (ap (sort_in names (sorts_seen d)) w.is)
    (fault_of_annotation names (names_for library (labels_view last.labels)) (sorts_seen d)
    (Cons inner.term w.attributes) w.attributes inner.term c.sort e
    (names_behind library (names_of_library library) d.labels last.labels (labels_in inner.term) here.labels) refl
    w.form here.sort h)

-- a term with labels is checked with the term in it
pub labelled_done : (library : Library) (whole : Trees) (l : Labelled) (outer inner : Begun) (last new : Draft)
    (labels : Labels) (place : ℕ) (more : List Label) (checked c : CheckedTerm)
    → (w : LabelledWaits whole l outer inner) → IsDone library inner last checked
    → place ≡ length library.bodies.items + length last.labels.given.items
    → flaw_of_labels (names_for library (labels_view last.labels)) (sorts_seen outer.draft) inner.term
    (labels_among w.attributes) ≡ None
    → AreGiven (names_of_library library) last.labels labels (map (λ x. (x, inner.term)) (labels_among w.attributes))
    → nodes_given labels ≡ nodes_given last.labels ++ map (λ x. checked.node) (labels_among w.attributes)
    → labels.given.items ≡ last.labels.given.items ++ more
    → ((t : Table) → AreNamed t last.labels.given.items → Denotes t [] 0 0 checked.node inner.term
    → AreNamed t labels.given.items)
    → c.sort ≡ checked.sort → c.is_open ≡ false
    → AddsNode library.nodes (record last { labels = labels; base = l.base }) new l.around (node.Defined place []) c
    → GrowsTo (record last { labels = labels; base = l.base }) new → new.scope ≡ last.scope → new.base ≡ l.base
    → new.labels ≡ labels → new.arguments ≡ last.arguments
    → IsDone library outer new c
labelled_done library whole l outer inner last new labels place more checked c w done is_place flawless given bodies
    longer_labels named sort used added longer scope base same arguments =
    let names = names_of_library library in
    let d = outer.draft in
    let term = inner.term in
    let attributes = w.attributes in
    let inside : Draft = record d { base = length (seen_by d) } in
    let given_draft : Draft = record last { labels = labels; base = l.base } in
    let here : IsDone library (begun term inner.around inside) last checked =
    here_done library whole l outer inner last checked w done in
    let unused : uses_variable (sorts_seen d) term ≡ false =
    closed_by_labels library last.labels (sorts_seen d) term (labels_among attributes) w.labelled flawless in
    record {
      sort = ap (sort_in (names_for library (labels_view d.labels)) (sorts_seen d)) w.is
          ∙ annotated (names_for library (labels_view d.labels)) (names_for library (labels_view last.labels))
          (sorts_seen d) (Cons term attributes) attributes term checked.sort
          (names_behind library names d.labels last.labels (labels_in term) here.labels) refl w.form here.sort flawless
          ∙ ap Ok (sym sort);
      labels = subst (λ t. AreGiven names d.labels new.labels (labels_in t)) (sym w.is)
          (subst (λ ls. AreGiven names d.labels ls
          (labels_in term ++ map (λ x. (x, term)) (labels_among attributes))) (sym same)
          (AreGiven-append names d.labels last.labels labels (labels_in term)
          (map (λ x. (x, term)) (labels_among attributes)) here.labels given));
      kept = record { variables = ap scope_of scope ∙ here.kept.variables; base = base ∙ w.base };
      waiting = record {
        sorts = ap (λ a. a.sorts.items) arguments ∙ here.waiting.sorts;
        terms = ap (λ a. a.terms.items) arguments ∙ here.waiting.terms;
      };
      used = used ∙ sym (ap (is_open d) w.is ∙ closed_within (seen_by d) d.base term unused);
      node = subst (λ n. Stands library d new n outer.term c) (sym w.around)
          (subst (λ t. Stands library d new l.around t c) (sym w.is)
          (labelled_stands library d inside last given_draft new l.around term attributes place checked c more refl refl
          refl here.longer (subst (λ n. Stands library inside last n term checked) w.none_around here.node)
          (sym (used_whole library whole l outer inner last checked w done) ∙ unused) unused is_place w.labelled refl
          longer_labels given.given bodies named longer added));
      longer = grows_labelled d last new labels here.longer (more, longer_labels) longer;
    }

-- the same parts under other names
abbrev pub waits_as : (whole : Trees) (l : Labelled) (outer inner : Begun) (term : Sexp) (attributes : Sexps)
    → (w : LabelledWaits whole l outer inner) → inner.term ≡ term → w.attributes ≡ attributes
    → LabelledWaits whole l outer (begun term inner.around inner.draft)
waits_as whole l outer inner term attributes w is_term are = record {
  attributes = attributes;
  lie = subst (λ (ts : Sexps). Lie whole l.parts l.end (Cons term ts)) are
      (subst (λ (t : Sexp). Lie whole l.parts l.end (Cons t w.attributes)) is_term w.lie);
  is = w.is ∙ ap (λ (t : Sexp). Items (Cons (Reserved Bang) (Cons t w.attributes))) is_term
      ∙ ap (λ (ts : Sexps). Items (Cons (Reserved Bang) (Cons term ts))) are;
  form = ap are_attributes (sym are) ∙ w.form;
  labelled = ap (λ (ts : Sexps). has_labels (labels_among ts)) (sym are) ∙ w.labelled;
  around = w.around;
  none_around = w.none_around;
  base = w.base;
  inside = w.inside;
}

pub done_as : (library : Library) (inner : Begun) (term : Sexp) (last : Draft) (c : CheckedTerm) → inner.term ≡ term
    → IsDone library inner last c → IsDone library (begun term inner.around inner.draft) last c
done_as library inner term last c is done =
    subst (λ (t : Sexp). IsDone library (begun t inner.around inner.draft) last c) is done
