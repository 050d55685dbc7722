-- The rows that contracts see, as a table grows and is cut.
use Rattle.std.proofs.Common.{◌≡◌, ℕ, List, [], ◌∷◌, ◌++◌, take, drop, slice_get, Some}
use Rattle.std.proofs.Common.{None, option_map, ap, sym, ◌∙◌}
use Rattle.std.proofs.lemmas.List.{append-nil, map-append, take-append-drop, take-map}
use Rattle.std.proofs.lemmas.Option.{slice_get-map}
use Rattle.smt_nodes.specs.Internal.Annotations.{IsAnnotated, around_of, inner}
use Rattle.smt_nodes.specs.Internal.Lists.{Grows, IsPrefix, Lists, first_of, lengths, node_of}
use Rattle.smt_nodes.specs.Internal.Rows.{IsSound, last_ends, row_view, views}
use Rattle.smt_nodes.specs.Node.{Node, Row}
use Rattle.smt_nodes.specs.declared.annotated.AnnotatedNode.{AnnotatedNode}
use Rattle.smt_nodes.specs.declared.rows.Ends.{Ends}
use Rattle.smt_nodes.specs.declared.rows.Stored.{Stored}
use Rattle.smt_nodes.specs.declared.rows.StoredRow.{StoredRow}
use Rattle.smt_nodes.proofs.PlaceLemmas.{get_taken, longer_keeps, map_same}
use Rattle.smt_nodes.proofs.RowLemmas.{inner_kept, node_kept, row_kept, stored_view}
use Rattle.smt_nodes.proofs.SoundLemmas.{KeepsBelow, below_keeps, sound_cut}

-- ---- by places

pub row_found : (rows : List StoredRow) (t : Lists) (nodes : List AnnotatedNode) (i : ℕ) (r : StoredRow)
    → slice_get rows i ≡ Some r → slice_get (views rows t nodes) i ≡ Some (row_view t nodes r)
row_found rows t nodes i r at =
    slice_get-map (row_view t nodes) rows i ∙ ap (λ o. option_map (row_view t nodes) o) at

pub row_absent : (rows : List StoredRow) (t : Lists) (nodes : List AnnotatedNode) (i : ℕ) → slice_get rows i ≡ None
    → slice_get (views rows t nodes) i ≡ None
row_absent rows t nodes i at =
    slice_get-map (row_view t nodes) rows i ∙ ap (λ o. option_map (row_view t nodes) o) at

-- ---- growing

-- lists alone that grow change nothing
pub views_kept : (rows : List StoredRow) (t u : Lists) (nodes more : List AnnotatedNode) → IsSound rows t nodes
    → Grows t u → IsPrefix nodes more → views rows u more ≡ views rows t nodes
views_kept rows t u nodes more sound grown longer =
    map_same (row_view u more) (row_view t nodes) rows
    (λ i r at. row_kept rows t u nodes more i r sound grown (longer_keeps (λ x. x.row) nodes more i longer) at)

pub nothing_more : (t : Lists) → Grows t t
nothing_more t = record {
  parts = ([], sym (append-nil t.parts));
  digits = ([], sym (append-nil t.digits));
  ops = ([], sym (append-nil t.ops));
}

-- a row behind all, and what belongs to it behind the nodes with annotations
pub stored_pushed : (rows : List StoredRow) (t : Lists) (nodes more : List AnnotatedNode) (row count : ℕ)
    (bare : Stored) (new : StoredRow) → IsSound rows t nodes → IsPrefix nodes more → new.ends ≡ lengths t
    → IsAnnotated more row bare count new.stored
    → views (rows ++ new ∷ []) t more
    ≡ views rows t nodes ++ (record { node = node_of t (lengths t) bare; around = count }) ∷ []
stored_pushed rows t nodes more row count bare new sound longer ends stored =
    map-append (row_view t more) rows (new ∷ [])
    ∙ ap (λ (vs : List Row). vs ++ row_view t more new ∷ [])
    (views_kept rows t t nodes more sound (nothing_more t) longer)
    ∙ ap (λ (v : Row). views rows t nodes ++ v ∷ []) (stored_view t more row count bare new ends stored)

-- ---- cut

-- lists that are cut were longer
pub cut_grows : (e : Ends) (t : Lists) → Grows (first_of e t) t
cut_grows e t = record {
  parts = (drop e.parts t.parts, sym (take-append-drop e.parts t.parts));
  digits = (drop e.digits t.digits, sym (take-append-drop e.digits t.digits));
  ops = (drop e.ops t.ops, sym (take-append-drop e.ops t.ops));
}

-- the node of a row that is left stays
pub node_cut : (n : ℕ) (rows : List StoredRow) (t : Lists) (nodes left : List AnnotatedNode) (i : ℕ)
    (r : StoredRow) → IsSound rows t nodes → KeepsBelow n nodes left → slice_get (take n rows) i ≡ Some r
    → node_of (first_of (last_ends (take n rows)) t) r.ends (inner left r.stored)
    ≡ node_of t r.ends (inner nodes r.stored)
node_cut n rows t nodes left i r sound kept at =
    let u = first_of (last_ends (take n rows)) t in
    let cut : IsSound (take n rows) u left = sound_cut n rows t nodes left sound kept in
    sym (node_kept u t r.ends (inner left r.stored) (cut.held i r at) (cut.within i r at)
    (cut_grows (last_ends (take n rows)) t))
    ∙ ap (λ (s : Stored). node_of t r.ends s)
    (inner_kept nodes left i r.stored (below_keeps n rows nodes left i r kept at)
    (sound.own i r (get_taken n rows i r at)))

pub views_cut : (n : ℕ) (rows : List StoredRow) (t : Lists) (nodes left : List AnnotatedNode)
    → IsSound rows t nodes → KeepsBelow n nodes left
    → views (take n rows) (first_of (last_ends (take n rows)) t) left ≡ take n (views rows t nodes)
views_cut n rows t nodes left sound kept =
    map_same (row_view (first_of (last_ends (take n rows)) t) left) (row_view t nodes) (take n rows)
    (λ i r at. ap (λ (m : Node). record { node = m; around = around_of r.stored })
    (node_cut n rows t nodes left i r sound kept at)) ∙ sym (take-map (row_view t nodes) n rows)
