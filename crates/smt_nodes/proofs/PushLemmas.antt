-- The rows that contracts see, as a row is pushed behind lists that grew.
use Rattle.std.proofs.Common.{◌≡◌, ℕ, List, [], ◌∷◌, ◌++◌, length, IfOk, Result, append-nil, ap, sym, subst}
use Rattle.std.proofs.Common.{◌∙◌}
use Rattle.std.proofs.lemmas.List.{length-map}
use Rattle.smt_nodes.specs.Internal.Annotations.{IsAnnotated, annotated_of}
use Rattle.smt_nodes.specs.Internal.Lists.{Grows, IsPrefix, Lists, lengths, lists_of, node_of}
use Rattle.smt_nodes.specs.Internal.Rows.{row_view, views}
use Rattle.smt_nodes.specs.Node.{Node, Row}
use Rattle.smt_nodes.specs.Nodes.{rows_of}
use Rattle.smt_nodes.specs.declared.annotated.AnnotatedNode.{AnnotatedNode}
use Rattle.smt_nodes.specs.declared.rows.Stored.{Stored}
use Rattle.smt_nodes.specs.declared.rows.StoredRow.{StoredRow}
use Rattle.smt_nodes.specs.declared.table.Nodes.{Nodes}
use Rattle.smt_nodes.specs.declared.tables.Tables.{Tables}
use Rattle.smt_nodes.proofs.OutcomeLemmas.{if_ok}
use Rattle.smt_nodes.proofs.TableLemmas.{nothing_more, stored_pushed, views_kept}

-- a list that stays
pub as_before : (xs ys : List AnnotatedNode) → ys ≡ xs → IsPrefix xs ys
as_before xs ys same = ([], same ∙ sym (append-nil xs))

-- the number of the new row
pub number_seen : {E : Type 0} (nodes : Nodes) (r : Result ℕ E) → IfOk r (λ id. id ≡ length nodes.rows.items)
    → IfOk r (λ id. id ≡ length (rows_of nodes))
unfolding rows_of
number_seen nodes r number =
    if_ok r number
    (λ id is. is ∙ sym (length-map nodes.rows.items (row_view (lists_of nodes.tables) (annotated_of nodes.tables))))

-- rows with other lists
pub rows_with : (after : Nodes) (rows : List StoredRow) (tables : Tables) → after.tables ≡ tables
    → after.rows.items ≡ rows → rows_of after ≡ views rows (lists_of tables) (annotated_of tables)
unfolding rows_of
rows_with after rows tables same is =
    ap (λ (rs : List StoredRow). views rs (lists_of after.tables) (annotated_of after.tables)) is
    ∙ ap (λ (t : Tables). views rows (lists_of t) (annotated_of t)) same

-- the same rows, over lists that grew
pub grown_seen : (nodes : Nodes) (tables : Tables) → Grows (lists_of nodes.tables) (lists_of tables)
    → IsPrefix (annotated_of nodes.tables) (annotated_of tables)
    → views nodes.rows.items (lists_of tables) (annotated_of tables) ≡ rows_of nodes
unfolding rows_of
grown_seen nodes tables grown longer =
    views_kept nodes.rows.items (lists_of nodes.tables) (lists_of tables) (annotated_of nodes.tables)
    (annotated_of tables) nodes.sound grown longer

-- and one more row
pub pushed_seen : (nodes : Nodes) (tables : Tables) (after : List Row) (seen n : Node) (count : ℕ)
    → Grows (lists_of nodes.tables) (lists_of tables) → annotated_of tables ≡ annotated_of nodes.tables
    → seen ≡ n
    → after ≡ views nodes.rows.items (lists_of tables) (annotated_of tables) ++ (record { node = seen; around = count }) ∷ []
    → after ≡ rows_of nodes ++ (record { node = n; around = count }) ∷ []
pushed_seen nodes tables after seen n count grown same is pushed =
    pushed ∙ ap (λ (rows : List Row). rows ++ (record { node = seen; around = count }) ∷ [])
    (grown_seen nodes tables grown (as_before (annotated_of nodes.tables) (annotated_of tables) same))
    ∙ ap (λ (m : Node). rows_of nodes ++ (record { node = m; around = count }) ∷ []) is

pub same_lists : (t u : Lists) → u ≡ t → Grows t u
same_lists t u same = subst (λ (l : Lists). Grows t l) (sym same) (nothing_more t)

-- a row for a node of which this is stored
pub stored_seen : (nodes after : Nodes) (tables : Tables) (stored bare : Stored)
    (row count : ℕ) → after.tables ≡ tables → lists_of tables ≡ lists_of nodes.tables
    → IsPrefix (annotated_of nodes.tables) (annotated_of tables)
    → IsAnnotated (annotated_of tables) row bare count stored
    → after.rows.items ≡ nodes.rows.items ++ (record { stored = stored; ends = lengths (lists_of tables) }) ∷ []
    → rows_of after ≡ rows_of nodes ++ (record {
      node = node_of (lists_of nodes.tables) (lengths (lists_of nodes.tables)) bare;
      around = count;
    }) ∷ []
unfolding rows_of
stored_seen nodes after tables stored bare row count same lists longer is pushed =
    let new : StoredRow = record { stored = stored; ends = lengths (lists_of tables) } in
    rows_with after (nodes.rows.items ++ new ∷ []) tables same pushed
    ∙ ap (λ (t : Lists). views (nodes.rows.items ++ new ∷ []) t (annotated_of tables)) lists
    ∙ stored_pushed nodes.rows.items (lists_of nodes.tables) (annotated_of nodes.tables) (annotated_of tables)
    row count bare new nodes.sound longer (ap (λ (t : Lists). lengths t) lists) is
