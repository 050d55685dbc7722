use Rattle.std.proofs.Common.{◌≡◌, ℕ, length, vec_len, Vec, Global, arith, sym, ◌∙◌}
use Rattle.std.proofs.lemmas.List.{length-map}
use Rattle.smt_nodes.specs.Internal.Annotations.{annotated_of}
use Rattle.smt_nodes.specs.Internal.Lists.{lists_of}
use Rattle.smt_nodes.specs.Internal.Rows.{row_view}
use Rattle.smt_nodes.specs.Nodes.{rows_of}
use Rattle.smt_nodes.specs.declared.rows.StoredRow.{StoredRow}
use Rattle.smt_nodes.proofs.table.Nodes.len.Goals as goal

counted : (rows : Vec StoredRow Global) (n : ℕ) → n ≡ vec_len rows → n ≡ length rows.items
counted rows n h = omega arith

pub returns : goal.returns
unfolding rows_of
returns c =
    let nodes = c.args.self.now in
    counted nodes.rows c.len.result c.len.ensures
    ∙ sym (length-map nodes.rows.items (row_view (lists_of nodes.tables) (annotated_of nodes.tables)))
