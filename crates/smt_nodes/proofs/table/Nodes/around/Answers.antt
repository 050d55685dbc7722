use Rattle.std.proofs.Common.{Some, option_map, ap, sym, ◌∙◌}
use Rattle.smt_nodes.specs.Internal.Annotations.{annotated_of}
use Rattle.smt_nodes.specs.Internal.Lists.{lists_of}
use Rattle.smt_nodes.specs.Nodes.{rows_of}
use Rattle.smt_nodes.proofs.TableLemmas.{row_absent, row_found}
use Rattle.smt_nodes.proofs.table.Nodes.around.Goals as goal

pub returns-in-Some : goal.returns-in-Some
unfolding rows_of
returns-in-Some c =
    let nodes = c.args.self.now in
    ap (λ n. Some n) c.around.ensures ∙ sym (ap (λ o. option_map (λ row. row.around) o)
    (row_found nodes.rows.items (lists_of nodes.tables) (annotated_of nodes.tables) c.args.number c.in-Some.row
    (sym c.row.ensures ∙ c.in-Some.is)))

pub returns-in-None : goal.returns-in-None
unfolding rows_of
returns-in-None c =
    let nodes = c.args.self.now in
    sym (ap (λ o. option_map (λ row. row.around) o)
    (row_absent nodes.rows.items (lists_of nodes.tables) (annotated_of nodes.tables) c.args.number (sym c.row.ensures ∙ c.in-None.is)))
