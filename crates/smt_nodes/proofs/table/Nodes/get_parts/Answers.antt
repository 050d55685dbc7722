use Rattle.std.proofs.Common.{Some, option_map, ap, subst, sym, ◌∙◌}
use Rattle.smt_nodes.specs.Internal.Annotations.{annotated_of}
use Rattle.smt_nodes.specs.Internal.Lists.{lists_of}
use Rattle.smt_nodes.specs.NodeParts.{parts_of}
use Rattle.smt_nodes.specs.Nodes.{rows_of}
use Rattle.smt_nodes.specs.PartsView.{IsWhole}
use Rattle.smt_nodes.proofs.TableLemmas.{row_absent, row_found}
use Rattle.smt_nodes.proofs.table.Nodes.get_parts.Goals as goal

pub returns-in-Some-clause-parts : goal.returns-in-Some-clause-parts
unfolding rows_of
returns-in-Some-clause-parts c =
    let nodes = c.args.self.now in
    ap (λ n. Some n) c.parts-parts.ensures.parts ∙ sym (ap (λ o. option_map (λ row. parts_of row.node) o)
    (row_found nodes.rows.items (lists_of nodes.tables) (annotated_of nodes.tables) c.args.number c.in-Some.row
    (sym c.row.ensures ∙ c.in-Some.is)))

pub returns-in-Some-clause-whole : goal.returns-in-Some-clause-whole
unfolding rows_of
returns-in-Some-clause-whole c =
    let nodes = c.args.self.now in
    subst (IsWhole c.parts-parts.result) (sym (ap (λ o. option_map (λ row. row.node) o)
    (row_found nodes.rows.items (lists_of nodes.tables) (annotated_of nodes.tables) c.args.number c.in-Some.row
    (sym c.row.ensures ∙ c.in-Some.is)))) c.parts-parts.ensures.whole

pub returns-in-Some-clause-around : goal.returns-in-Some-clause-around
unfolding rows_of
returns-in-Some-clause-around c =
    let nodes = c.args.self.now in
    ap (λ n. Some n) c.around-count.ensures ∙ sym (ap (λ o. option_map (λ row. row.around) o)
    (row_found nodes.rows.items (lists_of nodes.tables) (annotated_of nodes.tables) c.args.number c.in-Some.row
    (sym c.row.ensures ∙ c.in-Some.is)))

pub returns-in-None-clause-parts : goal.returns-in-None-clause-parts
unfolding rows_of
returns-in-None-clause-parts c =
    let nodes = c.args.self.now in
    sym (ap (λ o. option_map (λ row. parts_of row.node) o)
    (row_absent nodes.rows.items (lists_of nodes.tables) (annotated_of nodes.tables) c.args.number (sym c.row.ensures ∙ c.in-None.is)))

pub returns-in-None-clause-around : goal.returns-in-None-clause-around
unfolding rows_of
returns-in-None-clause-around c =
    let nodes = c.args.self.now in
    sym (ap (λ o. option_map (λ row. row.around) o)
    (row_absent nodes.rows.items (lists_of nodes.tables) (annotated_of nodes.tables) c.args.number (sym c.row.ensures ∙ c.in-None.is)))
