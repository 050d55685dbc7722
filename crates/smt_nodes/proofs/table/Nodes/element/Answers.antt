use Rattle.std.proofs.Common.{Option, ap, sym, ◌∙◌}
use Rattle.std.specs.Option.{option_map}
use Rattle.smt_nodes.specs.Internal.Annotations.{annotated_of}
use Rattle.smt_nodes.specs.Internal.Lists.{lists_of}
use Rattle.smt_nodes.specs.Internal.Elements.{held_element}
use Rattle.smt_nodes.specs.Elements.{element_in}
use Rattle.smt_nodes.specs.Node.{Row}
use Rattle.smt_nodes.specs.Nodes.{names_of, rows_of}
use Rattle.smt_nodes.specs.declared.rows.Stored.{Stored}
use Rattle.smt_nodes.proofs.TableLemmas.{row_absent, row_found}
use Rattle.smt_nodes.proofs.table.Nodes.element.Goals as goal

pub returns-in-Some : goal.returns-in-Some
unfolding rows_of names_of
returns-in-Some c =
    let nodes = c.args.self.now in
    let row = c.in-Some.row in
    let at = sym c.row.ensures ∙ c.in-Some.is in
    c.element.ensures ∙ ap (λ (s : Stored). held_element s) c.inner-stored.ensures
    ∙ nodes.named c.args.number row at
    ∙ sym (ap (λ (o : Option Row). element_in nodes.names (option_map (λ (r : Row). r.node) o))
    (row_found nodes.rows.items (lists_of nodes.tables) (annotated_of nodes.tables) c.args.number row at))

pub returns-in-None : goal.returns-in-None
unfolding rows_of names_of
returns-in-None c =
    let nodes = c.args.self.now in
    sym (ap (λ (o : Option Row). element_in nodes.names (option_map (λ (r : Row). r.node) o))
    (row_absent nodes.rows.items (lists_of nodes.tables) (annotated_of nodes.tables) c.args.number (sym c.row.ensures ∙ c.in-None.is)))
