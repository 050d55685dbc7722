use Rattle.std.proofs.Common.{Option, ap, sym, ◌∙◌}
use Rattle.std.specs.Option.{option_map}
use Rattle.smt_nodes.specs.Internal.Annotations.{annotated_of}
use Rattle.smt_nodes.specs.Internal.Lists.{lists_of}
use Rattle.smt_nodes.specs.Internal.Numbers.{held_number, large_of}
use Rattle.smt_nodes.specs.Literals.{literal_number}
use Rattle.smt_nodes.specs.Node.{Row}
use Rattle.smt_nodes.specs.Nodes.{rows_of}
use Rattle.smt_nodes.specs.declared.rows.Stored.{Stored}
use Rattle.smt_nodes.proofs.TableLemmas.{row_absent, row_found}
use Rattle.smt_nodes.proofs.table.Nodes.literal.Goals as goal

pub returns-in-Some : goal.returns-in-Some
unfolding rows_of
returns-in-Some c =
    let nodes = c.args.self.now in
    let row = c.in-Some.row in
    let at = sym c.row.ensures ∙ c.in-Some.is in
    c.number.ensures ∙ ap (λ (s : Stored). held_number (large_of nodes.tables) s) c.inner-stored.ensures
    ∙ (nodes.numbered c.args.number row at).value
    ∙ sym (ap (λ (o : Option Row). literal_number (option_map (λ (r : Row). r.node) o))
    (row_found nodes.rows.items (lists_of nodes.tables) (annotated_of nodes.tables) c.args.number row at))

pub returns-in-None : goal.returns-in-None
unfolding rows_of
returns-in-None c =
    let nodes = c.args.self.now in
    sym (ap (λ (o : Option Row). literal_number (option_map (λ (r : Row). r.node) o))
    (row_absent nodes.rows.items (lists_of nodes.tables) (annotated_of nodes.tables) c.args.number (sym c.row.ensures ∙ c.in-None.is)))
