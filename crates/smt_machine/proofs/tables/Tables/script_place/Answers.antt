use Rattle.std.proofs.Common.{[], ap, cond, length, option_map, slice_get, sym, unwrap_or, ◌∙◌, arith}
use Rattle.smt_nodes.specs.Node.{Row}
use Rattle.smt_nodes.specs.Nodes.{names_of, rows_of}
use Rattle.smt_values.specs.ElementNumbers.{numbered_in}
use Rattle.smt_machine.specs.Tables.{elements_of, resolved, unnamed}
use Rattle.smt_machine.proofs.ScriptLemmas.{at_transient}
use Rattle.smt_machine.proofs.tables.Tables.script_place.Goals as goal

pub returns-else-own-count-clause-node : goal.returns-else-own-count-clause-node
returns-else-own-count-clause-node c =
    let tables = c.args.self.now in
    let at = c.place_among-else-own-count.result in
    let e = c.place_among-else-own-count.ensures in
    let shift = e.shift ∙ c.requires.shift in
    let model = rows_of tables.model.now in
    let script = rows_of tables.script.now in
    let past = c.if-own-count.false in
    let count = c.len-count.ensures in
    let behind = c.requires.behind in
    let here = c.requires.shift in
    (λ i. option_map (λ (row : Row). resolved (cond (e.named i) (numbered_in (names_of (e.nodes i))) unnamed) (shift i)
    (e.bodies i) (e.declared i) row.node)
    (slice_get (rows_of (e.nodes i)) at.number))
    ∙ sym (at_transient model
    (λ (row : Row). resolved (elements_of tables) 0 tables.model_bodies.now [] row.node) script
    (rows_of tables.transient.now)
    (λ (row : Row). resolved unnamed (length model) tables.script_bodies.now tables.declared.now row.node) c.args.number
    at.number (omega (arith, here, behind)) (omega (arith, here, behind, past, count))
    (omega (arith, e.number, here, count)))

pub returns-else-own-count-clause-around : goal.returns-else-own-count-clause-around
returns-else-own-count-clause-around c =
    let tables = c.args.self.now in
    let at = c.place_among-else-own-count.result in
    let e = c.place_among-else-own-count.ensures in
    let model = rows_of tables.model.now in
    let script = rows_of tables.script.now in
    let past = c.if-own-count.false in
    let count = c.len-count.ensures in
    let behind = c.requires.behind in
    let here = c.requires.shift in
    ap (λ nodes. unwrap_or (option_map (λ (row : Row). row.around) (slice_get (rows_of nodes) at.number)) 0) e.nodes
    ∙ ap (λ o. unwrap_or o 0)
    (sym (at_transient model (λ (row : Row). row.around) script (rows_of tables.transient.now)
    (λ (row : Row). row.around) c.args.number at.number (omega (arith, here, behind))
    (omega (arith, here, behind, past, count)) (omega (arith, e.number, here, count))))
