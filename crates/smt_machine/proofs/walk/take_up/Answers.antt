use Rattle.std.proofs.Common.{◌+◌, arith, ap, option_map, ◌∙◌, sym}
use Rattle.smt_machine.proofs.WalkLemmas.{cost_positive, node_parts, taken_more}
use Rattle.smt_machine.specs.Costs.{cost, first_cost, last_cost}
use Rattle.smt_machine.specs.Internal.Parts.{found, found_around, meaning}
use Rattle.smt_machine.specs.Tables.{arounds_of, nodes_of}
use Rattle.smt_machine.proofs.walk.take_up.Goals as goal

pub returns-in_default-clause-taken : goal.returns-in_default-clause-taken
returns-in_default-clause-taken c =
    let one = cost_positive (nodes_of c.args.tables.now) (arounds_of c.args.tables.now) c.args.number in
    let none = c.in_default.ensures in omega (arith, one, none)

pub returns-in_default-checked_sub-clause-taken : goal.returns-in_default-checked_sub-clause-taken
returns-in_default-checked_sub-clause-taken c =
    let node = node_parts (nodes_of c.args.tables.now) (arounds_of c.args.tables.now) c.args.number
    (found_around c.place-place.result) (found c.place-place.result) c.place-place.ensures.around
    c.place-place.ensures.node in
    let one = c.in-Some.ensures in
    let few = c.in_default-checked_sub.ensures in
    let around = c.around.ensures in omega (arith, node, one, few, around)

pub returns-in-Some-node-clause-taken : goal.returns-in-Some-node-clause-taken
returns-in-Some-node-clause-taken c =
    let nodes = nodes_of c.args.tables.now in
    let arounds = arounds_of c.args.tables.now in
    let node = node_parts nodes arounds c.args.number (found_around c.place-place.result)
    (found c.place-place.result) c.place-place.ensures.around c.place-place.ensures.node in
    let one = c.in-Some.ensures in
    let rest = c.in-Some-checked_sub.ensures in
    let around = c.around.ensures in
    taken_more c.wait_for_node.result (cost nodes arounds) _ _ (found_around c.place-place.result)
    c.in-Some-checked_sub.rest c.args.left _ _
    (node ∙ ap (λ n. 1 + found_around c.place-place.result
    + (first_cost c.args.number (cost nodes arounds) n + last_cost c.args.number (cost nodes arounds) n))
    (sym c.node.ensures.meaning ∙ ap (option_map (meaning c.place-place.result)) c.in-Some-node.is))
    (omega (arith, one, rest, around))
    (c.wait_for_node.ensures.taken (cost nodes arounds) (cost_positive nodes arounds))

pub returns-in-None-clause-taken : goal.returns-in-None-clause-taken
returns-in-None-clause-taken c =
    let nodes = nodes_of c.args.tables.now in
    let arounds = arounds_of c.args.tables.now in
    let node = node_parts nodes arounds c.args.number (found_around c.place-place.result)
    (found c.place-place.result) c.place-place.ensures.around c.place-place.ensures.node in
    let none =
    ap (λ n. first_cost c.args.number (cost nodes arounds) n + last_cost c.args.number (cost nodes arounds) n)
    (sym c.node.ensures.meaning ∙ ap (option_map (meaning c.place-place.result)) c.in-None.is) in
    let one = c.in-Some.ensures in
    let rest = c.in-Some-checked_sub.ensures in
    let around = c.around.ensures in omega (arith, node, none, one, rest, around)
