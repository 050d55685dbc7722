use Rattle.std.proofs.Common.{ap, arith, sym, ◌∙◌}
use Rattle.smt_machine.proofs.WalkLemmas.{none_taken, some_fewer, some_taken, sum-last, within_past}
use Rattle.smt_machine.specs.Costs.{cost}
use Rattle.smt_machine.specs.Internal.Walks.{sum_of}
use Rattle.smt_machine.specs.Tables.{arounds_of, nodes_of, term_cost}
use Rattle.smt_machine.proofs.walk.cost_within.Goals as goal

pub loop-number-preserved : goal.loop-number-preserved
loop-number-preserved c =
    let of = cost (nodes_of c.args.tables) (arounds_of c.args.tables) in
    let i = c.loop-number.invariant in
    let popped = ap (sum_of of) c.in-Some-pop.ensures.items ∙ sum-last of c.pop.new.self.items c.in-Some-pop.number in
    let taken = some_taken of _ _ _ _ _ _ c.in-Some-2.is c.in_ok-fewer.ensures.taken in
    let fewer = some_fewer _ _ _ c.in-Some-2.is c.in_ok-fewer.ensures.fewer in
    record {
      counted = omega (arith, i.counted, popped, taken);
      most = omega (arith, i.most, fewer);
    }

pub returns-in-None : goal.returns-in-None
returns-in-None c =
    let of = cost (nodes_of c.args.tables) (arounds_of c.args.tables) in
    let i = c.loop-number.invariant in
    let popped = ap (sum_of of) c.in-Some-pop.ensures.items ∙ sum-last of c.pop.new.self.items c.in-Some-pop.number in
    let little = none_taken of _ _ _ _ _ c.in-None.is c.in_ok-fewer.ensures.taken in
    sym (within_past c.args.limit (term_cost c.args.tables c.args.term)
    (omega (arith, i.counted, i.most, popped, little)))
