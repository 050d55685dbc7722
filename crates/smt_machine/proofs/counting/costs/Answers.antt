use Rattle.std.proofs.Common.{◌≡◌, ◌∙◌, ◌++◌, ◌∷◌, [], List, ℕ, ap, subst, sym, arith, length, length-append}
use Rattle.smt_machine.specs.Costs.{capped, cost, node_cost}
use Rattle.smt_machine.specs.Internal.Sums.{AreKept}
use Rattle.smt_machine.specs.Internal.Parts.{found, found_around}
use Rattle.smt_machine.specs.Tables.{arounds_of, nodes_of}
use Rattle.smt_machine.proofs.SumLemmas.{kept_next}
use Rattle.smt_machine.proofs.counting.costs.Goals as goal

pub loop-number-preserved : goal.loop-number-preserved
loop-number-preserved c =
    let nodes = nodes_of c.args.tables in
    let arounds = arounds_of c.args.tables in
    let kept = c.loop-number.costs.items in
    let seen = c.as_slice.ensures.value in
    let all : c.push_reserved.new.self.items ≡ kept ++ c.cost_at-cost.result ∷ [] = c.push_reserved.ensures.items in
    let is : c.cost_at-cost.result ≡ capped (node_cost (length kept) (cost nodes arounds)
    (found_around c.model_place.result) (found c.model_place.result)) =
    c.cost_at-cost.ensures (cost nodes arounds)
    (subst (λ (xs : List ℕ). AreKept (cost nodes arounds) xs) (sym seen) c.loop-number.invariant.costs)
    ∙ ap (λ (xs : List ℕ). capped (node_cost (length xs) (cost nodes arounds)
    (found_around c.model_place.result) (found c.model_place.result))) seen in
    let counted = c.loop-number.invariant.count in
    record {
      count = omega (
        arith,
        ap (λ (xs : List ℕ). length xs) all,
        length-append kept (c.cost_at-cost.result ∷ []),
        counted,
      );
      costs = kept_next nodes arounds kept c.push_reserved.new.self.items c.loop-number.number
          (found_around c.model_place.result) c.cost_at-cost.result (found c.model_place.result)
          c.loop-number.invariant.costs counted c.model_place.ensures.around c.model_place.ensures.node is all;
      len = omega (arith, c.push_reserved.ensures.len, c.loop-number.invariant.len);
      room = omega (arith, c.push_reserved.ensures.capacity, c.loop-number.invariant.room);
    }

pub loop-number-2-preserved : goal.loop-number-2-preserved
loop-number-2-preserved c =
    let nodes = nodes_of c.args.tables in
    let arounds = arounds_of c.args.tables in
    let kept = c.loop-number-2.costs.items in
    let seen = c.as_slice-in-loop-number-2.ensures.value in
    let all : c.push_reserved-in-loop-number-2.new.self.items ≡ kept ++ c.cost_at-next.result ∷ [] =
    c.push_reserved-in-loop-number-2.ensures.items in
    let is : c.cost_at-next.result ≡ capped (node_cost (length kept) (cost nodes arounds)
    (found_around c.script_place.result) (found c.script_place.result)) =
    c.cost_at-next.ensures (cost nodes arounds)
    (subst (λ (xs : List ℕ). AreKept (cost nodes arounds) xs) (sym seen) c.loop-number-2.invariant.costs)
    ∙ ap (λ (xs : List ℕ). capped (node_cost (length xs) (cost nodes arounds)
    (found_around c.script_place.result) (found c.script_place.result))) seen in
    let counted = c.loop-number-2.invariant.count in
    record {
      count = omega (
        arith,
        ap (λ (xs : List ℕ). length xs) all,
        length-append kept (c.cost_at-next.result ∷ []),
        counted,
      );
      costs = kept_next nodes arounds kept c.push_reserved-in-loop-number-2.new.self.items c.loop-number-2.number
          (found_around c.script_place.result) c.cost_at-next.result (found c.script_place.result)
          c.loop-number-2.invariant.costs counted c.script_place.ensures.around c.script_place.ensures.node is all;
      len = omega (arith, c.push_reserved-in-loop-number-2.ensures.len, c.loop-number-2.invariant.len);
      room = omega (arith, c.push_reserved-in-loop-number-2.ensures.capacity, c.loop-number-2.invariant.room);
    }
