use Rattle.std.proofs.Common.{◌≡◌, ◌∙◌, ◌++◌, ◌∷◌, [], List, ℕ, suc, ◌+◌, ap, subst, sym, arith, length, length-append, max}
use Rattle.smt_machine.specs.Costs.{capped, cost, greatest_of, node_cost}
use Rattle.smt_machine.specs.Internal.Sums.{AreKept}
use Rattle.smt_machine.specs.Internal.Parts.{found, found_around}
use Rattle.smt_machine.specs.Tables.{arounds_of, nodes_of}
use Rattle.smt_machine.proofs.SumLemmas.{kept_next, next_cost}
use Rattle.smt_machine.proofs.counting.greatest_cost.Goals as goal

pub loop-number-preserved : goal.loop-number-preserved
loop-number-preserved c =
    let nodes = nodes_of c.args.tables in
    let arounds = arounds_of c.args.tables in
    let kept = c.loop-number.costs.items in
    let seen = c.as_slice.ensures.value in
    let all : c.push_reserved.new.self.items ≡ kept ++ c.cost_at-node_cost.result ∷ [] = c.push_reserved.ensures.items in
    let is : c.cost_at-node_cost.result ≡ capped (node_cost (length kept) (cost nodes arounds)
    (found_around c.model_place.result) (found c.model_place.result)) =
    c.cost_at-node_cost.ensures (cost nodes arounds)
    (subst (λ (xs : List ℕ). AreKept (cost nodes arounds) xs) (sym seen) c.loop-number.invariant.costs)
    ∙ ap (λ (xs : List ℕ). capped (node_cost (length xs) (cost nodes arounds)
    (found_around c.model_place.result) (found c.model_place.result))) seen in
    let counted = c.loop-number.invariant.count in
    let value = next_cost nodes arounds kept c.loop-number.number (found_around c.model_place.result) c.cost_at-node_cost.result
    (found c.model_place.result) counted c.model_place.ensures.around c.model_place.ensures.node is in
    let next : suc c.loop-number.number ≡ c.loop-number.number + 1 = omega arith in
    record {
      count = omega (
        arith,
        ap (λ (xs : List ℕ). length xs) all,
        length-append kept (c.cost_at-node_cost.result ∷ []),
        counted,
      );
      costs = kept_next nodes arounds kept c.push_reserved.new.self.items c.loop-number.number
          (found_around c.model_place.result) c.cost_at-node_cost.result (found c.model_place.result)
          c.loop-number.invariant.costs counted c.model_place.ensures.around c.model_place.ensures.node is all;
      most = c.max-most.ensures ∙ ap (λ n. max n c.loop-number.most) value
          ∙ ap (max (capped (cost nodes arounds c.loop-number.number))) c.loop-number.invariant.most
          ∙ ap (λ n. greatest_of n (cost nodes arounds)) next;
      len = omega (arith, c.push_reserved.ensures.len, c.loop-number.invariant.len);
      room = omega (arith, c.push_reserved.ensures.capacity, c.loop-number.invariant.room);
    }
