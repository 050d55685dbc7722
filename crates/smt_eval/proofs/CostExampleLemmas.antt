-- What functions cost that call the one before twice.
use Rattle.std.proofs.Common.{◌≡◌, ℕ, zero, suc, ◌+◌, ◌*◌, ◌^◌, cond, List, [], ◌∷◌, ◌++◌, codes, refl, ap, ◌∙◌, arith}
use Rattle.std.proofs.Math.Nat.{pow-suc}
use Rattle.smt_terms.specs.Signature.{Entry}
use Rattle.smt_eval.proofs.NameLemmas.{same_self}
use Rattle.smt_eval.specs.Cost.{BodyCosts, cost_of, costs_after, no_costs, with_cost}
use Rattle.smt_eval.specs.CostExamples.{doubling, doubling_body, doubling_name, doublings}

costs_last : (b : BodyCosts) (es : List Entry) (e : Entry)
    → costs_after b (es ++ e ∷ []) ≡ with_cost (costs_after b es) e
costs_last b [] e = refl
costs_last b (c ∷ es) e = costs_last (with_cost b c) es e

pub doubling_costs : (k : ℕ) → costs_after no_costs (doublings k) (doubling_name k) + 3 ≡ 6 * 2 ^ k
doubling_costs zero = refl
doubling_costs (suc k) =
    let before : BodyCosts = costs_after no_costs (doublings k) in
    let name : List ℕ = doubling_name (suc k) in
    let last = ap (λ (b : BodyCosts). b name) (costs_last no_costs (doublings k) (doubling (suc k)))
    ∙ ap (λ b. cond b (cost_of before (codes "x" ∷ []) (doubling_body (suc k))) (before name)) (same_self name) in
    let rest = doubling_costs k in
    omega (arith, last, rest, pow-suc 2 k)
