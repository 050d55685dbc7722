use Rattle.std.proofs.Common.{◌≡◌, ◌≤◌, ◌∙◌, ℕ, Option, subst, arith}
use Rattle.std.specs.Prelude.{IfSome}
use Rattle.std.proofs.lemmas.Result.{IfOk-weaker}
use Rattle.smt_eval.specs.Structure.{structure_of}
use Rattle.smt_dialogue.specs.Judgement.{claims_cost, judged_within}
use Rattle.smt_dialogue.proofs.SizedClaimLemmas.{few_steps}
use Rattle.smt_dialogue.proofs.judgement.judge_read.Goals as goal

pub judge_counted-requires-clause-enough : goal.judge_counted-requires-clause-enough
judge_counted-requires-clause-enough c = λ script definitions all stands holds claims.
    (subst (λ (o : Option ℕ). IfSome o (λ n. (n ≤ c.args.limit.steps)
    × (claims_cost (structure_of script definitions) all ≤ n))) c.in-Some.is
    (c.in_ok-steps.ensures script definitions all stands holds claims)).1

pub returns-in-Some : goal.returns-in-Some
returns-in-Some c = λ script definitions all stands holds claims.
    let d = structure_of script definitions in
    let both = subst (λ (o : Option ℕ). IfSome o (λ n. (n ≤ c.args.limit.steps) × (claims_cost d all ≤ n)))
    c.in-Some.is (c.in_ok-steps.ensures script definitions all stands holds claims) in
    let most = both.0 in
    let cost = both.1 in
    IfOk-weaker c.judge_counted.result _ (λ j. j ≡ judged_within c.args.limit.steps all d)
    (λ j h. h ∙ few_steps c.args.limit.steps all d (omega (arith, most, cost)))
    (c.judge_counted.ensures script definitions all stands holds claims)
