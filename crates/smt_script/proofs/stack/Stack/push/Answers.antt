use Rattle.std.proofs.Common.{◌≤◌, ◌+◌, ℕ, ◌++◌, length, ap, ◌∙◌, arith}
use Rattle.std.specs.Str.Parse.{digits_value}
use Rattle.smt_script.specs.Internal.Runs.{copies}
use Rattle.smt_script.specs.Stack.{max_levels}
use Rattle.smt_script.proofs.LevelLemmas.{push_effect}
use Rattle.smt_script.proofs.stack.Stack.push.Goals as goal

pub returns-clause-effect : goal.returns-clause-effect
returns-clause-effect c =
    let old = c.args.self.now.levels in
    let same = c.in-Some-count_to.ensures.0 in
    let most = c.in-Some-count_to.ensures.1 in
    let room = c.in-Some.ensures in
    let len = c.len.ensures in
    let fits : length old + digits_value 10 c.args.digits.now ≤ max_levels = omega arith in
    push_effect c.terms_have_nodes.ensures c.args.self.now c.push.new.self c.level-level.result
    (digits_value 10 c.args.digits.now) c.level-level.ensures
    (c.in_ok-push.ensures.added ∙ ap (λ (n : ℕ). old ++ copies n c.level-level.result) same) fits
