-- A cost below the greatest number is that of the term.
use Rattle.std.proofs.Common.{◌≡◌, ◌≤◌, ◌<◌, ◌-◌, ◌^◌, ℕ, arith}
use Rattle.std.proofs.lemmas.Bool.Decides.{nat_tests}
use Rattle.smt_machine.specs.Costs.{capped}
use Rattle.rows.proofs.values.nodes.known_in.Goals as goal

within : (n steps left : ℕ) → steps ≡ capped n → steps ≤ left → left < 2 ^ 64 - 1 → n ≤ left
within n steps left is most below = omega (arith, is, most, below)

pub eval-requires-clause-enough : goal.eval-requires-clause-enough
eval-requires-clause-enough c = λ script definitions term names holds is.
    within _ _ _ (c.cost-steps.ensures script definitions term names holds is) (grind (arith, nat_tests))
    c.requires.below
