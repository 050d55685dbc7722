-- the variables so far are of the first parameters; the others are left
use Rattle.std.proofs.Common.{◌≡◌, ◌++◌, drop, map}
use Rattle.std.specs.List.{zip}
use Rattle.smt_plain.specs.PlainTerm.{known_singles}
use Rattle.smt_plain.specs.Internal.PlainEvaluation.{known_scope}
use Rattle.smt_plain.proofs.scope.bind.Given as goal

abbrev pub invariant-loop-place : goal.invariant-loop-place
invariant-loop-place l =
    zip (map (λ p. p.0.items) l.params) (known_singles l.args)
    ≡ known_scope l.variables.items
    ++ zip (map (λ p. p.0.items) (drop l.place l.params)) (known_singles (drop l.place l.args))
