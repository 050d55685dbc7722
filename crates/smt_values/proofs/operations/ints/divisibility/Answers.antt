use Rattle.std.proofs.Common.{arith}
use Rattle.smt_values.specs.KnownOperations.{known_divisible, known_integer}
use Rattle.smt_values.proofs.KnownLoopLemmas.{none_of, divisible_none}
use Rattle.smt_values.proofs.operations.ints.divisibility.Goals as goal

pub returns-in_default-3 : goal.returns-in_default-3
returns-in_default-3 c = none_of known_integer (known_divisible c.args.n) c.args.args.now
    (λ zs e. divisible_none c.args.n zs (λ one. omega arith))
