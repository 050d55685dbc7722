use Rattle.std.proofs.Common.{arith}
use Rattle.smt_values.specs.KnownNumbers.{known_number}
use Rattle.smt_values.specs.Lists.{only_one}
use Rattle.smt_values.proofs.KnownLoopLemmas.{none_of, one_none}
use Rattle.smt_values.proofs.operations.numbers.only.Goals as goal

pub returns-else-args-eq1 : goal.returns-else-args-eq1
returns-else-args-eq1 c =
    none_of known_number only_one c.args.args.now (λ rs e. one_none rs (λ one. omega arith))
