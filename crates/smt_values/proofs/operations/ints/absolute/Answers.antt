use Rattle.std.proofs.Common.{arith}
use Rattle.smt_values.specs.KnownOperations.{known_abs, known_integer}
use Rattle.smt_values.proofs.KnownLoopLemmas.{none_of, abs_none}
use Rattle.smt_values.proofs.operations.ints.absolute.Goals as goal

pub returns-in_default-2 : goal.returns-in_default-2
returns-in_default-2 c =
    none_of known_integer known_abs c.args.args.now (λ zs e. abs_none zs (λ one. omega arith))
