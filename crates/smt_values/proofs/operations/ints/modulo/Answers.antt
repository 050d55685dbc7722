use Rattle.std.proofs.Common.{arith}
use Rattle.smt_values.specs.KnownOperations.{known_integer, known_mod}
use Rattle.smt_values.proofs.KnownLoopLemmas.{none_of, mod_none}
use Rattle.smt_values.proofs.operations.ints.modulo.Goals as goal

pub returns-in_default : goal.returns-in_default
returns-in_default c =
    none_of known_integer known_mod c.args.args.now (λ zs e. mod_none zs (λ two. omega arith))

pub returns-in_default-2 : goal.returns-in_default-2
returns-in_default-2 c =
    none_of known_integer known_mod c.args.args.now (λ zs e. mod_none zs (λ two. omega arith))
