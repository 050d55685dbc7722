use Rattle.smt_theory.proofs.OperatorLemmas.{op_by-own, op_by-name}
use Rattle.smt_theory.proofs.laws.operators_are_found_by_their_names.Goals as goal

pub returns : goal.returns
returns c = λ theories symbol indexes op.
    (op_by-own theories symbol indexes op, op_by-name theories symbol indexes op)
