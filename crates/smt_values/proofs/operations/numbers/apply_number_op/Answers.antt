use Rattle.smt_values.specs.Element.{element_of, known_elements}
use Rattle.smt_values.proofs.NumberKnownLemmas.{applied_ints}
use Rattle.smt_values.proofs.operations.numbers.apply_number_op.Goals as goal

pub returns-in-Some : goal.returns-in-Some
returns-in-Some c =
    applied_ints c.args.op (known_elements c.args.args.now) (element_of c.in-Some.value) c.in-Some.ensures
