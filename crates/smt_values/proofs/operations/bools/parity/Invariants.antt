use Rattle.std.proofs.Common.{◌≡◌, drop}
use Rattle.std.specs.Prelude.{fold, map, option_map}
use Rattle.smt_values.specs.Operations.{exclusive_or}
use Rattle.smt_theory.specs.declared.op.CoreOp.TheVariants.{Xor}
use Rattle.smt_values.specs.Element.{Truth, known_elements}
use Rattle.smt_values.specs.KnownOperations.{known_core, known_truth}
use Rattle.smt_values.specs.Lists.{all_known}
use Rattle.smt_values.proofs.operations.bools.parity.Given as goal

abbrev pub invariant-loop-arg : goal.invariant-loop-arg
invariant-loop-arg l =
    known_core Xor (known_elements l.args)
    ≡ option_map (λ bs. Truth (fold exclusive_or l.odd bs))
    (all_known (map known_truth (known_elements (drop l.arg-index l.args))))
