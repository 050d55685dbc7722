use Rattle.std.proofs.Common.{◌≡◌, ◌∷◌, ◌&&◌, drop}
use Rattle.std.specs.Prelude.{option_map}
use Rattle.smt_values.specs.Element.{known_elements}
use Rattle.smt_values.specs.KnownOperations.{known_integers}
use Rattle.smt_values.specs.Lists.{are_chained}
use Rattle.smt_values.specs.Operations.{compares}
use Rattle.smt_values.proofs.operations.ints.chain.Given as goal

abbrev pub invariant-loop-arg : goal.invariant-loop-arg
invariant-loop-arg l =
    option_map (are_chained (compares l.op)) (known_integers (known_elements l.fn.args))
    ≡ option_map (λ zs. l.holds && are_chained (compares l.op) (l.last ∷ zs))
    (known_integers (known_elements (drop l.arg-index l.rest)))
