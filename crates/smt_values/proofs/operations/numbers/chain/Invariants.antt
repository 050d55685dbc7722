use Rattle.std.proofs.Common.{◌≡◌, ◌∷◌, ◌&&◌, drop}
use Rattle.std.specs.Prelude.{option_map}
use Rattle.smt_ratios.specs.View.{rational_of}
use Rattle.smt_values.specs.Element.{known_elements}
use Rattle.smt_values.specs.KnownNumbers.{known_numbers}
use Rattle.smt_values.specs.Lists.{are_chained}
use Rattle.smt_values.specs.Numbers.{orders}
use Rattle.smt_values.proofs.operations.numbers.chain.Given as goal

abbrev pub invariant-loop-arg : goal.invariant-loop-arg
invariant-loop-arg l =
    option_map (are_chained (orders l.op)) (known_numbers (known_elements l.fn.args))
    ≡ option_map (λ rs. l.holds && are_chained (orders l.op) (rational_of l.last ∷ rs))
    (known_numbers (known_elements (drop l.arg-index l.rest)))
