use Rattle.std.proofs.Common.{◌∙◌, sym}
use Rattle.smt_values.specs.Element.{known_element}
use Rattle.smt_values.specs.KnownNumbers.{is_known_fraction}
use Rattle.smt_values.proofs.KnownLoopLemmas.{list_any-map}
use Rattle.smt_values.proofs.operations.numbers.has_fraction.Goals as goal

pub returns : goal.returns
returns c = c.some_are_fractions.ensures ∙ sym (list_any-map is_known_fraction known_element c.args.args.now)
