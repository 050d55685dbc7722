use Rattle.std.proofs.Common.{◌∙◌, sym}
use Rattle.smt_values.specs.Element.{known_element}
use Rattle.smt_values.specs.KnownOperations.{is_known}
use Rattle.smt_values.proofs.ReasonLemmas.{position-map}
use Rattle.smt_values.proofs.reasons.first.Goals as goal

pub returns : goal.returns
returns c = c.place_of_known.ensures ∙ sym (position-map (is_known c.args.truth) known_element c.args.args.now)
