use Rattle.std.proofs.Common.{◌∙◌, sym}
use Rattle.std.specs.Prelude.{is_none}
use Rattle.smt_values.specs.Element.{known_element}
use Rattle.smt_values.proofs.ReasonLemmas.{position-map}
use Rattle.smt_values.proofs.reasons.first_open.Goals as goal

pub returns : goal.returns
returns c = c.place_of_open.ensures ∙ sym (position-map is_none known_element c.args.args.now)
