use Rattle.std.proofs.Common.{◌∙◌, ap}
use Rattle.smt_ratios.specs.Known.{known_decimal}
use Rattle.smt_values.proofs.PlacesLemmas.{same_decimal}
use Rattle.smt_values.proofs.literal_values.few_places.Goals as goal

pub returns : goal.returns
returns c = λ number. ap (known_decimal number) c.places.ensures
    ∙ same_decimal c.args.digits.now c.saturating_sub-skipped.result number c.saturating_sub-skipped.ensures
