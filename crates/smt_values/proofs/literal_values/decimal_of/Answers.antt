use Rattle.std.proofs.Common.{◌∙◌, ap, sym}
use Rattle.smt_values.specs.Element.{known_element}
use Rattle.smt_values.specs.Decimals.{decimal_digits, places}
use Rattle.smt_values.proofs.NumberKnownLemmas.{too_large}
use Rattle.smt_values.proofs.literal_values.decimal_of.Goals as goal

pub returns-in_err-number : goal.returns-in_err-number
returns-in_err-number c =
    ap known_element c.from_residual.ensures
    ∙ too_large (decimal_digits c.args.digits.now) (places c.args.digits.now) (sym c.requires ∙ c.in_err-number.was)
