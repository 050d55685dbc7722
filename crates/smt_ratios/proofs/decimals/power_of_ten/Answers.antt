use Rattle.std.proofs.Common.{◌∙◌, ap, pos, arith}
use Rattle.std.specs.Int.{w128}
use Rattle.std.proofs.lemmas.Int.{fits_signed_from_abs, to_z_pos}
use Rattle.smt_ratios.proofs.DecimalLemmas.{power_below}
use Rattle.smt_ratios.proofs.decimals.power_of_ten.Goals as goal

pub pow-requires : goal.pow-requires
pow-requires c = let below = power_below c.args.places c.requires in omega arith

pub overflow_cast-result : goal.overflow_cast-result
overflow_cast-result c =
    let below = power_below c.args.places c.requires in
    fits_signed_from_abs w128 (pos c.pow.result) (omega arith)

pub returns : goal.returns
returns c =
    let below = power_below c.args.places c.requires in
    to_z_pos w128 c.pow.result (omega arith) ∙ ap pos c.pow.ensures
