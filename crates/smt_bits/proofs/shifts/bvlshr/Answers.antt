use Rattle.std.proofs.Common.{◌<◌, ◌^◌, subst}
use Rattle.smt_bits.proofs.ShiftLemmas.{lshr_is}
use Rattle.smt_bits.proofs.shifts.bvlshr.Goals as goal

pub returns : goal.returns
returns c =
    let below = subst (λ n. n < 2 ^ c.args.s.width) c.number.ensures.value c.number.ensures.below in
    let number = lshr_is c.args.s.width c.args.s.number c.args.t.number below in
    cc
