use Rattle.std.proofs.Common.{arith, length, sym, ◌<◌, ◌≤◌}
use Rattle.smt_forms.proofs.ElementNameLemmas.{all_left, found, none_left, passed}
use Rattle.smt_forms.proofs.element_names.before_numeral.Goals as goal

pub loop-at-init : goal.loop-at-init
loop-at-init c = (omega arith, all_left c.args.mark.now c.args.symbol.now)

pub loop-at-preserved : goal.loop-at-preserved
loop-at-preserved c =
    let below : c.loop-at.at < length c.args.symbol.now = omega (arith, c.loop-at-test.true) in (
      omega (arith, below),
      passed c.args.mark.now c.args.symbol.now c.loop-at.at below (sym c.if-is_numeral_behind.ensures)
          c.loop-at.invariant.1,
    )

pub returns-then-is_numeral_behind : goal.returns-then-is_numeral_behind
returns-then-is_numeral_behind c =
    let below : c.loop-at.at < length c.args.symbol.now = omega (arith, c.loop-at-test.true) in
    found c.args.mark.now c.args.symbol.now c.loop-at.at below (sym c.if-is_numeral_behind.ensures)
    c.loop-at.invariant.1

pub returns : goal.returns
returns c =
    let past : length c.args.symbol.now ≤ c.loop-at.at = omega (arith, c.loop-at-test.false) in
    none_left c.args.mark.now c.args.symbol.now c.loop-at.at past c.loop-at.invariant.1
