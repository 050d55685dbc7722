use Rattle.std.proofs.Common.{arith, ◌<◌, sym}
use Rattle.std.proofs.lemmas.List.{append_assoc}
use Rattle.smt_reasons.proofs.DigitLemmas.{highest_first}
use Rattle.smt_reasons.proofs.value_texts.add_digits.Goals as goal

pub loop-left-preserved : goal.loop-left-preserved
loop-left-preserved c =
    let some : 0 < c.loop-left.left = omega (arith, c.loop-left-test.true) in (
      rw (
        c.in_ok-push.ensures.items,
        append_assoc,
        c.glyph.ensures,
        c.requires.base,
        sym (highest_first c.loop-left.left c.args.size c.args.number some),
      )
          (c.loop-left.invariant.0),
      omega (arith, c.loop-left.invariant.1),
    )
