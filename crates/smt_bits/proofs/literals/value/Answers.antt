use Rattle.std.proofs.Common.{◌^◌, ◌∙◌, rules}
use Rattle.smt_bits.proofs.LiteralLemmas.{digit_read}
use Rattle.smt_bits.proofs.literals.value.Goals as goal

pub loop-byte-preserved : goal.loop-byte-preserved
loop-byte-preserved c = record {
  read =
      c.loop-byte.invariant.read
      ∙ digit_read c.args.base c.loop-byte.value c.with_digit-value.result (2 ^ 128) c.args.digits.now
      c.loop-byte.byte-index c.loop-byte-test.true c.with_digit-value.ensures;
  fits = search rules;
}
