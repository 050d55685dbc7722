use Rattle.smt_text.proofs.NestingLemmas.{reads_at, reads_past, reads_no_token}
use Rattle.std.proofs.Common.{arith}
use Rattle.smt_text.proofs.laws.examples.nesting.Goals as goal

pub returns : goal.returns
returns c = record {
  at_the_limit = reads_at 1000 (omega arith);
  past_the_limit = reads_past 1000;
  at_any_limit = reads_at;
  past_any_limit = reads_past;
  no_token_at_any_limit = reads_no_token;
}
