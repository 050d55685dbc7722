use Rattle.std.proofs.Common.{arith}
use Rattle.smt_text.proofs.RunLemmas.{skipped_run}
use Rattle.smt_text.specs.Internal.ReaderState.{levels_of}
use Rattle.smt_text.proofs.reader.Reader.read_comment.Goals as goal

pub returns-clause-goes : goal.returns-clause-goes
returns-clause-goes c = (
  omega arith,
  c.comment_length-count.ensures.within,
  skipped_run c.args.self.now.max_depth
      (levels_of c.args.self.now.builder) c.args.self.now.token c.args.self.now.bytes.items c.args.text.now
      c.comment_length-count.result c.requires.token c.comment_length-count.ensures.within
      c.comment_length-count.ensures.skipped,
)
