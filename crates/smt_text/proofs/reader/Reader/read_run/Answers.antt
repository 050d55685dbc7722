use Rattle.std.proofs.Common.{arith}
use Rattle.smt_text.proofs.RunLemmas.{run_kept}
use Rattle.smt_text.specs.Internal.ReaderState.{levels_of}
use Rattle.smt_text.proofs.reader.Reader.read_run.Goals as goal

pub returns-clause-goes : goal.returns-clause-goes
returns-clause-goes c =
    run_kept c.args.self.now.max_depth (levels_of c.args.self.now.builder) c.args.self.now.token c.args.self.now.bytes.items
    c.extend_from_slice.new.self.items c.args.text.now c.run_length-count.result
    (omega arith) c.run_length-count.ensures.within c.run_length-count.ensures.kept
    c.in_ok-extend_from_slice.ensures.items
