use Rattle.smt_text.proofs.TreeEndLemmas.{end_reads}
use Rattle.smt_text.proofs.reader.Reader.tree_end.Goals as goal

pub returns-clause-reads : goal.returns-clause-reads
returns-clause-reads c = λ fed taken h. end_reads c.args.self.now fed taken h
