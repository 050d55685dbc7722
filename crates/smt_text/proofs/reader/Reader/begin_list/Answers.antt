use Rattle.smt_text.proofs.EndingLemmas.{begin_pushed}
use Rattle.smt_text.proofs.reader.Reader.begin_list.Goals as goal

pub returns-clause-pushed : goal.returns-clause-pushed
returns-clause-pushed c =
    begin_pushed c.args.end c.args.self.now c.finish_token.new.self
    (record c.finish_token.new.self { builder = c.begin_list.new.self }) c.in_ok-begin_list.ensures.ready
    c.in_ok-finish_token.ensures.finished c.in_ok-finish_token.ensures.ready
