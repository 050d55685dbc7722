use Rattle.std.proofs.Common.{sym}
use Rattle.smt_text.proofs.EndingLemmas.{close_read, finish_pushed, open_read}
use Rattle.smt_text.proofs.reader.Reader.advance.Goals as goal

pub returns-in_ok-finish_token-in-Finish-clause-pushed :
    goal.returns-in_ok-finish_token-in-Finish-clause-pushed
returns-in_ok-finish_token-in-Finish-clause-pushed c =
    finish_pushed c.args.left c.args.self.now c.finish_token.new.self c.in-Finish.token c.args.byte
    c.own_end-read.result (sym c.in-Finish.ensures) c.own_end-read.ensures
    c.in_ok-finish_token-in-Finish.ensures.finished c.in_ok-finish_token-in-Finish.ensures.ready

pub returns-in-Open-clause-pushed : goal.returns-in-Open-clause-pushed
returns-in-Open-clause-pushed c =
    open_read c.args.left c.args.self.now c.begin_list.new.self c.args.byte c.begin_list.result
    (sym c.in-Open.ensures) c.begin_list.ensures.pushed

pub returns-in-Close-clause-pushed : goal.returns-in-Close-clause-pushed
returns-in-Close-clause-pushed c =
    close_read c.args.left c.args.self.now.max_depth c.args.self.now c.end_list.new.self
    c.end_list.result c.end_list.ensures.goes c.end_list.ensures.pushed
