use Rattle.std.proofs.Common.{true, refl}
use Rattle.smt_text.proofs.ReaderLemmas.{none_if, stands_finish, stands_stop}
use Rattle.smt_text.proofs.TreeEndLemmas.{ends_finish, ends_same, limited}
use Rattle.smt_text.proofs.reader.Reader.finish.Goals as goal

pub returns-then-is_none-clause-stands : goal.returns-then-is_none-clause-stands
returns-then-is_none-clause-stands c =
    λ fed taken h. stands_finish c.args.self.now
    (record c.close_text.new.self { failure = c.err-self.result }) c.close_text.result fed taken
    c.requires.unfinished c.close_text.ensures.beside.1 c.close_text.ensures.beside.3
    (none_if c.args.self.now.failure c.if-is_none.ensures) c.close_text.ensures.beside.0
    c.err-self.ensures.value c.close_text.ensures.ends h

pub returns-else-is_none-clause-stands : goal.returns-else-is_none-clause-stands
returns-else-is_none-clause-stands c =
    λ fed taken h. stands_stop c.args.self.now (record c.args.self.now { finished = true }) fed taken
    c.requires.unfinished refl refl c.if-is_none.ensures refl refl refl h

pub returns-then-is_none-clause-ends : goal.returns-then-is_none-clause-ends
returns-then-is_none-clause-ends c =
    λ fed taken h k. ends_finish c.args.self.now
    (record c.close_text.new.self { failure = c.err-self.result })
    (limited c.args.self.now.fed (record c.args.self.now { finished = true })) c.close_text.new.self c.close_text.result fed taken c.requires.unfinished
    (none_if c.args.self.now.failure c.if-is_none.ensures) c.close_text.ensures.beside.3
    c.close_text.ensures.beside.4 refl refl refl c.err-self.ensures.value c.close_text.ensures.ends
    c.close_text.ensures.pushed h k

pub returns-else-is_none-clause-ends : goal.returns-else-is_none-clause-ends
returns-else-is_none-clause-ends c =
    λ fed taken h k. ends_same c.args.self.now (record c.args.self.now { finished = true }) fed taken refl refl refl
    refl k
