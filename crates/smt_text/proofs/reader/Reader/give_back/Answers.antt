use Rattle.std.proofs.Common.{ap, refl}
use Rattle.smt_text.proofs.TreeEndLemmas.{ends_same}
use Rattle.smt_text.proofs.reader.Reader.give_back.Goals as goal

pub returns-clause-ends : goal.returns-clause-ends
returns-clause-ends c =
    λ fed taken h. ends_same c.args.self.now (record c.args.self.now { builder = c.give_back.new.self }) fed taken
    refl refl (ap (λ ready. ready.items) c.give_back.ensures.ready) refl h
