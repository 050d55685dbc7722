use Rattle.std.proofs.Common.{refl}
use Rattle.smt_terms.proofs.LetFrameLemmas.{let_done}
use Rattle.smt_terms.proofs.library.Library.end_let.Goals as goal

pub returns-clause-done : goal.returns-clause-done
returns-clause-done c outer inner placed w done =
    let last = c.args.draft.now in
    let added = c.in_ok-checked.ensures in
    let_done c.args.self.now c.args.body c.args.is_open outer inner last (record last { scope = c.cut.new.self })
    c.push_let.new.self c.truncate.new.self c.args.checked c.in_ok-checked.checked placed w done c.cut.ensures refl refl
    refl refl added.sort added.open added.added c.push_let.ensures.longer added.scope added.base added.labels
    added.arguments c.truncate.ensures.sorts c.truncate.ensures.terms
