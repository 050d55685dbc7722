use Rattle.std.proofs.Common.{◌∙◌, None, Some, false, refl, sym, true}
use Rattle.smt_dialogue.proofs.TreeQueueLemmas.{ended_text, faulty_text, looked_none, looked_tree, none_there}
use Rattle.smt_dialogue.proofs.TreeQueueLemmas.{open_text, reads_at, stands_open, stands_ready}
use Rattle.smt_text.specs.Reader.{depth_limit, is_finished}
use Rattle.smt_dialogue.proofs.tree_queue.TreeQueue.look.Goals as goal

pub returns-in-Tree-clause-ahead : goal.returns-in-Tree-clause-ahead
returns-in-Tree-clause-ahead c = λ bytes text rest h.
    let found = looked_tree c.one_reading.ensures.one c.args.self.now _ c.in-Tree.tree bytes text rest
    (none_there c.args.self.now.next c.if-is_some.ensures) refl c.in-Tree.ensures.finished c.in-Tree.ensures.limit
    c.in-Tree.ensures.right c.in-Tree.ensures.stands h in
    (found.0, (c.in-Tree.tree, found.1.0, refl, found.1.1))

pub returns-in-Wait-clause-ahead : goal.returns-in-Wait-clause-ahead
returns-in-Wait-clause-ahead c = λ bytes text rest h.
    let front = c.args.self.now in
    let none = none_there front.next c.if-is_some.ensures in
    let found = looked_none c.one_reading.ensures.one front _ bytes text rest None none none
    c.in-Wait.ensures.finished c.in-Wait.ensures.limit
    (λ fed taken s. reads_at (depth_limit front.reader) false (is_finished front.reader) fed taken None
    (c.in-Wait.ensures.right fed taken s))
    c.in-Wait.ensures.stands h in
    let told = (c.in-Wait.ensures.right bytes h.taken (stands_open front bytes text rest none h)).0 in
    (found.0, (found.1, open_text text (h.told ∙ told) found.2))

pub returns-in-End-clause-ahead : goal.returns-in-End-clause-ahead
returns-in-End-clause-ahead c = λ bytes text rest h.
    let front = c.args.self.now in
    let none = none_there front.next c.if-is_some.ensures in
    let found = looked_none c.one_reading.ensures.one front _ bytes text rest None none none
    c.in-End.ensures.finished c.in-End.ensures.limit
    (λ fed taken s. reads_at (depth_limit front.reader) true (is_finished front.reader) fed taken None
    (c.in-End.ensures.right fed taken s))
    c.in-End.ensures.stands h in
    let told = (c.in-End.ensures.right bytes h.taken (stands_open front bytes text rest none h)).0 in
    (found.0, (found.1, found.2, ended_text text (h.told ∙ told)))

pub returns-in-Some-clause-ahead : goal.returns-in-Some-clause-ahead
returns-in-Some-clause-ahead c = λ bytes text rest h.
    let front = c.args.self.now in
    let none = none_there front.next c.if-is_some.ensures in
    let found = looked_none c.one_reading.ensures.one front _ bytes text rest (Some c.in-Some.flaw) none none
    c.in-Fault.ensures.finished c.in-Fault.ensures.limit
    (λ fed taken s. c.in-Fault.ensures.right fed taken s c.in-Some.flaw (sym c.in-Some.ensures))
    c.in-Fault.ensures.stands h in
    (found.0, (found.1, found.2, faulty_text text c.in-Some.flaw found.2))

pub returns-then-is_some-clause-ahead : goal.returns-then-is_some-clause-ahead
returns-then-is_some-clause-ahead c = λ bytes text rest h.
    (h, stands_ready c.args.self.now bytes text rest (sym (sym c.is_some.ensures ∙ c.if-is_some.true)) h)
