use Rattle.std.proofs.Common.{inr}
use Rattle.smt_text.proofs.BuilderLemmas.{end_top, if_ok}
use Rattle.smt_text.proofs.MarkedLemmas.{trees_pushed}
use Rattle.smt_text.specs.Internal.ReaderState.{place_of, trees_in}
use Rattle.smt_trees.specs.TapeView.{lists_of}
use Rattle.smt_text.proofs.builder.Builder.end_top.Goals as goal

pub returns-clause-levels : goal.returns-clause-levels
returns-clause-levels c =
    if_ok c.push_ready.result (λ pushed. end_top (lists_of c.args.self.now.list) (lists_of c.take_in.new.self)
    (trees_in c.args.self.now.ready.items) (trees_in c.push_ready.new.ready.items) c.in_ok-list.list
    c.requires c.in_ok-list.ensures.rest
    (trees_pushed c.args.self.now.ready.items c.push_ready.new.ready.items c.in_ok-list.list (place_of c.args.self.now.limit c.args.end)
    pushed) c.in_ok-list.ensures.taken) c.push_ready.ensures

pub returns-clause-ready : goal.returns-clause-ready
returns-clause-ready c =
    if_ok c.push_ready.result (λ pushed. inr (c.in_ok-list.list, pushed, c.in_ok-list.ensures.rest))
    c.push_ready.ensures
