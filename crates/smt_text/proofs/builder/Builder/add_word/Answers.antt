use Rattle.std.proofs.Common.{◌∙◌, sym, inr}
use Rattle.smt_text.proofs.BuilderLemmas.{add_inside, add_top, if_ok, no_lists}
use Rattle.smt_text.proofs.MarkedLemmas.{trees_pushed}
use Rattle.smt_text.specs.Internal.ReaderState.{place_of, trees_in}
use Rattle.smt_trees.specs.Sexp.{Reserved}
use Rattle.smt_trees.specs.Owned.{sexps_of}
use Rattle.smt_trees.specs.TapeView.{lists_of}
use Rattle.smt_text.proofs.builder.Builder.add_word.Goals as goal

pub returns-then-depth-eq0-clause-levels : goal.returns-then-depth-eq0-clause-levels
returns-then-depth-eq0-clause-levels c =
    if_ok c.push_ready.result (λ pushed. add_top (lists_of c.args.self.now.list)
    (trees_in c.args.self.now.ready.items) (trees_in c.push_ready.new.ready.items) c.in_ok-word.word
    (Reserved c.args.word) (sym c.depth.ensures ∙ c.if-depth-eq0.true)
    (trees_pushed c.args.self.now.ready.items c.push_ready.new.ready.items c.in_ok-word.word (place_of c.args.self.now.limit c.args.end)
    pushed) c.in_ok-word.ensures) c.push_ready.ensures

pub returns-then-depth-eq0-clause-ready : goal.returns-then-depth-eq0-clause-ready
returns-then-depth-eq0-clause-ready c =
    if_ok c.push_ready.result (λ pushed. inr (
      c.in_ok-word.word,
      pushed,
      no_lists (lists_of c.args.self.now.list) (sym c.depth.ensures ∙ c.if-depth-eq0.true),
    )) c.push_ready.ensures

pub returns-clause-levels : goal.returns-clause-levels
returns-clause-levels c =
    add_inside (lists_of c.args.self.now.list) (lists_of c.add_word.new.self)
    (sexps_of (trees_in c.args.self.now.ready.items)) (Reserved c.args.word)
    (λ none. c.if-depth-eq0.false (c.depth.ensures ∙ none)) c.in_ok-add_word.ensures.lists
