use Rattle.std.proofs.Common.{inr}
use Rattle.smt_text.proofs.BuilderLemmas.{add_top, if_ok, no_lists}
use Rattle.smt_text.proofs.MarkedLemmas.{trees_pushed}
use Rattle.smt_text.specs.Internal.ReaderState.{place_of, trees_in}
use Rattle.smt_trees.specs.Sexp.{Atom}
use Rattle.smt_trees.specs.Tape.{kind_of}
use Rattle.smt_trees.specs.TapeView.{lists_of}
use Rattle.smt_text.proofs.builder.Builder.add_top.Goals as goal

pub returns-clause-levels : goal.returns-clause-levels
returns-clause-levels c =
    if_ok c.push_ready.result (λ pushed. add_top (lists_of c.args.self.now.list)
    (trees_in c.args.self.now.ready.items) (trees_in c.push_ready.new.ready.items) c.in_ok-atom.atom
    (Atom (kind_of c.args.kind) c.args.bytes.now) c.requires
    (trees_pushed c.args.self.now.ready.items c.push_ready.new.ready.items c.in_ok-atom.atom (place_of c.args.self.now.limit c.args.end)
    pushed) c.in_ok-atom.ensures) c.push_ready.ensures

pub returns-clause-ready : goal.returns-clause-ready
returns-clause-ready c =
    if_ok c.push_ready.result (λ pushed. inr (
      c.in_ok-atom.atom,
      pushed,
      no_lists (lists_of c.args.self.now.list) c.requires,
    )) c.push_ready.ensures
