use Rattle.std.proofs.Common.{arith}
use Rattle.smt_text.proofs.BuilderLemmas.{end_inside}
use Rattle.smt_text.specs.Internal.ReaderState.{trees_in}
use Rattle.smt_trees.specs.Owned.{sexps_of}
use Rattle.smt_trees.specs.TapeView.{lists_of}
use Rattle.smt_text.proofs.builder.Builder.end_list.Goals as goal

pub returns-clause-levels : goal.returns-clause-levels
returns-clause-levels c =
    end_inside (lists_of c.args.self.now.list) (lists_of c.end_list.new.self)
    (sexps_of (trees_in c.args.self.now.ready.items))
    (omega (arith, c.requires, c.depth.ensures, c.if-depth-eq1.false)) c.in_ok-end_list.ensures.lists
