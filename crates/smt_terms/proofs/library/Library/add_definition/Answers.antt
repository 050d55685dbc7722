use Rattle.std.proofs.Common.{ap, sym, subst, ◌∙◌}
use Rattle.smt_nodes.specs.Nodes.{rows_of}
use Rattle.smt_terms.specs.Contents.{Extends, contents_of}
use Rattle.smt_terms.proofs.AssertionLemmas.{undone}
use Rattle.smt_terms.proofs.ContentsLemmas.{extends_itself}
use Rattle.smt_terms.proofs.library.Library.add_definition.Goals as goal

pub returns-in-Err-clause-restored : goal.returns-in-Err-clause-restored
returns-in-Err-clause-restored c =
    undone c.mark-mark.result (contents_of c.args.self.now) (contents_of c.add_checked.new.self)
    (contents_of c.cut.new.self) c.mark-mark.ensures.all c.mark-mark.ensures.within c.add_checked.ensures.grown
    c.cut.ensures.left

pub returns-in-Err-clause-grown : goal.returns-in-Err-clause-grown
returns-in-Err-clause-grown c =
    subst (λ d. Extends (contents_of c.args.self.now) d) (sym (returns-in-Err-clause-restored c))
    (extends_itself (contents_of c.args.self.now))

pub returns-in-Err-clause-transient : goal.returns-in-Err-clause-transient
returns-in-Err-clause-transient c = c.cut.ensures.transient ∙ ap rows_of c.add_checked.ensures.transient
