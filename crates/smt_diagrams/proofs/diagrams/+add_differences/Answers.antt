use Rattle.std.proofs.lemmas.Result.{IfOk-weaker}
use Rattle.smt_diagrams.proofs.DifferenceLemmas.{added_both, added_one}
use Rattle.smt_diagrams.proofs.ForkLemmas.{two_diagrams}
use Rattle.smt_diagrams.proofs.diagrams.+add_differences.Goals as goal

pub returns-in-Leaf-Leaf : goal.returns-in-Leaf-Leaf
returns-in-Leaf-Leaf t c =
    added_one c.args.forks.now c.args.bits c.args.a c.args.b c.in-Leaf-Leaf.first c.in-Leaf-Leaf.second
    c.args.found.now.items c.push.new.self.items c.in-Leaf-Leaf.is-0 c.in-Leaf-Leaf.is-1
    (two_diagrams c.args.a c.args.b c.eq.result c.eq.ensures c.if-eq.false) c.in_ok-push.ensures.items

pub returns : goal.returns
returns t c =
    IfOk-weaker c.add_differences-2.result _ _
    (λ done last. added_both c.args.forks.now c.args.bits c.args.a c.args.b c.halves_in-left.result
    c.halves_in-right.result c.args.found.now.items c.add_differences.new.found.items
    c.add_differences-2.new.found.items c.if-bits-eq0.false c.halves_in-left.ensures c.halves_in-right.ensures
    c.in_ok-add_differences.ensures last)
    c.add_differences-2.ensures
