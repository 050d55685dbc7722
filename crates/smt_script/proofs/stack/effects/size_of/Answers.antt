use Rattle.std.proofs.Common.{◌≡◌, ◌∙◌, ◌+◌, ap, sym, arith}
use Rattle.smt_trees.specs.Sexp.{weight}
use Rattle.smt_trees.specs.View.{sexp_of}
use Rattle.smt_trees.specs.declared.view.Tree.TheVariants as tree
use Rattle.smt_script.proofs.WeightLemmas.{weight_of_trees}
use Rattle.smt_script.proofs.stack.effects.size_of.Goals as goal

pub returns-then-inside : goal.returns-then-inside
returns-then-inside c =
    let all = weight_of_trees c.in-List.parts in
    let size = c.size-inside.ensures in
    let told : c.size-inside.result + 1 ≡ weight (sexp_of (tree.List c.in-List.parts)) = omega (arith, all, size) in
    told ∙ sym (ap (λ t. weight (sexp_of t)) c.in-List.is)
