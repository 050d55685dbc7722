use Rattle.std.proofs.Common.{◌≡◌, ◌+◌, ℕ, subst, arith}
use Rattle.smt_trees.specs.Places.{IsListIn, LiesIn, size_of}
use Rattle.smt_trees.specs.declared.view.Tree.{Tree}
use Rattle.smt_forms.proofs.bindings.split_named_placed.Goals as goal

pub returns-in-None-clause-places : goal.returns-in-None-clause-places
returns-in-None-clause-places c whole to h =
    let rest = c.in-Some-List-default.rest in
    let end = size_of rest + to in
    let first = c.in-Some-List-default.ensures.places whole to h in
    let parts : LiesIn whole c.in-Some-List-default.parts end =
    subst (λ (t : Tree). IsListIn whole t end) c.in-Some-List-default.field-0-0-is first.1 in
    let name = c.in-Some-Symbol-default.ensures.places whole end parts in
    let tree = c.in-Some.ensures.places whole end name.0 in
    let none : size_of c.in-Some.tail + end ≡ end = omega (arith, c.in-None.ensures.sizes) in
    (first.0, subst (λ (n : ℕ). IsListIn whole c.in-Some.tree n) none tree.1)
