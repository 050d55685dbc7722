use Rattle.std.proofs.Common.{ap, refl, ◌∙◌}
use Rattle.std.proofs.lemmas.Result.{err_from_is_err_and}
use Rattle.smt_terms.specs.SortTrees.{array_of}
use Rattle.smt_terms.specs.Internal.ReadSorts.{all_completed}
use Rattle.smt_terms.proofs.ReadSortLemmas.{index_known, index_read, told_by_part}
use Rattle.smt_terms.proofs.sorts.go_on.Goals as goal

pub returns-in_err-array_of-in-Some-clause-next : goal.returns-in_err-array_of-in-Some-clause-next
returns-in_err-array_of-in-Some-clause-next c = λ names whole is.
    let p = err_from_is_err_and c.from_residual.result c.from_residual.ensures.1 in
    let ws = c.args.waiting.now.items in
    let i = c.in-Some.index in
    rw (p.1, p.2) (told_by_part names whole (array_of i c.args.sort) ws _
    (index_known names whole ws c.args.array i c.args.sort is c.in-Some.is) c.in_err-array_of-in-Some.ensures)

pub returns-in_ok-array_of-in-Some-clause-next : goal.returns-in_ok-array_of-in-Some-clause-next
returns-in_ok-array_of-in-Some-clause-next c = λ names whole is.
    let ws = c.args.waiting.now.items in
    index_known names whole ws c.args.array c.in-Some.index c.args.sort is c.in-Some.is
    ∙ ap (all_completed names ws) c.in_ok-array_of-in-Some.ensures

pub returns-in_ok-wait-in-None-clause-next : goal.returns-in_ok-wait-in-None-clause-next
returns-in_ok-wait-in-None-clause-next c = λ names whole is.
    index_read names whole c.args.waiting.now.items c.wait.new.waiting.items c.args.array _ c.args.sort is c.in-None.is
    c.in_ok-wait-in-None.ensures refl
