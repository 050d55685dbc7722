use Rattle.std.proofs.Common.{ap, ◌∙◌}
use Rattle.smt_trees.specs.Sexp.{Cons, Items}
use Rattle.smt_trees.specs.View.{sexp_of, sexps_of}
use Rattle.smt_terms.proofs.ReadSortLemmas.{begun_as}
use Rattle.smt_terms.proofs.sorts.begin_list.Goals as goal

pub returns-in-Some-Symbol-default : goal.returns-in-Some-Symbol-default
returns-in-Some-Symbol-default c = λ names same.
    let args = sexps_of c.in-Some-Symbol-default.args in
    begun_as names _ _ c.begin_named.result
    (ap Items (c.in-Some-Symbol-default.ensures
    ∙ ap (λ t. Cons (sexp_of t) args) c.in-Some-Symbol-default.field-0-0-is))
    (c.begin_named.ensures names same)
