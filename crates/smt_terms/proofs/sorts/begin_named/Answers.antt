use Rattle.std.proofs.Common.{ap}
use Rattle.smt_trees.specs.Sexp.{Atom, Cons, Items, Symbol}
use Rattle.smt_terms.proofs.ReadSortLemmas.{begun_as}
use Rattle.smt_terms.proofs.sorts.begin_named.Goals as goal

pub returns-in-Some : goal.returns-in-Some
returns-in-Some c = λ names same.
    begun_as names _ _ c.begin_pair.result
    (ap (λ args. Items (Cons (Atom Symbol c.args.name.now) args)) c.in-Some.ensures)
    (c.begin_pair.ensures names same)
