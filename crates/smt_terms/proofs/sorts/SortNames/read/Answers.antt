use Rattle.std.proofs.Common.{◌++◌, ◌∷◌, []}
use Rattle.smt_trees.specs.View.{sexp_of}
use Rattle.smt_terms.specs.Internal.LibraryView.{sort_names}
use Rattle.smt_terms.specs.SortTrees.{SortNames, sort_named}
use Rattle.smt_terms.specs.declared.sorts.Step.TheVariants.{Named, Read}
use Rattle.smt_terms.proofs.ReadSortLemmas.{comes_as, popped}
use Rattle.smt_terms.proofs.sorts.SortNames.read.Goals as goal

pub returns-in-Err : goal.returns-in-Err
returns-in-Err c =
    let names : SortNames = record (sort_names c.args.self.now) { theories = c.args.theories } in
    let whole = sort_named names (sexp_of c.args.tree) in
    c.in-Err.ensures.next whole
    (comes_as names whole c.loop-step.waiting.items c.loop-step.step (Read c.in-Read.part) c.loop-step.invariant
    c.in-Read.is)

pub returns-in-Err-go_on : goal.returns-in-Err-go_on
returns-in-Err-go_on c =
    let names : SortNames = record (sort_names c.args.self.now) { theories = c.args.theories } in
    let whole = sort_named names (sexp_of c.args.tree) in
    let sort = Named c.in-Named.sort in
    c.in-Err-go_on.ensures.next names whole
    (popped names whole c.loop-step.waiting.items (c.pop.new.self.items ++ c.in-Some.array ∷ []) sort
    (comes_as names whole c.loop-step.waiting.items c.loop-step.step sort c.loop-step.invariant c.in-Named.is)
    c.in-Some.ensures.items)

pub loop-step-preserved-in-Ok : goal.loop-step-preserved-in-Ok
loop-step-preserved-in-Ok c =
    let names : SortNames = record (sort_names c.args.self.now) { theories = c.args.theories } in
    let whole = sort_named names (sexp_of c.args.tree) in
    c.in-Ok.ensures.next whole
    (comes_as names whole c.loop-step.waiting.items c.loop-step.step (Read c.in-Read.part) c.loop-step.invariant
    c.in-Read.is)
