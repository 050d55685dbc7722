use Rattle.std.proofs.Common.{ap, refl}
use Rattle.smt_trees.specs.View.{sexp_of}
use Rattle.smt_terms.specs.Internal.LibraryView.{sort_names}
use Rattle.smt_terms.specs.SortTrees.{SortNames}
use Rattle.smt_terms.proofs.ReadSortLemmas.{begun_as}
use Rattle.smt_terms.proofs.sorts.SortNames.begin.Goals as goal

pub returns-in-List : goal.returns-in-List
returns-in-List c =
    let names : SortNames = record (sort_names c.args.self.now) { theories = c.args.theories } in
    begun_as names _ _ c.begin_list.result (ap sexp_of c.in-List.is) (c.begin_list.ensures names refl)
