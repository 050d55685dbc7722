use Rattle.std.proofs.Common.{ap, option_map, sym, ◌∙◌}
use Rattle.smt_trees.specs.View.{sexp_of}
use Rattle.smt_terms.specs.Elements.{constant_sorts}
use Rattle.smt_terms.specs.Internal.LibraryView.{constant_sorts_of, element_names, sort_names}
use Rattle.smt_terms.specs.SortTrees.{SortNames, sort_named}
use Rattle.smt_terms.proofs.CheckerLemmas.{carried}
use Rattle.smt_terms.proofs.library.Library.constant_sort.Goals as goal

pub returns-in-Some : goal.returns-in-Some
returns-in-Some c =
    let library = c.args.self.now in
    let tree = sexp_of c.args.tree in
    let names : SortNames =
    record (sort_names c.in-Some.elements.sorts.now) { theories = library.sorts.theories } in
    carried c.sort_under.result (sort_named names tree) (sort_named (constant_sorts_of library) tree)
    (ap (λ o. sort_named (constant_sorts library.sorts.theories (option_map element_names o)) tree) c.in-Some.is)
    c.sort_under.ensures

pub returns-in-None : goal.returns-in-None
returns-in-None c =
    let library = c.args.self.now in
    let tree = sexp_of c.args.tree in
    carried c.sort_of.result (sort_named (sort_names c.new.result) tree) (sort_named (constant_sorts_of library) tree)
    (ap (λ o. sort_named (constant_sorts library.sorts.theories (option_map element_names o)) tree) c.in-None.is
    ∙ ap (λ names. sort_named names tree) (sym c.new.ensures))
    c.sort_of.ensures
