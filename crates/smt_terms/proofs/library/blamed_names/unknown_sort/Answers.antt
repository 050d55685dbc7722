use Rattle.std.proofs.Common.{◌≡◌, Bool, ap, ◌∙◌}
use Rattle.smt_trees.specs.View.{sexp_of}
use Rattle.smt_theory.specs.declared.theories.Theories.{Theories}
use Rattle.smt_terms.specs.Blame.{names_no_sort, with_theory}
use Rattle.smt_terms.specs.Internal.LibraryView.{sort_names}
use Rattle.smt_terms.specs.declared.blame.Theory.TheVariants.{Integers, Reals, BitVectors, Arrays}
use Rattle.smt_terms.proofs.library.blamed_names.unknown_sort.Goals as goal

pub returns : goal.returns
returns c =
    let theories = c.args.sorts.now.theories in
    let no_sort : Theories → Bool = λ ts. names_no_sort (sort_names c.args.sorts.now) ts (sexp_of c.args.tree) in
    let integers : c.in_ok-names_no_sort-2.field-0 ≡ no_sort (with_theory Integers theories) =
    c.in_ok-names_no_sort-2.ensures ∙ ap no_sort c.with_theory.ensures in
    let reals : c.in_ok-names_no_sort-3.field-0 ≡ no_sort (with_theory Reals theories) =
    c.in_ok-names_no_sort-3.ensures ∙ ap no_sort c.with_theory-2.ensures in
    let vectors : c.in_ok-names_no_sort-4.field-0 ≡ no_sort (with_theory BitVectors theories) =
    c.in_ok-names_no_sort-4.ensures ∙ ap no_sort c.with_theory-3.ensures in
    let arrays : c.in_ok-names_no_sort-5.field-0 ≡ no_sort (with_theory Arrays theories) =
    c.in_ok-names_no_sort-5.ensures ∙ ap no_sort c.with_theory-4.ensures in
    λ i. record {
      here = c.in_ok-names_no_sort.ensures i;
      with_integers = integers i;
      with_reals = reals i;
      with_vectors = vectors i;
      with_arrays = arrays i;
    }
