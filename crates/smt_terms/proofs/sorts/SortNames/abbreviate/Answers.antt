use Rattle.std.proofs.Common.{Result, Err, Ok, cond, false, ap, sym, ◌∙◌}
use Rattle.smt_trees.specs.View.{sexp_of}
use Rattle.smt_terms.specs.Internal.LibraryView.{sort_names}
use Rattle.smt_theory.specs.Words.{result_and_then}
use Rattle.smt_terms.specs.SortTrees.{sort_named}
use Rattle.smt_terms.specs.declared.named_sort.NamedSort.{NamedSort}
use Rattle.smt_faults.specs.declared.term_flaw.TermFlaw.{TermFlaw}
use Rattle.smt_theory.specs.Sort.{Sort}
use Rattle.smt_faults.specs.declared.term_flaw.TermFlaw.TheVariants.{NotFresh}
use Rattle.smt_terms.proofs.sorts.SortNames.abbreviate.Goals as goal

abbrev abbreviation : Sort → Result NamedSort TermFlaw
abbreviation s = Ok (record { sort = s; is_declared = false })

pub returns-clause-abbreviated : goal.returns-clause-abbreviated
returns-clause-abbreviated c =
    let old = c.args.self.now in (
      record { sort = c.in_ok-sort.sort; is_declared = false },
      ap (λ b. cond b (Err NotFresh)
          (result_and_then (sort_named (sort_names old) (sexp_of c.args.tree)) abbreviation))
          (sym c.if-is_taken.ensures) ∙ ap (λ r. result_and_then r abbreviation) c.in_ok-sort.ensures,
      c.in_ok-insert.ensures.inserted,
    )
