use Rattle.std.proofs.Common.{◌≡◌, Some, rules, refl, ◌∙◌}
use Rattle.smt_faults.specs.Faults.{flaw_of_term_fault}
use Rattle.smt_trees.specs.View.{sexp_of}
use Rattle.smt_terms.specs.Internal.LibraryView.{sort_names}
use Rattle.smt_terms.specs.SortTrees.{SortNames, sort_named}
use Rattle.smt_terms.proofs.CheckerLemmas.{told}
use Rattle.smt_terms.proofs.ReadSortLemmas.{parts_wait, told_by_part}
use Rattle.smt_terms.proofs.sorts.SortNames.enter.Goals as goal

pub returns-in-Found-Err-clause-next : goal.returns-in-Found-Err-clause-next
returns-in-Found-Err-clause-next c = λ whole is.
    let names : SortNames = record (sort_names c.args.self.now) { theories = c.args.theories } in
    let part = sort_named names (sexp_of c.args.tree) in
    let made : flaw_of_term_fault c.from.result ≡ Some c.in-Found-Err.flaw = search rules in
    told_by_part names whole part c.args.waiting.now.items c.from.result is
    (told part c.in-Found-Err.flaw c.from.result (c.in-Found-Err.ensures ∙ c.in-Found-Err.field-0-is) made)

pub returns-in_ok-wait-in-Parts-clause-next : goal.returns-in_ok-wait-in-Parts-clause-next
returns-in_ok-wait-in-Parts-clause-next c = λ whole is.
    let names : SortNames = record (sort_names c.args.self.now) { theories = c.args.theories } in
    parts_wait names whole c.args.waiting.now.items c.wait.new.waiting.items (sexp_of c.args.tree)
    (sexp_of c.in-Parts.index) (sexp_of c.in-Parts.element) _ is c.in-Parts.ensures.0 c.in_ok-wait-in-Parts.ensures refl
