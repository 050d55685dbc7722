use Rattle.std.proofs.Common.{sym, ◌∙◌}
use Rattle.smt_terms.specs.Internal.LibraryView.{names_of_library}
use Rattle.smt_terms.proofs.ElementLemmas.{element_alone, element_found, named_alone, no_element_alone, operator_alone}
use Rattle.smt_terms.proofs.library.Library.element_unless_named.Goals as goal

pub returns-in_default-clause-sort : goal.returns-in_default-clause-sort
returns-in_default-clause-sort c =
    no_element_alone (names_of_library c.args.self.now) c.args.name.now _ (sym c.in_default.ensures)

pub returns-then-has_entry-clause-sort : goal.returns-then-has_entry-clause-sort
returns-then-has_entry-clause-sort c =
    named_alone (names_of_library c.args.self.now) c.args.name.now _ (sym c.has_entry.ensures ∙ c.if-has_entry.true)

pub returns-then-is_operator-clause-sort : goal.returns-then-is_operator-clause-sort
returns-then-is_operator-clause-sort c =
    operator_alone (names_of_library c.args.self.now) c.args.name.now _
    (sym c.is_operator.ensures ∙ c.if-is_operator.true)

pub returns-clause-sort : goal.returns-clause-sort
returns-clause-sort c =
    element_alone (names_of_library c.args.self.now) c.args.name.now c.in-Some.sort _
    (sym c.has_entry.ensures ∙ c.if-has_entry.false) (sym c.is_operator.ensures ∙ c.if-is_operator.false)
    (sym c.in-Some.ensures)

pub returns-clause-node : goal.returns-clause-node
returns-clause-node c =
    element_found c.args.self.now c.args.name.now c.in-Some.sort
    (sym c.has_entry.ensures ∙ c.if-has_entry.false) (sym c.is_operator.ensures ∙ c.if-is_operator.false)
    (sym c.in-Some.ensures)
