use Rattle.std.proofs.Common.{◌∙◌}
use Rattle.smt_terms.proofs.ItemLemmas.{apart_where_formless, formed_as}
use Rattle.smt_terms.proofs.NameLookUps.{never_then, or_else, or_then}
use Rattle.smt_terms.proofs.library.Library.is_unfit.Goals as goal

pub returns-then-is_element_name-clause-unfit : goal.returns-then-is_element_name-clause-unfit
returns-then-is_element_name-clause-unfit c = λ s stands.
    or_then c.is_element_name.result _ _ c.if-is_element_name.true
    (c.is_element_name.ensures ∙ formed_as c.args.self.now s c.args.name.now stands)

pub returns-then-is_element_name-clause-apart : goal.returns-then-is_element_name-clause-apart
returns-then-is_element_name-clause-apart c = λ free.
    never_then c.is_element_name.result c.if-is_element_name.true free

pub returns-else-is_element_name-clause-unfit : goal.returns-else-is_element_name-clause-unfit
returns-else-is_element_name-clause-unfit c = λ s stands.
    or_else c.is_element_name.result _ c.is_taken_undeclared.result _ c.if-is_element_name.false
    (c.is_element_name.ensures ∙ formed_as c.args.self.now s c.args.name.now stands)
    (c.is_taken_undeclared.ensures s stands)

pub returns-else-is_element_name-clause-apart : goal.returns-else-is_element_name-clause-apart
returns-else-is_element_name-clause-apart c = λ free.
    apart_where_formless c.args.self.now c.args.name.now c.is_element_name.result c.is_element_name.ensures
    c.if-is_element_name.false
