use Rattle.std.proofs.Common.{not, ap, ◌∙◌}
use Rattle.smt_terms.specs.Freshness.{is_taken}
use Rattle.smt_terms.proofs.ItemLemmas.{names_as}
use Rattle.smt_terms.proofs.NameLookUps.{and_else, and_then}
use Rattle.smt_terms.proofs.library.Library.is_taken_undeclared.Goals as goal

pub returns-then-not-is_declared : goal.returns-then-not-is_declared
returns-then-not-is_declared c = λ s stands.
    and_then (not c.is_declared.result) _ c.is_taken.result _ (ap not c.if-not-is_declared.true)
    (ap not (c.is_declared.ensures s stands))
    (c.is_taken.ensures ∙ ap (λ n. is_taken n c.args.name.now) (names_as c.args.self.now s stands))

pub returns-else-not-is_declared : goal.returns-else-not-is_declared
returns-else-not-is_declared c = λ s stands. and_else (not c.is_declared.result) _ _
    (ap not c.if-not-is_declared.false) (ap not (c.is_declared.ensures s stands))
