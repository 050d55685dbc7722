use Rattle.std.proofs.Common.{not, refl, ap, sym}
use Rattle.smt_terms.proofs.ItemLemmas.{in_force}
use Rattle.smt_terms.proofs.NameLookUps.{and_else, and_then}
use Rattle.smt_terms.proofs.library.Library.is_defined.Goals as goal

pub returns-then-has_entry : goal.returns-then-has_entry
returns-then-has_entry c = λ s stands.
    and_then c.has_entry.result _ (not c.is_declared.result) _ c.if-has_entry.true
    (sym (in_force c.args.self.now s c.args.name.now c.has_entry.result c.has_entry.result stands
    c.has_entry.ensures refl))
    (ap not (c.is_declared.ensures s stands))

pub returns-else-has_entry : goal.returns-else-has_entry
returns-else-has_entry c = λ s stands.
    and_else c.has_entry.result _ _ c.if-has_entry.false
    (sym (in_force c.args.self.now s c.args.name.now c.has_entry.result c.has_entry.result stands
    c.has_entry.ensures refl))
