use Rattle.std.proofs.Common.{rules, true, false, refl, sym, ◌∙◌}
use Rattle.smt_terms.proofs.ItemLemmas.{in_force, name_flaw_by}
use Rattle.smt_terms.proofs.library.Library.check_name.Goals as goal

pub returns-then-has_entry-clause-flaw : goal.returns-then-has_entry-clause-flaw
returns-then-has_entry-clause-flaw c = λ s m stands items.
    name_flaw_by s m.entries c.args.name.now true _
    (in_force c.args.self.now m c.args.name.now c.has_entry.result true items c.has_entry.ensures
    c.if-has_entry.true) refl

pub returns-then-is_unfit-clause-flaw : goal.returns-then-is_unfit-clause-flaw
returns-then-is_unfit-clause-flaw c = λ s m stands items.
    name_flaw_by s m.entries c.args.name.now false true
    (in_force c.args.self.now m c.args.name.now c.has_entry.result false items c.has_entry.ensures
    c.if-has_entry.false)
    (sym c.if-is_unfit.true ∙ c.is_unfit.ensures.unfit s stands)

pub returns-clause-flaw : goal.returns-clause-flaw
returns-clause-flaw c = λ s m stands items.
    name_flaw_by s m.entries c.args.name.now false false
    (in_force c.args.self.now m c.args.name.now c.has_entry.result false items c.has_entry.ensures
    c.if-has_entry.false)
    (sym c.if-is_unfit.false ∙ c.is_unfit.ensures.unfit s stands)

pub returns-clause-absent : goal.returns-clause-absent
returns-clause-absent c = search rules

pub returns-clause-apart : goal.returns-clause-apart
returns-clause-apart c = c.is_unfit.ensures.apart c.if-is_unfit.false
