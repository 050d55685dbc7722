use Rattle.std.proofs.Common.{◌∙◌, ap, subst, sym, ℕ}
use Rattle.smt_arrays.specs.Tables.{IsHeld, known_in}
use Rattle.smt_machine.specs.Memory.{arrays_in}
use Rattle.smt_machine.proofs.HeldLemmas.{as_many, unheld_open}
use Rattle.smt_machine.proofs.machine.Machine.held.Goals as goal

pub returns-then-holds-clause-held : goal.returns-then-holds-clause-held
returns-then-holds-clause-held c = subst (λ (n : ℕ). IsHeld n c.in-Some.value) (sym (as_many c.args.self.now.arrays))
    (c.holds.ensures.0 c.if-holds.true)

pub returns-else-holds-clause-known : goal.returns-else-holds-clause-known
returns-else-holds-clause-known c =
    unheld_open c.args.self.now.arrays c.in-Some.value (λ h. let e = c.holds.ensures.1 h in cc)
    ∙ ap (known_in (arrays_in c.args.self.now)) (sym c.in-Some.is)
