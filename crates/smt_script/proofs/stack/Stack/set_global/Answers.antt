use Rattle.std.proofs.Common.{◌≡◌, Bool, true, false, inr, refl}
use Rattle.std.specs.Bool.{beq}
use Rattle.smt_script.proofs.GlobalLemmas.{early_global, late_global, same_global}
use Rattle.smt_script.proofs.stack.Stack.set_global.Goals as goal

are_same : (a b : Bool) → beq a b ≡ true → a ≡ b
are_same true true h = refl
are_same true false h = absurd (cc)
are_same false true h = absurd (cc)
are_same false false h = refl

are_others : (a b : Bool) → beq a b ≡ false → a ≡ b → ⊥
are_others true true h is = absurd (cc)
are_others true false h is = absurd (cc)
are_others false true h is = absurd (cc)
are_others false false h is = absurd (cc)

pub returns-then-self-on-clause-effect : goal.returns-then-self-on-clause-effect
returns-then-self-on-clause-effect c = λ number.
    same_global c.contents_are_kept.ensures c.args.self.now number c.args.on
    (are_same c.args.self.now.global c.args.on c.if-self-on.true)

pub returns-then-self-clause-refused : goal.returns-then-self-clause-refused
returns-then-self-clause-refused c = λ number cs h.
    let flaw = late_global c.args.self.now c.args.on c.if-self.true
    (are_others c.args.self.now.global c.args.on c.if-self-on.false) cs h number in
    rw flaw (inr (refl, refl))

pub returns-clause-effect : goal.returns-clause-effect
returns-clause-effect c = λ number. early_global c.args.self.now number c.args.on c.if-self.false
