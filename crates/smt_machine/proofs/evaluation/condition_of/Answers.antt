use Rattle.std.proofs.Common.{◌≡◌, ◌+◌, ℕ, List, [], ◌∷◌, length, map, take, refl, arith, rules}
use Rattle.smt_theory.specs.declared.op.Op.{Op}
use Rattle.smt_machine.specs.Internal.Tasks.{IsChoice}
use Rattle.smt_theory.specs.declared.op.Op.TheVariants.{Core}
use Rattle.smt_theory.specs.declared.op.CoreOp.TheVariants.{Ite}
use Rattle.smt_machine.proofs.evaluation.condition_of.Goals as goal

three : (op : Op) (f : ℕ → ℕ) (ids : List ℕ) → length ids ≡ 3 → op ≡ Core Ite
    → IsChoice op (map f ids) (map f (take 1 ids))
three op f [] h is = absurd (omega arith)
three op f (a ∷ []) h is = absurd (omega arith)
three op f (a ∷ b ∷ []) h is = absurd (omega arith)
three op f (a ∷ b ∷ c ∷ []) h is = (f a, f b, f c, is, refl, refl)
three op f (a ∷ b ∷ c ∷ d ∷ ids) h is = absurd (omega arith)

pub returns-then-args-eq3 : goal.returns-then-args-eq3
returns-then-args-eq3 c =
    three c.args.op.now (λ id. c.args.args.shift + id) c.args.args.ids.now
    c.if-args-eq3.true (c.is_choice.ensures (search rules))
