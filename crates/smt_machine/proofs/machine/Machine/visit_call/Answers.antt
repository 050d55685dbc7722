use Rattle.std.proofs.Common.{◌≡◌, ◌∙◌, ◌+◌, ℕ, List, [], ◌∷◌, None, Some, ap, arith, length, map, nat_eq, refl, sym}
use Rattle.std.proofs.Common.{true}
use Rattle.std.proofs.lemmas.Bool.Decides.{nat_tests}
use Rattle.std.specs.Prelude.{option_map}
use Rattle.smt_machine.specs.Internal.Parts.{number_of, numbers_of}
use Rattle.smt_machine.specs.Nodes.{Call, Known}
use Rattle.smt_machine.specs.Tables.{call}
use Rattle.smt_machine.proofs.RunLemmas.{visit_planned, visited}
use Rattle.smt_machine.proofs.StepLemmas.{if_done}
use Rattle.smt_machine.proofs.machine.Machine.visit_call.Goals as goal

none_of : (f : ℕ → ℕ) (ids : List ℕ) → nat_eq (length ids) 0 ≡ true → [] ≡ map f ids
none_of f [] h = refl
none_of f (x ∷ xs) h = absurd (let e : length (x ∷ xs) ≡ 0 = grind (arith, nat_tests) in omega arith)

pub returns-in-Some : goal.returns-in-Some
returns-in-Some c = if_done c.visit_constant.result c.visit_constant.ensures
    (λ step nodes at. step nodes c.args.number (number_of c.in-Some.body)
    (ap (λ js. Some (Call (number_of c.in-Some.body) js))
    (none_of (λ id. c.args.args.shift + id) c.args.args.ids.now (sym c.is_empty.ensures ∙ c.if-is_empty.true))
    ∙ sym (ap (λ b. Some (call (option_map number_of b) (numbers_of c.args.args))) c.in-Some.is) ∙ at)
    c.below.ensures)

pub returns-in-Some-2 : goal.returns-in-Some-2
returns-in-Some-2 c = if_done c.plan.result c.plan.ensures
    (λ is nodes at. visit_planned nodes c.args.number
    (Call (number_of c.in-Some.body) (numbers_of c.args.args)) c.args.self.now c.plan.new.self
    (sym (ap (λ b. Some (call (option_map number_of b) (numbers_of c.args.args))) c.in-Some.is) ∙ at) tt is
    c.requires)

pub returns-in-None : goal.returns-in-None
returns-in-None c = if_done c.leave.result c.leave.ensures
    (λ is nodes at. visited nodes c.args.number (Some (Known None)) None c.args.self.now c.leave.new.self
    (sym (ap (λ b. Some (call (option_map number_of b) (numbers_of c.args.args))) c.in-None.is) ∙ at) (λ k. refl)
    refl is c.requires)
