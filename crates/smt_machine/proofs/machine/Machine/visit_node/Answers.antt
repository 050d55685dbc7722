use Rattle.std.proofs.Common.{◌∙◌, ◌+◌, ◌∷◌, List, Some, ap, length, refl, subst, sym, ℕ}
use Rattle.smt_nodes.specs.Literals.{literal_number, spelled}
use Rattle.smt_nodes.specs.NodeView.{node_view}
use Rattle.std.specs.Prelude.{option_map}
use Rattle.smt_arrays.specs.Element.{Plain}
use Rattle.smt_arrays.specs.Tables.{known_in}
use Rattle.smt_values.specs.Literals.{literal_element}
use Rattle.smt_machine.specs.Internal.Parts.{elements_at, meaning}
use Rattle.smt_machine.specs.Internal.States.{state_of}
use Rattle.smt_machine.specs.Internal.Tasks.{IsPlanned, visits}
use Rattle.smt_machine.specs.Nodes.{Known, Slot, Let}
use Rattle.smt_machine.specs.Tables.{shifted}
use Rattle.smt_machine.specs.declared.task.Task.TheVariants.{Finish}
use Rattle.smt_machine.specs.Memory.{arrays_in}
use Rattle.smt_machine.proofs.HeldLemmas.{literal_no_array, no_array_held, no_array_known}
use Rattle.smt_machine.proofs.RunLemmas.{visit_planned, visited}
use Rattle.smt_machine.proofs.StepLemmas.{if_done}
use Rattle.smt_machine.proofs.machine.Machine.visit_node.Goals as goal

pub literal_of-requires : goal.literal_of-requires
literal_of-requires c = c.literal.ensures ∙ ap literal_number (sym c.requires.here)
    ∙ ap (λ n. spelled (node_view n)) c.in-Literal.is

pub leave-requires : goal.leave-requires
leave-requires c = no_array_held (length (arrays_in c.args.self.now)) c.literal_of.result
    (literal_no_array c.literal_of.result c.in-Literal.kind c.in-Literal.digits.now c.literal_of.ensures)

pub leave-requires-in-Element : goal.leave-requires-in-Element
leave-requires-in-Element c =
    no_array_held (length (arrays_in c.args.self.now)) c.element.result c.element.ensures.plain

pub returns-in-Literal : goal.returns-in-Literal
returns-in-Literal c = if_done c.leave.result c.leave.ensures
    (λ is nodes at. visited nodes c.args.number
    (Some (Known (option_map Plain (literal_element c.in-Literal.kind c.in-Literal.digits.now))))
    (known_in (arrays_in c.args.self.now) c.literal_of.result) c.args.self.now c.leave.new.self
    (sym (ap (λ n. Some (meaning c.args.from.now n)) c.in-Literal.is) ∙ at) (λ k. refl)
    (sym (no_array_known (arrays_in c.args.self.now) c.literal_of.result
    (literal_no_array c.literal_of.result c.in-Literal.kind c.in-Literal.digits.now c.literal_of.ensures)
    ∙ ap (option_map Plain) c.literal_of.ensures)) is c.requires.based)

pub returns-in-Element : goal.returns-in-Element
returns-in-Element c = if_done c.leave-in-Element.result c.leave-in-Element.ensures
    (λ is nodes at. visited nodes c.args.number
    (Some (Known (option_map Plain (elements_at c.args.from.now c.in-Element.field-0.now))))
    (known_in (arrays_in c.args.self.now) c.element.result) c.args.self.now c.leave-in-Element.new.self
    (sym (ap (λ n. Some (meaning c.args.from.now n)) c.in-Element.is) ∙ at) (λ k. refl)
    (sym (no_array_known (arrays_in c.args.self.now) c.element.result c.element.ensures.plain
    ∙ ap (option_map Plain) (c.element.ensures.known c.in-Element.field-0.now
    (sym c.requires.here ∙ ap (λ n. Some (node_view n)) c.in-Element.is)))) is c.requires.based)

pub returns-in-Slot : goal.returns-in-Slot
returns-in-Slot c = if_done c.leave-in-Slot.result c.leave-in-Slot.ensures
    (λ is nodes at. visited nodes c.args.number (Some (Slot c.in-Slot.place))
    (known_in (arrays_in c.args.self.now) c.value_at-value.result) c.args.self.now c.leave-in-Slot.new.self
    (sym (ap (λ n. Some (meaning c.args.from.now n)) c.in-Slot.is) ∙ at) (λ k. refl)
    (sym c.value_at-value.ensures.known) is c.requires.based)

pub returns-in-Let : goal.returns-in-Let
returns-in-Let c =
    let P : List ℕ → Type 0 = λ js. IsPlanned (Finish c.args.number ∷ visits c.args.number js)
    (state_of c.args.self.now) c.args.self.now c.plan.new.self in
    if_done c.plan.result c.plan.ensures
    (λ is nodes at. visit_planned nodes c.args.number
    (Let (shifted c.args.from.now.shift c.in-Let.values.now) (c.args.from.now.shift + c.in-Let.body))
    c.args.self.now c.plan.new.self (sym (ap (λ n. Some (meaning c.args.from.now n)) c.in-Let.is) ∙ at) tt
    (subst P c.parts-in-Let.ensures is) c.requires.based)
