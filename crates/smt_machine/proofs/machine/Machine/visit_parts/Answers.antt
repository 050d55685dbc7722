use Rattle.std.proofs.Common.{◌∙◌, ◌+◌, ◌∷◌, List, ℕ, Some, ap, length, nat_eq, option_map, refl, subst, sym}
use Rattle.smt_theory.specs.PlainOp.{op_of_plain}
use Rattle.smt_arrays.specs.Element.{Plain}
use Rattle.smt_arrays.specs.Tables.{known_in}
use Rattle.smt_nodes.specs.Literals.{literal_number}
use Rattle.smt_nodes.specs.PartsView.{parts_view, IsWhole}
use Rattle.smt_nodes.specs.declared.node.NodeParts.{NodeParts}
use Rattle.smt_values.specs.Literals.{literal_element}
use Rattle.smt_machine.specs.Internal.Parts.{found_node}
use Rattle.smt_machine.specs.Memory.{arrays_in}
use Rattle.smt_machine.specs.Internal.States.{state_of}
use Rattle.smt_machine.specs.Internal.Tasks.{IsPlanned, visits}
use Rattle.smt_machine.specs.Nodes.{Apply, Known, Let, Slot}
use Rattle.smt_machine.specs.Tables.{call, nodes_of, shifted}
use Rattle.smt_machine.specs.declared.task.Task.TheVariants.{Finish}
use Rattle.smt_machine.proofs.HeldLemmas.{literal_no_array, no_array_held, no_array_known}
use Rattle.smt_machine.proofs.PartLemmas.{declared_at, defined_at, found_as, let_at, operator_at}
use Rattle.smt_machine.proofs.RunLemmas.{visit_planned, visited}
use Rattle.smt_machine.proofs.StepLemmas.{if_done}
use Rattle.smt_machine.proofs.machine.Machine.visit_parts.Goals as goal

pub literal_of-requires : goal.literal_of-requires
literal_of-requires c = c.literal.ensures ∙ ap literal_number
    (subst (λ (p : NodeParts). IsWhole p (found_node c.args.from.now)) c.in-Literal.is c.requires.whole)

pub leave-requires : goal.leave-requires
leave-requires c = no_array_held (length (arrays_in c.args.self.now)) c.literal_of.result
    (literal_no_array c.literal_of.result c.in-Literal.kind c.in-Literal.digits.now c.literal_of.ensures)

pub returns-in-Literal : goal.returns-in-Literal
returns-in-Literal c =
    let whole = subst (λ (p : NodeParts). IsWhole p (found_node c.args.from.now)) c.in-Literal.is c.requires.whole in
    if_done c.leave.result c.leave.ensures
    (λ is parts here. visited (nodes_of c.args.tables.now) c.args.number
    (Some (Known (option_map Plain (literal_element c.in-Literal.kind c.in-Literal.digits.now))))
    (known_in (arrays_in c.args.self.now) c.literal_of.result) c.args.self.now c.leave.new.self
    (sym (found_as c.args.from.now _ whole) ∙ here) (λ k. refl)
    (sym (no_array_known (arrays_in c.args.self.now) c.literal_of.result
    (literal_no_array c.literal_of.result c.in-Literal.kind c.in-Literal.digits.now c.literal_of.ensures)
    ∙ ap (option_map Plain) c.literal_of.ensures)) is c.requires.based)

pub returns-in-Slot : goal.returns-in-Slot
returns-in-Slot c =
    let whole = subst (λ (p : NodeParts). IsWhole p (found_node c.args.from.now)) c.in-Slot.is c.requires.whole in
    if_done c.leave-in-Slot.result c.leave-in-Slot.ensures
    (λ is parts here. visited (nodes_of c.args.tables.now) c.args.number (Some (Slot c.in-Slot.place))
    (known_in (arrays_in c.args.self.now) c.value_at-value.result) c.args.self.now c.leave-in-Slot.new.self
    (sym (found_as c.args.from.now _ whole) ∙ here) (λ k. refl)
    (sym c.value_at-value.ensures.known) is c.requires.based)

pub returns-in-Plain : goal.returns-in-Plain
returns-in-Plain c =
    let whole = subst (λ (p : NodeParts). IsWhole p (found_node c.args.from.now)) c.in-Plain.is c.requires.whole in
    if_done c.visit_plain.result c.visit_plain.ensures
    (λ step parts here. step (nodes_of c.args.tables.now)
    (ap (λ js. Some (Apply (op_of_plain c.in-Plain.op) js)) c.parts.ensures
    ∙ sym (found_as c.args.from.now _ whole) ∙ here))

pub returns-in-Args : goal.returns-in-Args
returns-in-Args c =
    let at = c.args.from.now in
    if_done c.visit_operator.result c.visit_operator.ensures
    (λ step parts here. step (λ some. let o = operator_at at c.in-Args.args.now
    (parts ∙ ap (λ p. Some (parts_view p)) c.in-Args.is)
    (ap (λ js. nat_eq (length js) 0) (sym c.parts-in-Args.ensures) ∙ some) in
    (o.0, ap (λ js. Some (Apply o.0 js)) c.parts-in-Args.ensures ∙ sym o.1 ∙ here)))

pub returns-in-Declared : goal.returns-in-Declared
returns-in-Declared c =
    let at = c.args.from.now in
    if_done c.visit_call.result c.visit_call.ensures
    (λ step parts here. step (nodes_of c.args.tables.now)
    ((λ k. Some (call (c.declared.ensures k) (c.parts-in-Declared.ensures k)))
    ∙ sym (declared_at at c.in-Declared.place c.in-Declared.args.now
    (parts ∙ ap (λ p. Some (parts_view p)) c.in-Declared.is)) ∙ here))

pub returns-in-Defined : goal.returns-in-Defined
returns-in-Defined c =
    let at = c.args.from.now in
    if_done c.visit_call-in-Defined.result c.visit_call-in-Defined.ensures
    (λ step parts here. step (nodes_of c.args.tables.now)
    ((λ k. Some (call (c.defined.ensures k) (c.parts-in-Defined.ensures k)))
    ∙ sym (defined_at at c.in-Defined.place c.in-Defined.args.now
    (parts ∙ ap (λ p. Some (parts_view p)) c.in-Defined.is)) ∙ here))

pub returns-in-Let : goal.returns-in-Let
returns-in-Let c =
    let at = c.args.from.now in
    let P : List ℕ → Type 0 = λ js. IsPlanned (Finish c.args.number ∷ visits c.args.number js)
    (state_of c.args.self.now) c.args.self.now c.plan.new.self in
    if_done c.plan.result c.plan.ensures
    (λ is parts here. visit_planned (nodes_of c.args.tables.now) c.args.number
    (Let (shifted at.shift c.in-Let.values.now) (at.shift + c.in-Let.body))
    c.args.self.now c.plan.new.self
    (sym (let_at at c.in-Let.values.now c.in-Let.body
    (parts ∙ ap (λ p. Some (parts_view p)) c.in-Let.is)) ∙ here) tt
    (subst P c.parts-in-Let.ensures is) c.requires.based)
