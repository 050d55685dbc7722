use Rattle.std.proofs.Common.{◌≡◌, List, subst, sym}
use Rattle.smt_machine.specs.Internal.Tasks.{IsStep}
use Rattle.smt_machine.specs.Nodes.{Node}
use Rattle.smt_machine.specs.Tables.{nodes_of}
use Rattle.smt_machine.specs.declared.machine.Machine.{Machine}
use Rattle.smt_machine.specs.declared.task.Task.{Task}
use Rattle.smt_machine.proofs.StepLemmas.{applied_step, if_done, keeping_step, open_done, returned, unbound}
use Rattle.smt_machine.proofs.machine.Machine.act.Goals as goal

-- the step of the task that this is
step_of : (nodes : List Node) (task other : Task) (before after : Machine) → task ≡ other
    → IsStep nodes other before after → IsStep nodes task before after
step_of nodes task other before after is step =
    let P : Task → Type 0 = λ t. IsStep nodes t before after in subst P (sym is) step

pub returns-in-Open-clause-step : goal.returns-in-Open-clause-step
returns-in-Open-clause-step c = if_done c.leave.result c.leave.ensures
    (λ is. step_of (nodes_of c.args.tables.now) c.args.task _ c.args.self.now c.leave.new.self c.in-Open.is
    (open_done (nodes_of c.args.tables.now) c.args.self.now c.leave.new.self is c.requires.based))

pub returns-in-Operate-clause-step : goal.returns-in-Operate-clause-step
returns-in-Operate-clause-step c = if_done c.operate.result c.operate.ensures
    (λ is. step_of (nodes_of c.args.tables.now) c.args.task _ c.args.self.now c.operate.new.self c.in-Operate.is
    (applied_step (nodes_of c.args.tables.now) c.in-Operate.count c.in-Operate.op c.op.result c.args.self.now
    c.operate.new.self c.op.ensures is c.requires.based))

pub returns-in-Return-clause-step : goal.returns-in-Return-clause-step
returns-in-Return-clause-step c =
    step_of (nodes_of c.args.tables.now) c.args.task _ c.args.self.now c.leave_frame.new.self c.in-Return.is
    (returned (nodes_of c.args.tables.now) c.in-Return.base c.args.self.now c.leave_frame.new.self
    c.leave_frame.ensures)

pub returns-in-Unbind-clause-step : goal.returns-in-Unbind-clause-step
returns-in-Unbind-clause-step c =
    step_of (nodes_of c.args.tables.now) c.args.task _ c.args.self.now c.unbind.new.self c.in-Unbind.is
    (unbound (nodes_of c.args.tables.now) c.in-Unbind.len c.args.self.now c.unbind.new.self c.unbind.ensures)

pub returns-in-Keep-clause-step : goal.returns-in-Keep-clause-step
returns-in-Keep-clause-step c = if_done c.keep.result c.keep.ensures
    (λ is. step_of (nodes_of c.args.tables.now) c.args.task _ c.args.self.now c.keep.new.self c.in-Keep.is
    (keeping_step (nodes_of c.args.tables.now) c.in-Keep.number c.args.self.now c.keep.new.self is c.requires.based))
