-- What a task does to the machine's state, in one step, and what a stack of tasks does.
use Rattle.std.specs.Prelude.{ℕ, ◌+◌, ◌*◌, ◌<◌, ◌≤◌, ◌≡◌, List, [], ◌∷◌, ◌++◌, Option, Some, None, length}
use Rattle.std.specs.Prelude.{nat_lt, slice_get, ◌==◌, ◌⊎◌, if◌then◌else◌}
use Rattle.smt_theory.specs.declared.op.CoreOp.TheVariants.{Ite}
use Rattle.smt_theory.specs.declared.op.Op.{Op}
use Rattle.smt_theory.specs.declared.op.Op.TheVariants.{Core}
use Rattle.smt_theory.specs.declared.op.plain.PlainOp.{PlainOp}
use Rattle.smt_theory.specs.PlainOp.{op_of_plain}
use Rattle.smt_arrays.specs.Element.{Element}
use Rattle.smt_arrays.specs.Known.{known_choice, known_step}
use Rattle.smt_arrays.specs.Tables.{Grows}
use Rattle.smt_machine.specs.Given.{given}
use Rattle.smt_machine.specs.Costs.{around_at, cost, last_cost, part_cost}
use Rattle.smt_machine.specs.Least.{least, part_least}
use Rattle.smt_machine.specs.Internal.KeptView.{kept_at}
use Rattle.smt_machine.specs.Internal.States.{State, first_of, frame_of, last_of, state_of, with_frames}
use Rattle.smt_machine.specs.Internal.States.{with_last, with_value}
use Rattle.smt_machine.specs.Memory.{Remembers, arrays_in}
use Rattle.smt_machine.specs.Nodes.{Frame, Node, Known, Slot, Apply, Call, Let, part}
use Rattle.smt_machine.specs.declared.machine.Machine.{Machine}
use Rattle.smt_machine.specs.declared.task.Task.{Task}
use Rattle.smt_machine.specs.declared.task.Task.TheVariants.{Visit, Open, Finish, Operate, Choose, Return, Unbind}
use Rattle.smt_machine.specs.declared.task.Task.TheVariants.{Keep}

-- node i, when the values of its arguments are the last
abbrev pub finished : List Node → ℕ → Option Node → State → State
finished nodes i None s = s
finished nodes i (Some (Known v)) s = s
finished nodes i (Some (Slot k)) s = s
finished nodes i (Some (Apply op args)) s =
    with_last (length args) (known_step op (last_of (length args) s.values)) s
finished nodes i (Some (Call body args)) s =
    with_last (length args) (part i (given nodes) (last_of (length args) s.values) body) s
finished nodes i (Some (Let values body)) s = with_last (length values)
    (part i (given nodes) (frame_of s ++ last_of (length values) s.values) body) s

-- the numbers of two branches behind a condition
abbrev pub branches_of : List ℕ → Option (ℕ × ℕ)
branches_of (condition ∷ a ∷ b ∷ []) = Some (a, b)
branches_of _ = None

-- the choice between nodes, when the value of the condition is the last
abbrev pub chosen_between : List Node → ℕ → Option (ℕ × ℕ) → State → State
chosen_between nodes i None s = s
chosen_between nodes i (Some (a, b)) s = with_last 1
    (known_choice (last_of 1 s.values
    ++ part i (given nodes) (frame_of s) a ∷ part i (given nodes) (frame_of s) b ∷ [])) s

abbrev pub chosen : List Node → ℕ → Option Node → State → State
chosen nodes i (Some (Apply op args)) s = chosen_between nodes i (branches_of args) s
chosen nodes i _ s = s

abbrev pub run : List Node → Task → State → State
run nodes (Visit i) s = with_value (given nodes i (frame_of s)) s
run nodes Open s = with_value None s
run nodes (Finish i) s = finished nodes i (slice_get nodes i) s
run nodes (Operate op n) s = with_last n (known_step (op_of_plain op) (last_of n s.values)) s
run nodes (Choose i) s = chosen nodes i (slice_get nodes i) s
run nodes (Return base) s = with_frames base s.base s
run nodes (Unbind len) s = with_frames s.base len s
run nodes (Keep i) s = s

-- the last task is the first to be done
abbrev pub run_all : List Node → List Task → State → State
run_all nodes [] s = s
run_all nodes (t ∷ ts) s = run nodes t (run_all nodes ts s)

-- ---- the tasks that are planned

abbrev pub part_task : ℕ → ℕ → Task
part_task i j = if nat_lt j i then Visit j else Open

-- the first part of node i is the first to be evaluated
abbrev pub visits : ℕ → List ℕ → List Task
visits i [] = []
visits i (j ∷ js) = visits i js ++ part_task i j ∷ []

-- the operator with these arguments is a choice that has this condition
abbrev pub IsChoice : Op → (args condition : List ℕ) → Type 0
IsChoice op args condition = (c : ℕ) × (a : ℕ) × (b : ℕ)
    × (op ≡ Core Ite) × (args ≡ c ∷ a ∷ b ∷ []) × (condition ≡ c ∷ [])

-- ---- what is kept

-- the value that a task keeps is what is known of its closed node
abbrev pub IsDue : List Node → Task → State → Type 0
IsDue nodes (Keep i) s = first_of (last_of 1 s.values) ≡ given nodes i []
IsDue nodes _ s = Unit {0}

abbrev pub AreDue : List Node → List Task → State → Type 0
AreDue nodes [] s = Unit {0}
AreDue nodes (t ∷ ts) s = IsDue nodes t (run_all nodes ts s) × AreDue nodes ts s

-- ---- the measure

abbrev pub branches_cost : ℕ → (ℕ → ℕ) → Option (ℕ × ℕ) → ℕ
branches_cost i c None = 0
branches_cost i c (Some (a, b)) = part_cost i c a + part_cost i c b

abbrev pub chosen_cost : ℕ → (ℕ → ℕ) → Option Node → ℕ
chosen_cost i c (Some (Apply op args)) = branches_cost i c (branches_of args)
chosen_cost i c _ = 0

-- what is counted as a task is done: a node that is visited, and the annotations round it
abbrev pub charge : List ℕ → Task → ℕ
charge arounds (Visit i) = 1 + around_at arounds i
charge arounds _ = 0

-- what is counted at most until a task is done, and all that it plans
abbrev pub task_cost : List Node → (ℕ → ℕ) → Task → ℕ
task_cost nodes c (Visit i) = c i
task_cost nodes c Open = 1
task_cost nodes c (Finish i) = last_cost i c (slice_get nodes i)
task_cost nodes c (Choose i) = chosen_cost i c (slice_get nodes i)
task_cost nodes c _ = 0

abbrev pub tasks_cost : List Node → (ℕ → ℕ) → List Task → ℕ
tasks_cost nodes c [] = 0
tasks_cost nodes c (t ∷ ts) = task_cost nodes c t + tasks_cost nodes c ts

-- of the body that node i binds values for
abbrev pub body_least : ℕ → (ℕ → ℕ) → Option Node → ℕ
body_least i k (Some (Let values body)) = part_least i k body
body_least i k _ = 0

-- what is counted at least until a task is done, and all that it plans
abbrev pub task_least : List Node → (ℕ → ℕ) → Task → ℕ
task_least nodes k (Visit i) = k i
task_least nodes k (Finish i) = body_least i k (slice_get nodes i)
task_least nodes k _ = 0

abbrev pub tasks_least : List Node → (ℕ → ℕ) → List Task → ℕ
tasks_least nodes k [] = 0
tasks_least nodes k (t ∷ ts) = task_least nodes k t + tasks_least nodes k ts

-- three for each node that is visited, and up to two for what is done with it besides
abbrev pub task_work : List Node → Task → ℕ
task_work nodes (Visit i) = 3 * cost nodes [] i
task_work nodes Open = 3
task_work nodes (Finish i) = 3 * last_cost i (cost nodes []) (slice_get nodes i) + 2
task_work nodes (Operate op n) = 2
task_work nodes (Choose i) = 3 * chosen_cost i (cost nodes []) (slice_get nodes i) + 2
task_work nodes (Return base) = 1
task_work nodes (Unbind len) = 1
task_work nodes (Keep i) = 1

abbrev pub work : List Node → List Task → ℕ
work nodes [] = 0
work nodes (t ∷ ts) = task_work nodes t + work nodes ts

-- ---- a step of the machine

-- the innermost frame begins within the frames
abbrev pub IsBased : State → Type 0
IsBased s = s.base ≤ length s.frames

-- nothing is evaluated yet, over these variables
abbrev pub beginning : Frame → State
beginning frame = record { values = []; frames = frame; base = 0 }

-- a machine has one task, over these variables, the arrays of another and what it keeps, and nothing else
pub record IsBegun (task : Task) (frame : Frame) (before after : Machine) : Type 0 where
  pub tasks : after.tasks.items ≡ task ∷ []
  pub state : state_of after ≡ beginning frame
  pub kept : after.kept ≡ before.kept
  pub arrays : after.arrays ≡ before.arrays

-- a machine has nothing to do but one node, and nothing is evaluated yet
pub record IsBefore (root : ℕ) (m : Machine) : Type 0 where
  pub tasks : m.tasks.items ≡ Visit root ∷ []
  pub values : (state_of m).values ≡ []
  pub based : IsBased (state_of m)

-- a machine has the tasks of another, its arrays and maybe more, what it keeps, and this state
pub record IsAt (s : State) (before after : Machine) : Type 0 where
  pub tasks : after.tasks.items ≡ before.tasks.items
  pub state : state_of after ≡ s
  pub kept : after.kept ≡ before.kept
  pub grown : Grows (arrays_in before) (arrays_in after)

-- a machine has more tasks than another, its arrays and maybe more, what it keeps, and this state
pub record IsPlanned (more : List Task) (s : State) (before after : Machine) : Type 0 where
  pub tasks : after.tasks.items ≡ before.tasks.items ++ more
  pub state : state_of after ≡ s
  pub kept : after.kept ≡ before.kept
  pub grown : Grows (arrays_in before) (arrays_in after)

-- a machine keeps the last value for a number, and is as another besides
pub record IsKeeping (number : ℕ) (before after : Machine) : Type 0 where
  pub tasks : after.tasks.items ≡ before.tasks.items
  pub state : state_of after ≡ state_of before
  pub kept : (other : ℕ) → kept_at after.kept other ≡ (if other == number
      then Some (first_of (last_of 1 before.values.items)) else kept_at before.kept other)
  pub arrays : after.arrays ≡ before.arrays

-- a machine has done a task that was taken off already: what is left to do leads to the same, is less, and
-- with what was counted costs no more, and takes no less; arrays that are there stay
pub record IsDone (nodes : List Node) (task : Task) (before after : Machine) : Type 0 where
  pub answer : run_all nodes after.tasks.items (state_of after)
      ≡ run_all nodes before.tasks.items (run nodes task (state_of before))
  pub based : IsBased (state_of after)
  pub falls : work nodes after.tasks.items < work nodes before.tasks.items + task_work nodes task
  pub pays : (arounds : List ℕ) → tasks_cost nodes (cost nodes arounds) after.tasks.items + charge arounds task
      ≤ tasks_cost nodes (cost nodes arounds) before.tasks.items + task_cost nodes (cost nodes arounds) task
  pub owes : (arounds : List ℕ)
      → tasks_least nodes (least nodes arounds) before.tasks.items + task_least nodes (least nodes arounds) task
      ≤ tasks_least nodes (least nodes arounds) after.tasks.items + charge arounds task
  pub remembers : Remembers after nodes
  pub grown : Grows (arrays_in before) (arrays_in after)
  pub due : AreDue nodes before.tasks.items (run nodes task (state_of before))
      → AreDue nodes after.tasks.items (state_of after)

-- it has, where it remembered what is known and the value was due
abbrev pub IsStep : List Node → Task → (before after : Machine) → Type 0
IsStep nodes task before after =
    Remembers before nodes → IsDue nodes task (state_of before) → IsDone nodes task before after

-- a machine is on its way to one value, and nothing else
pub record IsRunning (nodes : List Node) (v : Option Element) (m : Machine) : Type 0 where
  pub answer : (run_all nodes m.tasks.items (state_of m)).values ≡ v ∷ []
  pub based : IsBased (state_of m)
  pub remembers : Remembers m nodes
  pub due : AreDue nodes m.tasks.items (state_of m)

-- of so many at first so many are left: enough for the tasks; not more was taken than the cost, and with the
-- tasks not less than the least
pub record IsPaid (nodes : List Node) (arounds : List ℕ) (root first left : ℕ) (m : Machine) : Type 0 where
  pub enough : tasks_cost nodes (cost nodes arounds) m.tasks.items ≤ left
  pub paid : first + tasks_cost nodes (cost nodes arounds) m.tasks.items ≤ left + cost nodes arounds root
  pub counted : left + least nodes arounds root ≤ first + tasks_least nodes (least nodes arounds) m.tasks.items
  pub within : left ≤ first
  pub fewer : (m.tasks.items ≡ Visit root ∷ []) ⊎ (left < first)
