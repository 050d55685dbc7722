-- What stacks of tasks lead to, and how much is left to do.
use Rattle.std.proofs.Common.{◌≡◌, ℕ, ◌+◌, ◌-◌, ◌*◌, ◌<◌, ◌≤◌, Bool, true, false, cond, List, [], ◌∷◌, ◌++◌}
use Rattle.std.proofs.Common.{length, map, take, drop, slice_get, Option, Some, None, refl, ap, sym, ◌∙◌}
use Rattle.std.proofs.Common.{subst, arith, nat_lt, append_assoc, append-nil, length-append}
use Rattle.std.proofs.Math.Seq.{drop-append_seam}
use Rattle.std.proofs.lemmas.List.{length-map, map-append, take-append-le, take_all}
use Rattle.smt_arrays.specs.Element.{Element}
use Rattle.smt_arrays.specs.Known.{known_step}
use Rattle.smt_arrays.specs.Tables.{Grows}
use Rattle.smt_machine.proofs.GivenLemmas.{given_law, cost_law}
use Rattle.smt_machine.proofs.HeldLemmas.{known_stays}
use Rattle.smt_machine.proofs.LeastLemmas.{AtOnce, Owes, arguments_of_parts, least-append, node_owes}
use Rattle.smt_machine.proofs.LeastLemmas.{operator_owes, owes_nothing}
use Rattle.smt_theory.specs.declared.op.plain.PlainOp.{PlainOp}
use Rattle.smt_theory.specs.PlainOp.{op_of_plain}
use Rattle.smt_machine.specs.Given.{given}
use Rattle.smt_machine.specs.Costs.{cost, first_cost, part_cost, parts_cost}
use Rattle.smt_machine.specs.Least.{inner_least, is_choice, least, parts_least}
use Rattle.smt_machine.specs.Internal.States.{State, before_last, frame_of, last_of, state_of, with_last}
use Rattle.smt_machine.specs.Internal.States.{with_value}
use Rattle.smt_machine.specs.Internal.Tasks.{AreDue, IsAt, IsBased, IsDone, IsDue, IsPlanned, IsStep, finished}
use Rattle.smt_machine.specs.Internal.Tasks.{body_least, charge, part_task, run, run_all, task_cost, task_work}
use Rattle.smt_machine.specs.Internal.Tasks.{tasks_cost, tasks_least, visits, work}
use Rattle.smt_machine.specs.Internal.KeptView.{kept_at}
use Rattle.smt_machine.specs.Memory.{Remembers, arrays_in}
use Rattle.smt_machine.specs.Nodes.{Frame, Node, Known, Slot, Apply, Call, Let, node_value, part, parts}
use Rattle.smt_machine.specs.declared.machine.Machine.{Machine}
use Rattle.smt_machine.specs.declared.task.Task.{Task}
use Rattle.smt_machine.specs.declared.task.Task.TheVariants.{Visit, Open, Finish, Operate}

-- ---- stacks of tasks

pub run_all-append : (nodes : List Node) (xs ys : List Task) (s : State)
    → run_all nodes (xs ++ ys) s ≡ run_all nodes xs (run_all nodes ys s)
run_all-append nodes [] ys s = refl
run_all-append nodes (t ∷ xs) ys s = ap (run nodes t) (run_all-append nodes xs ys s)

pub work-append : (nodes : List Node) (xs ys : List Task)
    → work nodes (xs ++ ys) ≡ work nodes xs + work nodes ys
work-append nodes [] ys = omega arith
work-append nodes (t ∷ xs) ys = omega (arith, work-append nodes xs ys)

pub visits-last : (i : ℕ) (js : List ℕ) (j : ℕ) → visits i (js ++ j ∷ []) ≡ part_task i j ∷ visits i js
visits-last i [] j = refl
visits-last i (k ∷ js) j = ap (λ ts. ts ++ part_task i k ∷ []) (visits-last i js j)

run_part_by : (nodes : List Node) (i j : ℕ) (s : State) (b : Bool)
    → run nodes (cond b (Visit j) Open) s ≡ with_value (cond b (given nodes j (frame_of s)) None) s
run_part_by nodes i j s true = refl
run_part_by nodes i j s false = refl

pub run_part : (nodes : List Node) (i j : ℕ) (s : State)
    → run nodes (part_task i j) s ≡ with_value (part i (given nodes) (frame_of s) j) s
run_part nodes i j s = run_part_by nodes i j s (nat_lt j i)

abbrev pub with_values : List (Option Element) → State → State
with_values vs s = record { values = s.values ++ vs; frames = s.frames; base = s.base }

values_more : (v : Option Element) (vs : List (Option Element)) (s : State)
    → with_values vs (with_value v s) ≡ with_values (v ∷ vs) s
values_more v vs s =
    ap (λ xs. let r : State = record { values = xs; frames = s.frames; base = s.base } in r)
    (append_assoc s.values (v ∷ []) vs)

pub run_visits : (nodes : List Node) (i : ℕ) (js : List ℕ) (s : State)
    → run_all nodes (visits i js) s ≡ with_values (parts i (given nodes) (frame_of s) js) s
run_visits nodes i [] s =
    ap (λ xs. let r : State = record { values = xs; frames = s.frames; base = s.base } in r)
    (sym (append-nil s.values))
run_visits nodes i (j ∷ js) s =
    run_all-append nodes (visits i js) (part_task i j ∷ []) s
    ∙ ap (run_all nodes (visits i js)) (run_part nodes i j s)
    ∙ run_visits nodes i js (with_value (part i (given nodes) (frame_of s) j) s)
    ∙ values_more (part i (given nodes) (frame_of s) j) (parts i (given nodes) (frame_of s) js) s

work_part_by : (nodes : List Node) (i j : ℕ) (b : Bool)
    → task_work nodes (cond b (Visit j) Open) ≡ 3 * cond b (cost nodes [] j) 1
work_part_by nodes i j true = refl
work_part_by nodes i j false = refl

pub work_part : (nodes : List Node) (i j : ℕ)
    → task_work nodes (part_task i j) ≡ 3 * part_cost i (cost nodes []) j
work_part nodes i j = work_part_by nodes i j (nat_lt j i)

pub work_visits : (nodes : List Node) (i : ℕ) (js : List ℕ)
    → work nodes (visits i js) ≡ 3 * parts_cost i (cost nodes []) js
work_visits nodes i [] = refl
work_visits nodes i (j ∷ js) = omega (
  arith,
  work-append nodes (visits i js) (part_task i j ∷ []),
  work_visits nodes i js,
  work_part nodes i j,
)

-- ---- what is counted

pub cost-append : (nodes : List Node) (c : ℕ → ℕ) (xs ys : List Task)
    → tasks_cost nodes c (xs ++ ys) ≡ tasks_cost nodes c xs + tasks_cost nodes c ys
cost-append nodes c [] ys = omega arith
cost-append nodes c (t ∷ xs) ys = omega (arith, cost-append nodes c xs ys)

cost_part_by : (nodes : List Node) (c : ℕ → ℕ) (j : ℕ) (b : Bool)
    → task_cost nodes c (cond b (Visit j) Open) ≡ cond b (c j) 1
cost_part_by nodes c j true = refl
cost_part_by nodes c j false = refl

pub cost_part : (nodes : List Node) (c : ℕ → ℕ) (i j : ℕ)
    → task_cost nodes c (part_task i j) ≡ part_cost i c j
cost_part nodes c i j = cost_part_by nodes c j (nat_lt j i)

pub cost_visits : (nodes : List Node) (c : ℕ → ℕ) (i : ℕ) (js : List ℕ)
    → tasks_cost nodes c (visits i js) ≡ parts_cost i c js
cost_visits nodes c i [] = refl
cost_visits nodes c i (j ∷ js) = omega (
  arith,
  cost-append nodes c (visits i js) (part_task i j ∷ []),
  cost_visits nodes c i js,
  cost_part nodes c i j,
)

-- the tasks that another plans cost no more than it, with what was counted
abbrev pub Pays : List Node → Task → List Task → Type 0
Pays nodes task more = (arounds : List ℕ) → tasks_cost nodes (cost nodes arounds) more + charge arounds task
    ≤ task_cost nodes (cost nodes arounds) task

-- ---- values that are due

pub due-append : (nodes : List Node) (xs ys : List Task) (s : State)
    → AreDue nodes xs (run_all nodes ys s) → AreDue nodes ys s → AreDue nodes (xs ++ ys) s
due-append nodes [] ys s due later = later
due-append nodes (t ∷ xs) ys s due later =
    let P : State → Type 0 = λ z. IsDue nodes t z in
    (subst P (sym (run_all-append nodes xs ys s)) due.0, due-append nodes xs ys s due.1 later)

pub due_before : (nodes : List Node) (xs ys : List Task) (s : State)
    → AreDue nodes (xs ++ ys) s → AreDue nodes xs (run_all nodes ys s)
due_before nodes [] ys s due = tt
due_before nodes (t ∷ xs) ys s due =
    let P : State → Type 0 = λ z. IsDue nodes t z in
    (subst P (run_all-append nodes xs ys s) due.0, due_before nodes xs ys s due.1)

pub due_later : (nodes : List Node) (xs ys : List Task) (s : State)
    → AreDue nodes (xs ++ ys) s → AreDue nodes ys s
due_later nodes [] ys s due = due
due_later nodes (t ∷ xs) ys s due = due_later nodes xs ys s due.1

due_part_by : (nodes : List Node) (j : ℕ) (s : State) (b : Bool) → IsDue nodes (cond b (Visit j) Open) s
due_part_by nodes j s true = tt
due_part_by nodes j s false = tt

pub due_part : (nodes : List Node) (i j : ℕ) (s : State) → AreDue nodes (part_task i j ∷ []) s
due_part nodes i j s = (due_part_by nodes j s (nat_lt j i), tt)

pub due_visits : (nodes : List Node) (i : ℕ) (js : List ℕ) (s : State) → AreDue nodes (visits i js) s
due_visits nodes i [] s = tt
due_visits nodes i (j ∷ js) s = due-append nodes (visits i js) (part_task i j ∷ []) s
    (due_visits nodes i js (run nodes (part_task i j) s)) (due_part nodes i j s)

-- what another machine keeps alike, over its arrays and more
pub remembered : (nodes : List Node) (before after : Machine) → after.kept ≡ before.kept
    → Grows (arrays_in before) (arrays_in after) → Remembers before nodes → Remembers after nodes
remembered nodes before after same grown remembers number v is =
    let here : kept_at before.kept number ≡ Some v = ap (λ k. kept_at k number) (sym same) ∙ is in
    known_stays (arrays_in before) (arrays_in after) v grown (before.kept_held number v here)
    ∙ remembers number v here

-- ---- the last values

pub last_of_more : {A : Type 0} (xs ys : List A) (n : ℕ) → n ≡ length ys → last_of n (xs ++ ys) ≡ ys
last_of_more xs ys n h =
    let e : length (xs ++ ys) - n ≡ length xs = omega (arith, length-append xs ys) in
    ap (λ k. drop k (xs ++ ys)) e ∙ drop-append_seam xs ys

pub before_last_more : {A : Type 0} (xs ys : List A) (n : ℕ) → n ≡ length ys → before_last n (xs ++ ys) ≡ xs
before_last_more xs ys n h =
    let e : length (xs ++ ys) - n ≡ length xs = omega (arith, length-append xs ys) in
    ap (λ k. take k (xs ++ ys)) e ∙ take-append-le (length xs) xs ys (omega arith)
    ∙ take_all (length xs) xs (omega arith)

-- what is made of the last values, when they were left just now
pub made_of_last : (f : List (Option Element) → Option Element) (vs : List (Option Element))
    (n : ℕ) (s : State) → n ≡ length vs
    → with_last n (f (last_of n (s.values ++ vs))) (with_values vs s) ≡ with_value (f vs) s
made_of_last f vs n s h =
    ap (λ xs. with_last n (f xs) (with_values vs s)) (last_of_more s.values vs n h)
    ∙ ap (λ xs. let r : State = record { values = xs ++ f vs ∷ []; frames = s.frames; base = s.base } in r)
    (before_last_more s.values vs n h)

length_parts : (nodes : List Node) (i : ℕ) (frame : Frame) (js : List ℕ)
    → length js ≡ length (parts i (given nodes) frame js)
length_parts nodes i frame js = sym (length-map js (part i (given nodes) frame))

-- a node whose arguments were left just now
abbrev pub first_parts : Node → List ℕ
first_parts (Known v) = []
first_parts (Slot k) = []
first_parts (Apply op args) = args
first_parts (Call body args) = args
first_parts (Let values body) = values

abbrev pub IsCompound : Node → Type 0
IsCompound (Known v) = ⊥
IsCompound (Slot k) = ⊥
IsCompound _ = Unit {0}

pub finish_law : (nodes : List Node) (i : ℕ) (n : Node) (s : State) → IsCompound n
    → finished nodes i (Some n) (with_values (parts i (given nodes) (frame_of s) (first_parts n)) s)
    ≡ with_value (node_value i (given nodes) (frame_of s) (Some n)) s
finish_law nodes i (Known v) s h = absurd h
finish_law nodes i (Slot k) s h = absurd h
finish_law nodes i (Apply op args) s h =
    made_of_last (known_step op) (parts i (given nodes) (frame_of s) args) (length args) s
    (length_parts nodes i (frame_of s) args)
finish_law nodes i (Call body args) s h =
    made_of_last (λ vs. part i (given nodes) vs body) (parts i (given nodes) (frame_of s) args)
    (length args) s
    (length_parts nodes i (frame_of s) args)
finish_law nodes i (Let values body) s h =
    made_of_last (λ vs. part i (given nodes) (frame_of s ++ vs) body)
    (parts i (given nodes) (frame_of s) values) (length values) s (length_parts nodes i (frame_of s) values)

-- ---- steps

pub grown : (nodes : List Node) (task : Task) (before after : Machine) (more : List Task)
    → after.tasks.items ≡ before.tasks.items ++ more
    → run_all nodes more (state_of after) ≡ run nodes task (state_of before)
    → IsBased (state_of after)
    → work nodes more < task_work nodes task
    → Pays nodes task more
    → Owes nodes task more
    → Remembers after nodes
    → Grows (arrays_in before) (arrays_in after)
    → AreDue nodes more (state_of after)
    → IsDone nodes task before after
grown nodes task before after more tasks leads based less pays owes remembers arrays due = record {
  answer = ap (λ ts. run_all nodes ts (state_of after)) tasks
      ∙ run_all-append nodes before.tasks.items more (state_of after)
      ∙ ap (run_all nodes before.tasks.items) leads;
  based = based;
  falls = let e = ap (work nodes) tasks in omega (arith, e, work-append nodes before.tasks.items more);
  pays = λ arounds.
      let c : ℕ → ℕ = cost nodes arounds in
      let e = ap (tasks_cost nodes c) tasks in
      omega (arith, e, cost-append nodes c before.tasks.items more, pays arounds);
  owes = λ arounds.
      let k : ℕ → ℕ = least nodes arounds in
      let e = ap (tasks_least nodes k) tasks in
      omega (arith, e, least-append nodes k before.tasks.items more, owes arounds);
  remembers = remembers;
  grown = arrays;
  due = λ earlier.
      let P : State → Type 0 = λ s. AreDue nodes before.tasks.items s in
      let Q : List Task → Type 0 = λ ts. AreDue nodes ts (state_of after) in
      subst Q (sym tasks)
      (due-append nodes before.tasks.items more (state_of after) (subst P (sym leads) earlier) due);
}

pub settled : (nodes : List Node) (task : Task) (before after : Machine)
    → IsAt (run nodes task (state_of before)) before after
    → IsBased (run nodes task (state_of before))
    → 0 < task_work nodes task
    → Pays nodes task []
    → Owes nodes task []
    → IsStep nodes task before after
settled nodes task before after is based less pays owes = λ remembers due.
    grown nodes task before after [] (is.tasks ∙ sym (append-nil before.tasks.items)) is.state
    (let P : State → Type 0 = λ s. IsBased s in subst P (sym is.state) based) less pays owes
    (remembered nodes before after is.kept is.grown remembers) is.grown tt

pub planned : (nodes : List Node) (task : Task) (before after : Machine) (more : List Task) (s : State)
    → IsPlanned more s before after
    → run_all nodes more s ≡ run nodes task (state_of before)
    → IsBased s
    → work nodes more < task_work nodes task
    → Pays nodes task more
    → Owes nodes task more
    → AreDue nodes more s
    → IsStep nodes task before after
planned nodes task before after more s is leads based less pays owes dues = λ remembers due.
    grown nodes task before after more is.tasks (ap (run_all nodes more) is.state ∙ leads)
    (let P : State → Type 0 = λ s. IsBased s in subst P (sym is.state) based) less pays owes
    (remembered nodes before after is.kept is.grown remembers) is.grown
    (let P : State → Type 0 = λ s. AreDue nodes more s in subst P (sym is.state) dues)

-- ---- visits

-- a value that is there at once
pub visited : (nodes : List Node) (i : ℕ) (n : Option Node) (v : Option Element) (before after : Machine)
    → n ≡ slice_get nodes i
    → AtOnce i n
    → node_value i (given nodes) (frame_of (state_of before)) n ≡ v
    → IsAt (with_value v (state_of before)) before after
    → IsBased (state_of before)
    → IsStep nodes (Visit i) before after
visited nodes i n v before after at once is made based =
    let e : given nodes i (frame_of (state_of before)) ≡ v =
    given_law nodes i (frame_of (state_of before))
    ∙ ap (node_value i (given nodes) (frame_of (state_of before))) (sym at) ∙ is in
    settled nodes (Visit i) before after
    (let P : Option Element → Type 0 = λ w. IsAt (with_value w (state_of before)) before after in
    subst P (sym e) made) based (omega (arith, cost_law nodes [] i))
    (λ arounds. omega (arith, cost_law nodes arounds i)) (owes_nothing nodes i n at once)

first_cost_is : (i : ℕ) (c : ℕ → ℕ) (n : Node) → first_cost i c (Some n) ≡ parts_cost i c (first_parts n)
first_cost_is i c (Known v) = refl
first_cost_is i c (Slot k) = refl
first_cost_is i c (Apply op args) = refl
first_cost_is i c (Call body args) = refl
first_cost_is i c (Let values body) = refl

inner_least_of : (i : ℕ) (k : ℕ → ℕ) (n : Node)
    → inner_least i k (Some n) ≤ parts_least i k (first_parts n) + body_least i k (Some n)
inner_least_of i k (Known v) = omega arith
inner_least_of i k (Slot place) = omega arith
inner_least_of i k (Apply op args) = omega (arith, arguments_of_parts i k (is_choice op) args)
inner_least_of i k (Call body args) = omega arith
inner_least_of i k (Let values body) = omega arith

-- parts that come first
pub visit_planned : (nodes : List Node) (i : ℕ) (n : Node) (before after : Machine)
    → Some n ≡ slice_get nodes i → IsCompound n
    → IsPlanned (Finish i ∷ visits i (first_parts n)) (state_of before) before after
    → IsBased (state_of before)
    → IsStep nodes (Visit i) before after
visit_planned nodes i n before after at compound is based =
    let s : State = state_of before in
    planned nodes (Visit i) before after (Finish i ∷ visits i (first_parts n)) s is
    (ap (run nodes (Finish i)) (run_visits nodes i (first_parts n) s)
    ∙ ap (λ m. finished nodes i m (with_values (parts i (given nodes) (frame_of s) (first_parts n)) s))
    (sym at)
    ∙ finish_law nodes i n s compound
    ∙ ap (λ m. with_value (node_value i (given nodes) (frame_of s) m) s) at
    ∙ ap (λ v. with_value v s) (sym (given_law nodes i (frame_of s))))
    based
    (let firsts = work_visits nodes i (first_parts n) in
    let first = ap (first_cost i (cost nodes [])) (sym at) ∙ first_cost_is i (cost nodes []) n in
    omega (arith, firsts, first, cost_law nodes [] i))
    (λ arounds.
    let c : ℕ → ℕ = cost nodes arounds in
    let firsts = cost_visits nodes c i (first_parts n) in
    let first = ap (first_cost i c) (sym at) ∙ first_cost_is i c n in
    omega (arith, firsts, first, cost_law nodes arounds i))
    (node_owes nodes i n (first_parts n) at (λ k. inner_least_of i k n))
    (tt, due_visits nodes i (first_parts n) s)

-- an operator that holds no number, behind its arguments
pub visit_operated : (nodes : List Node) (i n : ℕ) (op : PlainOp) (args : List ℕ) (before after : Machine)
    → Some (Apply (op_of_plain op) args) ≡ slice_get nodes i → n ≡ length args
    → IsPlanned (Operate op n ∷ visits i args) (state_of before) before after
    → IsBased (state_of before)
    → IsStep nodes (Visit i) before after
visit_operated nodes i n op args before after at count is based =
    let s : State = state_of before in
    planned nodes (Visit i) before after (Operate op n ∷ visits i args) s is
    (ap (run nodes (Operate op n)) (run_visits nodes i args s)
    ∙ ap (λ m. run nodes (Operate op m) (with_values (parts i (given nodes) (frame_of s) args) s)) count
    ∙ finish_law nodes i (Apply (op_of_plain op) args) s tt
    ∙ ap (λ m. with_value (node_value i (given nodes) (frame_of s) m) s) at
    ∙ ap (λ v. with_value v s) (sym (given_law nodes i (frame_of s))))
    based
    (let first = ap (first_cost i (cost nodes [])) (sym at) in
    omega (arith, work_visits nodes i args, first, cost_law nodes [] i))
    (λ arounds.
    let c : ℕ → ℕ = cost nodes arounds in
    let first = ap (first_cost i c) (sym at) in
    omega (arith, cost_visits nodes c i args, first, cost_law nodes arounds i))
    (operator_owes nodes i n op args at)
    (tt, due_visits nodes i args s)

-- ---- the loop that plans visits, from the last part on

pub plan_next : (i : ℕ) (f : ℕ → ℕ) (left rest : List ℕ) (last : ℕ) (t : Task) (all before after : List Task)
    → left ≡ rest ++ last ∷ [] → t ≡ part_task i (f last)
    → all ≡ before ++ visits i (map f left) → after ≡ before ++ t ∷ []
    → all ≡ after ++ visits i (map f rest)
plan_next i f left rest last t all before after split task is more =
    is ∙ ap (λ xs. before ++ visits i (map f xs)) split
    ∙ ap (λ xs. before ++ visits i xs) (map-append f rest (last ∷ []))
    ∙ ap (λ ts. before ++ ts) (visits-last i (map f rest) (f last))
    ∙ ap (λ k. before ++ (k ∷ visits i (map f rest))) (sym task)
    ∙ sym (append_assoc before (t ∷ []) (visits i (map f rest)))
    ∙ ap (λ ts. ts ++ visits i (map f rest)) (sym more)
