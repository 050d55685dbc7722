-- What a step of the machine does for each task and each form of node.
use Rattle.std.proofs.Common.{◌≡◌, ℕ, ◌+◌, ◌-◌, ◌*◌, ◌<◌, ◌≤◌, Bool, true, false, cond, List, [], ◌∷◌, ◌++◌}
use Rattle.std.proofs.Common.{length, take, min, slice_get, Option, Some, None, refl, ap, sym, ◌∙◌, subst}
use Rattle.std.proofs.Common.{inl, inr, ◌⊎◌, arith, append-nil, length-append, length-drop, nat_eq, nat_lt}
use Rattle.std.proofs.Common.{Result, Ok, Err, IfOk}
use Rattle.std.proofs.Math.Seq.{drop-append_seam}
use Rattle.std.proofs.lemmas.Bool.Decides.{nat_tests}
use Rattle.std.proofs.lemmas.List.{drop_all, drop-append-le, take-append-le, take_all}
use Rattle.std.specs.Prelude.{option_and_then, if◌then◌else◌}
use Rattle.smt_theory.specs.declared.op.CoreOp.TheVariants.{Ite}
use Rattle.smt_theory.specs.declared.op.Op.{Op}
use Rattle.smt_theory.specs.declared.op.Op.TheVariants.{Core}
use Rattle.smt_theory.specs.declared.op.plain.PlainOp.{PlainOp}
use Rattle.smt_theory.specs.PlainOp.{op_of_plain}
use Rattle.smt_arrays.specs.Cells.{arrays_of}
use Rattle.smt_arrays.specs.Element.{Element, known_plain}
use Rattle.smt_arrays.specs.Known.{known_choice, known_step}
use Rattle.smt_arrays.specs.Tables.{Grows, known_in}
use Rattle.smt_values.specs.KnownOperations.{known_truth}
use Rattle.smt_values.specs.declared.value.Value.{Value}
use Rattle.smt_machine.proofs.GivenLemmas.{given_law, cost_law}
use Rattle.smt_machine.proofs.HeldLemmas.{grows_as, grows_not, grows_on}
use Rattle.smt_machine.proofs.LeastLemmas.{Owes, least-append, least_law, least_part, least_visits}
use Rattle.smt_machine.proofs.RunLemmas.{due_before, due_later, due_part, due_visits, grown, last_of_more}
use Rattle.smt_machine.proofs.RunLemmas.{made_of_last, planned, remembered, run_all-append, run_part}
use Rattle.smt_machine.proofs.RunLemmas.{run_visits, settled, visited, work-append, work_part, work_visits}
use Rattle.smt_machine.proofs.RunLemmas.{Pays, cost-append, cost_part, cost_visits, with_values}
use Rattle.smt_machine.proofs.StateLemmas.{last_one}
use Rattle.smt_machine.specs.Given.{given}
use Rattle.smt_machine.specs.Costs.{cost, first_cost, last_cost, part_cost}
use Rattle.smt_machine.specs.Least.{inner_least, least}
use Rattle.smt_machine.specs.Internal.States.{State, before_last, first_of, frame_of, last_of, state_of}
use Rattle.smt_machine.specs.Internal.KeptView.{kept_at}
use Rattle.smt_machine.specs.Internal.States.{with_base, with_frames, with_last, with_moved, with_value, without_last}
use Rattle.smt_machine.specs.Internal.Tasks.{AreDue, IsAt, IsBased, IsBefore, IsChoice, IsDone, IsDue}
use Rattle.smt_machine.specs.Internal.Tasks.{IsKeeping, IsPaid, IsPlanned, IsRunning, IsStep}
use Rattle.smt_machine.specs.Internal.Tasks.{branches_cost, branches_of, chosen, chosen_between}
use Rattle.smt_machine.specs.Internal.Tasks.{body_least, charge, chosen_cost, finished, part_task, run, run_all}
use Rattle.smt_machine.specs.Internal.Tasks.{task_cost, task_work, tasks_cost, tasks_least, visits, work}
use Rattle.smt_machine.specs.Memory.{Remembers, arrays_in}
use Rattle.smt_machine.specs.Nodes.{Frame, Node, Apply, Call, Let, node_value, part}
use Rattle.smt_machine.specs.declared.machine.Machine.{Machine}
use Rattle.smt_machine.specs.declared.task.Task.{Task}
use Rattle.smt_machine.specs.declared.task.Task.TheVariants.{Visit, Open, Finish, Operate, Choose, Return, Unbind}
use Rattle.smt_machine.specs.declared.task.Task.TheVariants.{Keep}

-- what follows from what holds unless memory was refused
pub if_done : {T E : Type 0} {P Q : Type 0} (r : Result T E) → IfOk r (λ _. P) → (P → Q) → IfOk r (λ _. Q)
if_done (Ok x) p f = f p
if_done (Err e) p f = tt

-- a task that changes nothing
pub idle : (nodes : List Node) (task : Task) (m : Machine)
    → run nodes task (state_of m) ≡ state_of m
    → IsBased (state_of m) → 0 < task_work nodes task → Pays nodes task [] → Owes nodes task []
    → IsStep nodes task m m
idle nodes task m same based less pays owes =
    settled nodes task m m (record { tasks = refl; state = sym same; kept = refl; grown = grows_not (arrays_in m) })
    (let P : State → Type 0 = λ s. IsBased s in subst P (sym same) based) less pays owes

-- a part that is open
pub open_done : (nodes : List Node) (before after : Machine)
    → IsAt (with_value None (state_of before)) before after
    → IsBased (state_of before) → IsStep nodes Open before after
open_done nodes before after is based =
    settled nodes Open before after is based (omega arith) (λ arounds. omega arith) (λ arounds. omega arith)

-- the frames are as they were before a body
pub returned : (nodes : List Node) (base : ℕ) (before after : Machine)
    → IsAt (with_frames base (state_of before).base (state_of before)) before after
    → IsStep nodes (Return base) before after
returned nodes base before after is =
    settled nodes (Return base) before after is (omega arith) (omega arith) (λ arounds. omega arith)
    (λ arounds. omega arith)

pub unbound : (nodes : List Node) (len : ℕ) (before after : Machine)
    → IsAt (with_frames (state_of before).base len (state_of before)) before after
    → IsStep nodes (Unbind len) before after
unbound nodes len before after is =
    settled nodes (Unbind len) before after is (omega arith) (omega arith) (λ arounds. omega arith)
    (λ arounds. omega arith)

-- ---- a choice

choice_planned_at : (nodes : List Node) (i c a b : ℕ) (before after : Machine)
    → Some (Apply (Core Ite) (c ∷ a ∷ b ∷ [])) ≡ slice_get nodes i
    → IsPlanned (Choose i ∷ visits i (c ∷ [])) (state_of before) before after
    → IsBased (state_of before)
    → IsStep nodes (Visit i) before after
choice_planned_at nodes i c a b before after at is based =
    let s : State = state_of before in
    let value : ℕ → Option Element = part i (given nodes) (frame_of s) in
    planned nodes (Visit i) before after (Choose i ∷ visits i (c ∷ [])) s is
    (ap (run nodes (Choose i)) (run_visits nodes i (c ∷ []) s)
    ∙ ap (λ m. chosen nodes i m (with_values (value c ∷ []) s)) (sym at)
    ∙ made_of_last (λ vs. known_choice (vs ++ value a ∷ value b ∷ [])) (value c ∷ []) 1 s refl
    ∙ ap (λ m. with_value (node_value i (given nodes) (frame_of s) m) s) at
    ∙ ap (λ v. with_value v s) (sym (given_law nodes i (frame_of s))))
    based
    (let first = ap (first_cost i (cost nodes [])) (sym at) in
    let later = ap (chosen_cost i (cost nodes [])) (sym at) in
    omega (arith, work_visits nodes i (c ∷ []), first, later, cost_law nodes [] i))
    (λ arounds.
    let k : ℕ → ℕ = cost nodes arounds in
    let first = ap (first_cost i k) (sym at) in
    let later = ap (chosen_cost i k) (sym at) in
    omega (arith, cost_visits nodes k i (c ∷ []), first, later, cost_law nodes arounds i))
    (λ arounds.
    let k : ℕ → ℕ = least nodes arounds in
    let inner = ap (inner_least i k) (sym at) in
    omega (arith, inner, least_visits nodes k i (c ∷ []), least_law nodes arounds i))
    (tt, due_visits nodes i (c ∷ []) s)

pub choice_planned : (nodes : List Node) (i : ℕ) (op : Op) (args condition : List ℕ) (before after : Machine)
    → Some (Apply op args) ≡ slice_get nodes i → IsChoice op args condition
    → IsPlanned (Choose i ∷ visits i condition) (state_of before) before after
    → IsBased (state_of before)
    → IsStep nodes (Visit i) before after
choice_planned nodes i op args condition before after at choice is based =
    let here : Some (Apply (Core Ite) (choice.0 ∷ choice.1 ∷ choice.2 ∷ [])) ≡ slice_get nodes i =
    sym (ap (λ o. Some (Apply o args)) choice.3 ∙ ap (λ js. Some (Apply (Core Ite) js)) choice.4) ∙ at in
    let P : List ℕ → Type 0 = λ js. IsPlanned (Choose i ∷ visits i js) (state_of before) before after in
    choice_planned_at nodes i choice.0 choice.1 choice.2 before after here (subst P choice.5 is) based

choice_known : (vs : List (Option Element)) (a b : Option Element) → length vs ≤ 1
    → known_choice (vs ++ a ∷ b ∷ [])
    ≡ option_and_then (λ c. if c then a else b) (known_truth (known_plain (first_of vs)))
choice_known [] a b h = refl
choice_known (v ∷ []) a b h = refl
choice_known (v ∷ w ∷ vs) a b h = absurd (omega arith)

length_last : {A : Type 0} (xs : List A) → length (last_of 1 xs) ≤ 1
length_last xs = omega (arith, length-drop (length xs - 1) xs)

-- the choice is what its condition says
chosen_is : (nodes : List Node) (i a b : ℕ) (op : Op) (args : List ℕ) (t : Option Bool) (s : State)
    → Some (Apply op args) ≡ slice_get nodes i → Some (a, b) ≡ branches_of args
    → t ≡ known_truth (known_plain (first_of (last_of 1 s.values)))
    → with_last 1 (option_and_then
    (λ c. if c then part i (given nodes) (frame_of s) a else part i (given nodes) (frame_of s) b) t) s
    ≡ run nodes (Choose i) s
chosen_is nodes i a b op args t s at branches is =
    let value : ℕ → Option Element = part i (given nodes) (frame_of s) in
    ap (λ o. with_last 1 (option_and_then (λ c. if c then value a else value b) o) s) is
    ∙ ap (λ v. with_last 1 v s) (sym (choice_known (last_of 1 s.values) (value a) (value b)
    (length_last s.values)))
    ∙ ap (λ p. chosen_between nodes i p s) branches
    ∙ ap (λ m. chosen nodes i m s) at

branch_less : (nodes : List Node) (i a b : ℕ) (op : Op) (args : List ℕ)
    → Some (Apply op args) ≡ slice_get nodes i → Some (a, b) ≡ branches_of args
    → 3 * (part_cost i (cost nodes []) a + part_cost i (cost nodes []) b) + 2 ≡ task_work nodes (Choose i)
branch_less nodes i a b op args at branches =
    ap (λ p. 3 * branches_cost i (cost nodes []) p + 2) branches
    ∙ ap (λ m. 3 * chosen_cost i (cost nodes []) m + 2) at

branch_pays : (nodes : List Node) (i a b : ℕ) (op : Op) (args : List ℕ) (c : ℕ → ℕ)
    → Some (Apply op args) ≡ slice_get nodes i → Some (a, b) ≡ branches_of args
    → part_cost i c a + part_cost i c b ≡ task_cost nodes c (Choose i)
branch_pays nodes i a b op args c at branches = ap (branches_cost i c) branches ∙ ap (chosen_cost i c) at

branch_value : (value : ℕ → Option Element) (c : Bool) (a b : ℕ)
    → value (cond c a b) ≡ cond c (value a) (value b)
branch_value value true a b = refl
branch_value value false a b = refl

branch_cost : (c : ℕ → ℕ) (k : Bool) (a b : ℕ) → c (cond k a b) ≤ c a + c b
branch_cost c true a b = omega arith
branch_cost c false a b = omega arith

-- one of the branches
pub chosen_one : (nodes : List Node) (i a b : ℕ) (op : Op) (args : List ℕ) (t : Option Bool) (c : Bool)
    (before middle after : Machine)
    → Some (Apply op args) ≡ slice_get nodes i → Some (a, b) ≡ branches_of args
    → t ≡ known_truth (known_plain (first_of (last_of 1 (state_of before).values))) → t ≡ Some c
    → IsAt (without_last 1 (state_of before)) before middle
    → IsPlanned (part_task i (if c then a else b) ∷ []) (state_of middle) middle after
    → IsBased (state_of before)
    → IsStep nodes (Choose i) before after
chosen_one nodes i a b op args t c before middle after at branches is some taken is_planned based =
    let s : State = state_of before in
    let value : ℕ → Option Element = part i (given nodes) (frame_of s) in
    planned nodes (Choose i) before after (part_task i (if c then a else b) ∷ []) (without_last 1 s)
    (record {
      tasks = is_planned.tasks ∙ ap (λ ts. ts ++ part_task i (if c then a else b) ∷ []) taken.tasks;
      state = is_planned.state ∙ taken.state;
      kept = is_planned.kept ∙ taken.kept;
      grown = grows_on (arrays_in before) (arrays_in middle) (arrays_in after) taken.grown is_planned.grown;
    })
    (run_part nodes i (if c then a else b) (without_last 1 s)
    ∙ ap (λ v. with_last 1 v s) (branch_value value c a b)
    ∙ ap (λ o. with_last 1 (option_and_then (λ k. if k then value a else value b) o) s) (sym some)
    ∙ chosen_is nodes i a b op args t s at branches is)
    based
    (let less = branch_less nodes i a b op args at branches in
    let one = branch_cost (part_cost i (cost nodes [])) c a b in
    omega (arith, less, one, work_part nodes i (if c then a else b)))
    (λ arounds.
    let k : ℕ → ℕ = cost nodes arounds in
    let pays = branch_pays nodes i a b op args k at branches in
    let one = branch_cost (part_cost i k) c a b in
    omega (arith, pays, one, cost_part nodes k i (if c then a else b)))
    (λ arounds. omega arith)
    (due_part nodes i (if c then a else b) (without_last 1 s))

-- no truth value to choose by
pub chosen_none : (nodes : List Node) (i a b : ℕ) (op : Op) (args : List ℕ) (t : Option Bool)
    (before middle after : Machine)
    → Some (Apply op args) ≡ slice_get nodes i → Some (a, b) ≡ branches_of args
    → t ≡ known_truth (known_plain (first_of (last_of 1 (state_of before).values))) → t ≡ None
    → IsAt (without_last 1 (state_of before)) before middle
    → IsAt (with_value None (state_of middle)) middle after
    → IsBased (state_of before)
    → IsStep nodes (Choose i) before after
chosen_none nodes i a b op args t before middle after at branches is none taken left based =
    let s : State = state_of before in
    let value : ℕ → Option Element = part i (given nodes) (frame_of s) in
    let leads : with_last 1 None s ≡ run nodes (Choose i) s =
    ap (λ o. with_last 1 (option_and_then (λ k. if k then value a else value b) o) s) (sym none)
    ∙ chosen_is nodes i a b op args t s at branches is in
    let B : State → Type 0 = λ z. IsBased z in
    settled nodes (Choose i) before after
    (record {
      tasks = left.tasks ∙ taken.tasks;
      state = left.state ∙ ap (with_value None) taken.state ∙ leads;
      kept = left.kept ∙ taken.kept;
      grown = grows_on (arrays_in before) (arrays_in middle) (arrays_in after) taken.grown left.grown;
    })
    (let here : IsBased (with_last 1 None s) = based in subst B leads here)
    (omega arith) (λ arounds. omega arith) (λ arounds. omega arith)

-- ---- what a node does with the last values

lesser_is : (m n : ℕ) → m ≤ n → min m n ≡ m
lesser_is m n h = omega arith

state_is : (vs fs gs : List (Option Element)) (m n : ℕ) → fs ≡ gs → m ≡ n
    → (let r : State = record { values = vs; frames = fs; base = m } in r)
    ≡ (let r : State = record { values = vs; frames = gs; base = n } in r)
state_is vs fs gs m n f b = cc

pub operated_step : (nodes : List Node) (i n : ℕ) (op : Op) (args : List ℕ) (before after : Machine)
    → Some (Apply op args) ≡ slice_get nodes i → length args ≡ n
    → IsAt (with_last n (known_step op (last_of n (state_of before).values)) (state_of before)) before after
    → IsBased (state_of before)
    → IsStep nodes (Finish i) before after
operated_step nodes i n op args before after at count is based =
    let s : State = state_of before in
    let made : State = with_last n (known_step op (last_of n s.values)) s in
    let leads : made ≡ run nodes (Finish i) s =
    ap (λ k. with_last k (known_step op (last_of k s.values)) s) (sym count) ∙ ap (λ m. finished nodes i m s) at in
    let A : State → Type 0 = λ z. IsAt z before after in
    let B : State → Type 0 = λ z. IsBased z in
    settled nodes (Finish i) before after (subst A leads is)
    (let here : B made = based in subst B leads here) (omega arith) (λ arounds. omega arith)
    (λ arounds. let none = ap (body_least i (least nodes arounds)) (sym at) in omega (arith, none))

pub applied_step : (nodes : List Node) (n : ℕ) (plain : PlainOp) (op : Op) (before after : Machine) → op ≡ op_of_plain plain
    → IsAt (with_last n (known_step op (last_of n (state_of before).values)) (state_of before)) before after
    → IsBased (state_of before)
    → IsStep nodes (Operate plain n) before after
applied_step nodes n plain op before after same is based =
    let s : State = state_of before in
    let A : Op → Type 0 = λ o. IsAt (with_last n (known_step o (last_of n s.values)) s) before after in
    settled nodes (Operate plain n) before after (subst A same is) based (omega arith) (λ arounds. omega arith)
    (λ arounds. omega arith)

pub entered_step : (nodes : List Node) (i n body : ℕ) (args : List ℕ) (before after : Machine)
    → Some (Call body args) ≡ slice_get nodes i → length args ≡ n
    → IsPlanned (Return (state_of before).base ∷ part_task i body ∷ [])
    (with_moved (length (state_of before).frames) n (state_of before)) before after
    → IsBased (state_of before)
    → IsStep nodes (Finish i) before after
entered_step nodes i n body args before after at count is based =
    let s : State = state_of before in
    let len : ℕ = length s.frames in
    let inner : State = with_moved len n s in
    let frame : frame_of inner ≡ last_of n s.values = drop-append_seam s.frames (last_of n s.values) in
    let back : take len (s.frames ++ last_of n s.values) ≡ s.frames =
    take-append-le len s.frames (last_of n s.values) (omega arith) ∙ take_all len s.frames (omega arith) in
    let base : min s.base (length (take len (s.frames ++ last_of n s.values))) ≡ s.base =
    ap (λ fs. min s.base (length fs)) back ∙ lesser_is s.base len based in
    planned nodes (Finish i) before after (Return s.base ∷ part_task i body ∷ []) inner is
    (ap (run nodes (Return s.base)) (run_part nodes i body inner)
    ∙ state_is (before_last n s.values ++ part i (given nodes) (frame_of inner) body ∷ []) _ _ _ _ back base
    ∙ ap (λ f. with_last n (part i (given nodes) f body) s) frame
    ∙ ap (λ k. with_last k (part i (given nodes) (last_of k s.values) body) s) (sym count)
    ∙ ap (λ m. finished nodes i m s) at)
    (omega (arith, length-append s.frames (last_of n s.values)))
    (let last = ap (last_cost i (cost nodes [])) (sym at) in omega (arith, last, work_part nodes i body))
    (λ arounds.
    let c : ℕ → ℕ = cost nodes arounds in
    let last = ap (last_cost i c) (sym at) in omega (arith, last, cost_part nodes c i body))
    (λ arounds. let none = ap (body_least i (least nodes arounds)) (sym at) in omega (arith, none))
    (tt, due_part nodes i body inner)

pub bound_step : (nodes : List Node) (i n body : ℕ) (values : List ℕ) (before after : Machine)
    → Some (Let values body) ≡ slice_get nodes i → length values ≡ n
    → IsPlanned (Unbind (length (state_of before).frames) ∷ part_task i body ∷ [])
    (with_moved (state_of before).base n (state_of before)) before after
    → IsBased (state_of before)
    → IsStep nodes (Finish i) before after
bound_step nodes i n body values before after at count is based =
    let s : State = state_of before in
    let len : ℕ = length s.frames in
    let inner : State = with_moved s.base n s in
    let frame : frame_of inner ≡ frame_of s ++ last_of n s.values =
    drop-append-le s.base s.frames (last_of n s.values) based in
    let back : take len (s.frames ++ last_of n s.values) ≡ s.frames =
    take-append-le len s.frames (last_of n s.values) (omega arith) ∙ take_all len s.frames (omega arith) in
    let base : min s.base (length (take len (s.frames ++ last_of n s.values))) ≡ s.base =
    ap (λ fs. min s.base (length fs)) back ∙ lesser_is s.base len based in
    planned nodes (Finish i) before after (Unbind len ∷ part_task i body ∷ []) inner is
    (ap (run nodes (Unbind len)) (run_part nodes i body inner)
    ∙ state_is (before_last n s.values ++ part i (given nodes) (frame_of inner) body ∷ []) _ _ _ _ back base
    ∙ ap (λ f. with_last n (part i (given nodes) f body) s) frame
    ∙ ap (λ k. with_last k (part i (given nodes) (frame_of s ++ last_of k s.values) body) s) (sym count)
    ∙ ap (λ m. finished nodes i m s) at)
    (omega (arith, length-append s.frames (last_of n s.values)))
    (let last = ap (last_cost i (cost nodes [])) (sym at) in omega (arith, last, work_part nodes i body))
    (λ arounds.
    let c : ℕ → ℕ = cost nodes arounds in
    let last = ap (last_cost i c) (sym at) in omega (arith, last, cost_part nodes c i body))
    (λ arounds.
    let k : ℕ → ℕ = least nodes arounds in
    let last = ap (body_least i k) (sym at) in omega (arith, last, least_part nodes k i body))
    (tt, due_part nodes i body inner)

-- ---- constants

-- the value of a constant is that of its closed body
constant_value : (nodes : List Node) (i j : ℕ) (frame : Frame)
    → Some (Call j []) ≡ slice_get nodes i → nat_lt j i ≡ true → given nodes i frame ≡ given nodes j []
constant_value nodes i j frame at below =
    given_law nodes i frame ∙ ap (node_value i (given nodes) frame) (sym at)
    ∙ ap (λ b. cond b (given nodes j []) None) below

constant_open : (nodes : List Node) (i j : ℕ) (frame : Frame)
    → Some (Call j []) ≡ slice_get nodes i → nat_lt j i ≡ false → given nodes i frame ≡ None
constant_open nodes i j frame at below =
    given_law nodes i frame ∙ ap (node_value i (given nodes) frame) (sym at)
    ∙ ap (λ b. cond b (given nodes j []) None) below

-- a number that is below another's, or is not
below_by : (b : Bool) (j k : ℕ) → Some k ≡ cond b (Some j) None → (b ≡ true) × (k ≡ j)
below_by true j k is = (refl, cc)
below_by false j k is = cc

past_by : (b : Bool) (j : ℕ) → None ≡ cond b (Some j) None → b ≡ false
past_by true j is = cc
past_by false j is = refl

-- a value that is kept
pub kept_step : (nodes : List Node) (i j k : ℕ) (v : Option Value) (before after : Machine)
    → Some (Call j []) ≡ slice_get nodes i → Some k ≡ (if nat_lt j i then Some j else None)
    → Some v ≡ kept_at before.kept k
    → IsAt (with_value (known_in (arrays_in before) v) (state_of before)) before after
    → IsBased (state_of before)
    → IsStep nodes (Visit i) before after
kept_step nodes i j k v before after at below kept is based = λ remembers due.
    let here = below_by (nat_lt j i) j k below in
    let made : given nodes i (frame_of (state_of before)) ≡ known_in (arrays_in before) v =
    constant_value nodes i j (frame_of (state_of before)) at here.0
    ∙ ap (λ n. given nodes n []) (sym here.1) ∙ sym (remembers k v (sym kept)) in
    visited nodes i (slice_get nodes i) (known_in (arrays_in before) v) before after refl
    (λ k. ap (inner_least i k) (sym at))
    (sym (given_law nodes i (frame_of (state_of before))) ∙ made) is based remembers due

-- a body that is not below the constant
pub open_step : (nodes : List Node) (i j : ℕ) (before after : Machine)
    → Some (Call j []) ≡ slice_get nodes i → None ≡ (if nat_lt j i then Some j else None)
    → IsAt (with_value None (state_of before)) before after
    → IsBased (state_of before)
    → IsStep nodes (Visit i) before after
open_step nodes i j before after at past is based =
    visited nodes i (slice_get nodes i) None before after refl (λ k. ap (inner_least i k) (sym at))
    (sym (given_law nodes i (frame_of (state_of before)))
    ∙ constant_open nodes i j (frame_of (state_of before)) at (past_by (nat_lt j i) j past)) is based

-- the closed body is evaluated in an empty frame
pub closed_step : (nodes : List Node) (i j k : ℕ) (before after : Machine)
    → Some (Call j []) ≡ slice_get nodes i → Some k ≡ (if nat_lt j i then Some j else None)
    → IsPlanned (Keep k ∷ Return (state_of before).base ∷ Visit k ∷ [])
    (with_base (length (state_of before).frames) (state_of before)) before after
    → IsBased (state_of before)
    → IsStep nodes (Visit i) before after
closed_step nodes i j k before after at below is based =
    let s : State = state_of before in
    let len : ℕ = length s.frames in
    let inner : State = with_base len s in
    let here = below_by (nat_lt j i) j k below in
    let value : Option Element = given nodes k [] in
    let frame : frame_of inner ≡ [] = drop_all len s.frames (omega arith) in
    let back : take len s.frames ≡ s.frames = take_all len s.frames (omega arith) in
    let base : min s.base (length (take len s.frames)) ≡ s.base =
    ap (λ fs. min s.base (length fs)) back ∙ lesser_is s.base len based in
    let body : run_all nodes (Return s.base ∷ Visit k ∷ []) inner ≡ with_value value s =
    state_is (s.values ++ given nodes k (frame_of inner) ∷ []) _ _ _ _ back base
    ∙ ap (λ f. with_value (given nodes k f) s) frame in
    planned nodes (Visit i) before after (Keep k ∷ Return s.base ∷ Visit k ∷ []) inner is
    (body ∙ ap (λ v. with_value v s)
    (ap (λ n. given nodes n []) here.1 ∙ sym (constant_value nodes i j (frame_of s) at here.0)))
    (omega arith)
    (let last = ap (last_cost i (cost nodes [])) (sym at) in
    let part = ap (λ b. cond b (cost nodes [] j) 1) here.0 in
    let same = ap (cost nodes []) here.1 in
    omega (arith, last, part, same, cost_law nodes [] i))
    (λ arounds.
    let c : ℕ → ℕ = cost nodes arounds in
    let last = ap (last_cost i c) (sym at) in
    let part = ap (λ b. cond b (c j) 1) here.0 in
    let same = ap c here.1 in
    omega (arith, last, part, same, cost_law nodes arounds i))
    (λ arounds.
    let none = ap (inner_least i (least nodes arounds)) (sym at) in
    omega (arith, none, least_law nodes arounds i)) (
      ap (λ z. first_of (last_of 1 z.values)) body
          ∙ ap first_of (last_of_more s.values (value ∷ []) 1 refl),
      (tt, (tt, tt)),
    )

kept_by : (nodes : List Node) (k number : ℕ) (b : Bool) (v : Option Value) (before : Machine)
    (w : Option Value) → nat_eq number k ≡ b → Remembers before nodes
    → known_in (arrays_in before) w ≡ given nodes k []
    → cond b (Some w) (kept_at before.kept number) ≡ Some v
    → known_in (arrays_in before) v ≡ given nodes number []
kept_by nodes k number true v before w same remembers due is =
    let e : w ≡ v = cc in
    let here : k ≡ number = grind (arith, nat_tests) in
    ap (known_in (arrays_in before)) (sym e) ∙ due ∙ ap (λ n. given nodes n []) here
kept_by nodes k number false v before w same remembers due is = remembers number v is

-- the value that is due is kept
pub keeping_step : (nodes : List Node) (k : ℕ) (before after : Machine)
    → IsKeeping k before after → IsBased (state_of before) → IsStep nodes (Keep k) before after
keeping_step nodes k before after is based = λ remembers due.
    grown nodes (Keep k) before after [] (is.tasks ∙ sym (append-nil before.tasks.items)) is.state
    (let P : State → Type 0 = λ s. IsBased s in subst P (sym is.state) based) (omega arith)
    (λ arounds. omega arith) (λ arounds. omega arith)
    (λ number v here. ap (λ cells. known_in (arrays_of cells) v) is.arrays
    ∙ kept_by nodes k number (nat_eq number k) v before (first_of (last_of 1 before.values.items)) refl remembers
    (last_one (arrays_in before) before.values.items ∙ due) (sym (is.kept number) ∙ here))
    (grows_as before.arrays after.arrays is.arrays) tt

-- ---- the loop

-- the visit of one node alone, before anything is evaluated
pub running_at : (nodes : List Node) (root : ℕ) (m : Machine) → IsBefore root m → Remembers m nodes
    → IsRunning nodes (given nodes root (frame_of (state_of m))) m
running_at nodes root m before remembers =
    let D : List Task → Type 0 = λ ts. AreDue nodes ts (state_of m) in
    record {
      answer = ap (λ ts. (run_all nodes ts (state_of m)).values) before.tasks
          ∙ ap (λ vs. vs ++ given nodes root (frame_of (state_of m)) ∷ []) before.values;
      based = before.based;
      remembers = remembers;
      due = subst D (sym before.tasks) (tt, tt);
    }

pub paid_at : (nodes : List Node) (arounds : List ℕ) (root left : ℕ) (m : Machine) → IsBefore root m
    → cost nodes arounds root ≤ left → IsPaid nodes arounds root left left m
paid_at nodes arounds root left m before enough =
    let c = ap (tasks_cost nodes (cost nodes arounds)) before.tasks in
    let k = ap (tasks_least nodes (least nodes arounds)) before.tasks in
    record {
      enough = omega (arith, c, enough);
      paid = omega (arith, c);
      counted = omega (arith, k);
      within = omega arith;
      fewer = inl before.tasks;
    }

dues_of : (nodes : List Node) (v : Option Element) (task : Task) (before middle : Machine)
    → IsRunning nodes v before → before.tasks.items ≡ middle.tasks.items ++ task ∷ []
    → AreDue nodes (middle.tasks.items ++ task ∷ []) (state_of before)
dues_of nodes v task before middle running tasks =
    let D : List Task → Type 0 = λ ts. AreDue nodes ts (state_of before) in subst D tasks running.due

-- what a task does that is due
done_of : (nodes : List Node) (v : Option Element) (task : Task) (before middle after : Machine)
    → IsRunning nodes v before
    → state_of middle ≡ state_of before → middle.kept ≡ before.kept → middle.arrays ≡ before.arrays
    → before.tasks.items ≡ middle.tasks.items ++ task ∷ []
    → IsStep nodes task middle after
    → IsDone nodes task middle after
done_of nodes v task before middle after running state kept arrays tasks step =
    let D : State → Type 0 = λ s. IsDue nodes task s in
    step (remembered nodes before middle kept (grows_as before.arrays middle.arrays arrays) running.remembers)
    (subst D (sym state) (due_later nodes middle.tasks.items (task ∷ []) (state_of before)
    (dues_of nodes v task before middle running tasks)).0)

pub turned : (nodes : List Node) (v : Option Element) (task : Task) (before middle after : Machine)
    → IsRunning nodes v before
    → state_of middle ≡ state_of before → middle.kept ≡ before.kept → middle.arrays ≡ before.arrays
    → before.tasks.items ≡ middle.tasks.items ++ task ∷ []
    → IsStep nodes task middle after
    → IsRunning nodes v after
turned nodes v task before middle after running state kept arrays tasks step =
    let done = done_of nodes v task before middle after running state kept arrays tasks step in
    let D : State → Type 0 = λ s. AreDue nodes middle.tasks.items (run nodes task s) in
    record {
      answer = ap (λ (s : State). s.values) (done.answer
          ∙ ap (λ s. run_all nodes middle.tasks.items (run nodes task s)) state
          ∙ sym (run_all-append nodes middle.tasks.items (task ∷ []) (state_of before))
          ∙ ap (λ ts. run_all nodes ts (state_of before)) (sym tasks))
          ∙ running.answer;
      based = done.based;
      remembers = done.remembers;
      due = done.due (subst D (sym state)
          (due_before nodes middle.tasks.items (task ∷ []) (state_of before)
          (dues_of nodes v task before middle running tasks)));
    }

pub turned_grown : (nodes : List Node) (v : Option Element) (task : Task) (old : List Element)
    (before middle after : Machine)
    → IsRunning nodes v before → Grows old (arrays_in before)
    → state_of middle ≡ state_of before → middle.kept ≡ before.kept → middle.arrays ≡ before.arrays
    → before.tasks.items ≡ middle.tasks.items ++ task ∷ []
    → IsStep nodes task middle after
    → Grows old (arrays_in after)
turned_grown nodes v task old before middle after running grown state kept arrays tasks step =
    let done = done_of nodes v task before middle after running state kept arrays tasks step in
    grows_on old (arrays_in before) (arrays_in after) grown
    (grows_on (arrays_in before) (arrays_in middle) (arrays_in after)
    (grows_as before.arrays middle.arrays arrays) done.grown)

pub turned_less : (nodes : List Node) (v : Option Element) (task : Task) (before middle after : Machine)
    → IsRunning nodes v before
    → state_of middle ≡ state_of before → middle.kept ≡ before.kept → middle.arrays ≡ before.arrays
    → before.tasks.items ≡ middle.tasks.items ++ task ∷ []
    → IsStep nodes task middle after
    → work nodes after.tasks.items < work nodes before.tasks.items
turned_less nodes v task before middle after running state kept arrays tasks step =
    let done = done_of nodes v task before middle after running state kept arrays tasks step in
    let e = ap (work nodes) tasks in
    omega (arith, e, work-append nodes middle.tasks.items (task ∷ []), done.falls)

-- a task costs what is counted for it
charge_cost : (nodes : List Node) (arounds : List ℕ) (task : Task)
    → charge arounds task ≤ task_cost nodes (cost nodes arounds) task
charge_cost nodes arounds (Visit i) = omega (arith, cost_law nodes arounds i)
charge_cost nodes arounds _ = omega arith

-- there is enough for the next task
pub task_paid : (nodes : List Node) (arounds : List ℕ) (root first left : ℕ) (task : Task)
    (before middle : Machine) → IsPaid nodes arounds root first left before
    → before.tasks.items ≡ middle.tasks.items ++ task ∷ [] → charge arounds task ≤ left
task_paid nodes arounds root first left task before middle paid tasks =
    let c : ℕ → ℕ = cost nodes arounds in
    let e = ap (tasks_cost nodes c) tasks ∙ cost-append nodes c middle.tasks.items (task ∷ []) in
    let one = charge_cost nodes arounds task in
    let h = paid.enough in omega (arith, e, one, h)

-- what is left, when a task is taken off and done
pub turned_paid : (nodes : List Node) (arounds : List ℕ) (root first left rest : ℕ) (v : Option Element)
    (task : Task) (before middle after : Machine)
    → IsRunning nodes v before → IsPaid nodes arounds root first left before
    → state_of middle ≡ state_of before → middle.kept ≡ before.kept → middle.arrays ≡ before.arrays
    → before.tasks.items ≡ middle.tasks.items ++ task ∷ []
    → IsStep nodes task middle after
    → rest + charge arounds task ≡ left
    → IsPaid nodes arounds root first rest after
turned_paid nodes arounds root first left rest v task before middle after running paid state kept arrays tasks
    step counted =
    let done = done_of nodes v task before middle after running state kept arrays tasks step in
    let c : ℕ → ℕ = cost nodes arounds in
    let e = ap (tasks_cost nodes c) tasks ∙ cost-append nodes c middle.tasks.items (task ∷ []) in
    let pays = done.pays arounds in
    let k : ℕ → ℕ = least nodes arounds in
    let f = ap (tasks_least nodes k) tasks ∙ least-append nodes k middle.tasks.items (task ∷ []) in
    let owes = done.owes arounds in
    record {
      enough = let h = paid.enough in omega (arith, e, pays, h, counted);
      paid = let h = paid.paid in omega (arith, e, pays, h, counted);
      counted = let h = paid.counted in omega (arith, f, owes, h, counted);
      within = let h = paid.within in omega (arith, h, counted);
      fewer = by paid.fewer;
    }
  where
    last : (xs : List Task) → xs ++ task ∷ [] ≡ Visit root ∷ [] → task ≡ Visit root
    last [] is = cc
    last (x ∷ []) is = cc
    last (x ∷ y ∷ xs) is = cc

    by : (before.tasks.items ≡ Visit root ∷ []) ⊎ (left < first)
        → (after.tasks.items ≡ Visit root ∷ []) ⊎ (rest < first)
    by (inl only) =
        let visits = ap (charge arounds) (last middle.tasks.items (sym tasks ∙ only)) in
        inr (let h = paid.within in omega (arith, visits, counted, h))
    by (inr less) = inr (omega (arith, counted, less))

pub ended : (nodes : List Node) (v w : Option Element) (before middle : Machine)
    → IsRunning nodes v before
    → before.tasks.items ≡ [] → state_of middle ≡ state_of before
    → w ≡ first_of (last_of 1 (state_of middle).values)
    → w ≡ v
ended nodes v w before middle running tasks state is =
    is ∙ ap (λ (s : State). first_of (last_of 1 s.values))
    (state ∙ sym (ap (λ ts. run_all nodes ts (state_of before)) tasks))
    ∙ ap (λ vs. first_of (last_of 1 vs)) running.answer
