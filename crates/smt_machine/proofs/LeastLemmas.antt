-- How many nodes are evaluated at least: the law of each node, and what tasks owe.
use Rattle.std.proofs.Common.{◌≡◌, ◌≤◌, ◌<◌, ℕ, ◌+◌, Bool, true, false, cond, List, [], ◌∷◌, ◌++◌, length}
use Rattle.std.proofs.Common.{slice_get, Option, Some, None, refl, ap, sym, ◌∙◌, arith, nat_lt, inl, inr, ◌⊎◌}
use Rattle.std.proofs.lemmas.Bool.{ltb-true}
use Rattle.std.proofs.lemmas.Option.{slice_get_past}
use Rattle.smt_machine.proofs.GivenLemmas.{CostBelow, fill_at, fill_past}
use Rattle.smt_theory.specs.declared.op.plain.PlainOp.{PlainOp}
use Rattle.smt_theory.specs.PlainOp.{op_of_plain}
use Rattle.smt_machine.specs.Given.{fill}
use Rattle.smt_machine.specs.Costs.{around_at}
use Rattle.smt_machine.specs.Least.{arguments_least, first_least, inner_least, is_choice, least, node_least}
use Rattle.smt_machine.specs.Least.{part_least, parts_least}
use Rattle.smt_machine.specs.Internal.Tasks.{body_least, charge, part_task, task_least, tasks_least, visits}
use Rattle.smt_machine.specs.Nodes.{Node, Known, Slot, Apply, Call, Let}
use Rattle.smt_machine.specs.declared.task.Task.{Task}
use Rattle.smt_machine.specs.declared.task.Task.TheVariants.{Visit, Open, Finish, Operate}

-- ---- a node sees those below it alone

part_by : (i : ℕ) (c d : ℕ → ℕ) (j : ℕ) (b : Bool) → nat_lt j i ≡ b → CostBelow i c d
    → cond b (c j) 0 ≡ cond b (d j) 0
part_by i c d j true e agree = agree.at j (ltb-true j i e)
part_by i c d j false e agree = refl

part_same : (i : ℕ) (c d : ℕ → ℕ) (j : ℕ) → CostBelow i c d → part_least i c j ≡ part_least i d j
part_same i c d j agree = part_by i c d j (nat_lt j i) refl agree

parts_same : (i : ℕ) (c d : ℕ → ℕ) (js : List ℕ) → CostBelow i c d → parts_least i c js ≡ parts_least i d js
parts_same i c d [] agree = refl
parts_same i c d (j ∷ js) agree =
    let first = part_same i c d j agree in let rest = parts_same i c d js agree in omega (arith, first, rest)

first_same : (i : ℕ) (c d : ℕ → ℕ) (js : List ℕ) → CostBelow i c d → first_least i c js ≡ first_least i d js
first_same i c d [] agree = refl
first_same i c d (j ∷ js) agree = part_same i c d j agree

arguments_same : (i : ℕ) (c d : ℕ → ℕ) (choice : Bool) (js : List ℕ) → CostBelow i c d
    → arguments_least i c choice js ≡ arguments_least i d choice js
arguments_same i c d true js agree = first_same i c d js agree
arguments_same i c d false js agree = parts_same i c d js agree

inner_same : (i : ℕ) (c d : ℕ → ℕ) (node : Option Node) → CostBelow i c d
    → inner_least i c node ≡ inner_least i d node
inner_same i c d None agree = refl
inner_same i c d (Some (Known v)) agree = refl
inner_same i c d (Some (Slot k)) agree = refl
inner_same i c d (Some (Apply op args)) agree = arguments_same i c d (is_choice op) args agree
inner_same i c d (Some (Call body args)) agree = parts_same i c d args agree
inner_same i c d (Some (Let values body)) agree =
    let first = parts_same i c d values agree in let last = part_same i c d body agree in
    omega (arith, first, last)

-- ---- the law

within_or_past : (n i : ℕ) → (i < n) ⊎ (n ≤ i)
within_or_past n i = grind arith

law_by : (nodes : List Node) (arounds : List ℕ) (i : ℕ) → (i < length nodes) ⊎ (length nodes ≤ i)
    → least nodes arounds i ≡ node_least i (least nodes arounds) (around_at arounds i) (slice_get nodes i)
unfolding least
law_by nodes arounds i (inl h) =
    let make : (ℕ → ℕ) → ℕ → ℕ = λ k j. node_least j k (around_at arounds j) (slice_get nodes j) in
    let base : ℕ → ℕ = λ j. 1 + around_at arounds j in
    let agree : CostBelow i (fill base make i) (least nodes arounds) = record {
      at = λ j below. fill_at base make i j below ∙ sym (fill_at base make (length nodes) j (omega arith));
    } in
    let inner = inner_same i (fill base make i) (least nodes arounds) (slice_get nodes i) agree in
    fill_at base make (length nodes) i h ∙ ap (λ n. 1 + around_at arounds i + n) inner
law_by nodes arounds i (inr h) =
    let make : (ℕ → ℕ) → ℕ → ℕ = λ k j. node_least j k (around_at arounds j) (slice_get nodes j) in
    let base : ℕ → ℕ = λ j. 1 + around_at arounds j in
    let past : 1 + around_at arounds i ≡ node_least i (least nodes arounds) (around_at arounds i) None =
    omega arith in
    fill_past base make (length nodes) i h ∙ past
    ∙ ap (node_least i (least nodes arounds) (around_at arounds i)) (sym (slice_get_past nodes i h))

-- how many are evaluated at least for a node, at every number
pub least_law : (nodes : List Node) (arounds : List ℕ) (i : ℕ)
    → least nodes arounds i ≡ node_least i (least nodes arounds) (around_at arounds i) (slice_get nodes i)
least_law nodes arounds i = law_by nodes arounds i (within_or_past (length nodes) i)

-- ---- what tasks owe

pub least-append : (nodes : List Node) (k : ℕ → ℕ) (xs ys : List Task)
    → tasks_least nodes k (xs ++ ys) ≡ tasks_least nodes k xs + tasks_least nodes k ys
least-append nodes k [] ys = omega arith
least-append nodes k (t ∷ xs) ys = omega (arith, least-append nodes k xs ys)

least_part_by : (nodes : List Node) (k : ℕ → ℕ) (j : ℕ) (b : Bool)
    → task_least nodes k (cond b (Visit j) Open) ≡ cond b (k j) 0
least_part_by nodes k j true = refl
least_part_by nodes k j false = refl

pub least_part : (nodes : List Node) (k : ℕ → ℕ) (i j : ℕ)
    → task_least nodes k (part_task i j) ≡ part_least i k j
least_part nodes k i j = least_part_by nodes k j (nat_lt j i)

pub least_visits : (nodes : List Node) (k : ℕ → ℕ) (i : ℕ) (js : List ℕ)
    → tasks_least nodes k (visits i js) ≡ parts_least i k js
least_visits nodes k i [] = refl
least_visits nodes k i (j ∷ js) = omega (
  arith,
  least-append nodes k (visits i js) (part_task i j ∷ []),
  least_visits nodes k i js,
  least_part nodes k i j,
)

-- a task owes no more than is counted for it and what it plans owes
abbrev pub Owes : List Node → Task → List Task → Type 0
Owes nodes task more = (arounds : List ℕ) → task_least nodes (least nodes arounds) task
    ≤ tasks_least nodes (least nodes arounds) more + charge arounds task

first_of_parts : (i : ℕ) (k : ℕ → ℕ) (js : List ℕ) → first_least i k js ≤ parts_least i k js
first_of_parts i k [] = omega arith
first_of_parts i k (j ∷ js) = omega arith

pub arguments_of_parts : (i : ℕ) (k : ℕ → ℕ) (choice : Bool) (js : List ℕ)
    → arguments_least i k choice js ≤ parts_least i k js
arguments_of_parts i k true js = first_of_parts i k js
arguments_of_parts i k false js = omega arith

-- a node whose value is there at once
abbrev pub AtOnce : ℕ → Option Node → Type 0
AtOnce i n = (k : ℕ → ℕ) → inner_least i k n ≡ 0

pub owes_nothing : (nodes : List Node) (i : ℕ) (n : Option Node) → n ≡ slice_get nodes i → AtOnce i n
    → Owes nodes (Visit i) []
owes_nothing nodes i n at once = λ arounds.
    let k : ℕ → ℕ = least nodes arounds in
    let inner = ap (inner_least i k) (sym at) ∙ once k in
    omega (arith, inner, least_law nodes arounds i)

-- the parts that come first, and the body of a `let`
pub node_owes : (nodes : List Node) (i : ℕ) (n : Node) (first : List ℕ) → Some n ≡ slice_get nodes i
    → ((k : ℕ → ℕ) → inner_least i k (Some n) ≤ parts_least i k first + body_least i k (Some n))
    → Owes nodes (Visit i) (Finish i ∷ visits i first)
node_owes nodes i n first at inner = λ arounds.
    let k : ℕ → ℕ = least nodes arounds in
    let here = ap (inner_least i k) (sym at) in
    let body = ap (body_least i k) (sym at) in
    omega (arith, here, body, inner k, least_visits nodes k i first, least_law nodes arounds i)

-- an operator whose task is planned behind its arguments
pub operator_owes : (nodes : List Node) (i n : ℕ) (op : PlainOp) (args : List ℕ)
    → Some (Apply (op_of_plain op) args) ≡ slice_get nodes i
    → Owes nodes (Visit i) (Operate op n ∷ visits i args)
operator_owes nodes i n op args at = λ arounds.
    let k : ℕ → ℕ = least nodes arounds in
    let here = ap (inner_least i k) (sym at) in
    omega (
      arith,
      here,
      arguments_of_parts i k (is_choice (op_of_plain op)) args,
      least_visits nodes k i args,
      least_law nodes arounds i,
    )
