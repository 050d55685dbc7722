-- What a table is filled with, and that each node's value and cost are made of those below it.
use Rattle.std.proofs.Common.{◌≡◌, ℕ, zero, suc, ◌+◌, ◌<◌, ◌≤◌, Bool, true, false, cond, List, [], ◌∷◌, ◌++◌}
use Rattle.std.proofs.Common.{length, slice_get, Option, Some, None, refl, ap, sym, ◌∙◌, subst, arith, nat_eq}
use Rattle.std.proofs.Common.{nat_lt, inl, inr, ◌⊎◌}
use Rattle.std.proofs.lemmas.Bool.{ltb-true}
use Rattle.std.proofs.lemmas.Bool.Decides.{nat_tests}
use Rattle.std.proofs.lemmas.Option.{slice_get_past}
use Rattle.smt_arrays.specs.Known.{known_step}
use Rattle.smt_machine.specs.Given.{fill, given, open_everywhere}
use Rattle.smt_machine.specs.Costs.{around_at, cost, first_cost, last_cost, node_cost, part_cost, parts_cost}
use Rattle.smt_machine.specs.Nodes.{Frame, Giving, Node, Known, Slot, Apply, Call, Let, node_value, part}
use Rattle.smt_machine.specs.Nodes.{parts}

-- ---- what is filled

fill_next : {A : Type 0} (base : ℕ → A) (make : (ℕ → A) → ℕ → A) (n i : ℕ) (b : Bool) → nat_eq i n ≡ b
    → i < suc n
    → (i < n → fill base make n i ≡ make (fill base make i) i)
    → cond b (make (fill base make n) n) (fill base make n i) ≡ make (fill base make i) i
fill_next base make n i true e h below =
    let is : n ≡ i = grind (arith, nat_tests) in ap (λ k. make (fill base make k) k) is
fill_next base make n i false e h below = below (grind (arith, nat_tests))

pub fill_at : {A : Type 0} (base : ℕ → A) (make : (ℕ → A) → ℕ → A) (n i : ℕ) → i < n
    → fill base make n i ≡ make (fill base make i) i
fill_at base make zero i h = absurd (omega arith)
fill_at base make (suc n) i h = fill_next base make n i (nat_eq i n) refl h (fill_at base make n i)

past_next : {A : Type 0} (base : ℕ → A) (make : (ℕ → A) → ℕ → A) (n i : ℕ) (b : Bool) → nat_eq i n ≡ b
    → suc n ≤ i → fill base make n i ≡ base i
    → cond b (make (fill base make n) n) (fill base make n i) ≡ base i
past_next base make n i true e h below = absurd (let is : n ≡ i = grind (arith, nat_tests) in omega arith)
past_next base make n i false e h below = below

pub fill_past : {A : Type 0} (base : ℕ → A) (make : (ℕ → A) → ℕ → A) (n i : ℕ) → n ≤ i
    → fill base make n i ≡ base i
fill_past base make zero i h = refl
fill_past base make (suc n) i h =
    past_next base make n i (nat_eq i n) refl h (fill_past base make n i (omega arith))

-- ---- a node sees those below it alone

-- two tables that agree below i
pub record AgreeBelow (i : ℕ) (g h : Giving) : Type 0 where
  pub at : (j : ℕ) → j < i → (frame : Frame) → g j frame ≡ h j frame

part_by : (i : ℕ) (g h : Giving) (frame : Frame) (j : ℕ) (b : Bool) → nat_lt j i ≡ b → AgreeBelow i g h
    → cond b (g j frame) None ≡ cond b (h j frame) None
part_by i g h frame j true e agree = agree.at j (ltb-true j i e) frame
part_by i g h frame j false e agree = refl

pub part_same : (i : ℕ) (g h : Giving) (frame : Frame) (j : ℕ) → AgreeBelow i g h
    → part i g frame j ≡ part i h frame j
part_same i g h frame j agree = part_by i g h frame j (nat_lt j i) refl agree

pub parts_same : (i : ℕ) (g h : Giving) (frame : Frame) (js : List ℕ) → AgreeBelow i g h
    → parts i g frame js ≡ parts i h frame js
parts_same i g h frame [] agree = refl
parts_same i g h frame (j ∷ js) agree =
    let first = part_same i g h frame j agree in let rest = parts_same i g h frame js agree in cc

pub node_same : (i : ℕ) (g h : Giving) (frame : Frame) (node : Option Node) → AgreeBelow i g h
    → node_value i g frame node ≡ node_value i h frame node
node_same i g h frame None agree = refl
node_same i g h frame (Some (Known v)) agree = refl
node_same i g h frame (Some (Slot k)) agree = refl
node_same i g h frame (Some (Apply op args)) agree = ap (known_step op) (parts_same i g h frame args agree)
node_same i g h frame (Some (Call body args)) agree =
    ap (λ f. part i g f body) (parts_same i g h frame args agree)
    ∙ part_same i g h (parts i h frame args) body agree
node_same i g h frame (Some (Let values body)) agree =
    ap (λ vs. part i g (frame ++ vs) body) (parts_same i g h frame values agree)
    ∙ part_same i g h (frame ++ parts i h frame values) body agree

-- ---- the value of a node

within_or_past : (n i : ℕ) → (i < n) ⊎ (n ≤ i)
within_or_past n i = grind arith

law_by : (nodes : List Node) (i : ℕ) (frame : Frame) → (i < length nodes) ⊎ (length nodes ≤ i)
    → given nodes i frame ≡ node_value i (given nodes) frame (slice_get nodes i)
unfolding given
law_by nodes i frame (inl h) =
    let make : Giving → Giving = λ g k f. node_value k g f (slice_get nodes k) in
    ap (λ g. g frame) (fill_at open_everywhere make (length nodes) i h)
    ∙ node_same i (fill open_everywhere make i) (given nodes) frame (slice_get nodes i)
    (record {
      at = λ j below f. ap (λ g. g f) (fill_at open_everywhere make i j below
          ∙ sym (fill_at open_everywhere make (length nodes) j (omega arith)));
    })
law_by nodes i frame (inr h) =
    let make : Giving → Giving = λ g k f. node_value k g f (slice_get nodes k) in
    ap (λ g. g frame) (fill_past open_everywhere make (length nodes) i h)
    ∙ ap (node_value i (given nodes) frame) (sym (slice_get_past nodes i h))

pub given_law : (nodes : List Node) (i : ℕ) (frame : Frame)
    → given nodes i frame ≡ node_value i (given nodes) frame (slice_get nodes i)
given_law nodes i frame = law_by nodes i frame (within_or_past (length nodes) i)

-- ---- a longer table

pub slice_get-append : {A : Type 0} (xs ys : List A) (i : ℕ) → i < length xs
    → slice_get (xs ++ ys) i ≡ slice_get xs i
slice_get-append [] ys i h = absurd (omega arith)
slice_get-append (x ∷ xs) ys zero h = refl
slice_get-append (x ∷ xs) ys (suc i) h = slice_get-append xs ys i (omega arith)

kept_at : (nodes more : List Node) (n : ℕ) → n < length nodes
    → AgreeBelow n (given (nodes ++ more)) (given nodes) → (frame : Frame)
    → given (nodes ++ more) n frame ≡ given nodes n frame
kept_at nodes more n h agree frame =
    given_law (nodes ++ more) n frame
    ∙ ap (node_value n (given (nodes ++ more)) frame) (slice_get-append nodes more n h)
    ∙ node_same n (given (nodes ++ more)) (given nodes) frame (slice_get nodes n) agree
    ∙ sym (given_law nodes n frame)

kept_next : (nodes more : List Node) (n j : ℕ) → (j < n) ⊎ (n ≤ j) → j < suc n → n < length nodes
    → AgreeBelow n (given (nodes ++ more)) (given nodes) → (frame : Frame)
    → given (nodes ++ more) j frame ≡ given nodes j frame
kept_next nodes more n j (inl h) below within agree frame = agree.at j h frame
kept_next nodes more n j (inr h) below within agree frame =
    let is : n ≡ j = omega arith in
    let P : ℕ → Type 0 = λ k. given (nodes ++ more) k frame ≡ given nodes k frame in
    subst P is (kept_at nodes more n within agree frame)

kept_below : (nodes more : List Node) (n : ℕ) → n ≤ length nodes
    → AgreeBelow n (given (nodes ++ more)) (given nodes)
kept_below nodes more zero h = record { at = λ j below frame. absurd (omega arith) }
kept_below nodes more (suc n) h = record {
  at = λ j below frame. kept_next nodes more n j (within_or_past n j) below (omega arith)
      (kept_below nodes more n (omega arith)) frame;
}

pub given_kept : (nodes more : List Node) (i : ℕ) (frame : Frame) → i < length nodes
    → given (nodes ++ more) i frame ≡ given nodes i frame
given_kept nodes more i frame h = (kept_below nodes more (suc i) (omega arith)).at i (omega arith) frame

-- ---- the cost of a node

pub record CostBelow (i : ℕ) (c d : ℕ → ℕ) : Type 0 where
  pub at : (j : ℕ) → j < i → c j ≡ d j

cost_by : (i : ℕ) (c d : ℕ → ℕ) (j : ℕ) (b : Bool) → nat_lt j i ≡ b → CostBelow i c d
    → cond b (c j) 1 ≡ cond b (d j) 1
cost_by i c d j true e agree = agree.at j (ltb-true j i e)
cost_by i c d j false e agree = refl

part_cost_same : (i : ℕ) (c d : ℕ → ℕ) (j : ℕ) → CostBelow i c d → part_cost i c j ≡ part_cost i d j
part_cost_same i c d j agree = cost_by i c d j (nat_lt j i) refl agree

parts_cost_same : (i : ℕ) (c d : ℕ → ℕ) (js : List ℕ) → CostBelow i c d
    → parts_cost i c js ≡ parts_cost i d js
parts_cost_same i c d [] agree = refl
parts_cost_same i c d (j ∷ js) agree =
    let first = part_cost_same i c d j agree in let rest = parts_cost_same i c d js agree in cc

first_cost_same : (i : ℕ) (c d : ℕ → ℕ) (node : Option Node) → CostBelow i c d
    → first_cost i c node ≡ first_cost i d node
first_cost_same i c d None agree = refl
first_cost_same i c d (Some (Known v)) agree = refl
first_cost_same i c d (Some (Slot k)) agree = refl
first_cost_same i c d (Some (Apply op args)) agree = parts_cost_same i c d args agree
first_cost_same i c d (Some (Call body args)) agree = parts_cost_same i c d args agree
first_cost_same i c d (Some (Let values body)) agree = parts_cost_same i c d values agree

last_cost_same : (i : ℕ) (c d : ℕ → ℕ) (node : Option Node) → CostBelow i c d
    → last_cost i c node ≡ last_cost i d node
last_cost_same i c d None agree = refl
last_cost_same i c d (Some (Known v)) agree = refl
last_cost_same i c d (Some (Slot k)) agree = refl
last_cost_same i c d (Some (Apply op args)) agree = refl
last_cost_same i c d (Some (Call body args)) agree = part_cost_same i c d body agree
last_cost_same i c d (Some (Let values body)) agree = part_cost_same i c d body agree

node_cost_same : (i : ℕ) (c d : ℕ → ℕ) (around : ℕ) (node : Option Node) → CostBelow i c d
    → node_cost i c around node ≡ node_cost i d around node
node_cost_same i c d around node agree =
    let first = first_cost_same i c d node agree in let last = last_cost_same i c d node agree in
    omega (arith, first, last)

cost_law_by : (nodes : List Node) (arounds : List ℕ) (i : ℕ) → (i < length nodes) ⊎ (length nodes ≤ i)
    → cost nodes arounds i ≡ node_cost i (cost nodes arounds) (around_at arounds i) (slice_get nodes i)
unfolding cost
cost_law_by nodes arounds i (inl h) =
    let make : (ℕ → ℕ) → ℕ → ℕ = λ c k. node_cost k c (around_at arounds k) (slice_get nodes k) in
    let base : ℕ → ℕ = λ k. 1 + around_at arounds k in
    let agree : CostBelow i (fill base make i) (cost nodes arounds) = record {
      at = λ j below. fill_at base make i j below ∙ sym (fill_at base make (length nodes) j (omega arith));
    } in
    fill_at base make (length nodes) i h
    ∙ node_cost_same i (fill base make i) (cost nodes arounds) (around_at arounds i) (slice_get nodes i) agree
cost_law_by nodes arounds i (inr h) =
    let make : (ℕ → ℕ) → ℕ → ℕ = λ c k. node_cost k c (around_at arounds k) (slice_get nodes k) in
    let base : ℕ → ℕ = λ k. 1 + around_at arounds k in
    let past : 1 + around_at arounds i ≡ node_cost i (cost nodes arounds) (around_at arounds i) None =
    omega arith in
    fill_past base make (length nodes) i h ∙ past
    ∙ ap (node_cost i (cost nodes arounds) (around_at arounds i)) (sym (slice_get_past nodes i h))

-- the cost of a node, at every number
pub cost_law : (nodes : List Node) (arounds : List ℕ) (i : ℕ)
    → cost nodes arounds i ≡ node_cost i (cost nodes arounds) (around_at arounds i) (slice_get nodes i)
cost_law nodes arounds i = cost_law_by nodes arounds i (within_or_past (length nodes) i)
