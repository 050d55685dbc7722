-- Sums of what nodes cost that wait, and costs against a limit.
use Rattle.std.proofs.Common.{◌≡◌, ℕ, suc, ◌+◌, ◌<◌, ◌≤◌, Bool, true, false, cond, List, [], ◌∷◌, ◌++◌}
use Rattle.std.proofs.Common.{length, map, take, nat_lt, slice_index_or, slice_get, Option, Some, None, Result, Ok, Err}
use Rattle.std.proofs.Common.{IfOk, IfSome, refl, ap, sym, subst, ◌∙◌, arith}
use Rattle.std.proofs.Math.Seq.{take-suc}
use Rattle.std.proofs.lemmas.Bool.{le-leb, lt-leb}
use Rattle.std.proofs.lemmas.List.{map-append}
use Rattle.smt_machine.proofs.GivenLemmas.{cost_law}
use Rattle.smt_machine.specs.Costs.{around_at, cost, first_cost, last_cost, node_cost, part_cost, parts_cost}
use Rattle.smt_machine.specs.Costs.{within}
use Rattle.smt_machine.specs.Internal.Walks.{IsPositive, IsTakenUp, sum_of}
use Rattle.smt_machine.specs.Nodes.{Node}

pub sum-last : (c : ℕ → ℕ) (js : List ℕ) (j : ℕ) → sum_of c (js ++ j ∷ []) ≡ sum_of c js + c j
sum-last c [] j = omega arith
sum-last c (k ∷ js) j = let rest = sum-last c js j in omega (arith, rest)

pub sum_counts : (c : ℕ → ℕ) (js : List ℕ) → IsPositive c → length js ≤ sum_of c js
sum_counts c [] positive = omega arith
sum_counts c (j ∷ js) positive =
    let one = positive j in let rest = sum_counts c js positive in omega (arith, one, rest)

part_by : (c : ℕ → ℕ) (j : ℕ) (b : Bool) → IsPositive c → 1 ≤ cond b (c j) 1
part_by c j true positive = positive j
part_by c j false positive = omega arith

pub parts_count : (i : ℕ) (c : ℕ → ℕ) (js : List ℕ) → IsPositive c → length js ≤ parts_cost i c js
parts_count i c [] positive = omega arith
parts_count i c (j ∷ js) positive =
    let one = part_by c j (nat_lt j i) positive in
    let rest = parts_count i c js positive in omega (arith, one, rest)

pub cost_positive : (nodes : List Node) (arounds : List ℕ) → IsPositive (cost nodes arounds)
cost_positive nodes arounds j =
    let law = cost_law nodes arounds j in omega (arith, law)

-- ---- costs against a limit

pub within_is : (limit n : ℕ) → n ≤ limit → within limit n ≡ Some n
within_is limit n h = ap (λ b. cond b (Some n) None) (le-leb n limit h)

pub within_past : (limit n : ℕ) → limit < n → within limit n ≡ None
within_past limit n h = ap (λ b. cond b (Some n) None) (lt-leb n limit h)

-- ---- parts that wait

parts_cost-last : (n : ℕ) (c : ℕ → ℕ) (js : List ℕ) (j : ℕ)
    → parts_cost n c (js ++ j ∷ []) ≡ parts_cost n c js + part_cost n c j
parts_cost-last n c [] j = omega arith
parts_cost-last n c (k ∷ js) j = let rest = parts_cost-last n c js j in omega (arith, rest)

pub parts_next : (n : ℕ) (c f : ℕ → ℕ) (ids : List ℕ) (k id : ℕ) → k < length ids
    → id ≡ slice_index_or ids k id
    → parts_cost n c (map f (take (k + 1) ids)) ≡ parts_cost n c (map f (take k ids)) + part_cost n c (f id)
parts_next n c f ids k id within at =
    let next : k + 1 ≡ suc k = omega arith in
    let longer : map f (take (k + 1) ids) ≡ map f (take k ids) ++ f id ∷ [] =
    ap (λ m. map f (take m ids)) next ∙ ap (map f) (take-suc ids k id within)
    ∙ map-append f (take k ids) (slice_index_or ids k id ∷ [])
    ∙ ap (λ j. map f (take k ids) ++ f j ∷ []) (sym at) in
    ap (parts_cost n c) longer ∙ parts_cost-last n c (map f (take k ids)) (f id)

-- one more part waits
pub part_waits : (n : ℕ) (c : ℕ → ℕ) (j k : ℕ) (before after : List ℕ) (left : ℕ)
    → Some k ≡ cond (nat_lt j n) (Some j) None → after ≡ before ++ k ∷ []
    → left + (sum_of c before + part_cost n c j) ≡ left + sum_of c after
part_waits n c j k before after left is more = by (nat_lt j n) refl is
  where
    by : (b : Bool) → nat_lt j n ≡ b → Some k ≡ cond b (Some j) None
        → left + (sum_of c before + cond b (c j) 1) ≡ left + sum_of c after
    by true e here =
        let same : k ≡ j = cc in
        let cost : c k ≡ c j = ap c same in
        let sum : sum_of c after ≡ sum_of c before + c k = ap (sum_of c) more ∙ sum-last c before k in
        omega (arith, cost, sum)
    by false e here = absurd (cc)

-- a node costs as much as what is counted of it and its parts
pub node_parts : (nodes : List Node) (arounds : List ℕ) (i around : ℕ) (node : Option Node)
    → around ≡ around_at arounds i → node ≡ slice_get nodes i
    → cost nodes arounds i
    ≡ 1 + around + (first_cost i (cost nodes arounds) node + last_cost i (cost nodes arounds) node)
node_parts nodes arounds i around node annotated at =
    let law : cost nodes arounds i ≡ node_cost i (cost nodes arounds) around node =
    cost_law nodes arounds i
    ∙ ap (λ a. node_cost i (cost nodes arounds) a (slice_get nodes i)) (sym annotated)
    ∙ ap (node_cost i (cost nodes arounds) around) (sym at) in omega (arith, law)

-- so its parts are taken up where the node is
pub taken_more : {F : Type 0} (r : Result (Option ℕ) F) (c : ℕ → ℕ) (parts all around rest left : ℕ)
    (before after : List ℕ) → all ≡ 1 + around + parts → rest + 1 + around ≡ left
    → IfOk r (λ fewer. IsTakenUp c parts before after rest fewer)
    → IfOk r (λ fewer. IsTakenUp c all before after left fewer)
taken_more (Ok (Some fewer)) c parts all around rest left before after split less taken =
    omega (arith, split, less, taken)
taken_more (Ok None) c parts all around rest left before after split less taken =
    omega (arith, split, less, taken)
taken_more (Err f) c parts all around rest left before after split less taken = tt

-- what was told of a node that was taken up
pub some_taken : (c : ℕ → ℕ) (all left fewer : ℕ) (before after : List ℕ) (o : Option ℕ) → o ≡ Some fewer
    → IsTakenUp c all before after left o → fewer + (sum_of c before + all) ≡ left + sum_of c after
some_taken c all left fewer before after o is taken = subst (λ x. IsTakenUp c all before after left x) is taken

pub none_taken : (c : ℕ → ℕ) (all left : ℕ) (before after : List ℕ) (o : Option ℕ) → o ≡ None
    → IsTakenUp c all before after left o → left < sum_of c before + all
none_taken c all left before after o is taken = subst (λ x. IsTakenUp c all before after left x) is taken

pub some_fewer : (left fewer : ℕ) (o : Option ℕ) → o ≡ Some fewer → IfSome o (λ f. f < left) → fewer < left
some_fewer left fewer o is less = subst (λ x. IfSome x (λ f. f < left)) is less
