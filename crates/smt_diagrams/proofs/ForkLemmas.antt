-- The forks that a table keeps, each once.
use Rattle.std.proofs.Common.{◌≡◌, ◌≢◌, ℕ, ◌<◌, ◌∙◌, sym, ap, subst, refl, Bool, true, false}
use Rattle.std.proofs.Common.{List, length, get_or, Some, true≢false, ◌&&◌, ◌⊎◌, inl, inr, eq-eqb}
use Rattle.std.proofs.lemmas.Bool.{cases_order, eqb-true}
use Rattle.std.proofs.lemmas.Map.Keys.{apart_from_distinct}
use Rattle.std.proofs.lemmas.Option.{get_or_from_slice_get, slice_get_within}
use Rattle.std.specs.List.{IsDistinct, slice_get}
use Rattle.smt_diagrams.specs.Diagram.{AreDistinct, IsDiagram, IsJoined, is_one_leaf, no_fork}
use Rattle.smt_diagrams.specs.declared.diagram.Diagram.{Diagram}
use Rattle.smt_diagrams.specs.declared.diagram.Diagram.TheVariants.{Leaf, Branch}
use Rattle.smt_diagrams.specs.declared.diagram.Fork.{Fork}
use Rattle.smt_diagrams.specs.contracts.diagram.ForkPartialEq.TheImpl.{eq-value as forks_equal}
use Rattle.smt_diagrams.specs.contracts.diagram.DiagramPartialEq.TheImpl.{eq-value as diagrams}

pub equal_diagrams : (a b : Diagram) → diagrams.it a b ≡ true → a ≡ b
equal_diagrams (Leaf e) (Leaf f) h = ap Leaf (eqb-true e f h)
equal_diagrams (Leaf e) (Branch k) h = absurd (true≢false (sym h))
equal_diagrams (Branch k) (Leaf e) h = absurd (true≢false (sym h))
equal_diagrams (Branch j) (Branch k) h = ap Branch (eqb-true j k h)

pub diagram_itself : (a : Diagram) → diagrams.it a a ≡ true
diagram_itself (Leaf e) = eq-eqb e e refl
diagram_itself (Branch k) = eq-eqb k k refl

pub two_diagrams : (a b : Diagram) (r : Bool) → r ≡ diagrams.it a b → r ≡ false → a ≢ b
two_diagrams a b r equal differ same =
    true≢false (sym (subst (λ d. diagrams.it a d ≡ true) same (diagram_itself a)) ∙ sym equal ∙ differ)

both_true : (b c : Bool) → (b && c) ≡ true → (b ≡ true) × (c ≡ true)
both_true true c h = (refl, h)
both_true false c h = absurd (true≢false (sym h))

pub equal_forks : (a b : Fork) → forks_equal.it a b ≡ true → a ≡ b
equal_forks a b h =
    let both = both_true (diagrams.it a.even b.even) (diagrams.it a.odd b.odd) h in
    let even = equal_diagrams a.even b.even both.0 in
    let odd = equal_diagrams a.odd b.odd both.1 in
    λ i. record { even = even i; odd = odd i }

pub fork_itself : (f : Fork) → forks_equal.it f f ≡ true
fork_itself f =
    ap (λ b. b && diagrams.it f.odd f.odd) (diagram_itself f.even) ∙ diagram_itself f.odd

once_by : (eq : Fork → Fork → Bool) → ((f : Fork) → eq f f ≡ true) → (forks : List Fork)
    → IsDistinct eq forks → (j k : ℕ)
    → j < k → k < length forks → get_or forks j no_fork ≡ get_or forks k no_fork → ⊥
once_by eq same forks h j k less below is =
    true≢false
    (sym (same (get_or forks j no_fork)) ∙ ap (eq (get_or forks j no_fork)) is
    ∙ apart_from_distinct eq forks j k no_fork h less below)

pub forks_once : (eq : Fork → Fork → Bool) → ((f : Fork) → eq f f ≡ true) → (forks : List Fork)
    → IsDistinct eq forks → AreDistinct forks
forks_once eq same forks h j k below below' is = by (cases_order j k)
  where
    by : (j ≡ k) ⊎ ((j < k) ⊎ (k < j)) → j ≡ k
    by (inl e) = e
    by (inr (inl less)) = absurd (once_by eq same forks h j k less below' is)
    by (inr (inr more)) = absurd (once_by eq same forks h k j more below (sym is))

-- ---- a fork is among them

-- a place where a fork stands that equals this one
pub found : (forks : List Fork) (place : ℕ) (f : Fork)
    → (k : Fork) × (slice_get forks place ≡ Some k) × (forks_equal.it f k ≡ true)
    → (place < length forks) × (get_or forks place no_fork ≡ f)
found forks place f h = (
  slice_get_within forks place h.0 h.1,
  get_or_from_slice_get forks place h.0 no_fork h.1 ∙ sym (equal_forks f h.0 h.2),
)

pub joined_at : (forks : List Fork) (even odd : Diagram) (place : ℕ) → is_one_leaf even odd ≡ false
    → (place < length forks) × (get_or forks place no_fork ≡ record { even = even; odd = odd })
    → IsJoined forks even odd (Branch place)
joined_at forks even odd place two h = (
  h.1,
  λ n e o. (
    h.0,
    subst (λ f. is_one_leaf f.even f.odd ≡ false) (sym h.1) two,
    subst (λ f. IsDiagram forks n f.even) (sym h.1) e,
    subst (λ f. IsDiagram forks n f.odd) (sym h.1) o,
  ),
)

one_leaf : (even odd : Diagram) → is_one_leaf even odd ≡ true → (e : ℕ) × (even ≡ Leaf e) × (odd ≡ Leaf e)
one_leaf (Leaf e) (Leaf f) h = (e, refl, ap Leaf (sym (eqb-true e f h)))
one_leaf (Leaf e) (Branch k) h = absurd (true≢false (sym h))
one_leaf (Branch k) odd h = absurd (true≢false (sym h))

pub joined_leaf : (forks : List Fork) (even odd : Diagram) → is_one_leaf even odd ≡ true → IsJoined forks even odd even
joined_leaf forks even odd h =
    let one = one_leaf even odd h in
    subst (λ d. IsJoined forks d odd d) (sym one.1)
    (subst (λ d. IsJoined forks (Leaf one.0) d (Leaf one.0)) (sym one.2) (refl, λ n e o. tt))
