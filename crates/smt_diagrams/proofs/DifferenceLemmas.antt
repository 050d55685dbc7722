-- What two functions have where they differ.
use Rattle.std.proofs.Common.{◌≡◌, ◌≢◌, ℕ, zero, suc, ◌+◌, ◌*◌, ◌-◌, ◌<◌}
use Rattle.std.proofs.Common.{◌/◌, ◌%◌, ◌^◌, ◌∙◌, sym, ap, subst, refl, arith}
use Rattle.std.proofs.Common.{nat_eq, cond, Bool, true, false, List, [], ◌∷◌, ◌++◌, get_or}
use Rattle.std.proofs.lemmas.Nat.{pow_pos}
use Rattle.std.proofs.lemmas.List.{append-nil, append_assoc}
use Rattle.std.proofs.lemmas.List.Elements.{All-append, Contains-append_left, Contains-append_right}
use Rattle.std.specs.List.{All, Contains}
use Rattle.smt_diagrams.specs.Diagram.{AreAdded, AreAlike, AreDifferences, IsDiagram, IsDifference, element_at, halves}
use Rattle.smt_diagrams.specs.declared.diagram.Diagram.{Diagram}
use Rattle.smt_diagrams.specs.declared.diagram.Diagram.TheVariants.{Leaf, Branch}
use Rattle.smt_diagrams.specs.declared.diagram.Difference.{Difference}
use Rattle.smt_diagrams.specs.declared.diagram.Fork.{Fork}
use Rattle.smt_diagrams.proofs.DiagramLemmas.{leaf_everywhere}
use Rattle.smt_diagrams.proofs.HalfLemmas.{down, even_below, half_below, joined, joined_even, joined_odd, odd_below}

-- ---- functions

none : (n : ℕ) (f g : ℕ → ℕ) → AreAlike n f g → AreDifferences n f g []
none n f g same = (
  λ k d less. absurd (omega (arith, less)),
  λ x y d. absurd (d.4 (sym d.2 ∙ same d.0 d.1 ∙ d.3)),
)

one : (n : ℕ) (f g : ℕ → ℕ) (x y : ℕ) → ((i : ℕ) → f i ≡ x) → ((i : ℕ) → g i ≡ y) → x ≢ y
    → AreDifferences n f g (record { first = x; second = y } ∷ [])
one n f g x y p q two = (all, every)
  where
    some : 0 < 2 ^ n
    some = pow_pos n

    all : All (λ (d : Difference). IsDifference n f g d.first d.second) (record { first = x; second = y } ∷ [])
    all zero d less = (0, some, p 0, q 0, two)
    all (suc k) d less = absurd (omega (arith, less))

    every : (z w : ℕ) → IsDifference n f g z w
        → Contains {X = Difference} (record { first = x; second = y } ∷ []) (record { first = z; second = w })
    every z w d =
        let first : x ≡ z = sym (p d.0) ∙ d.2 in
        let second : y ≡ w = sym (q d.0) ∙ d.3 in
        (0, omega arith, λ i. record { first = first i; second = second i })

of_even : (n : ℕ) (f g f' g' : ℕ → ℕ) (x y : ℕ) → IsDifference n f f' x y
    → IsDifference (suc n) (joined f g) (joined f' g') x y
of_even n f g f' g' x y d =
    (d.0 * 2, even_below n d.0 d.1, joined_even f g d.0 ∙ d.2, joined_even f' g' d.0 ∙ d.3, d.4)

of_odd : (n : ℕ) (f g f' g' : ℕ → ℕ) (x y : ℕ) → IsDifference n g g' x y
    → IsDifference (suc n) (joined f g) (joined f' g') x y
of_odd n f g f' g' x y d =
    (d.0 * 2 + 1, odd_below n d.0 d.1, joined_odd f g d.0 ∙ d.2, joined_odd f' g' d.0 ∙ d.3, d.4)

both : (n : ℕ) (f g f' g' : ℕ → ℕ) (evens odds : List Difference) → AreDifferences n f f' evens
    → AreDifferences n g g' odds → AreDifferences (suc n) (joined f g) (joined f' g') (evens ++ odds)
both n f g f' g' evens odds h k = (
  All-append (λ d. IsDifference (suc n) (joined f g) (joined f' g') d.first d.second) evens odds
      (λ i d less. of_even n f g f' g' (get_or evens i d).first (get_or evens i d).second (h.0 i d less))
      (λ i d less. of_odd n f g f' g' (get_or odds i d).first (get_or odds i d).second (k.0 i d less)),
  λ x y d. by x y d (nat_eq (d.0 % 2) 0) d.2 d.3,
)
  where
    by : (x y : ℕ) (d : IsDifference (suc n) (joined f g) (joined f' g') x y) (b : Bool)
        → cond b (f (d.0 / 2)) (g (d.0 / 2)) ≡ x → cond b (f' (d.0 / 2)) (g' (d.0 / 2)) ≡ y
        → Contains {X = Difference} (evens ++ odds) (record { first = x; second = y })
    by x y d true e e' =
        Contains-append_left evens odds (record { first = x; second = y })
        (h.1 x y (d.0 / 2, half_below n d.0 d.1, e, e', d.4))
    by x y d false e e' =
        Contains-append_right evens odds (record { first = x; second = y })
        (k.1 x y (d.0 / 2, half_below n d.0 d.1, e, e', d.4))

-- ---- diagrams

pub added_none : (forks : List Fork) (n : ℕ) (a b : Diagram) (old : List Difference) → a ≡ b
    → AreAdded forks n a b old old
added_none forks n a b old same = (
  [],
  sym (append-nil old),
  none n (element_at forks n a) (element_at forks n b)
      (λ i less. ap (λ d. element_at forks n d i) same),
)

pub added_one : (forks : List Fork) (n : ℕ) (a b : Diagram) (x y : ℕ) (old new : List Difference)
    → a ≡ Leaf x → b ≡ Leaf y
    → a ≢ b → new ≡ old ++ record { first = x; second = y } ∷ [] → AreAdded forks n a b old new
added_one forks n a b x y old new p q two grown = (
  record { first = x; second = y } ∷ [],
  grown,
  one n (element_at forks n a) (element_at forks n b) x y
      (λ i. ap (λ d. element_at forks n d i) p ∙ leaf_everywhere forks n x i)
      (λ i. ap (λ d. element_at forks n d i) q ∙ leaf_everywhere forks n y i)
      (λ e. two (p ∙ ap Leaf e ∙ sym q)),
)

added_halves : (forks : List Fork) (bits : ℕ) (a b : Diagram) (old mid new : List Difference) → bits ≢ 0
    → AreAdded forks (bits - 1) (halves forks a).even (halves forks b).even old mid
    → AreAdded forks (bits - 1) (halves forks a).odd (halves forks b).odd mid new
    → AreAdded forks bits a b old new
added_halves forks bits a b old mid new some h k =
    subst (λ n. AreAdded forks n a b old new) (sym (down bits some)) (
      h.0 ++ k.0,
      k.1 ∙ ap (λ xs. xs ++ k.0) h.1 ∙ append_assoc old h.0 k.0,
      both (bits - 1) (element_at forks (bits - 1) (halves forks a).even)
          (element_at forks (bits - 1) (halves forks a).odd)
          (element_at forks (bits - 1) (halves forks b).even)
          (element_at forks (bits - 1) (halves forks b).odd) h.0 k.0 h.2 k.2,
    )

pub added_both : (forks : List Fork) (bits : ℕ) (a b : Diagram) (left right : Fork) (old mid new : List Difference)
    → bits ≢ 0 → left ≡ halves forks a → right ≡ halves forks b
    → AreAdded forks (bits - 1) left.even right.even old mid
    → AreAdded forks (bits - 1) left.odd right.odd mid new → AreAdded forks bits a b old new
added_both forks bits a b left right old mid new some p q h k =
    added_halves forks bits a b old mid new some
    (subst (λ l. AreAdded forks (bits - 1) l.even (halves forks b).even old mid) p
    (subst (λ r. AreAdded forks (bits - 1) left.even r.even old mid) q h))
    (subst (λ l. AreAdded forks (bits - 1) l.odd (halves forks b).odd mid new) p
    (subst (λ r. AreAdded forks (bits - 1) left.odd r.odd mid new) q k))

pub all_added : (forks : List Fork) (n : ℕ) (a b : Diagram) (found : List Difference) → AreAdded forks n a b [] found
    → AreDifferences n (element_at forks n a) (element_at forks n b) found
all_added forks n a b found h =
    subst (AreDifferences n (element_at forks n a) (element_at forks n b)) (sym h.1) h.2

-- two diagrams over no bits are leaves
pub leaf_each : (forks : List Fork) (bits : ℕ) (a b : Diagram) → bits ≡ 0 → IsDiagram forks bits a
    → IsDiagram forks bits b
    → (x : ℕ) × (y : ℕ) × (a ≡ Leaf x) × (b ≡ Leaf y)
leaf_each forks bits (Leaf x) (Leaf y) z h k = (x, y, refl, refl)
leaf_each forks bits (Branch j) b z h k = absurd (subst (λ n. IsDiagram forks n (Branch j)) z h)
leaf_each forks bits (Leaf x) (Branch j) z h k = absurd (subst (λ n. IsDiagram forks n (Branch j)) z k)
