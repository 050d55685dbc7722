-- Diagrams: what stays as forks are added, and that one function has one diagram.
use Rattle.std.proofs.Common.{◌≡◌, ℕ, zero, suc, ◌/◌, ◌%◌, ◌∙◌, sym, ap, subst, refl}
use Rattle.std.proofs.Common.{arith, nat_eq, cond, Bool, true, false, List, [], ◌++◌, eq-eqb, true≢false}
use Rattle.std.proofs.lemmas.List.{get_or_append_left, length-append}
use Rattle.smt_diagrams.specs.Diagram.{AreAlike, AreDistinct, IsDiagram, element_at, element_of_leaf}
use Rattle.smt_diagrams.specs.Diagram.{halves, is_one_leaf, no_fork}
use Rattle.smt_diagrams.specs.declared.diagram.Diagram.{Diagram}
use Rattle.smt_diagrams.specs.declared.diagram.Diagram.TheVariants.{Leaf, Branch}
use Rattle.smt_diagrams.specs.declared.diagram.Fork.{Fork}
use Rattle.smt_diagrams.proofs.HalfLemmas.{even_halves, joined, odd_halves}

-- ---- a leaf

either : {X : Type 0} (b : Bool) (x y z : X) → x ≡ z → y ≡ z → cond b x y ≡ z
either true x y z p q = p
either false x y z p q = q

pub leaf_everywhere : (forks : List Fork) (n e i : ℕ) → element_at forks n (Leaf e) i ≡ e
leaf_everywhere forks zero e i = refl
leaf_everywhere forks (suc n) e i =
    either (nat_eq (i % 2) 0) _ _ e (leaf_everywhere forks n e (i / 2)) (leaf_everywhere forks n e (i / 2))

-- ---- forks are added

halves-grown : (xs zs : List Fork) (n : ℕ) (d : Diagram) → IsDiagram xs n d → halves (xs ++ zs) d ≡ halves xs d
halves-grown xs zs n (Leaf e) h = refl
halves-grown xs zs zero (Branch k) h = absurd h
halves-grown xs zs (suc n) (Branch k) h = get_or_append_left xs zs no_fork k h.0

pub both_halves : (xs : List Fork) (n : ℕ) (d : Diagram) → IsDiagram xs (suc n) d
    → IsDiagram xs n (halves xs d).even × IsDiagram xs n (halves xs d).odd
both_halves xs n (Leaf e) h = (tt, tt)
both_halves xs n (Branch k) h = (h.2, h.3)

pub element-grown : (n : ℕ) (xs zs : List Fork) (d : Diagram) → IsDiagram xs n d → (i : ℕ)
    → element_at (xs ++ zs) n d i ≡ element_at xs n d i
element-grown zero xs zs d h i = refl
element-grown (suc n) xs zs d h i =
    let both = both_halves xs n d h in
    ap (λ f. joined (element_at (xs ++ zs) n f.even) (element_at (xs ++ zs) n f.odd) i) (halves-grown xs zs (suc n) d h)
    ∙ ap (λ x. cond (nat_eq (i % 2) 0) x (element_at (xs ++ zs) n (halves xs d).odd (i / 2)))
    (element-grown n xs zs (halves xs d).even both.0 (i / 2))
    ∙ ap (cond (nat_eq (i % 2) 0) (element_at xs n (halves xs d).even (i / 2)))
    (element-grown n xs zs (halves xs d).odd both.1 (i / 2))

pub diagram-grown : (n : ℕ) (xs zs : List Fork) (d : Diagram) → IsDiagram xs n d → IsDiagram (xs ++ zs) n d
diagram-grown n xs zs (Leaf e) h = tt
diagram-grown zero xs zs (Branch k) h = absurd h
diagram-grown (suc n) xs zs (Branch k) h =
    let same = halves-grown xs zs (suc n) (Branch k) h in
    let both = both_halves xs n (Branch k) h in (
      omega (arith, h.0, length-append xs zs),
      subst (λ f. is_one_leaf f.even f.odd ≡ false) (sym same) h.1,
      subst (λ f. IsDiagram (xs ++ zs) n f.even) (sym same) (diagram-grown n xs zs (halves xs (Branch k)).even both.0),
      subst (λ f. IsDiagram (xs ++ zs) n f.odd) (sym same) (diagram-grown n xs zs (halves xs (Branch k)).odd both.1),
    )

-- ---- one function, one diagram

leaf_twice : (xs : List Fork) (n e k : ℕ) → IsDiagram xs (suc n) (Branch k)
    → halves xs (Leaf e) ≡ halves xs (Branch k) → ⊥
leaf_twice xs n e k h same =
    let no : is_one_leaf (Leaf e) (Leaf e) ≡ false = subst (λ f. is_one_leaf f.even f.odd ≡ false) (sym same) h.1 in
    true≢false (sym (eq-eqb e e refl) ∙ no)

same_halves : (xs : List Fork) (n : ℕ) → AreDistinct xs → (a b : Diagram) → IsDiagram xs (suc n) a
    → IsDiagram xs (suc n) b → halves xs a ≡ halves xs b → a ≡ b
same_halves xs n once (Leaf e) (Leaf f) h k same = ap (λ x. x.even) same
same_halves xs n once (Leaf e) (Branch k) h h' same = absurd (leaf_twice xs n e k h' same)
same_halves xs n once (Branch j) (Leaf f) h h' same = absurd (leaf_twice xs n f j h (sym same))
same_halves xs n once (Branch j) (Branch k) h h' same = ap Branch (once j k h.0 h'.0 same)

leaves : (a b : Diagram) → IsDiagram [] zero a → IsDiagram [] zero b → element_of_leaf a ≡ element_of_leaf b → a ≡ b
leaves (Leaf e) (Leaf f) h k same = ap Leaf same
leaves (Leaf e) (Branch k) h h' same = absurd h'
leaves (Branch j) b h h' same = absurd h

leaf_alone : (xs : List Fork) (a : Diagram) → IsDiagram xs zero a → IsDiagram [] zero a
leaf_alone xs (Leaf e) h = tt
leaf_alone xs (Branch k) h = h

pub one_diagram : (n : ℕ) (xs : List Fork) (a b : Diagram) → AreDistinct xs → IsDiagram xs n a → IsDiagram xs n b
    → AreAlike n (element_at xs n a) (element_at xs n b) → a ≡ b
one_diagram zero xs a b once h k same =
    leaves a b (leaf_alone xs a h) (leaf_alone xs b k) (same 0 (omega arith))
one_diagram (suc n) xs a b once h k same =
    let p = both_halves xs n a h in
    let q = both_halves xs n b k in
    let even : (halves xs a).even ≡ (halves xs b).even =
    one_diagram n xs (halves xs a).even (halves xs b).even once p.0 q.0
    (even_halves n (element_at xs n (halves xs a).even) (element_at xs n (halves xs a).odd)
    (element_at xs n (halves xs b).even) (element_at xs n (halves xs b).odd) same)
    in
    let odd : (halves xs a).odd ≡ (halves xs b).odd =
    one_diagram n xs (halves xs a).odd (halves xs b).odd once p.1 q.1
    (odd_halves n (element_at xs n (halves xs a).even) (element_at xs n (halves xs a).odd)
    (element_at xs n (halves xs b).even) (element_at xs n (halves xs b).odd) same)
    in
    same_halves xs n once a b h k (λ i. record { even = even i; odd = odd i })
