-- What a diagram has after an element is stored.
use Rattle.std.proofs.Common.{◌≡◌, ◌≢◌, ℕ, suc, ◌-◌, ◌<◌, ◌/◌, ◌%◌, ◌^◌, ◌∙◌, sym, ap, subst, arith, nat_eq, cond}
use Rattle.std.proofs.Common.{List, ◌++◌, eq-eqb}
use Rattle.std.proofs.lemmas.List.{append_assoc}
use Rattle.smt_diagrams.specs.Diagram.{Grows, IsDiagram, IsJoined, IsWritten, element_at, halves}
use Rattle.smt_diagrams.specs.declared.diagram.Diagram.{Diagram}
use Rattle.smt_diagrams.specs.declared.diagram.Diagram.TheVariants.{Leaf}
use Rattle.smt_diagrams.specs.declared.diagram.Fork.{Fork}
use Rattle.smt_diagrams.proofs.DiagramLemmas.{both_halves, diagram-grown, element-grown}
use Rattle.smt_diagrams.proofs.HalfLemmas.{down, joined, stored_even, stored_odd}

pub grown_diagram : (xs ys : List Fork) → Grows xs ys → (n : ℕ) (d : Diagram) → IsDiagram xs n d → IsDiagram ys n d
grown_diagram xs ys g n d h = subst (λ zs. IsDiagram zs n d) (sym g.1) (diagram-grown n xs g.0 d h)

pub grown_element : (xs ys : List Fork) → Grows xs ys → (n : ℕ) (d : Diagram) → IsDiagram xs n d → (i : ℕ)
    → element_at ys n d i ≡ element_at xs n d i
grown_element xs ys g n d h i = ap (λ zs. element_at zs n d i) g.1 ∙ element-grown n xs g.0 d h i

pub grown_twice : (xs ys zs : List Fork) → Grows xs ys → Grows ys zs → Grows xs zs
grown_twice xs ys zs g h = (g.0 ++ h.0, h.1 ∙ ap (λ l. l ++ h.0) g.1 ∙ append_assoc xs g.0 h.0)

-- what a joined diagram has, where its halves have this
joined_alike : (new : List Fork) (n : ℕ) (even odd made : Diagram) (f g : ℕ → ℕ) → IsJoined new even odd made
    → ((i : ℕ) → element_at new n even i ≡ f i) → ((i : ℕ) → element_at new n odd i ≡ g i)
    → (i : ℕ) → element_at new (suc n) made i ≡ joined f g i
joined_alike new n even odd made f g j p q i =
    ap (λ h. joined (element_at new n h.even) (element_at new n h.odd) i) j.0
    ∙ ap (λ x. cond (nat_eq (i % 2) 0) x (element_at new n odd (i / 2))) (p (i / 2))
    ∙ ap (cond (nat_eq (i % 2) 0) (f (i / 2))) (q (i / 2))

even_written : (old mid new : List Fork) (n : ℕ) (d even made : Diagram) (number e : ℕ) → IsDiagram old (suc n) d
    → number % 2 ≡ 0 → Grows old mid → Grows mid new
    → IsWritten old mid n (halves old d).even (number / 2) e even → IsJoined new even (halves old d).odd made
    → IsWritten old new (suc n) d number e made
even_written old mid new n d even made number e h k g g' w j =
    let both = both_halves old n d h in
    let all = grown_twice old mid new g g' in (
      j.1 n (grown_diagram mid new g' n even w.0) (grown_diagram old new all n (halves old d).odd both.1),
      λ i less.
          joined_alike new n even (halves old d).odd made (element_at mid n even)
          (element_at old n (halves old d).odd) j
          (grown_element mid new g' n even w.0) (grown_element old new all n (halves old d).odd both.1) i
          ∙ stored_even n (element_at old n (halves old d).even) (element_at mid n even)
          (element_at old n (halves old d).odd)
          number e k w.1 i less,
    )

odd_written : (old mid new : List Fork) (n : ℕ) (d odd made : Diagram) (number e : ℕ) → IsDiagram old (suc n) d
    → number % 2 ≢ 0 → Grows old mid → Grows mid new
    → IsWritten old mid n (halves old d).odd (number / 2) e odd → IsJoined new (halves old d).even odd made
    → IsWritten old new (suc n) d number e made
odd_written old mid new n d odd made number e h k g g' w j =
    let both = both_halves old n d h in
    let all = grown_twice old mid new g g' in (
      j.1 n (grown_diagram old new all n (halves old d).even both.0) (grown_diagram mid new g' n odd w.0),
      λ i less.
          joined_alike new n (halves old d).even odd made (element_at old n (halves old d).even)
          (element_at mid n odd) j
          (grown_element old new all n (halves old d).even both.0) (grown_element mid new g' n odd w.0) i
          ∙ stored_odd n (element_at old n (halves old d).even) (element_at old n (halves old d).odd)
          (element_at mid n odd)
          number e k w.1 i less,
    )

-- where there are bits
pub put_even : (old mid new : List Fork) (bits : ℕ) (d even made : Diagram) (number e : ℕ) → bits ≢ 0
    → IsDiagram old bits d → number % 2 ≡ 0 → Grows old mid → Grows mid new
    → IsWritten old mid (bits - 1) (halves old d).even (number / 2) e even
    → IsJoined new even (halves old d).odd made → IsWritten old new bits d number e made
put_even old mid new bits d even made number e some h k g g' w j =
    subst (λ n. IsWritten old new n d number e made) (sym (down bits some))
    (even_written old mid new (bits - 1) d even made number e (subst (λ n. IsDiagram old n d) (down bits some) h)
    k g g' w j)

pub put_odd : (old mid new : List Fork) (bits : ℕ) (d odd made : Diagram) (number e : ℕ) → bits ≢ 0
    → IsDiagram old bits d → number % 2 ≢ 0 → Grows old mid → Grows mid new
    → IsWritten old mid (bits - 1) (halves old d).odd (number / 2) e odd
    → IsJoined new (halves old d).even odd made → IsWritten old new bits d number e made
put_odd old mid new bits d odd made number e some h k g g' w j =
    subst (λ n. IsWritten old new n d number e made) (sym (down bits some))
    (odd_written old mid new (bits - 1) d odd made number e (subst (λ n. IsDiagram old n d) (down bits some) h)
    k g g' w j)

-- where there is no bit, 0 is the only number
pub put_none : (old : List Fork) (bits : ℕ) (d : Diagram) (number e : ℕ) → bits ≡ 0 → number < 2 ^ bits
    → IsWritten old old bits d number e (Leaf e)
put_none old bits d number e none less =
    subst (λ n. number < 2 ^ n → IsWritten old old n d number e (Leaf e)) (sym none)
    (λ one. (tt, λ i below. sym (ap (λ b. cond b e (element_at old 0 d i)) (eq-eqb i number (omega arith))))) less

-- the halves of a diagram are diagrams
pub half_diagrams : (old : List Fork) (bits : ℕ) (d : Diagram) → bits ≢ 0 → IsDiagram old bits d
    → IsDiagram old (bits - 1) (halves old d).even × IsDiagram old (bits - 1) (halves old d).odd
half_diagrams old bits d some h =
    both_halves old (bits - 1) d (subst (λ n. IsDiagram old n d) (down bits some) h)
