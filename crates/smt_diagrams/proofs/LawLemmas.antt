-- Stores one after another.
use Rattle.std.proofs.Common.{◌≡◌, ◌≢◌, ℕ, ◌∙◌, sym, ap, refl, nat_eq, cond, Bool, true, false, List}
use Rattle.std.proofs.lemmas.Bool.{eqb-true}
use Rattle.smt_diagrams.specs.Diagram.{AreDistinct, Grows, IsDiagram, IsWritten, element_at}
use Rattle.smt_diagrams.specs.declared.diagram.Diagram.{Diagram}
use Rattle.smt_diagrams.specs.declared.diagram.Fork.{Fork}
use Rattle.smt_diagrams.proofs.DiagramLemmas.{one_diagram}
use Rattle.smt_diagrams.proofs.StoreLemmas.{grown_diagram, grown_element, grown_twice}

-- what was there, where it is stored
same_there : (f : ℕ → ℕ) (i k : ℕ) (b : Bool) → nat_eq i k ≡ b → cond b (f k) (f i) ≡ f i
same_there f i k true e = ap f (sym (eqb-true i k e))
same_there f i k false e = refl

over_itself : (b : Bool) (x y z : ℕ) → cond b x (cond b y z) ≡ cond b x z
over_itself true x y z = refl
over_itself false x y z = refl

in_either_order : (i j k x y z : ℕ) → j ≢ k → (b c : Bool) → nat_eq i j ≡ b → nat_eq i k ≡ c
    → cond c y (cond b x z) ≡ cond b x (cond c y z)
in_either_order i j k x y z two true true e f = absurd (two (sym (eqb-true i j e) ∙ eqb-true i k f))
in_either_order i j k x y z two true false e f = refl
in_either_order i j k x y z two false c e f = refl

pub there : (old new : List Fork) (n : ℕ) (d made : Diagram) (number : ℕ) → AreDistinct new → Grows old new
    → IsDiagram old n d → IsWritten old new n d number (element_at old n d number) made → made ≡ d
there old new n d made number once g h w =
    one_diagram n new made d once w.0 (grown_diagram old new g n d h)
    (λ i less.
    w.1 i less ∙ same_there (element_at old n d) i number (nat_eq i number) refl ∙ sym
    (grown_element old new g n d h i))

pub later : (first second third last : List Fork) (n : ℕ) (d once twice alone : Diagram) (number e f : ℕ)
    → AreDistinct last → Grows first second → Grows second third → Grows third last → IsDiagram first n d
    → IsWritten first second n d number e once → IsWritten second third n once number f twice
    → IsWritten third last n d number f alone → twice ≡ alone
later first second third last n d once twice alone number e f distinct g g' g'' h w w' w'' =
    let both = grown_twice first second third g g' in
    one_diagram n last twice alone distinct (grown_diagram third last g'' n twice w'.0) w''.0
    (λ i less.
    grown_element third last g'' n twice w'.0 i
    ∙ w'.1 i less
    ∙ ap (cond (nat_eq i number) f) (w.1 i less)
    ∙ over_itself (nat_eq i number) f e (element_at first n d i)
    ∙ sym (w''.1 i less ∙ ap (cond (nat_eq i number) f) (grown_element first third both n d h i)))

pub commute : (first second third fourth last : List Fork) (n : ℕ) (d once twice other both : Diagram)
    (j k e f : ℕ) → j ≢ k → AreDistinct last → Grows first second → Grows second third → Grows third fourth
    → Grows fourth last → IsDiagram first n d
    → IsWritten first second n d j e once → IsWritten second third n once k f twice
    → IsWritten third fourth n d k f other → IsWritten fourth last n other j e both → twice ≡ both
commute first second third fourth last n d once twice other both j k e f two distinct g g' g'' g3 h w w' w'' w3 =
    let to_third = grown_twice first second third g g' in
    let to_last = grown_twice third fourth last g'' g3 in
    one_diagram n last twice both distinct (grown_diagram third last to_last n twice w'.0) w3.0
    (λ i less.
    grown_element third last to_last n twice w'.0 i
    ∙ w'.1 i less
    ∙ ap (cond (nat_eq i k) f) (w.1 i less)
    ∙ in_either_order i j k e f (element_at first n d i) two (nat_eq i j) (nat_eq i k) refl refl
    ∙ sym
    (w3.1 i less
    ∙ ap (cond (nat_eq i j) e)
    (w''.1 i less ∙ ap (cond (nat_eq i k) f) (grown_element first third to_third n d h i))))
