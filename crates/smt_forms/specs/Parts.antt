-- SMT-LIB 2.6, sections 3.6.1 and 3.6.5: the terms of which a term is made, and what stands in it. The laws
-- on labels and on variables are said in these words, which no other definition uses.
use Rattle.std.specs.Prelude.{◌≡◌, ℕ, List, [], ◌∷◌, ◌++◌, map, codes}
use Rattle.std.specs.List.{Contains}
use Rattle.smt_trees.specs.Sexp.{Sexp, Sexps, Atom, Reserved, Items, Nil, Cons, Keyword, Symbol, append}
use Rattle.smt_trees.specs.declared.reserved.Word.TheVariants.{As, Bang, Let, Underscore}
use Rattle.smt_forms.specs.Bindings.{named_trees}
use Rattle.smt_forms.specs.Labels.{labels_among}

abbrev pub trees_of : Sexps → List Sexp
trees_of Nil = []
trees_of (Cons x xs) = x ∷ trees_of xs

-- the terms of which a term is made, in order, each with the names that the term binds for it
abbrev pub parts_of : Sexp → List (List (List ℕ) × Sexp)
parts_of (Items (Cons (Reserved Underscore) indexes)) = []
parts_of (Items (Cons (Reserved As) parts)) = []
parts_of (Items (Cons (Reserved Let) (Cons (Items bindings) (Cons body Nil)))) =
    map (λ b. ([], b.1)) (named_trees bindings) ++ (map (λ b. b.0) (named_trees bindings), body) ∷ []
parts_of (Items (Cons (Reserved Bang) (Cons term attributes))) = ([], term) ∷ []
parts_of (Items (Cons head args)) = map (λ t. ([], t)) (trees_of args)
parts_of _ = []

-- a term stands in another: it is that, or stands in a part of it
pub data StandsIn (t : Sexp) : Sexp → Type 0 where
  Itself : StandsIn t t
  InPart : (bound : List (List ℕ)) (part term : Sexp) → Contains (parts_of term) (bound, part)
      → StandsIn t part
      → StandsIn t term

-- a symbol occurs free in a term: it is the term, or occurs free in a part of it for which it isn't bound
pub data OccursFree (x : List ℕ) : Sexp → Type 0 where
  Alone : OccursFree x (Atom Symbol x)
  Inside : (bound : List (List ℕ)) (part term : Sexp) → Contains (parts_of term) (bound, part)
      → (Contains bound x → ⊥) → OccursFree x part → OccursFree x term

-- the labels that an annotation gives to its term, in order
abbrev pub own_labels : Sexp → List (List ℕ × Sexp)
own_labels (Items (Cons (Reserved Bang) (Cons t attributes))) = map (λ x. (x, t)) (labels_among attributes)
own_labels _ = []

-- among attributes stands `:named x`
abbrev pub IsNamedBy : Sexps → List ℕ → Type 0
IsNamedBy attributes x =
    (before after : Sexps)
    × (attributes ≡ append before (Cons (Atom Keyword (codes "named")) (Cons (Atom Symbol x) after)))

-- in a term stands `(! body .. :named x ..)`
abbrev pub IsLabelled : Sexp → List ℕ × Sexp → Type 0
IsLabelled term label =
    (attributes : Sexps) × StandsIn (Items (Cons (Reserved Bang) (Cons label.1 attributes))) term
    × IsNamedBy attributes label.0
