-- SMT-LIB 2.6, section 3.6.5: the labels of a term, which name terms.
use Rattle.std.specs.Prelude.{ℕ, List, [], ◌∷◌, ◌++◌, map, if◌then◌else◌}
use Rattle.smt_trees.specs.Sexp.{Sexp, Sexps, Atom, Reserved, Items, Nil, Cons, Keyword, Symbol}
use Rattle.smt_trees.specs.declared.reserved.Word.TheVariants.{As, Bang, Let, Underscore}
use Rattle.smt_forms.specs.Bindings.{is_label}

-- the label that a keyword with what stands behind it is, if it is one
abbrev pub label_at : List ℕ → Sexps → List (List ℕ)
label_at k (Cons (Atom Symbol x) rest) = if is_label k then x ∷ [] else []
label_at k _ = []

-- the labels among attributes, in order
abbrev pub labels_among : Sexps → List (List ℕ)
labels_among Nil = []
labels_among (Cons (Atom Keyword k) rest) = label_at k rest ++ labels_among rest
labels_among (Cons value rest) = labels_among rest

-- the labels of a term, each with the term that it names: those inside a term come before its own
abbrev mutual
  pub labels_in : Sexp → List (List ℕ × Sexp)
  labels_in (Atom kind bytes) = []
  labels_in (Reserved word) = []
  labels_in (Items Nil) = []
  labels_in (Items (Cons (Reserved Underscore) parts)) = []
  labels_in (Items (Cons (Reserved As) parts)) = []
  labels_in (Items (Cons (Reserved Let) (Cons (Items bindings) (Cons body Nil)))) =
      labels_in_bindings bindings ++ labels_in body
  labels_in (Items (Cons (Reserved Bang) (Cons term attributes))) =
      labels_in term ++ map (λ x. (x, term)) (labels_among attributes)
  labels_in (Items (Cons head args)) = labels_in_all args

  pub labels_in_all : Sexps → List (List ℕ × Sexp)
  labels_in_all Nil = []
  labels_in_all (Cons x xs) = labels_in x ++ labels_in_all xs

  pub labels_in_bindings : Sexps → List (List ℕ × Sexp)
  labels_in_bindings (Cons (Items (Cons (Atom Symbol x) (Cons term Nil))) rest) =
      labels_in term ++ labels_in_bindings rest
  labels_in_bindings _ = []

-- the label that a tree with what stands behind it is, if it is one
abbrev pub label_of_tree : Sexp → Sexps → List (List ℕ)
label_of_tree (Atom Keyword k) rest = label_at k rest
label_of_tree _ rest = []
