-- SMT-LIB 2.6, section 3.6: trees with a name each, as the bindings of a `let` and the parameters of a
-- definition are, and the attributes of an annotated term. That the value of an attribute may be any tree but
-- a keyword is this project's choice.
use Rattle.std.specs.Prelude.{◌≡◌, ℕ, List, [], ◌∷◌, Bool, true, false, not, ◌&&◌, ◌||◌, Option, Some, None}
use Rattle.std.specs.Prelude.{bytes_eq, codes}
use Rattle.smt_trees.specs.Sexp.{Sexp, Sexps, Atom, Items, Nil, Cons, Keyword, Symbol}

-- whether each is a list of a symbol and one more tree
abbrev pub are_named_trees : Sexps → Bool
are_named_trees Nil = true
are_named_trees (Cons (Items (Cons (Atom Symbol x) (Cons tree Nil))) rest) = are_named_trees rest
are_named_trees _ = false

-- the symbols with their trees, up to the first that is no such list
abbrev pub named_trees : Sexps → List (List ℕ × Sexp)
named_trees (Cons (Items (Cons (Atom Symbol x) (Cons tree Nil))) rest) = (x, tree) ∷ named_trees rest
named_trees _ = []

-- the first, if it is such a list
abbrev pub first_named : Sexps → Option (List ℕ × Sexp)
first_named (Cons (Items (Cons (Atom Symbol x) (Cons tree Nil))) rest) = Some (x, tree)
first_named _ = None

-- the bindings and the body of a `let`, by what stands behind its word
abbrev pub let_form : Sexps → Option (Sexps × Sexp)
let_form (Cons (Items bindings) (Cons body Nil)) = Some (bindings, body)
let_form _ = None

-- whether these are the bindings of a `let`: one or more
abbrev pub are_bindings : Sexps → Bool
are_bindings Nil = false
are_bindings (Cons binding bindings) = are_named_trees (Cons binding bindings)

-- ---- attributes

abbrev pub is_label : List ℕ → Bool
is_label keyword = bytes_eq keyword (codes "named")

abbrev pub is_symbol_tree : Sexp → Bool
is_symbol_tree (Atom Symbol x) = true
is_symbol_tree _ = false

-- whether a tree may be the value of a keyword: any but a keyword, and that of a label is a symbol
abbrev pub is_value : List ℕ → Sexp → Bool
is_value k (Atom Keyword l) = false
is_value k value = not (is_label k) || is_symbol_tree value

-- trees are attributes: each a keyword, with its value or without one. A label has one
pub data AreAttributes : Sexps → Type 0 where
  NoMore : AreAttributes Nil
  Bare : (k : List ℕ) (rest : Sexps) → is_label k ≡ false → AreAttributes rest
      → AreAttributes (Cons (Atom Keyword k) rest)
  Valued : (k : List ℕ) (value : Sexp) (rest : Sexps) → is_value k value ≡ true → AreAttributes rest
      → AreAttributes (Cons (Atom Keyword k) (Cons value rest))

-- whether trees go on as attributes, which are keywords, each with a value or without one; and whether they
-- go on so behind a keyword, whose value comes first if it has one. The value of a label is a symbol
abbrev mutual
  pub go_on : Sexps → Bool
  go_on Nil = true
  go_on (Cons (Atom Keyword k) rest) = go_on_behind k rest
  go_on _ = false

  pub go_on_behind : List ℕ → Sexps → Bool
  go_on_behind k Nil = not (is_label k)
  go_on_behind k (Cons (Atom Keyword l) rest) = not (is_label k) && go_on_behind l rest
  go_on_behind k (Cons value rest) = (not (is_label k) || is_symbol_tree value) && go_on rest

-- whether these are the attributes of a term: one or more
abbrev pub are_attributes : Sexps → Bool
are_attributes Nil = false
are_attributes (Cons attribute attributes) = go_on (Cons attribute attributes)
