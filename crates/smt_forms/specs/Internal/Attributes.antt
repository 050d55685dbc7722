-- Attributes, by the trees that they begin with.
use Rattle.std.specs.Prelude.{ℕ, List, Bool, true, false, Option, Some, None}
use Rattle.smt_trees.specs.Sexp.{Sexp, Sexps, Atom, Cons, Keyword}
use Rattle.smt_forms.specs.Bindings.{is_label}

-- the first tree, if it is a keyword
abbrev pub first_keyword : Sexps → Option (List ℕ)
first_keyword (Cons (Atom Keyword k) rest) = Some k
first_keyword _ = None

abbrev pub is_keyword_tree : Sexp → Bool
is_keyword_tree (Atom Keyword k) = true
is_keyword_tree _ = false

abbrev pub is_label_tree : Sexp → Bool
is_label_tree (Atom Keyword k) = is_label k
is_label_tree _ = false

-- whether these trees, behind a keyword, begin with its value
abbrev pub has_value : Sexps → Bool
has_value (Cons (Atom Keyword k) rest) = false
has_value (Cons value rest) = true
has_value _ = false
