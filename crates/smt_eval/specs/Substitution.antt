-- SMT-LIB 2.6, section 3.6.1: terms in place of the free symbols of another, and a `let` of a list of bindings.
-- The laws on values are said in these words, which no other definition uses.
use Rattle.std.specs.Prelude.{ℕ, List, [], ◌∷◌, Option, None, map, unwrap_or, if◌then◌else◌}
use Rattle.smt_trees.specs.Sexp.{Sexp, Sexps, Atom, Reserved, Items, Nil, Cons, Symbol}
use Rattle.smt_trees.specs.declared.reserved.Word.TheVariants.{Bang, Let}
use Rattle.smt_forms.specs.Bindings.{named_trees}
use Rattle.smt_forms.specs.Variables.{is_among}

-- what is put in place of each symbol, if anything
abbrev pub Replacing : Type 0
Replacing = List ℕ → Option Sexp

-- the same where bindings hide the names that they bind
abbrev pub hiding : Sexps → Replacing → Replacing
hiding bindings put x = if is_among (map (λ b. b.0) (named_trees bindings)) x then None else put x

-- a term with other terms in place of its free symbols. The head of a list stays, since no variable is one
abbrev mutual
  pub put_in : Replacing → Sexp → Sexp
  put_in put (Atom Symbol x) = unwrap_or (put x) (Atom Symbol x)
  put_in put (Items (Cons (Reserved Let) (Cons (Items bindings) (Cons body Nil)))) =
      Items (Cons (Reserved Let) (Cons (Items (put_in_bindings put bindings))
      (Cons (put_in (hiding bindings put) body) Nil)))
  put_in put (Items (Cons (Reserved Bang) (Cons term attributes))) =
      Items (Cons (Reserved Bang) (Cons (put_in put term) attributes))
  put_in put (Items (Cons (Reserved word) parts)) = Items (Cons (Reserved word) parts)
  put_in put (Items (Cons head args)) = Items (Cons head (put_in_all put args))
  put_in put term = term

  pub put_in_all : Replacing → Sexps → Sexps
  put_in_all put Nil = Nil
  put_in_all put (Cons x xs) = Cons (put_in put x) (put_in_all put xs)

  pub put_in_bindings : Replacing → Sexps → Sexps
  put_in_bindings put (Cons (Items (Cons (Atom Symbol x) (Cons term Nil))) rest) =
      Cons (Items (Cons (Atom Symbol x) (Cons (put_in put term) Nil))) (put_in_bindings put rest)
  put_in_bindings put bindings = bindings

abbrev pub bindings_of : List (List ℕ × Sexp) → Sexps
bindings_of [] = Nil
bindings_of (b ∷ bs) = Cons (Items (Cons (Atom Symbol b.0) (Cons b.1 Nil))) (bindings_of bs)

-- `(let ((name term) ..) body)`
abbrev pub let_of : List (List ℕ × Sexp) → Sexp → Sexp
let_of bs body = Items (Cons (Reserved Let) (Cons (Items (bindings_of bs)) (Cons body Nil)))
