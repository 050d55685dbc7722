-- SMT-LIB 2.6, sections 3.6.1 and 3.6.5: the variables that a term uses.
use Rattle.std.specs.Prelude.{ℕ, List, [], ◌++◌, Bool, false, not, ◌&&◌, ◌||◌, is_some, map, bytes_eq}
use Rattle.std.specs.List.{list_any}
use Rattle.smt_trees.specs.Sexp.{Sexp, Sexps, Atom, Reserved, Items, Nil, Cons, Symbol}
use Rattle.smt_trees.specs.declared.reserved.Word.TheVariants.{As, Bang, Let, Underscore}
use Rattle.smt_theory.specs.Words.{look_up}
use Rattle.smt_theory.specs.Sort.{Sort}
use Rattle.smt_forms.specs.Bindings.{named_trees}

-- whether a name is one of these
abbrev pub is_among : List (List ℕ) → List ℕ → Bool
is_among names x = list_any (bytes_eq x) names

-- whether a term that is well sorted uses a variable of the outer ones, behind inner ones, which hide them
abbrev mutual
  pub uses_outer : List (List ℕ) → List (List ℕ × Sort) → Sexp → Bool
  uses_outer inner outer (Atom Symbol x) = not (is_among inner x) && is_some (look_up outer x)
  uses_outer inner outer (Atom kind bytes) = false
  uses_outer inner outer (Reserved word) = false
  uses_outer inner outer (Items Nil) = false
  uses_outer inner outer (Items (Cons (Reserved Underscore) parts)) = false
  uses_outer inner outer (Items (Cons (Reserved As) parts)) = false
  uses_outer inner outer (Items (Cons (Reserved Let) (Cons (Items bindings) (Cons body Nil)))) =
      bindings_use_outer inner outer bindings
      || uses_outer (map (λ b. b.0) (named_trees bindings) ++ inner) outer body
  uses_outer inner outer (Items (Cons (Reserved Bang) (Cons term attributes))) = uses_outer inner outer term
  uses_outer inner outer (Items (Cons head args)) = any_uses_outer inner outer args

  pub any_uses_outer : List (List ℕ) → List (List ℕ × Sort) → Sexps → Bool
  any_uses_outer inner outer Nil = false
  any_uses_outer inner outer (Cons x xs) = uses_outer inner outer x || any_uses_outer inner outer xs

  pub bindings_use_outer : List (List ℕ) → List (List ℕ × Sort) → Sexps → Bool
  bindings_use_outer inner outer (Cons (Items (Cons (Atom Symbol x) (Cons term Nil))) rest) =
      uses_outer inner outer term || bindings_use_outer inner outer rest
  bindings_use_outer inner outer _ = false

-- whether a term uses one of these variables, which are bound outside it
abbrev pub uses_variable : List (List ℕ × Sort) → Sexp → Bool
uses_variable scope term = uses_outer [] scope term
