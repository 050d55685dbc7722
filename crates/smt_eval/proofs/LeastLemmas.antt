-- What the evaluation of a term takes at least is within its cost.
use Rattle.std.proofs.Common.{◌≤◌, ℕ, Bool, true, false, cond, List, [], ◌∷◌, ◌++◌, map, arith}
use Rattle.smt_trees.specs.Sexp as sexp
use Rattle.smt_trees.specs.Sexp.{Sexp, Sexps, Atom, Reserved, Items, Nil, Cons, Symbol, Keyword, Numeral}
use Rattle.smt_trees.specs.Sexp.{Hexadecimal, Binary}
use Rattle.smt_trees.specs.declared.reserved.Word.TheVariants.{As, Bang, Let, Underscore}
use Rattle.smt_theory.specs.declared.theories.Theories.{Theories}
use Rattle.smt_forms.specs.Bindings.{named_trees}
use Rattle.smt_forms.specs.Identifier.{applied}
use Rattle.smt_forms.specs.Labels.{labels_among}
use Rattle.smt_eval.specs.Cost.{BodyCosts, cost_of, costs_bound, costs_of}
use Rattle.smt_eval.specs.Least.{first_least, head_chooses, least_of, leasts_bound, leasts_of, unless_kept}

kept_within : (labels : List (List ℕ)) (n : ℕ) → unless_kept labels n ≤ n
kept_within [] n = omega arith
kept_within (label ∷ labels) n = omega arith

either_within : (b : Bool) (x y n : ℕ) → x ≤ n → y ≤ n → cond b x y ≤ n
either_within true x y n h g = h
either_within false x y n h g = g

module _ (theories : Theories) (b : BodyCosts) where
  mutual
    pub least_within : (variables : List (List ℕ)) (t : Sexp) → least_of theories t ≤ cost_of b variables t
    least_within variables (Atom Symbol x) = omega arith
    least_within variables (Atom Numeral x) = omega arith
    least_within variables (Atom Hexadecimal x) = omega arith
    least_within variables (Atom Binary x) = omega arith
    least_within variables (Atom sexp.Decimal x) = omega arith
    least_within variables (Atom sexp.Text x) = omega arith
    least_within variables (Atom Keyword x) = omega arith
    least_within variables (Reserved word) = omega arith
    least_within variables (Items Nil) = omega arith
    least_within variables (Items (Cons (Reserved Underscore) parts)) = omega arith
    least_within variables (Items (Cons (Reserved As) parts)) = omega arith
    least_within variables (Items (Cons (Reserved Let) (Cons (Items bindings) (Cons body Nil)))) =
        let bound = bound_within variables bindings in
        let inner = least_within (map (λ binding. binding.0) (named_trees bindings) ++ variables) body in
        omega (arith, bound, inner)
    least_within variables (Items (Cons (Reserved Bang) (Cons term attributes))) =
        let inner = least_within variables term in
        let kept = kept_within (labels_among attributes) (least_of theories term) in
        omega (arith, inner, kept)
    least_within variables (Items (Cons head args)) =
        let inner = either_within (head_chooses theories (applied head args)) (first_least theories args)
        (leasts_of theories args) (costs_of b variables args) (first_within variables args)
        (all_within variables args) in
        omega (arith, inner)

    first_within : (variables : List (List ℕ)) (ts : Sexps)
        → first_least theories ts ≤ costs_of b variables ts
    first_within variables Nil = omega arith
    first_within variables (Cons x xs) = let front = least_within variables x in omega (arith, front)

    all_within : (variables : List (List ℕ)) (ts : Sexps) → leasts_of theories ts ≤ costs_of b variables ts
    all_within variables Nil = omega arith
    all_within variables (Cons x xs) =
        let front = least_within variables x in
        let rest = all_within variables xs in
        omega (arith, front, rest)

    bound_within : (variables : List (List ℕ)) (bs : Sexps)
        → leasts_bound theories bs ≤ costs_bound b variables bs
    bound_within variables (Cons (Items (Cons (Atom Symbol x) (Cons term Nil))) rest) =
        let front = least_within variables term in
        let later = bound_within variables rest in
        omega (arith, front, later)
    bound_within variables _ = omega arith
