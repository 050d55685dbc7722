-- A term costs no more than its atoms and lists do where each costs as much as the dearest body and one more.
use Rattle.std.proofs.Common.{◌≡◌, ◌≤◌, ℕ, suc, ◌+◌, ◌-◌, ◌*◌, Bool, true, false, cond, List, ◌++◌, map}
use Rattle.std.proofs.Common.{Result, Ok, Err, ap, arith}
use Rattle.std.proofs.Math.Nat.{add-mul}
use Rattle.smt_trees.specs.Sexp as sexp
use Rattle.smt_trees.specs.Sexp.{Sexp, Sexps, Atom, Reserved, Items, Nil, Cons, Symbol, Keyword, Numeral}
use Rattle.smt_trees.specs.Sexp.{Hexadecimal, Binary, weight, weight_all}
use Rattle.smt_trees.specs.declared.reserved.Word.TheVariants.{As, Bang, Let, Underscore}
use Rattle.smt_faults.specs.declared.term_flaw.TermFlaw.{TermFlaw}
use Rattle.smt_forms.specs.Bindings.{named_trees}
use Rattle.smt_forms.specs.Identifier.{Identifier, Plain, Indexed, Qualified, applied, indexed}
use Rattle.smt_forms.specs.Variables.{is_among}
use Rattle.smt_eval.specs.Cost.{BodyCosts, cost_of, costs_bound, costs_of, head_cost}

-- more atoms and lists cost no less
more : (k c v w : ℕ) → c ≤ v * k → v ≤ w → c ≤ w * k
more k c v w h m =
    let parts = add-mul v (w - v) k in
    let whole = ap (λ n. n * k) (the_rest v w m) in
    omega (arith, h, parts, whole)
  where
    the_rest : (v w : ℕ) → v ≤ w → v + (w - v) ≡ w
    the_rest v w m = omega (arith, m)

both : (k c d v w : ℕ) → c ≤ v * k → d ≤ w * k → c + d ≤ (v + w) * k
both k c d v w h g = let parts = add-mul v w k in omega (arith, h, g, parts)

module _ (b : BodyCosts) (most : ℕ) (few : (x : List ℕ) → b x ≤ most) where
  head_few : (r : Result Identifier TermFlaw) → head_cost b r ≤ most
  head_few (Ok (Plain x)) = few x
  head_few (Ok (Indexed x indexes)) = omega arith
  head_few (Ok (Qualified sort)) = omega arith
  head_few (Err fault) = omega arith

  name_few : (hidden : Bool) (x : List ℕ) → cond hidden 0 (b x) ≤ most
  name_few true x = omega arith
  name_few false x = few x

  -- one, its head and its parts
  step : (h c w : ℕ) → h ≤ most → c ≤ w * (most + 1) → 1 + h + c ≤ suc w * (most + 1)
  step h c w head parts = let all = add-mul 1 w (most + 1) in omega (arith, head, parts, all)

  mutual
    pub sized : (variables : List (List ℕ)) (t : Sexp) → cost_of b variables t ≤ weight t * (most + 1)
    sized variables (Atom Symbol x) = let here = name_few (is_among variables x) x in omega (arith, here)
    sized variables (Atom Numeral x) = omega arith
    sized variables (Atom Hexadecimal x) = omega arith
    sized variables (Atom Binary x) = omega arith
    sized variables (Atom sexp.Decimal x) = omega arith
    sized variables (Atom sexp.Text x) = omega arith
    sized variables (Atom Keyword x) = omega arith
    sized variables (Reserved word) = omega arith
    sized variables (Items Nil) = omega arith
    sized variables (Items (Cons (Reserved Underscore) parts)) =
        let here = step (head_cost b (indexed parts)) 0 (1 + weight_all parts) (head_few (indexed parts)) (omega arith) in
        omega (arith, here)
    sized variables (Items (Cons (Reserved As) parts)) =
        let here = step 0 0 (1 + weight_all parts) (omega arith) (omega arith) in omega (arith, here)
    sized variables (Items (Cons (Reserved Let) (Cons (Items bindings) (Cons body Nil)))) =
        let inner = map (λ binding. binding.0) (named_trees bindings) ++ variables in
        let parts = both (most + 1) (costs_bound b variables bindings) (cost_of b inner body) (weight_all bindings)
        (weight body) (bound_sized variables bindings) (sized inner body) in
        let here = step 0 (costs_bound b variables bindings + cost_of b inner body) (weight_all bindings + weight body)
        (omega arith) parts in
        more (most + 1) (1 + costs_bound b variables bindings + cost_of b inner body)
        (suc (weight_all bindings + weight body)) (suc (1 + (suc (weight_all bindings) + (weight body + 0))))
        (omega (arith, here)) (omega arith)
    sized variables (Items (Cons (Reserved Bang) (Cons term attributes))) =
        let here = step 0 (cost_of b variables term) (weight term) (omega arith) (sized variables term) in
        more (most + 1) (1 + cost_of b variables term) (suc (weight term))
        (suc (1 + (weight term + weight_all attributes))) (omega (arith, here)) (omega arith)
    sized variables (Items (Cons head args)) =
        let here = step (head_cost b (applied head args)) (costs_of b variables args) (weight_all args)
        (head_few (applied head args)) (all_sized variables args) in
        more (most + 1) (1 + head_cost b (applied head args) + costs_of b variables args) (suc (weight_all args))
        (suc (weight head + weight_all args)) here (omega arith)

    all_sized : (variables : List (List ℕ)) (ts : Sexps) → costs_of b variables ts ≤ weight_all ts * (most + 1)
    all_sized variables Nil = omega arith
    all_sized variables (Cons x xs) =
        both (most + 1) (cost_of b variables x) (costs_of b variables xs) (weight x) (weight_all xs)
        (sized variables x) (all_sized variables xs)

    bound_sized : (variables : List (List ℕ)) (bs : Sexps) → costs_bound b variables bs ≤ weight_all bs * (most + 1)
    bound_sized variables (Cons (Items (Cons (Atom Symbol x) (Cons term Nil))) rest) =
        let parts = both (most + 1) (cost_of b variables term) (costs_bound b variables rest) (weight term)
        (weight_all rest) (sized variables term) (bound_sized variables rest) in
        more (most + 1) (cost_of b variables term + costs_bound b variables rest) (weight term + weight_all rest)
        (suc (1 + (weight term + 0)) + weight_all rest) parts (omega arith)
    bound_sized variables _ = omega arith
