-- What the evaluation of a term costs: how many terms are evaluated for it at most. Each term counts as one,
-- and so does each annotation (`!`). Its parts count besides, both branches of a choice too, and where it
-- names a definition, the body of that, at each use. A variable hides what is defined by its name.
use Rattle.std.specs.Prelude.{ℕ, ◌+◌, List, [], ◌∷◌, ◌++◌, map, Result, Ok, Err, if◌then◌else◌, bytes_eq}
use Rattle.smt_trees.specs.Sexp.{Sexp, Sexps, Atom, Reserved, Items, Nil, Cons, Symbol}
use Rattle.smt_trees.specs.declared.reserved.Word.TheVariants.{As, Bang, Let, Underscore}
use Rattle.smt_forms.specs.Bindings.{named_trees}
use Rattle.smt_forms.specs.Identifier.{Identifier, Plain, Indexed, Qualified, applied, indexed}
use Rattle.smt_forms.specs.Variables.{is_among}
use Rattle.smt_terms.specs.Signature.{Entry, Origin, Declared, Defined, Signature}
use Rattle.smt_faults.specs.declared.term_flaw.TermFlaw.{TermFlaw}

-- what the body of each name costs; 0 where a name has none
abbrev pub BodyCosts : Type 0
BodyCosts = List ℕ → ℕ

-- the cost of the body that an identifier names
abbrev pub head_cost : BodyCosts → Result Identifier TermFlaw → ℕ
head_cost b (Ok (Plain x)) = b x
head_cost b (Ok (Indexed x indexes)) = 0
head_cost b (Ok (Qualified sort)) = 0
head_cost b (Err fault) = 0

-- what a term costs where the bodies of names cost this, and these are variables
abbrev mutual
  pub cost_of : BodyCosts → List (List ℕ) → Sexp → ℕ
  cost_of b variables (Atom Symbol x) = 1 + (if is_among variables x then 0 else b x)
  cost_of b variables (Items (Cons (Reserved Underscore) parts)) = 1 + head_cost b (indexed parts)
  cost_of b variables (Items (Cons (Reserved As) parts)) = 1
  cost_of b variables (Items (Cons (Reserved Let) (Cons (Items bindings) (Cons body Nil)))) =
      1 + costs_bound b variables bindings
      + cost_of b (map (λ binding. binding.0) (named_trees bindings) ++ variables) body
  cost_of b variables (Items (Cons (Reserved Bang) (Cons term attributes))) = 1 + cost_of b variables term
  cost_of b variables (Items (Cons head args)) =
      1 + head_cost b (applied head args) + costs_of b variables args
  cost_of b variables _ = 1

  pub costs_of : BodyCosts → List (List ℕ) → Sexps → ℕ
  costs_of b variables Nil = 0
  costs_of b variables (Cons x xs) = cost_of b variables x + costs_of b variables xs

  -- the terms of bindings, each without the variables that they bring
  pub costs_bound : BodyCosts → List (List ℕ) → Sexps → ℕ
  costs_bound b variables (Cons (Items (Cons (Atom Symbol x) (Cons term Nil))) rest) =
      cost_of b variables term + costs_bound b variables rest
  costs_bound b variables _ = 0

-- what the body of a definition costs, where those of earlier names cost this
abbrev pub body_cost : BodyCosts → Origin → ℕ
body_cost b (Defined parameters body) = cost_of b parameters body
body_cost b (Declared command) = 0

-- what bodies cost with one more definition, whose body sees the earlier ones alone
abbrev pub with_cost : BodyCosts → Entry → BodyCosts
with_cost b e x = if bytes_eq x e.name then body_cost b e.origin else b x

abbrev pub costs_after : BodyCosts → List Entry → BodyCosts
costs_after b [] = b
costs_after b (e ∷ es) = costs_after (with_cost b e) es

abbrev pub no_costs : BodyCosts
no_costs x = 0

-- what bodies cost in the structure of these definitions
abbrev pub costs_in : Signature → BodyCosts
costs_in definitions = costs_after no_costs definitions.entries

-- what a closed term costs over definitions
abbrev pub cost_over : Signature → Sexp → ℕ
cost_over definitions term = cost_of (costs_in definitions) [] term
