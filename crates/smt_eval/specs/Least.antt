-- How many terms are evaluated at least for the value of a term. Each term counts as one, and so does each
-- annotation. The arguments count besides, but of a choice the condition alone; and of a `let` the terms that
-- it binds and its body. The body of a name does not count, nor does a term with a label: their values may
-- be kept.
use Rattle.std.specs.Prelude.{ℕ, ◌+◌, List, [], ◌∷◌, Bool, false, Result, Ok, Err, if◌then◌else◌}
use Rattle.smt_trees.specs.Sexp.{Sexp, Sexps, Atom, Reserved, Items, Nil, Cons, Symbol}
use Rattle.smt_trees.specs.declared.reserved.Word.TheVariants.{As, Bang, Let, Underscore}
use Rattle.smt_theory.specs.declared.op.Op.{Op}
use Rattle.smt_theory.specs.declared.op.OpFault.{OpFault}
use Rattle.smt_theory.specs.declared.theories.Theories.{Theories}
use Rattle.smt_faults.specs.declared.term_flaw.TermFlaw.{TermFlaw}
use Rattle.smt_forms.specs.Identifier.{Identifier, applied, operator_of}
use Rattle.smt_forms.specs.Labels.{labels_among}
use Rattle.smt_machine.specs.Least.{is_choice}
use Rattle.smt_terms.specs.Signature.{Signature}

-- whether an operator is that of a choice
abbrev pub chooses : Result Op OpFault → Bool
chooses (Ok op) = is_choice op
chooses (Err fault) = false

abbrev pub head_chooses : Theories → Result Identifier TermFlaw → Bool
head_chooses theories (Ok f) = chooses (operator_of theories f)
head_chooses theories (Err fault) = false

-- what is counted of a term with these labels
abbrev pub unless_kept : List (List ℕ) → ℕ → ℕ
unless_kept [] n = n
unless_kept (label ∷ labels) n = 0

abbrev mutual
  pub least_of : Theories → Sexp → ℕ
  least_of theories (Items (Cons (Reserved Underscore) parts)) = 1
  least_of theories (Items (Cons (Reserved As) parts)) = 1
  least_of theories (Items (Cons (Reserved Let) (Cons (Items bindings) (Cons body Nil)))) =
      1 + leasts_bound theories bindings + least_of theories body
  least_of theories (Items (Cons (Reserved Bang) (Cons term attributes))) =
      1 + unless_kept (labels_among attributes) (least_of theories term)
  least_of theories (Items (Cons head args)) = 1 + (if head_chooses theories (applied head args)
      then first_least theories args else leasts_of theories args)
  least_of theories _ = 1

  pub leasts_of : Theories → Sexps → ℕ
  leasts_of theories Nil = 0
  leasts_of theories (Cons x xs) = least_of theories x + leasts_of theories xs

  -- of the first of these
  pub first_least : Theories → Sexps → ℕ
  first_least theories Nil = 0
  first_least theories (Cons x xs) = least_of theories x

  -- of the terms of bindings
  pub leasts_bound : Theories → Sexps → ℕ
  leasts_bound theories (Cons (Items (Cons (Atom Symbol x) (Cons term Nil))) rest) =
      least_of theories term + leasts_bound theories rest
  leasts_bound theories _ = 0

-- for the value of a closed term over definitions
abbrev pub least_over : Signature → Sexp → ℕ
least_over definitions term = least_of definitions.theories term
