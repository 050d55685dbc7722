-- SMT-LIB 2.6, sections 3.6 and 5.2: the sort of a term, or its first fault. That strings are not supported as terms,
-- nor decimals in the profile Base, is this project's choice, and so is the order of the faults.
use Rattle.std.specs.Prelude.{ℕ, ◌*◌, List, [], ◌∷◌, ◌++◌, Option, Some, None, Result, Ok, Err}
use Rattle.std.specs.Prelude.{length, if◌then◌else◌}
use Rattle.std.specs.Option.{option_or}
use Rattle.smt_trees.specs.Sexp as sexp
use Rattle.smt_trees.specs.Sexp.{Sexp, Sexps, Atom, Reserved, Items, Nil, Cons, Symbol, Keyword, Numeral}
use Rattle.smt_trees.specs.Sexp.{Hexadecimal, Binary}
use Rattle.smt_trees.specs.declared.reserved.Word.TheVariants.{As, Bang, Let, Underscore}
use Rattle.smt_theory.specs.Operators.{op_by}
use Rattle.smt_theory.specs.Ranks.{rank_of}
use Rattle.smt_theory.specs.Shapes.{are_exactly}
use Rattle.smt_theory.specs.Width.{width_of}
use Rattle.smt_theory.specs.Words.{look_up, result_and_then}
use Rattle.smt_theory.specs.declared.op.Op.{Op}
use Rattle.smt_theory.specs.declared.op.OpFault.{OpFault}
use Rattle.smt_theory.specs.declared.op.OpFault.TheVariants as ops
use Rattle.smt_theory.specs.Sort.{Sort}
use Rattle.smt_forms.specs.Bindings.{are_attributes, are_bindings}
use Rattle.smt_forms.specs.Identifier.{Identifier, Plain, Indexed, Qualified, applied_in, indexed}
use Rattle.smt_terms.specs.Elements.{constant_op, element_among, qualified_sort}
use Rattle.smt_terms.specs.Labels.{Labels, Refused, Given, Unread}
use Rattle.smt_forms.specs.Variables.{uses_variable}
use Rattle.smt_forms.specs.Labels.{labels_among, labels_in, labels_in_bindings}
use Rattle.smt_terms.specs.Freshness.{NewLabel, NewVariable, where_fresh}
use Rattle.smt_terms.specs.Signature.{Names, Rank, behind}
use Rattle.smt_terms.specs.SortTrees.{bit_vectors, numerals, reals}
use Rattle.smt_faults.specs.declared.term_flaw.TermFlaw.{TermFlaw}
use Rattle.smt_faults.specs.declared.term_flaw.TermFlaw.TheVariants.{Form, Unsupported, Unknown, IllSorted}
use Rattle.smt_faults.specs.declared.term_flaw.TermFlaw.TheVariants.{Index, Label}

-- the sort of a rank that fits
abbrev pub sort_of_rank : Option Sort → Result Sort TermFlaw
sort_of_rank None = Err IllSorted
sort_of_rank (Some sort) = Ok sort

-- the sort of an operator applied to arguments of these sorts
abbrev pub sort_of_operator : Result Op OpFault → List Sort → Result Sort TermFlaw
sort_of_operator (Ok op) args = sort_of_rank (rank_of op args)
sort_of_operator (Err ops.Unknown) args = Err Unknown
sort_of_operator (Err ops.Index) args = Err Index

-- the sort of a name in force applied to arguments of these sorts
abbrev pub sort_of_name : Rank → List Sort → Result Sort TermFlaw
sort_of_name rank args = if are_exactly rank.parameters args then Ok rank.sort else Err IllSorted

-- a name that isn't in force may be an operator
abbrev pub sort_of_plain : Names → List ℕ → Option Rank → List Sort → Result Sort TermFlaw
sort_of_plain names f None args = sort_of_operator (op_by names.theories f []) args
sort_of_plain names f (Some rank) args = sort_of_name rank args

abbrev pub sort_applied : Names → Identifier → List Sort → Result Sort TermFlaw
sort_applied names (Plain f) args = sort_of_plain names f (look_up names.ranks f) args
sort_applied names (Indexed f indexes) args = sort_of_operator (op_by names.theories f indexes) args
sort_applied names (Qualified sort) args =
    result_and_then (constant_op names.theories names.elements sort) (λ op. sort_of_rank (rank_of op args))

-- that of a symbol alone that is no name in force: an operator's, or else the element's that it may be
abbrev pub sort_unless_element : Option Sort → Result Op OpFault → Result Sort TermFlaw
sort_unless_element None op = sort_of_operator op []
sort_unless_element (Some sort) (Err ops.Unknown) = Ok sort
sort_unless_element (Some sort) op = sort_of_operator op []

-- that of a symbol alone that is no variable
abbrev pub sort_alone : Names → List ℕ → Option Rank → Result Sort TermFlaw
sort_alone names x (Some rank) = sort_of_name rank []
sort_alone names x None = sort_unless_element (element_among names.elements x) (op_by names.theories x [])

-- the sort of a symbol alone: that of a variable, or else of a name without arguments
abbrev pub sort_of_symbol : Names → List ℕ → Option Sort → Result Sort TermFlaw
sort_of_symbol names x None = sort_alone names x (look_up names.ranks x)
sort_of_symbol names x (Some sort) = Ok sort

-- the sort of an identifier applied to arguments: a variable takes none
abbrev pub sort_unless_variable : Option Sort → Result Sort TermFlaw → Result Sort TermFlaw
sort_unless_variable None found = found
sort_unless_variable (Some sort) found = Err IllSorted

abbrev pub sort_of_call : Names → List (List ℕ × Sort) → Identifier → List Sort → Result Sort TermFlaw
sort_of_call names scope (Plain f) args =
    sort_unless_variable (look_up scope f) (sort_applied names (Plain f) args)
sort_of_call names scope (Indexed f indexes) args = sort_applied names (Indexed f indexes) args
sort_of_call names scope (Qualified sort) args = sort_applied names (Qualified sort) args

-- a fault, or what comes where there is none
abbrev pub unless : {A : Type 0} → Option TermFlaw → Result A TermFlaw → Result A TermFlaw
unless None next = next
unless (Some fault) next = Err fault

-- the fault of a label of a term that sees these variables
abbrev pub flaw_of_label : Names → Labels → List (List ℕ × Sort) → Sexp → List ℕ → Option TermFlaw
flaw_of_label names Refused scope term x = Some Label
flaw_of_label names (Given labels) scope term x =
    if uses_variable scope term then Some Label
    else where_fresh (NewLabel names labels) x Some None
flaw_of_label names Unread scope term x = None

-- the first fault of labels of a term, one behind another
abbrev pub flaw_of_labels : Names → List (List ℕ × Sort) → Sexp → List (List ℕ) → Option TermFlaw
flaw_of_labels names scope term [] = None
flaw_of_labels names scope term (x ∷ xs) =
    option_or (flaw_of_label names names.labels scope term x)
    (flaw_of_labels (behind ((x, term) ∷ []) names) scope term xs)

-- the sort of a term over names and variables, the innermost variable first, or the first fault; the sorts of
-- terms, in order
abbrev mutual
  pub sort_in : Names → List (List ℕ × Sort) → Sexp → Result Sort TermFlaw
  sort_in names scope (Atom Symbol x) = sort_of_symbol names x (look_up scope x)
  sort_in names scope (Atom Numeral digits) = numerals names.theories
  sort_in names scope (Atom Hexadecimal digits) = bit_vectors names.theories (width_of (4 * length digits))
  sort_in names scope (Atom Binary digits) = bit_vectors names.theories (width_of (length digits))
  sort_in names scope (Atom sexp.Decimal digits) = reals names.theories
  sort_in names scope (Atom sexp.Text bytes) = Err Unsupported
  sort_in names scope (Atom Keyword x) = Err Form
  sort_in names scope (Reserved word) = Err Form
  sort_in names scope (Items Nil) = Err Form
  sort_in names scope (Items (Cons (Reserved Underscore) parts)) =
      result_and_then (indexed parts) (λ f. sort_applied names f [])
  sort_in names scope (Items (Cons (Reserved As) parts)) = qualified_sort names.elements names.ranks parts
  sort_in names scope (Items (Cons (Reserved Let) (Cons (Items bindings) (Cons body Nil)))) =
      if are_bindings bindings
      then result_and_then (bound_in names scope [] bindings)
      (λ bound. sort_in (behind (labels_in_bindings bindings) names) (bound ++ scope) body) else Err Form
  sort_in names scope (Items (Cons (Reserved Bang) (Cons term attributes))) =
      if are_attributes attributes
      then result_and_then (sort_in names scope term)
      (λ s. unless (flaw_of_labels (behind (labels_in term) names) scope term (labels_among attributes))
      (Ok s)) else Err Form
  sort_in names scope (Items (Cons head args)) =
      result_and_then (applied_in names.theories.wide head args)
      (λ f. result_and_then (sorts_in names scope args) (λ ss. sort_of_call names scope f ss))

  pub sorts_in : Names → List (List ℕ × Sort) → Sexps → Result (List Sort) TermFlaw
  sorts_in names scope Nil = Ok []
  sorts_in names scope (Cons x xs) =
      result_and_then (sort_in names scope x)
      (λ s. result_and_then (sorts_in (behind (labels_in x) names) scope xs) (λ ss. Ok (s ∷ ss)))

  -- the variables that bindings bring behind those of the earlier ones, with their sorts: each term is seen
  -- without them
  pub bound_in : Names → List (List ℕ × Sort) → List (List ℕ × Sort) → Sexps
      → Result (List (List ℕ × Sort)) TermFlaw
  bound_in names scope bound Nil = Ok bound
  bound_in names scope bound (Cons (Items (Cons (Atom Symbol x) (Cons term Nil))) rest) =
      where_fresh (NewVariable bound) x Err
      (result_and_then (sort_in names scope term)
      (λ s. bound_in (behind (labels_in term) names) scope (bound ++ (x, s) ∷ []) rest))
  bound_in names scope bound _ = Err Form
