-- SMT-LIB 2.6, section 5.3: the value of a well-sorted term in a structure, which is given by theories and
-- definitions.
use Rattle.std.specs.Prelude.{ℕ, pos, List, [], ◌∷◌, ◌++◌, false, Result, Ok, Err, if◌then◌else◌, bytes_eq}
use Rattle.std.specs.Prelude.{Option, Some, None, unwrap_or}
use Rattle.std.specs.List.{zip}
use Rattle.std.specs.Str.Parse.{digits_value}
use Rattle.smt_bits.specs.Literals.{bin_vector, hex_vector}
use Rattle.smt_trees.specs.Sexp.{Sexp, Sexps, Atom, Reserved, Items, Nil, Cons, Symbol, Numeral, Decimal}
use Rattle.smt_trees.specs.Sexp.{Hexadecimal, Binary}
use Rattle.smt_trees.specs.declared.reserved.Word.TheVariants.{As, Bang, Let, Underscore}
use Rattle.smt_theory.specs.Words.{look_up}
use Rattle.smt_theory.specs.declared.op.Op.{Op}
use Rattle.smt_theory.specs.declared.op.OpFault.{OpFault}
use Rattle.smt_theory.specs.declared.theories.Theories.{Theories}
use Rattle.smt_values.specs.Element.{Integer, Vector, Abstract}
use Rattle.smt_values.specs.Decimals.{decimal_value}
use Rattle.smt_values.specs.Operations.{DivisionByZero}
use Rattle.smt_arrays.specs.Element.{Element, Filled, Plain as NoArray}
use Rattle.smt_arrays.specs.Operations.{operate, truth}
use Rattle.smt_forms.specs.ElementNames.{qualified_symbol}
use Rattle.smt_forms.specs.Identifier.{Identifier, Plain, Indexed, Qualified, applied, indexed, operator_of}
use Rattle.smt_terms.specs.Signature.{Entry, Origin, Declared, Defined, Signature}
use Rattle.smt_faults.specs.declared.term_flaw.TermFlaw.{TermFlaw}

-- what identifiers mean: for each, the element that it gives for arguments
abbrev pub Meaning : Type 0
Meaning = Identifier → List Element → Element

-- what is no well-sorted term has a value of no interest
abbrev pub element_by : Result Identifier TermFlaw → (Identifier → Element) → Element
element_by (Ok f) give = give f
element_by (Err fault) give = truth false

-- the element of the symbol that stands behind an `as`
abbrev pub element_of_symbol : Option (List ℕ) → Element
element_of_symbol (Some x) = NoArray (Abstract x)
element_of_symbol None = truth false

-- the value of a term where identifiers mean m and the variables have these values, the innermost first
abbrev mutual
  pub value_of : Meaning → List (List ℕ × Element) → Sexp → Element
  value_of m r (Atom Symbol x) = unwrap_or (look_up r x) (m (Plain x) [])
  value_of m r (Atom Numeral digits) = NoArray (Integer (pos (digits_value 10 digits)))
  value_of m r (Atom Decimal digits) = NoArray (decimal_value digits)
  value_of m r (Atom Hexadecimal digits) = NoArray (Vector (hex_vector digits))
  value_of m r (Atom Binary digits) = NoArray (Vector (bin_vector digits))
  value_of m r (Items (Cons (Reserved Underscore) parts)) = element_by (indexed parts) (λ f. m f [])
  value_of m r (Items (Cons (Reserved As) parts)) = element_of_symbol (qualified_symbol parts)
  value_of m r (Items (Cons (Reserved Let) (Cons (Items bindings) (Cons body Nil)))) =
      value_of m (values_bound m r bindings ++ r) body
  value_of m r (Items (Cons (Reserved Bang) (Cons term attributes))) = value_of m r term
  value_of m r (Items (Cons head args)) = element_by (applied head args) (λ f. m f (values_of m r args))
  value_of m r _ = truth false

  pub values_of : Meaning → List (List ℕ × Element) → Sexps → List Element
  values_of m r Nil = []
  values_of m r (Cons x xs) = value_of m r x ∷ values_of m r xs

  -- the variables that bindings bring, with their values: each term is seen without them
  pub values_bound : Meaning → List (List ℕ × Element) → Sexps → List (List ℕ × Element)
  values_bound m r (Cons (Items (Cons (Atom Symbol x) (Cons term Nil))) rest) =
      (x, value_of m r term) ∷ values_bound m r rest
  values_bound m r _ = []

-- a symbol alone that is no operator is the element of that name; and `(as const sort)` gives the array that has its
-- argument at each index
abbrev pub other_meaning : Identifier → List Element → Element
other_meaning (Plain x) [] = NoArray (Abstract x)
other_meaning (Qualified sort) (e ∷ []) = Filled e
other_meaning f args = truth false

-- where no name is defined, identifiers mean the operators of the theories, or else elements or constant arrays
abbrev pub meaning_of_op : DivisionByZero → Result Op OpFault → Identifier → List Element → Element
meaning_of_op z (Ok op) f args = operate z op args
meaning_of_op z (Err fault) f args = other_meaning f args

abbrev pub operators : DivisionByZero → Theories → Meaning
operators z theories f args = meaning_of_op z (operator_of theories f) f args

-- what a definition gives for arguments, where earlier names mean m
abbrev pub defined_value : Meaning → Origin → List Element → Element
defined_value m (Defined parameters body) args = value_of m (zip parameters args) body
defined_value m (Declared command) args = truth false

-- what identifiers mean with one more definition, whose body sees the earlier ones alone
abbrev pub with_definition : Meaning → Entry → Meaning
with_definition m e (Plain f) args =
    if bytes_eq f e.name then defined_value m e.origin args else m (Plain f) args
with_definition m e (Indexed f indexes) args = m (Indexed f indexes) args
with_definition m e (Qualified sort) args = m (Qualified sort) args

abbrev pub meaning_after : Meaning → List Entry → Meaning
meaning_after m [] = m
meaning_after m (e ∷ es) = meaning_after (with_definition m e) es

-- what identifiers mean in the structure of these theories and definitions, where division by zero gives what
-- z has
abbrev pub meaning_in : DivisionByZero → Signature → Meaning
meaning_in z definitions = meaning_after (operators z definitions.theories) definitions.entries

-- the value of a term in the structure of these definitions, where the variables have these values
abbrev pub value_over : DivisionByZero → Signature → List (List ℕ × Element) → Sexp → Element
value_over z definitions r term = value_of (meaning_in z definitions) r term
