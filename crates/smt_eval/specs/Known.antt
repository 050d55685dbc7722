-- What is known of the value of a term: which element it is, or nothing; then the term is open. Which terms
-- are open is this project's rule; where the value is known, it is the standard's.
use Rattle.std.specs.Prelude.{ℕ, List, [], ◌∷◌, ◌++◌, Option, Some, None, Result, Ok, Err, if◌then◌else◌, unwrap_or}
use Rattle.std.specs.Prelude.{bytes_eq, option_and_then, option_map}
use Rattle.std.specs.List.{zip}
use Rattle.smt_trees.specs.Sexp.{Sexp, Sexps, Atom, Reserved, Items, Nil, Cons, Symbol, Numeral, Decimal}
use Rattle.smt_trees.specs.Sexp.{Hexadecimal, Binary}
use Rattle.smt_trees.specs.declared.reserved.Word.TheVariants.{As, Bang, Let, Underscore}
use Rattle.smt_theory.specs.Words.{look_up}
use Rattle.smt_theory.specs.declared.op.Op.{Op}
use Rattle.smt_theory.specs.declared.op.OpFault.{OpFault}
use Rattle.smt_theory.specs.declared.theories.Theories.{Theories}
use Rattle.smt_values.specs.Element.{Abstract, Naming}
use Rattle.smt_arrays.specs.Element.{Element, Filled, Plain as NoArray}
use Rattle.smt_arrays.specs.Known.{known_step}
use Rattle.smt_values.specs.Literals.{bin_element, decimal_element, hex_element, numeral_element}
use Rattle.smt_forms.specs.ElementNames.{qualified_symbol, sort_of_element}
use Rattle.smt_forms.specs.Identifier.{Identifier, Plain, Indexed, Qualified, applied, indexed, operator_of}
use Rattle.smt_terms.specs.Signature.{Entry, Origin, Declared, Defined, Signature}
use Rattle.smt_faults.specs.declared.term_flaw.TermFlaw.{TermFlaw}

-- what identifiers are known to mean: for each, what is known of the element that it gives for arguments; and what
-- is known of the elements of declared sorts, by their names
pub record KnownMeaning : Type 0 where
  pub gives : Identifier → List (Option Element) → Option Element
  pub element : Naming

abbrev pub known_by : Result Identifier TermFlaw → (Identifier → Option Element) → Option Element
known_by (Ok f) give = give f
known_by (Err fault) give = None

-- what is known of a term where identifiers mean m and this is known of the variables, of which some may be
-- open
abbrev mutual
  pub known_of : KnownMeaning → List (List ℕ × Option Element) → Sexp → Option Element
  known_of m r (Atom Symbol x) = unwrap_or (look_up r x) (m.gives (Plain x) [])
  known_of m r (Atom Numeral digits) = option_map NoArray (numeral_element digits)
  known_of m r (Atom Decimal digits) = option_map NoArray (decimal_element digits)
  known_of m r (Atom Hexadecimal digits) = option_map NoArray (hex_element digits)
  known_of m r (Atom Binary digits) = option_map NoArray (bin_element digits)
  known_of m r (Items (Cons (Reserved Underscore) parts)) = known_by (indexed parts) (λ f. m.gives f [])
  known_of m r (Items (Cons (Reserved As) parts)) =
      option_map NoArray (option_and_then m.element (qualified_symbol parts))
  known_of m r (Items (Cons (Reserved Let) (Cons (Items bindings) (Cons body Nil)))) =
      known_of m (knowns_bound m r bindings ++ r) body
  known_of m r (Items (Cons (Reserved Bang) (Cons term attributes))) = known_of m r term
  known_of m r (Items (Cons head args)) = known_by (applied head args) (λ f. m.gives f (knowns_of m r args))
  known_of m r _ = None

  pub knowns_of : KnownMeaning → List (List ℕ × Option Element) → Sexps → List (Option Element)
  knowns_of m r Nil = []
  knowns_of m r (Cons x xs) = known_of m r x ∷ knowns_of m r xs

  -- the variables that bindings bring, with what is known of each: each term is seen without them
  pub knowns_bound : KnownMeaning → List (List ℕ × Option Element) → Sexps → List (List ℕ × Option Element)
  knowns_bound m r (Cons (Items (Cons (Atom Symbol x) (Cons term Nil))) rest) =
      (x, known_of m r term) ∷ knowns_bound m r rest
  knowns_bound m r _ = []

-- a symbol alone that is no operator, but of an element's form, is the element of that name; and `(as const sort)`
-- gives the array that has its argument at each index
abbrev pub other_known : Naming → Identifier → List (Option Element) → Option Element
other_known element (Plain x) [] = option_map NoArray (option_and_then (λ sort. element x) (sort_of_element x))
other_known element (Qualified sort) (known ∷ []) = option_map Filled known
other_known element f args = None

abbrev pub known_of_op : Naming → Result Op OpFault → Identifier → List (Option Element) → Option Element
known_of_op element (Ok op) f args = known_step op args
known_of_op element (Err fault) f args = other_known element f args

abbrev pub known_operators : Naming → Theories → KnownMeaning
known_operators element theories = record {
  gives = λ f args. known_of_op element (operator_of theories f) f args;
  element = element;
}

-- what a definition gives for arguments, where earlier names mean m
abbrev pub known_defined : KnownMeaning → Origin → List (Option Element) → Option Element
known_defined m (Defined parameters body) args = known_of m (zip parameters args) body
known_defined m (Declared command) args = None

-- what an identifier gives with one more definition, whose body sees the earlier ones alone
abbrev pub given_with : KnownMeaning → Entry → Identifier → List (Option Element) → Option Element
given_with m e (Plain f) args =
    if bytes_eq f e.name then known_defined m e.origin args else m.gives (Plain f) args
given_with m e (Indexed f indexes) args = m.gives (Indexed f indexes) args
given_with m e (Qualified sort) args = m.gives (Qualified sort) args

abbrev pub with_known : KnownMeaning → Entry → KnownMeaning
with_known m e = record { gives = given_with m e; element = m.element }

abbrev pub known_after : KnownMeaning → List Entry → KnownMeaning
known_after m [] = m
known_after m (e ∷ es) = known_after (with_known m e) es

-- what identifiers are known to mean in the structure of these theories and definitions
abbrev pub known_in_by : Naming → Signature → KnownMeaning
known_in_by element definitions = known_after (known_operators element definitions.theories) definitions.entries

-- what is known of a closed term over definitions
abbrev pub known_over_by : Naming → Signature → Sexp → Option Element
known_over_by element definitions term = known_of (known_in_by element definitions) [] term

-- the same, where an element of a declared sort is known to be that of its name
abbrev pub by_name : Naming
by_name x = Some (Abstract x)

abbrev pub known_in : Signature → KnownMeaning
known_in definitions = known_in_by by_name definitions

abbrev pub known_over : Signature → Sexp → Option Element
known_over definitions term = known_over_by by_name definitions term
