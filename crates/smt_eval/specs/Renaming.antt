-- Elements of declared sorts under other names. The law on values is said in these words, which no other definition
-- uses.
use Rattle.std.specs.Prelude.{◌≡◌, ◌≤◌, ℕ, List, [], ◌∷◌, ◌++◌, Bool, true, false, Option, Some, None, Result}
use Rattle.std.specs.Prelude.{Ok, Err, length, map, bytes_eq, if◌then◌else◌}
use Rattle.smt_trees.specs.Sexp.{Sexp, Sexps, Atom, Reserved, Items, Nil, Cons, Symbol, count}
use Rattle.smt_trees.specs.declared.reserved.Word.TheVariants.{As, Bang, Let, Underscore}
use Rattle.smt_theory.specs.Operators.{is_plain_operator}
use Rattle.smt_theory.specs.declared.theories.Theories.{Theories}
use Rattle.smt_values.specs.Element as plain
use Rattle.smt_arrays.specs.Element.{Element, Filled, Written, Plain as NoArray}
use Rattle.smt_forms.specs.Bindings.{named_trees}
use Rattle.smt_forms.specs.Identifier.{Identifier, Plain, Indexed, Qualified, applied}
use Rattle.smt_forms.specs.Variables.{is_among}
use Rattle.smt_terms.specs.Signature.{Entry, Origin, Declared, Defined, Signature}
use Rattle.smt_faults.specs.declared.term_flaw.TermFlaw.{TermFlaw}

-- a name for each name
abbrev pub Renaming : Type 0
Renaming = List ℕ → List ℕ

-- no two names become one
abbrev pub IsInjective : Renaming → Type 0
IsInjective g = (x y : List ℕ) → g x ≡ g y → x ≡ y

-- an element that is no array under its other name; truth values, numbers and bit vectors stay
abbrev pub renamed_plain : Renaming → plain.Element → plain.Element
renamed_plain g (plain.Abstract x) = plain.Abstract (g x)
renamed_plain g e = e

-- an element under its other name, and an array with those of its indexes and elements
abbrev pub renamed : Renaming → Element → Element
renamed g (NoArray e) = NoArray (renamed_plain g e)
renamed g (Filled e) = Filled (renamed g e)
renamed g (Written a i e) = Written (renamed g a) (renamed g i) (renamed g e)

abbrev pub renamed_variables : Renaming → List (List ℕ × Element) → List (List ℕ × Element)
renamed_variables g r = map (λ v. (v.0, renamed g v.1)) r

-- ---- terms that name no element

-- how many parameters a name has; None where it is neither defined nor an operator's
abbrev pub Parameters : Type 0
Parameters = List ℕ → Option ℕ

-- a name with so many arguments is no element, and has an argument for each parameter
abbrev pub IsMet : Option ℕ → ℕ → Type 0
IsMet None n = 1 ≤ n
IsMet (Some parameters) n = parameters ≤ n

abbrev pub IsHeadMet : Parameters → Result Identifier TermFlaw → ℕ → Type 0
IsHeadMet takes (Ok (Plain f)) n = IsMet (takes f) n
IsHeadMet takes (Ok (Indexed f indexes)) n = Unit {0}
IsHeadMet takes (Ok (Qualified sort)) n = Unit {0}
IsHeadMet takes (Err fault) n = Unit {0}

-- this holds, unless it is a variable of which is spoken
abbrev pub UnlessVariable : Bool → Type 0 → Type 0
UnlessVariable true T = Unit {0}
UnlessVariable false T = T

abbrev mutual
  -- a term names no element where these are variables: it has no `as`, and each symbol alone is a variable, or is
  -- defined, or is an operator; no call of a definition lacks an argument
  pub NamesNone : Parameters → List (List ℕ) → Sexp → Type 0
  NamesNone takes variables (Atom Symbol x) = UnlessVariable (is_among variables x) (IsMet (takes x) 0)
  NamesNone takes variables (Items (Cons (Reserved Underscore) parts)) = Unit {0}
  NamesNone takes variables (Items (Cons (Reserved As) parts)) = ⊥
  NamesNone takes variables (Items (Cons (Reserved Let) (Cons (Items bindings) (Cons body Nil)))) =
      BindingsNameNone takes variables bindings
      × NamesNone takes (map (λ b. b.0) (named_trees bindings) ++ variables) body
  NamesNone takes variables (Items (Cons (Reserved Bang) (Cons term attributes))) = NamesNone takes variables term
  NamesNone takes variables (Items (Cons head args)) =
      IsHeadMet takes (applied head args) (count args) × AllNameNone takes variables args
  NamesNone takes variables _ = Unit {0}

  pub AllNameNone : Parameters → List (List ℕ) → Sexps → Type 0
  AllNameNone takes variables Nil = Unit {0}
  AllNameNone takes variables (Cons x xs) = NamesNone takes variables x × AllNameNone takes variables xs

  -- the terms of bindings, each without the variables that they bring
  pub BindingsNameNone : Parameters → List (List ℕ) → Sexps → Type 0
  BindingsNameNone takes variables (Cons (Items (Cons (Atom Symbol x) (Cons term Nil))) rest) =
      NamesNone takes variables term × BindingsNameNone takes variables rest
  BindingsNameNone takes variables _ = Unit {0}

-- ---- definitions that name no element

-- operators take any arguments
abbrev pub operators_take : Theories → Parameters
operators_take theories x = if is_plain_operator theories x then Some 0 else None

abbrev pub parameters_of : Origin → ℕ
parameters_of (Defined parameters body) = length parameters
parameters_of (Declared command) = 0

abbrev pub with_parameters : Parameters → Entry → Parameters
with_parameters takes e x = if bytes_eq x e.name then Some (parameters_of e.origin) else takes x

abbrev pub parameters_after : Parameters → List Entry → Parameters
parameters_after takes [] = takes
parameters_after takes (e ∷ es) = parameters_after (with_parameters takes e) es

abbrev pub parameters_in : Signature → Parameters
parameters_in definitions = parameters_after (operators_take definitions.theories) definitions.entries

abbrev pub BodyNamesNone : Parameters → Origin → Type 0
BodyNamesNone takes (Defined parameters body) = NamesNone takes parameters body
BodyNamesNone takes (Declared command) = Unit {0}

-- each body, which sees the earlier definitions alone, names no element
abbrev pub BodiesNameNone : Parameters → List Entry → Type 0
BodiesNameNone takes [] = Unit {0}
BodiesNameNone takes (e ∷ es) = BodyNamesNone takes e.origin × BodiesNameNone (with_parameters takes e) es

abbrev pub DefinitionsNameNone : Signature → Type 0
DefinitionsNameNone definitions = BodiesNameNone (operators_take definitions.theories) definitions.entries
