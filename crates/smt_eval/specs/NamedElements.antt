-- Which elements of declared sorts terms and definitions name. The laws on names of elements are said in these words,
-- which no other definition uses.
use Rattle.std.specs.Prelude.{◌≡◌, ◌≢◌, ◌⊎◌, ◌≤◌, ℕ, zero, suc, List, [], ◌∷◌, ◌++◌, true, Option, Some, None}
use Rattle.std.specs.Prelude.{Result, Ok, Err, All, codes, map}
use Rattle.smt_trees.specs.Sexp.{Sexp, Sexps, Atom, Reserved, Items, Nil, Cons, Symbol, count}
use Rattle.smt_trees.specs.declared.reserved.Word.TheVariants.{As, Bang, Let, Underscore}
use Rattle.smt_theory.specs.Operators.{op_by}
use Rattle.smt_theory.specs.declared.op.Op.{Op}
use Rattle.smt_values.specs.Element as plain
use Rattle.smt_arrays.specs.Element.{Element, Filled, Written, Plain as NoArray}
use Rattle.smt_forms.specs.Bindings.{named_trees}
use Rattle.smt_forms.specs.Identifier.{Identifier, Plain, Indexed, Qualified, applied}
use Rattle.smt_forms.specs.Variables.{is_among}
use Rattle.smt_terms.specs.Signature.{Entry, Origin, Declared, Defined, Signature}
use Rattle.smt_faults.specs.declared.term_flaw.TermFlaw.{TermFlaw}
use Rattle.smt_eval.specs.Renaming.{Parameters, Renaming, UnlessVariable, operators_take, with_parameters}

-- what is asked of names
abbrev pub OfNames : Type 1
OfNames = List ℕ → Type 0

-- a name is one of these
abbrev pub IsAmong : List (List ℕ) → OfNames
IsAmong names x = is_among names x ≡ true

-- a name is its own other name
abbrev pub KeepsName : Renaming → OfNames
KeepsName g x = g x ≡ x

-- an element of a declared sort has a name of which this holds
abbrev pub IsPlainOfName : OfNames → plain.Element → Type 0
IsPlainOfName P (plain.Abstract x) = P x
IsPlainOfName P e = Unit {0}

-- and so have those of which an array is made
abbrev pub IsOfName : OfNames → Element → Type 0
IsOfName P (NoArray e) = IsPlainOfName P e
IsOfName P (Filled e) = IsOfName P e
IsOfName P (Written a i e) = IsOfName P a × IsOfName P i × IsOfName P e

-- ---- terms that name no other elements

-- a name with so many arguments: where it is neither defined nor an operator's and has no argument, it names an
-- element, of which this holds; else it has an argument for each parameter
abbrev pub IsUsedFor : OfNames → List ℕ → Option ℕ → ℕ → Type 0
IsUsedFor P x None zero = P x
IsUsedFor P x None (suc n) = Unit {0}
IsUsedFor P x (Some parameters) n = parameters ≤ n

abbrev pub IsHeadUsedFor : OfNames → Parameters → Result Identifier TermFlaw → ℕ → Type 0
IsHeadUsedFor P takes (Ok (Plain f)) n = IsUsedFor P f (takes f) n
IsHeadUsedFor P takes (Ok (Indexed f indexes)) n = Unit {0}
IsHeadUsedFor P takes (Ok (Qualified sort)) n = Unit {0}
IsHeadUsedFor P takes (Err fault) n = Unit {0}

abbrev mutual
  -- this holds of each element that a term names where these are variables: of the symbol behind an `as`, and of each
  -- symbol alone that is no variable, is not defined and is no operator; no call of a definition lacks an argument
  pub NamesOnly : OfNames → Parameters → List (List ℕ) → Sexp → Type 0
  NamesOnly P takes variables (Atom Symbol x) =
      UnlessVariable (is_among variables x) (IsUsedFor P x (takes x) 0)
  NamesOnly P takes variables (Items (Cons (Reserved Underscore) parts)) = Unit {0}
  NamesOnly P takes variables (Items (Cons (Reserved As) (Cons (Atom Symbol x) rest))) = P x
  NamesOnly P takes variables (Items (Cons (Reserved As) parts)) = Unit {0}
  NamesOnly P takes variables (Items (Cons (Reserved Let) (Cons (Items bindings) (Cons body Nil)))) =
      BindingsNameOnly P takes variables bindings
      × NamesOnly P takes (map (λ b. b.0) (named_trees bindings) ++ variables) body
  NamesOnly P takes variables (Items (Cons (Reserved Bang) (Cons term attributes))) =
      NamesOnly P takes variables term
  NamesOnly P takes variables (Items (Cons head args)) =
      IsHeadUsedFor P takes (applied head args) (count args) × AllNameOnly P takes variables args
  NamesOnly P takes variables _ = Unit {0}

  pub AllNameOnly : OfNames → Parameters → List (List ℕ) → Sexps → Type 0
  AllNameOnly P takes variables Nil = Unit {0}
  AllNameOnly P takes variables (Cons x xs) =
      NamesOnly P takes variables x × AllNameOnly P takes variables xs

  -- the terms of bindings, each without the variables that they bring
  pub BindingsNameOnly : OfNames → Parameters → List (List ℕ) → Sexps → Type 0
  BindingsNameOnly P takes variables (Cons (Items (Cons (Atom Symbol x) (Cons term Nil))) rest) =
      NamesOnly P takes variables term × BindingsNameOnly P takes variables rest
  BindingsNameOnly P takes variables _ = Unit {0}

-- ---- definitions that name no other elements

abbrev pub BodyNamesOnly : OfNames → Parameters → Origin → Type 0
BodyNamesOnly P takes (Defined parameters body) = NamesOnly P takes parameters body
BodyNamesOnly P takes (Declared command) = Unit {0}

-- this holds of each element that a body names, which sees the earlier definitions alone
abbrev pub BodiesNameOnly : OfNames → Parameters → List Entry → Type 0
BodiesNameOnly P takes [] = Unit {0}
BodiesNameOnly P takes (e ∷ es) =
    BodyNamesOnly P takes e.origin × BodiesNameOnly P (with_parameters takes e) es

abbrev pub DefinitionsNameOnly : OfNames → Signature → Type 0
DefinitionsNameOnly P definitions =
    BodiesNameOnly P (operators_take definitions.theories) definitions.entries

-- ---- one element

-- a symbol that is neither one of the variables nor the name of a definition or of an operator
pub record IsNoOther (definitions : Signature) (variables : List (List ℕ)) (x : List ℕ) : Type 0 where
  pub variable : All (λ y. y ≢ x) variables
  pub definition : All (λ (e : Entry). e.name ≢ x) definitions.entries
  pub operator : (op : Op) → op_by definitions.theories x [] ≢ Ok op

-- a term names an element: by the symbol behind an `as`, or by its symbol alone
abbrev pub NamesElement : Signature → List (List ℕ) → Sexp → List ℕ → Type 0
NamesElement definitions variables term x =
    ((sort : Sexp) × (term ≡ Items (Cons (Reserved As) (Cons (Atom Symbol x) (Cons sort Nil)))))
    ⊎ ((term ≡ Atom Symbol x) × IsNoOther definitions variables x)

-- the term that two terms are equal
abbrev pub equation : Sexp → Sexp → Sexp
equation s t = Items (Cons (Atom Symbol (codes "=")) (Cons s (Cons t Nil)))
