-- Which new names are fresh: those that nothing of their kind bears yet. No symbol is bound twice by the same
-- `let` or definition (SMT-LIB 2.6, sections 3.6.1 and 4.2.3); the rest is this project's rule.
use Rattle.std.specs.Prelude.{ℕ, List, Bool, not, ◌||◌, ◌&&◌, Option, Some, None, is_some, bytes_eq, codes, map}
use Rattle.std.specs.Prelude.{if◌then◌else◌}
use Rattle.smt_theory.specs.Operators.{is_plain_operator}
use Rattle.smt_theory.specs.Words.{look_up}
use Rattle.smt_theory.specs.Sort.{Sort}
use Rattle.smt_forms.specs.Variables.{is_among}
use Rattle.smt_terms.specs.Elements.{ElementNames, element_sort, names_element}
use Rattle.smt_terms.specs.Signature.{Entry, Names, Signature, declared_named, entry_named, names_of}
use Rattle.smt_terms.specs.Signature.{sort_names_of}
use Rattle.smt_terms.specs.SortTrees.{SortNames}
use Rattle.smt_faults.specs.declared.term_flaw.TermFlaw.{TermFlaw}
use Rattle.smt_faults.specs.declared.term_flaw.TermFlaw.TheVariants.{BoundTwice, NotFresh}

-- whether terms may name an element so
abbrev pub is_element : Names → List ℕ → Bool
is_element names x = names_element names.elements x

-- whether a name may not be declared or defined: it is an element's, stands for something, or is a plain operator of
-- the theories
abbrev pub is_taken : Names → List ℕ → Bool
is_taken names x =
    is_element names x || is_some (look_up names.ranks x) || is_plain_operator names.theories x

-- whether a name may not label a term: it is taken, or a label that was given before in the same assertion
abbrev pub is_label_taken : Names → List (List ℕ) → List ℕ → Bool
is_label_taken names labels x = is_taken names x || is_among labels x

-- whether a name is that of a sort of the theories that a profile knows: the wide one knows Reals and ArraysEx too
abbrev pub is_theory_sort : Bool → List ℕ → Bool
is_theory_sort wide x =
    bytes_eq x (codes "Bool") || bytes_eq x (codes "Int")
    || wide && (bytes_eq x (codes "Real") || bytes_eq x (codes "Array"))

-- whether a name may not be given to a new sort or abbreviation: it is that of a sort, or abbreviates one
abbrev pub is_sort_taken : SortNames → List ℕ → Bool
is_sort_taken names x = is_theory_sort names.theories.wide x || is_some (look_up names.abbreviations x)

-- whether an earlier variable of the same `let`, or an earlier parameter of the same definition, has the name
abbrev pub is_bound : List (List ℕ × Sort) → List ℕ → Bool
is_bound earlier x = is_some (look_up earlier x)

-- whether an earlier item of the same model has the name
abbrev pub is_defined_before : List Entry → List ℕ → Bool
is_defined_before earlier x = is_some (entry_named earlier x)

-- what the items of a model may name elements by: in the wide profile the sorts of the script, whose names are no
-- elements'
abbrev pub item_elements : Signature → Option ElementNames
item_elements script =
    if script.theories.wide
    then Some (record { sorts = sort_names_of script; taken = map (λ e. e.name) script.entries }) else None

-- whether a name has the form of those of elements of the script's sorts, in the wide profile: even one that the
-- script has
abbrev pub is_element_name : Signature → List ℕ → Bool
is_element_name script x = script.theories.wide && is_some (element_sort (sort_names_of script) x)

-- whether no item of a model may have the name: it is taken in the script, and not declared there
abbrev pub is_taken_undeclared : Signature → List ℕ → Bool
is_taken_undeclared script x =
    not (is_some (declared_named script.entries x)) && is_taken (names_of script) x

-- ---- one rule for each kind of name

-- what a new name is for, with what it has to differ from: a declaration or a definition; a label, behind
-- those of its assertion; an abbreviation of a sort; a variable of a `let` or a parameter of a definition,
-- behind the earlier ones; an item of a model of the script, behind the earlier ones
pub data NewName : Type 0 where
  NewSymbol : (names : Names) → NewName
  NewLabel : (names : Names) → (labels : List (List ℕ)) → NewName
  NewAbbreviation : (sorts : SortNames) → NewName
  NewVariable : (earlier : List (List ℕ × Sort)) → NewName
  NewItem : (script : Signature) → (earlier : List Entry) → NewName

-- what comes next where a new name is fresh, or else its refusal by the flaw that it has
abbrev pub where_fresh : {A : Type 0} → NewName → List ℕ → (TermFlaw → A) → A → A
where_fresh (NewSymbol names) x refuse next = if is_taken names x then refuse NotFresh else next
where_fresh (NewLabel names labels) x refuse next =
    if is_label_taken names labels x then refuse NotFresh else next
where_fresh (NewAbbreviation sorts) x refuse next = if is_sort_taken sorts x then refuse NotFresh else next
where_fresh (NewVariable earlier) x refuse next = if is_bound earlier x then refuse BoundTwice else next
where_fresh (NewItem script earlier) x refuse next =
    if is_defined_before earlier x then refuse BoundTwice
    else if is_element_name script x || is_taken_undeclared script x then refuse NotFresh else next

-- what is wrong with the name of an item
abbrev pub name_flaw : Signature → List Entry → List ℕ → Option TermFlaw
name_flaw script earlier x = where_fresh (NewItem script earlier) x Some None
