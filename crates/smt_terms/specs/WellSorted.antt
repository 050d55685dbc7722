-- SMT-LIB 2.6, section 5.2: definitions that are well sorted, and names that keep the sorts of terms.
use Rattle.std.specs.Prelude.{◌≡◌, ℕ, List, [], ◌∷◌, ◌++◌, false, length, Option, Some, None, bytes_eq, Ok}
use Rattle.std.specs.List.{list_any, zip}
use Rattle.smt_trees.specs.Sexp.{Sexp}
use Rattle.smt_theory.specs.Operators.{is_plain_operator}
use Rattle.smt_theory.specs.Words.{look_up}
use Rattle.smt_theory.specs.Sort.{Sort}
use Rattle.smt_theory.specs.declared.theories.Theories.{Theories}
use Rattle.smt_terms.specs.Checking.{sort_in}
use Rattle.smt_terms.specs.Elements.{ElementNames, names_element}
use Rattle.smt_terms.specs.Labels.{Unread}
use Rattle.smt_terms.specs.Signature.{Entry, Names, Origin, Rank, Declared, Defined, entry_named}
use Rattle.smt_terms.specs.Signature.{unlabelled_over}

-- no name stands twice
abbrev pub AreDifferent : List (List ℕ) → Type 0
AreDifferent [] = Unit {0}
AreDifferent (x ∷ xs) = (list_any (bytes_eq x) xs ≡ false) × AreDifferent xs

-- a definition with these parameters and this body: it has a sort for each parameter, no parameter stands
-- twice, and its body has its sort, over the earlier names and its parameters
pub record IsDefinition (names : Names) (sorts : List Sort) (sort : Sort) (parameters : List (List ℕ))
    (body : Sexp) : Type 0 where
  pub counted : length parameters ≡ length sorts
  pub different : AreDifferent parameters
  pub sorted : sort_in names (zip parameters sorts) body ≡ Ok sort

abbrev pub IsWellSortedFrom : Names → List Sort → Sort → Origin → Type 0
IsWellSortedFrom names sorts sort (Defined parameters body) = IsDefinition names sorts sort parameters body
IsWellSortedFrom names sorts sort (Declared command) = ⊥

-- the entry is a definition that is well sorted over the earlier ones, where terms may name elements of these sorts
abbrev pub IsWellSorted : Theories → Option ElementNames → List Entry → Entry → Type 0
IsWellSorted theories elements earlier e =
    IsWellSortedFrom (unlabelled_over theories elements earlier) e.parameters e.sort e.origin

-- each definition is well sorted over the earlier ones
abbrev pub AreWellSorted : Theories → Option ElementNames → List Entry → List Entry → Type 0
AreWellSorted theories elements earlier [] = Unit {0}
AreWellSorted theories elements earlier (e ∷ es) =
    IsWellSorted theories elements earlier e × AreWellSorted theories elements (earlier ++ e ∷ []) es

-- elements that terms may name stay; where there were none, any may come
abbrev pub KeepsElements : (elements more : Option ElementNames) → Type 0
KeepsElements None more = Unit {0}
KeepsElements (Some sorts) more = more ≡ Some sorts

-- more names, over which the terms of these keep their sorts: the theories are the same, a name keeps its
-- rank, no name that is new is a plain operator's or an element's, and labels are not looked at
pub record Keeps (names more : Names) : Type 0 where
  pub theories : more.theories ≡ names.theories
  pub elements : KeepsElements names.elements more.elements
  pub ranks : (x : List ℕ) (rank : Rank) → look_up names.ranks x ≡ Some rank
      → look_up more.ranks x ≡ Some rank
  pub labels : more.labels ≡ Unread
  pub fresh : (x : List ℕ) (rank : Rank) → look_up names.ranks x ≡ None → look_up more.ranks x ≡ Some rank
      → is_plain_operator names.theories x ≡ false
  pub apart : (x : List ℕ) (rank : Rank) → look_up names.ranks x ≡ None → look_up more.ranks x ≡ Some rank
      → names_element names.elements x ≡ false

-- ---- the names of a script

-- a declared name, or a definition that is well sorted over these names
abbrev pub IsSortedIfDefined : Names → List Sort → Sort → Origin → Type 0
IsSortedIfDefined names sorts sort (Defined parameters body) = IsDefinition names sorts sort parameters body
IsSortedIfDefined names sorts sort (Declared command) = Unit {0}

-- the name is new among the earlier ones and no operator's, and a definition is well sorted over the earlier
-- ones
pub record IsIntroduced (theories : Theories) (elements : Option ElementNames) (earlier : List Entry)
    (e : Entry) : Type 0 where
  pub new : entry_named earlier e.name ≡ None
  pub free : is_plain_operator theories e.name ≡ false
  pub sorted : IsSortedIfDefined (unlabelled_over theories elements earlier) e.parameters e.sort e.origin

-- each name is introduced behind the earlier ones
abbrev pub AreIntroduced : Theories → Option ElementNames → List Entry → List Entry → Type 0
AreIntroduced theories elements earlier [] = Unit {0}
AreIntroduced theories elements earlier (e ∷ es) =
    IsIntroduced theories elements earlier e × AreIntroduced theories elements (earlier ++ e ∷ []) es
