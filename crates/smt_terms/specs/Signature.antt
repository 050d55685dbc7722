-- SMT-LIB 2.6, sections 4.2.3 and 5.1: a signature: the theories, the abbreviations of sorts in force, and
-- the names in force, with what they stand for, in the order in which they came.
use Rattle.std.specs.List.{filter}
use Rattle.std.specs.Prelude.{◌≡◌, ℕ, List, [], ◌∷◌, ◌++◌, Bool, true, false, not, Option, Some, None}
use Rattle.std.specs.Prelude.{option_and_then, map, bytes_eq, if◌then◌else◌}
use Rattle.smt_trees.specs.Sexp.{Sexp}
use Rattle.smt_theory.specs.Sort.{Sort}
use Rattle.smt_theory.specs.declared.theories.Theories.{Theories}
use Rattle.smt_terms.specs.Labels.{Labels, Refused, Given, Unread, with_labels}
use Rattle.smt_terms.specs.Elements.{ElementNames}
use Rattle.smt_terms.specs.SortTrees.{SortNames}
use Rattle.smt_terms.specs.declared.named_sort.NamedSort.{NamedSort}

-- where a name comes from: from the command that declared it, or from a definition with parameters and a body
pub data Origin : Type 0 where
  Declared : (command : ℕ) → Origin
  Defined : (parameters : List (List ℕ)) → (body : Sexp) → Origin

-- a name, its rank, and where it comes from
pub record Entry : Type 0 where
  pub name : List ℕ
  pub parameters : List Sort
  pub sort : Sort
  pub origin : Origin

-- the theories, and the names of sorts and the names in force, in order. The definitions of a model have besides
-- what a body may name elements by
pub record Signature : Type 0 where
  pub theories : Theories
  pub abbreviations : List (List ℕ × NamedSort)
  pub elements : Option ElementNames
  pub entries : List Entry

-- what the sort checker needs: the theories, what a term may name elements by, the names with their ranks, and
-- which labels a term may have
pub record Rank : Type 0 where
  pub parameters : List Sort
  pub sort : Sort

pub record Names : Type 0 where
  pub theories : Theories
  pub elements : Option ElementNames
  pub ranks : List (List ℕ × Rank)
  pub labels : Labels

abbrev pub rank_of_entry : Entry → Rank
rank_of_entry e = record { parameters = e.parameters; sort = e.sort }

abbrev pub ranks_of : List Entry → List (List ℕ × Rank)
ranks_of entries = map (λ e. (e.name, rank_of_entry e)) entries

-- those of a signature, without labels
abbrev pub names_of : Signature → Names
names_of s =
    record { theories = s.theories; elements = s.elements; ranks = ranks_of s.entries; labels = Refused }

-- the same in an assertion, before any label; and where no label is looked at
abbrev pub in_assertion : Names → Names
in_assertion names = record names { labels = Given [] }

abbrev pub unlabelled : Names → Names
unlabelled names = record names { labels = Unread }

-- the names without labels that these entries give
abbrev pub unlabelled_over : Theories → Option ElementNames → List Entry → Names
unlabelled_over theories elements entries =
    record { theories = theories; elements = elements; ranks = ranks_of entries; labels = Unread }

-- the names behind more labels, each with its term
abbrev pub behind : List (List ℕ × Sexp) → Names → Names
behind labels names = record names { labels = with_labels (map (λ l. l.0) labels) names.labels }

-- what names the sorts of a signature
abbrev pub sort_names_of : Signature → SortNames
sort_names_of s = record { theories = s.theories; abbreviations = s.abbreviations }

-- one more name
abbrev pub with_entry : Signature → Entry → Signature
with_entry s e = record s { entries = s.entries ++ e ∷ [] }

-- more names
abbrev pub with_entries : Signature → List Entry → Signature
with_entries s es = record s { entries = s.entries ++ es }

-- one more name of a sort
abbrev pub with_abbreviation : Signature → List ℕ → NamedSort → Signature
with_abbreviation s x named = record s { abbreviations = s.abbreviations ++ (x, named) ∷ [] }

-- no names
abbrev pub no_names : Theories → Signature
no_names theories = record { theories = theories; abbreviations = []; elements = None; entries = [] }

-- the entry of a name
abbrev pub entry_named : List Entry → List ℕ → Option Entry
entry_named [] x = None
entry_named (e ∷ es) x = if bytes_eq x e.name then Some e else entry_named es x

-- no name stands twice
abbrev pub AreDistinct : List Entry → Type 0
AreDistinct [] = Unit {0}
AreDistinct (e ∷ es) = (entry_named es e.name ≡ None) × AreDistinct es

-- a declaration
abbrev pub IsDeclared : Origin → Type 0
IsDeclared (Declared command) = Unit {0}
IsDeclared (Defined parameters body) = ⊥

-- there is an entry, and it has the rank of this one
abbrev pub KeepsRank : Entry → Option Entry → Type 0
KeepsRank e None = ⊥
KeepsRank e (Some d) = (d.parameters ≡ e.parameters) × (d.sort ≡ e.sort)

-- ---- what is declared, and what is defined

-- whether a command declared it
abbrev pub is_declared : Origin → Bool
is_declared (Declared command) = true
is_declared (Defined parameters body) = false

-- the entries that commands declared, in order
abbrev pub declared_among : List Entry → List Entry
declared_among entries = filter (λ e. is_declared e.origin) entries

-- those that are defined, in order
abbrev pub defined_among : List Entry → List Entry
defined_among entries = filter (λ e. not (is_declared e.origin)) entries

-- the entry, if a command declared it
abbrev pub if_declared : Entry → Origin → Option Entry
if_declared e (Declared command) = Some e
if_declared e (Defined parameters body) = None

-- what a name was declared as
abbrev pub declared_named : List Entry → List ℕ → Option Entry
declared_named entries x = option_and_then (λ e. if_declared e e.origin) (entry_named entries x)
