-- The names that a library's fields hold.
use Rattle.std.specs.Prelude.{ℕ, List, Option, Some, None, map, option_map, if◌then◌else◌}
use Rattle.smt_names.specs.Entries.{entries_of}
use Rattle.smt_names.specs.declared.map.NameMap.{NameMap}
use Rattle.smt_terms.specs.Labels.{Labels, Refused}
use Rattle.smt_terms.specs.Signature.{Names, Rank}
use Rattle.smt_terms.specs.Elements as elements
use Rattle.smt_terms.specs.SortTrees as trees
use Rattle.smt_terms.specs.declared.named_sort.NamedSort.{NamedSort}
use Rattle.smt_terms.specs.declared.sorts.SortNames.{SortNames}
use Rattle.smt_terms.specs.declared.library.Entry.{Entry}
use Rattle.smt_terms.specs.declared.library.Found.{Found}
use Rattle.smt_terms.specs.declared.library.Library.{Library}
use Rattle.smt_terms.specs.declared.library.element_names.ElementNames.{ElementNames}

-- the rank of a name
abbrev pub rank_of : Entry → Rank
rank_of e = record { parameters = e.parameters.items; sort = e.sort }

-- the names in order, with their ranks
abbrev pub ranks_of_library : Library → List (List ℕ × Rank)
ranks_of_library library = map (λ p. (p.0, rank_of p.1)) (entries_of library.names)

-- the names alone, in order
abbrev pub names_alone : NameMap Entry → List (List ℕ)
names_alone names = map (λ p. p.0) (entries_of names)

-- the names in order, with where they stand
abbrev pub places_of_library : Library → List (List ℕ × Found)
places_of_library library = map (λ p. (p.0, p.1.place)) (entries_of library.names)

-- the names of sorts, in order, with what they stand for
abbrev pub abbreviations_of : SortNames → List (List ℕ × NamedSort)
abbreviations_of sorts = entries_of sorts.abbreviations

-- what names sorts
abbrev pub sort_names : SortNames → trees.SortNames
sort_names sorts = record { theories = sorts.theories; abbreviations = abbreviations_of sorts }

-- what terms may name elements by
abbrev pub element_names : ElementNames → elements.ElementNames
element_names names = record { sorts = sort_names names.sorts.now; taken = names_alone names.names.now }

abbrev pub elements_of_library : Library → Option elements.ElementNames
elements_of_library library = option_map element_names library.elements

-- what the items of models of a library's names may name elements by
abbrev pub elements_lent : Library → Option elements.ElementNames
elements_lent library =
    if library.sorts.theories.wide
    then Some (record { sorts = sort_names library.sorts; taken = names_alone library.names }) else None

-- what the sort checker needs, without labels
abbrev pub names_of_library : Library → Names
names_of_library library =
    record {
      theories = library.sorts.theories;
      elements = elements_of_library library;
      ranks = ranks_of_library library;
      labels = Refused;
    }

-- the same where a term may have these labels
abbrev pub names_for : Library → Labels → Names
names_for library labels = record (names_of_library library) { labels = labels }

-- what names the sorts of constant arrays
abbrev pub constant_sorts_of : Library → trees.SortNames
constant_sorts_of library = elements.constant_sorts library.sorts.theories (elements_of_library library)
