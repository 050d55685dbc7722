-- SMT-LIB 2.6, section 4.2.3: the names of the sorts that commands declare.
use Rattle.std.specs.Prelude.{ℕ, List, [], ◌∷◌, Bool, ◌&&◌, Option, Some, None, if◌then◌else◌}
use Rattle.smt_theory.specs.Sort.{is_same_sort}
use Rattle.smt_theory.specs.Sort.{Sort}
use Rattle.smt_terms.specs.declared.named_sort.NamedSort.{NamedSort}

-- whether a name stands for the sort because a command declared it
abbrev pub declares : NamedSort → Sort → Bool
declares named sort = named.is_declared && is_same_sort named.sort sort

-- the name of a declared sort
abbrev pub name_of_sort : List (List ℕ × NamedSort) → Sort → Option (List ℕ)
name_of_sort [] sort = None
name_of_sort (p ∷ ps) sort = if declares p.1 sort then Some p.0 else name_of_sort ps sort
