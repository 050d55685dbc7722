-- What a contract sees of a set of names, in the order in which they came.
use Rattle.std.specs.Prelude.{ℕ, List}
use Rattle.smt_forms.specs.declared.name_set.NameSet.{NameSet}

unfoldable pub names_in : NameSet → List (List ℕ)
names_in set = set.places
