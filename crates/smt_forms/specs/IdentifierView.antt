-- What a contract sees of an identifier.
use Rattle.std.specs.Prelude.{map}
use Rattle.smt_theory.specs.Index.{index_view}
use Rattle.smt_trees.specs.View.{sexp_of}
use Rattle.smt_forms.specs.Identifier as spec
use Rattle.smt_forms.specs.declared.identifier.Identifier.{Identifier}
use Rattle.smt_forms.specs.declared.identifier.Identifier.TheVariants.{Plain, Indexed, Qualified}

abbrev pub identifier_view : Identifier → spec.Identifier
identifier_view (Plain name) = spec.Plain name.now
identifier_view (Indexed name indexes) = spec.Indexed name.now (map index_view indexes.items)
identifier_view (Qualified sort) = spec.Qualified (sexp_of sort)
