-- What a contract sees of a parameter.
use Rattle.std.specs.Prelude.{ℕ, List}
use Rattle.smt_trees.specs.Sexp.{Sexp}
use Rattle.smt_trees.specs.View.{sexp_of}
use Rattle.smt_forms.specs.declared.params.Param.{Param}

abbrev pub param_view : Param → List ℕ × Sexp
param_view param = (param.name.now, sexp_of param.sort)
