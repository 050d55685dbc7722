use Rattle.std.proofs.Common.{◌≡◌, [], drop, map}
use Rattle.smt_terms.specs.Definitions.{parameters_named}
use Rattle.smt_terms.specs.Internal.LibraryView.{sort_names}
use Rattle.smt_forms.specs.NamesIn.{names_in}
use Rattle.smt_forms.specs.ParamView.{param_view}
use Rattle.smt_forms.specs.ScopeView.{scope_view}
use Rattle.smt_terms.proofs.library.params.push_sorted.Given as goal

abbrev pub invariant-loop-param : goal.invariant-loop-param
invariant-loop-param l = record {
  answer : parameters_named (sort_names l.sorts) [] (map param_view l.params)
      ≡ parameters_named (sort_names l.sorts) (scope_view l.variables.items)
      (map param_view (drop l.param-index l.params));
  names : names_in l.names ≡ map (λ v. v.0) (scope_view l.variables.items);
}
