use Rattle.std.proofs.Common.{ap, ◌∙◌}
use Rattle.smt_theory.specs.Words.{result_and_then}
use Rattle.smt_trees.specs.View.{sexp_of}
use Rattle.smt_forms.specs.Identifier.{Qualified, of_profile}
use Rattle.smt_forms.proofs.identifier.qualified_flaw.Goals as goal

pub returns-in-Some : goal.returns-in-Some
returns-in-Some c =
    let sort = sexp_of c.in-Some.field-0 in (
      Qualified sort,
      ap (λ r. result_and_then r (of_profile c.args.wide)) c.in-Some.ensures
          ∙ ap (λ wide. of_profile wide (Qualified sort)) c.if-wide.true,
    )
