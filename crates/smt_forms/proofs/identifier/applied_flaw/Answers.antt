use Rattle.std.proofs.Common.{ap, ◌∙◌}
use Rattle.smt_trees.specs.Sexp.{Atom, Symbol}
use Rattle.smt_trees.specs.View.{sexp_of, sexps_of}
use Rattle.smt_forms.specs.Identifier.{Plain, applied_in}
use Rattle.smt_forms.proofs.identifier.applied_flaw.Goals as goal

pub returns-in-Some : goal.returns-in-Some
returns-in-Some c =
    let name = c.in-Symbol.field-0.now in (
      Plain name,
      ap (λ t. applied_in c.args.wide (sexp_of t) (sexps_of c.args.args)) c.in-Symbol.is
          ∙ ap (λ ts. applied_in c.args.wide (Atom Symbol name) ts) c.in-Some.ensures,
    )
