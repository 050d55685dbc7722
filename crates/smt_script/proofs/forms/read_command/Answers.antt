use Rattle.std.proofs.Common.{◌≡◌, Ok, Err, MatchResult, ap, sym, subst, ◌∙◌}
use Rattle.smt_trees.specs.Sexp.{Items, Sexp}
use Rattle.smt_trees.specs.View.{sexp_of, sexps_of}
use Rattle.smt_script.specs.Command.{command_of}
use Rattle.smt_script.specs.CommandView.{command_view}
use Rattle.smt_script.proofs.ProfileLemmas.{named_read}
use Rattle.smt_script.proofs.forms.read_command.Goals as goal

pub returns-in_default-head : goal.returns-in_default-head
returns-in_default-head c =
    subst (λ (t : Sexp). MatchResult c.named_command.result
    (λ command. command_of c.args.profile t ≡ Ok (command_view command))
    (λ flaw. command_of c.args.profile t ≡ Err flaw))
    (sym (ap sexp_of c.in-List.is ∙ ap Items c.in-Some.ensures))
    (named_read c.named_command.result c.args.profile c.in-Some.head (sexps_of c.in-Some.rest)
    c.in_default-head.not-Reserved c.named_command.ensures)
