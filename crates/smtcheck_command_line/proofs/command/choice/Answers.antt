use Rattle.std.proofs.Common.{◌∙◌, ap, ap₂, Some}
use Rattle.clap.specs.Words.{Rule, rule_of}
use Rattle.clap.specs.declared.builder.action.ArgAction.TheVariants.{Set}
use Rattle.smtcheck_command_line.proofs.WordRuleLemmas.{with_places}
use Rattle.smtcheck_command_line.proofs.command.choice.Goals as goal

pub returns-clause-rule : goal.returns-clause-rule
returns-clause-rule c =
    let given = c.value_parser.ensures.given in
    let chosen = with_places _ _ _ given.1 given.2 in
    let named = ap rule_of c.long.ensures ∙ ap
    (λ (r : Rule). record r { long = Some c.args.id.now }) c.new.ensures.rule in
    let set = ap rule_of c.action.ensures ∙ ap (λ (r : Rule). record r { action = Some Set }) named in
    let shown = ap rule_of c.value_name.ensures ∙ ap (λ (r : Rule). record r { value_names = 1 }) set in
    let parsed = ap rule_of c.value_parser.ensures.others ∙ ap₂
    (λ (r : Rule) o. record r { parser = o }) shown chosen.1 in
    (chosen.0, ap rule_of c.hide_possible_values.ensures ∙ parsed)
