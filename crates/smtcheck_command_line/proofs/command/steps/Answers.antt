use Rattle.std.proofs.Common.{◌≡◌, ◌∙◌, ap, ap₂, codes, [], ◌∷◌, Some}
use Rattle.clap.specs.Words.{Rule, rule_of}
use Rattle.clap.specs.declared.builder.action.ArgAction.TheVariants.{Set}
use Rattle.clap.specs.declared.builder.value_parser.ValueParser.TheVariants.{Unsigned}
use Rattle.smtcheck_command_line.specs.Settings.{most_steps}
use Rattle.smtcheck_command_line.proofs.command.steps.Goals as goal

pub returns-clause-rule : goal.returns-clause-rule
returns-clause-rule c =
    let given = c.value_parser.ensures.given in
    let chosen : c.value_parser.result.value_parser ≡ Some (Unsigned 0 most_steps) = given.1 ∙ ap Some
    (given.2 ∙ c.unsigned.ensures) in
    let named = ap rule_of c.long.ensures ∙ ap
    (λ (r : Rule). record r { long = Some (codes "steps") }) c.new.ensures.rule in
    let set = ap rule_of c.action.ensures ∙ ap (λ (r : Rule). record r { action = Some Set }) named in
    let shown = ap rule_of c.value_name.ensures ∙ ap (λ (r : Rule). record r { value_names = 1 }) set in
    let parsed = ap rule_of c.value_parser.ensures.others ∙ ap₂
    (λ (r : Rule) o. record r { parser = o }) shown chosen in
    let defaulted = ap rule_of c.default_value.ensures ∙ ap
    (λ (r : Rule). record r { defaults = codes "10000000" ∷ [] }) parsed in
    ap rule_of c.long_help.ensures ∙ ap rule_of c.help.ensures ∙ defaulted
