use Rattle.std.proofs.Common.{ℕ, max, ◌≡◌, ◌∙◌, ◌++◌, Bool, ap, ap₂, codes, List, map, Option, [], ◌∷◌, Some, None, sym}
use Rattle.std.specs.Borrow.{Bor}
use Rattle.std.specs.Option.{IsSomeAnd}
use Rattle.std.proofs.lemmas.List.{map-append}
use Rattle.std.proofs.lemmas.Result.{IfOk-weaker}
use Rattle.clap.specs.Words.{Rule, Text, rule_of}
use Rattle.clap.specs.declared.builder.range.ValueRange.{ValueRange}
use Rattle.smtcheck_command_line.specs.Settings.{Places, explain_rule, form_word, forms, word_rule}
use Rattle.smtcheck_command_line.proofs.command.explain.Goals as goal

abbrev between : ℕ → ℕ → ValueRange
between start end = record { start_inclusive = start; end_inclusive = max end start }

is_range : (o : Option ValueRange) (r : ValueRange) → IsSomeAnd o (λ x. x ≡ r) → o ≡ Some r
is_range None r e = absurd e
is_range (Some x) r e = ap Some e

-- the names of aliases
abbrev names : List (Bor Text × Bool) → List Text
names = map (λ alias. alias.0.now)

-- the option with a word that may be missing
abbrev optional : Places → Rule
optional places = record (word_rule (codes "explain") (map form_word forms) places) {
  range = Some (between 0 1);
  missing = codes "text" ∷ [];
}

optional_rule : (places : Places) (chosen : Rule) (o : Option ValueRange) (start end : ℕ)
    → chosen ≡ word_rule (codes "explain") (map form_word forms) places
    → IsSomeAnd o (λ r. r ≡ between start end) → start ≡ 0 → end ≡ 1
    → record chosen { range = o; missing = codes "text" ∷ [] } ≡ optional places
optional_rule places chosen o start end choice is no_word one_word =
    ap₂ (λ (r : Rule) range. record r { range = range; missing = codes "text" ∷ [] }) choice
    (is_range o (between start end) is ∙ ap₂ (λ s e. Some (between s e)) no_word one_word)

pub returns-then-takes_form-clause-rule : goal.returns-then-takes_form-clause-rule
returns-then-takes_form-clause-rule c =
    let places = c.choice.ensures.rule.0 in
    let optional = optional_rule places _ _ _ _ c.choice.ensures.rule.1 c.num_args.ensures.1 c.new.ensures.start
    c.new.ensures.end in
    let meant = ap rule_of c.default_missing_value.ensures ∙ ap
    (λ (r : Rule). record r { missing = codes "text" ∷ [] }) (ap rule_of c.num_args.ensures.0) ∙ optional in
    let option = ap rule_of c.long_help-option.ensures ∙ ap rule_of c.help.ensures ∙ meant in
    (places, option ∙ ap (λ b. explain_rule b places) (sym c.if-takes_form.true))

pub returns-clause-rule : goal.returns-clause-rule
returns-clause-rule c =
    let places = c.choice.ensures.rule.0 in
    let optional = optional_rule places _ _ _ _ c.choice.ensures.rule.1 c.num_args.ensures.1 c.new.ensures.start
    c.new.ensures.end in
    let meant = ap rule_of c.default_missing_value.ensures ∙ ap
    (λ (r : Rule). record r { missing = codes "text" ∷ [] }) (ap rule_of c.num_args.ensures.0) ∙ optional in
    let option = ap rule_of c.long_help-option.ensures ∙ ap rule_of c.help.ensures ∙ meant in
    let named = ap rule_of c.long.ensures ∙ ap
    (λ (r : Rule). record r { long = Some (codes "explain[=<FORM>]") }) option in
    let none = ap rule_of c.num_args-2.ensures.0 ∙ ap₂ (λ (r : Rule) o. record r { range = o }) named
    (is_range _ (between 0 0) c.num_args-2.ensures.1) in
    IfOk-weaker c.alias.result _ _
    (λ r added. (
      places,
      ap rule_of added.0
          ∙ ap₂ (λ (r : Rule) l. record r { aliases = l }) none
          (ap names added.1 ∙ map-append (λ (alias : Bor Text × Bool). alias.0.now) _ _
          ∙ ap (λ l. l ++ codes "explain" ∷ []) (ap (λ (r : Rule). r.aliases) none))
          ∙ ap (λ b. explain_rule b places) (sym c.if-takes_form.false),
    ))
    c.alias.ensures
