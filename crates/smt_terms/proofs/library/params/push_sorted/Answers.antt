use Rattle.std.proofs.Common.{◌≡◌, ℕ, Bool, List, rules, ap, sym, ◌∙◌, arith}
use Rattle.std.proofs.lemmas.Grind.{common_steps}
use Rattle.smt_forms.specs.ScopeView.{scope_view}
use Rattle.smt_forms.specs.Variables.{is_among}
use Rattle.smt_terms.proofs.DraftLemmas.{among}
use Rattle.smt_terms.proofs.library.params.push_sorted.Goals as goal

told : (seen names : List (List ℕ)) (name : List ℕ) (answer b : Bool) → names ≡ seen
    → answer ≡ is_among names name → answer ≡ b → is_among seen name ≡ b
told seen names name answer b same is h = ap (λ xs. is_among xs name) (sym same) ∙ sym is ∙ h

pub returns-in_err-push_variable : goal.returns-in_err-push_variable
returns-in_err-push_variable c = search rules

pub returns-then-contains : goal.returns-then-contains
returns-then-contains c =
    let has = told _ _ _ _ _ c.loop-param.invariant.names c.contains.ensures c.if-contains.true in
    let found = sym (among (scope_view c.loop-param.variables.items) _) ∙ has in
    grind (arith, common_steps, found)

pub loop-param-preserved : goal.loop-param-preserved
loop-param-preserved c =
    let has = told _ _ _ _ _ c.loop-param.invariant.names c.contains.ensures c.if-contains.false in
    let absent = sym (among (scope_view c.loop-param.variables.items) _) ∙ has in
    grind (arith, common_steps, absent)
