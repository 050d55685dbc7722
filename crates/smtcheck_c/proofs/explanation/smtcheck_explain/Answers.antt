use Rattle.std.proofs.Common.{◌∙◌, List, ℕ, ap, length, subst}
use Rattle.smtcheck_c.specs.Told.{IsPut}
use Rattle.smtcheck_c.proofs.explanation.smtcheck_explain.Goals as goal

pub returns-in-Ok-clause-told : goal.returns-in-Ok-clause-told
returns-in-Ok-clause-told c = λ below. record {
  options = c.in-Some.given;
  options_are = c.in-Some.ensures;
  numbered = c.in-Ok.ensures.numbered;
  text = c.in-Ok.explained.text.items;
  wanted_is = c.put_text.ensures.wanted ∙ ap length c.as_slice.ensures.value;
  put = subst (λ (bytes : List ℕ). IsPut bytes c.args.text.now c.put_text.new.room) c.as_slice.ensures.value
      c.put_text.ensures.put;
}
