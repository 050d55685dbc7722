use Rattle.std.proofs.Common.{◌∙◌, List, ℕ, ap, length, subst}
use Rattle.std.specs.Prelude.{string_bytes}
use Rattle.smtcheck_c.specs.Told.{IsPut}
use Rattle.smtcheck_c.proofs.validation.smtcheck_validate.Goals as goal

pub returns-in-Ok-clause-told : goal.returns-in-Ok-clause-told
returns-in-Ok-clause-told c = λ below. record {
  options = c.in-Some.given;
  options_are = c.in-Some.ensures;
  text = string_bytes c.in-Ok.telling.text;
  telling = c.in-Ok.ensures.telling;
  wanted_is = c.put_text.ensures.wanted ∙ ap length c.as_bytes.ensures.value;
  put = subst (λ (bytes : List ℕ). IsPut bytes c.args.text.now c.put_text.new.room) c.as_bytes.ensures.value
      c.put_text.ensures.put;
}

pub returns-in-Ok-clause-valid : goal.returns-in-Ok-clause-valid
returns-in-Ok-clause-valid c = λ e. record {
  options = c.in-Some.given;
  options_are = c.in-Some.ensures;
  valid = c.in-Ok.ensures.telling.valid e;
}

pub returns-in-Ok-clause-invalid : goal.returns-in-Ok-clause-invalid
returns-in-Ok-clause-invalid c = λ e. record {
  options = c.in-Some.given;
  options_are = c.in-Some.ensures;
  lines = c.in-Ok.ensures.telling.lines;
  report = c.in-Ok.ensures.telling.report;
  invalid = c.in-Ok.ensures.telling.invalid e;
}
