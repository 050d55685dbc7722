use Rattle.std.proofs.Common.{◌∙◌, ap}
use Rattle.smtcheck_c.specs.declared.session_handle.SmtcheckSession.{SmtcheckSession}
use Rattle.smtcheck_c.proofs.session_handle.take.Goals as goal

pub into_box-requires : goal.into_box-requires
into_box-requires c =
    (c.requires.0, c.unwrap.ensures ∙ ap (λ (s : SmtcheckSession). s.feed) c.replace.ensures.value ∙ c.requires.1)
