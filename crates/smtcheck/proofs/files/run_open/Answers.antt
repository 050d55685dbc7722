use Rattle.std.proofs.Common.{MutBor, ap, refl, ◌∙◌}
use Rattle.smt_streams.specs.Device.{device_inner}
use Rattle.smtcheck.proofs.StatusLemmas.{run_summary}
use Rattle.smtcheck.proofs.files.run_open.Goals as goal

pub returns : goal.returns
returns g c =
    run_summary c.args.settings _ (g.S.Read.remaining c.args.script.now) (g.A.Read.remaining c.args.answers.now) _ _ _
    c.in_ok-summary.summary (record { print_success = refl; profile = refl; steps = refl })
    (ap (λ d. g.S.Read.remaining (device_inner {T = MutBor g.row.S.Denot} d).now) c.new-script.ensures
    ∙ ap (λ (r : MutBor g.row.S.Denot). g.S.Read.remaining r.now) c.new.ensures.inner)
    (ap (λ d. g.A.Read.remaining (device_inner {T = MutBor g.row.A.Denot} d).now) c.new-answers.ensures
    ∙ ap (λ (r : MutBor g.row.A.Denot). g.A.Read.remaining r.now) c.new-2.ensures.inner)
    c.in_ok-summary.ensures.ran
