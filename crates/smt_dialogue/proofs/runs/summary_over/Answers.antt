use Rattle.smt_dialogue.proofs.RunLemmas.{has_run, stopped_at, told_summary}
use Rattle.smt_dialogue.proofs.runs.summary_over.Goals as goal

pub unreachable-requires : goal.unreachable-requires
unreachable-requires g c =
    let r = c.in-Ok.ensures.followed c.requires.stands.0 c.requires.stands.1 in
    told_summary _ c.requires.stands.0 _ _ c.follow.new.session c.in-Ok.ensures.rest.failure c.in-Ok.ensures.ends r
    (c.in-None.ensures.told _ r.stands)

pub returns-in-Some-clause-ran : goal.returns-in-Some-clause-ran
returns-in-Some-clause-ran g c = λ options k.
    let s = c.follow.new.session in
    let rest = c.in-Ok.ensures.rest in
    has_run _ options _ _ s c.in-Some.summary rest.failure (c.requires.all_put s rest.done) c.in-Ok.ensures.ends
    (c.in-Ok.ensures.followed options k) c.in-Some.ensures.told
    (λ h on. c.in-Some.ensures.valid h on) (λ h on. c.in-Some.ensures.invalid h on)

pub returns-in-Err-clause-stopped : goal.returns-in-Err-clause-stopped
returns-in-Err-clause-stopped g c = λ options k.
    stopped_at g.L.Outlet.is_done c.in-Err.fault _ options _ _ c.follow.new.session c.requires.all_put
    (c.in-Err.ensures.followed options k)
