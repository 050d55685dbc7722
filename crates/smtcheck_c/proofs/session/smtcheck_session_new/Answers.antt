use Rattle.std.proofs.Common.{subst, sym}
use Rattle.smt_dialogue.specs.History.{begun}
use Rattle.smtcheck_c.specs.Feed.{Feeds}
use Rattle.smtcheck_c.specs.declared.feed.Feed.{Feed}
use Rattle.smtcheck_c.proofs.session.smtcheck_session_new.Goals as goal

pub returns-in-Ok-clause-begun : goal.returns-in-Ok-clause-begun
returns-in-Ok-clause-begun c = λ _. (
  c.in-Some.given,
  c.in-Some.ensures,
  (c.in-Ok.feed.value, c.put.ensures, subst (λ (f : Feed). Feeds f (begun c.in-Some.given)) (sym c.in-Ok.ensures.ok) c.new.ensures.feeds),
)
