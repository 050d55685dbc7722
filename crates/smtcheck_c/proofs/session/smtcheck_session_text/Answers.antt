use Rattle.smtcheck_c.proofs.FeedLemmas.{held_feeds}
use Rattle.smtcheck_c.proofs.session.smtcheck_session_text.Goals as goal

pub returns-in-Ok-clause-kept : goal.returns-in-Ok-clause-kept
returns-in-Ok-clause-kept c = λ e. absurd (c.verdict-outcome.ensures.told e)

pub returns-in-Ok-clause-text : goal.returns-in-Ok-clause-text
returns-in-Ok-clause-text c = λ e. absurd (c.verdict-outcome.ensures.told e)

pub returns-in-Ok-clause-wanted : goal.returns-in-Ok-clause-wanted
returns-in-Ok-clause-wanted c = λ e. absurd (c.verdict-outcome.ensures.told e)

pub returns-in-Err-clause-kept : goal.returns-in-Err-clause-kept
returns-in-Err-clause-kept c = λ _ h held. (
  c.give-given.new.self,
  c.put.ensures,
  c.in-Err.ensures.kept h (held_feeds c.args.session.now.feed c.take-feed.result.value _ h c.take-feed.ensures.taken
      c.deref_mut.ensures.value held),
)

pub returns-in-Ok-clause-held : goal.returns-in-Ok-clause-held
returns-in-Ok-clause-held c = (c.give-given.new.self, c.put.ensures)

pub returns-in-Err-clause-held : goal.returns-in-Err-clause-held
returns-in-Err-clause-held c = (c.give-given.new.self, c.put.ensures)
