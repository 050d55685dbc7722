use Rattle.smtcheck_c.proofs.FeedLemmas.{held_feeds}
use Rattle.smtcheck_c.proofs.session.smtcheck_session_answers.Goals as goal

pub answers-outcome-requires-clause-feeds : goal.answers-outcome-requires-clause-feeds
answers-outcome-requires-clause-feeds c = (
  c.requires.feeds.0,
  held_feeds c.args.session.now.feed c.take-feed.result.value _ c.requires.feeds.0 c.take-feed.ensures.taken
      c.deref_mut.ensures.value c.requires.feeds.1,
)

pub returns-clause-feeds : goal.returns-clause-feeds
returns-clause-feeds c = λ h held. (
  c.answers-outcome.new.self,
  c.put.ensures,
  c.answers-outcome.ensures.feeds h (held_feeds c.args.session.now.feed c.take-feed.result.value _ h c.take-feed.ensures.taken
      c.deref_mut.ensures.value held),
)
