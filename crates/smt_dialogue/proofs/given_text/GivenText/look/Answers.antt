use Rattle.std.proofs.Common.{◌∙◌, refl, sym, take}
use Rattle.smt_dialogue.proofs.GivenLemmas.{given_alike, given_looked, still_open}
use Rattle.smt_dialogue.specs.Internal.TreeQueueView.{is_wait}
use Rattle.smt_dialogue.proofs.given_text.GivenText.look.Goals as goal

pub loop-ahead-init : goal.loop-ahead-init
loop-ahead-init c = λ whole rest h. given_alike c.args.self.now _ refl refl refl whole rest h h.queue

pub returns-then-is_settled : goal.returns-then-is_settled
returns-then-is_settled c = record {
  looked = λ whole rest first.
      let x = c.loop-ahead.self in
      let h = c.loop-ahead.invariant whole rest first in
      given_looked x _ c.in_ok-ahead.ahead refl refl c.look.ensures.limit x.finished
      (sym c.is_settled.ensures ∙ c.if-is_settled.true) whole rest h
      (c.in_ok-ahead.ensures.ahead (take x.fed x.text.now) h.so_far h.left h.queue);
}

pub feed-requires : goal.feed-requires
feed-requires c = record {
  unended = still_open c.loop-ahead.self.ended (is_wait c.in_ok-ahead.ahead)
      (sym c.is_settled.ensures ∙ c.if-is_settled.false);
}

pub loop-ahead-smaller : goal.loop-ahead-smaller
loop-ahead-smaller c = c.feed.ensures.less

pub loop-ahead-preserved : goal.loop-ahead-preserved
loop-ahead-preserved c = λ whole rest first.
    let x = c.loop-ahead.self in
    let h = c.loop-ahead.invariant whole rest first in
    c.feed.ensures.given whole rest
    (given_alike x _ refl refl c.look.ensures.limit whole rest h
    (c.in_ok-ahead.ensures.ahead (take x.fed x.text.now) h.so_far h.left h.queue).0)
