use Rattle.std.proofs.Common.{◌+◌, false, refl, subst, take, true}
use Rattle.smt_dialogue.proofs.GivenLemmas.{all_fed, given_on, piece_on}
use Rattle.smt_dialogue.specs.Internal.TreeQueueView.{GoesOnFrom}
use Rattle.smt_dialogue.proofs.given_text.GivenText.feed.Goals as goal

pub returns-then-is_empty-clause-given : goal.returns-then-is_empty-clause-given
returns-then-is_empty-clause-given c =
    let x = c.args.self.now in
    given_on c.one_reading.ensures.one c.read_trees_stay.ensures.stay c.read_faults_stay.ensures.stay
    c.every_text_reads.ensures.some x _ true refl c.finish.ensures.limit
    (λ _. all_fed x.fed x.text.now c.if-is_empty.ensures)
    (c.finish.ensures.goes_on (take x.fed x.text.now))

pub returns-clause-given : goal.returns-clause-given
returns-clause-given c =
    let x = c.args.self.now in
    given_on c.one_reading.ensures.one c.read_trees_stay.ensures.stay c.read_faults_stay.ensures.stay
    c.every_text_reads.ensures.some x _ false refl c.feed.ensures.limit (λ e. absurd (cc))
    (subst (GoesOnFrom x.queue c.feed.new.self (take x.fed x.text.now) false)
    (piece_on x.fed c.min-count.result x.text.now) (c.feed.ensures.goes_on (take x.fed x.text.now)))
