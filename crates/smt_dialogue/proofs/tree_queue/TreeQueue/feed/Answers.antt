use Rattle.std.proofs.Common.{◌++◌, false, refl}
use Rattle.smt_dialogue.specs.SoFar.{AreGrown, IsGrown}
use Rattle.smt_text.specs.Reader.{depth_limit}
use Rattle.smt_dialogue.proofs.FeedLemmas.{front_more, read_now, read_open}
use Rattle.smt_dialogue.proofs.ReadSoFarLemmas.{grown_text}
use Rattle.smt_dialogue.proofs.tree_queue.TreeQueue.feed.Goals as goal

pub returns-clause-goes_on : goal.returns-clause-goes_on
returns-clause-goes_on c = λ bytes text grown rest h read.
    let f = c.args.self.now in
    let more = bytes ++ c.args.piece.now in
    let g : AreGrown false bytes false more = record {
      more = c.args.piece.now;
      bytes_are = refl;
      none_behind = λ told. absurd (cc);
    } in
    let s : IsGrown text grown = grown_text c.one_reading.ensures.one c.read_trees_stay.ensures.stay
    c.read_faults_stay.ensures.stay (depth_limit f.reader) false bytes false more text grown g
    (read_open f bytes text rest c.requires.open h) read in (
      s,
      front_more f _ bytes more text grown rest s refl c.feed.ensures.limit
          (λ taken stands. c.feed.ensures.stands bytes taken stands)
          (read_now (depth_limit f.reader) c.feed.new.self false more grown c.feed.ensures.finished read) h,
    )
