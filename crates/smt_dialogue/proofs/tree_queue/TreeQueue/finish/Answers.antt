use Rattle.std.proofs.Common.{[], false, refl, sym, true}
use Rattle.std.proofs.lemmas.List.{append-nil}
use Rattle.smt_dialogue.specs.SoFar.{AreGrown, IsGrown}
use Rattle.smt_text.specs.Reader.{depth_limit}
use Rattle.smt_dialogue.proofs.FeedLemmas.{front_more, read_now, read_open}
use Rattle.smt_dialogue.proofs.ReadSoFarLemmas.{grown_text}
use Rattle.smt_dialogue.proofs.tree_queue.TreeQueue.finish.Goals as goal

pub returns-clause-goes_on : goal.returns-clause-goes_on
returns-clause-goes_on c = λ bytes text grown rest h read.
    let f = c.args.self.now in
    let g : AreGrown false bytes true bytes = record {
      more = [];
      bytes_are = sym (append-nil bytes);
      none_behind = λ told. absurd (cc);
    } in
    let s : IsGrown text grown = grown_text c.one_reading.ensures.one c.read_trees_stay.ensures.stay
    c.read_faults_stay.ensures.stay (depth_limit f.reader) false bytes true bytes text grown g
    (read_open f bytes text rest c.requires.open h) read in (
      s,
      front_more f _ bytes bytes text grown rest s refl c.finish.ensures.limit
          (λ taken stands. c.finish.ensures.stands bytes taken stands)
          (read_now (depth_limit f.reader) c.finish.new.self true bytes grown c.finish.ensures.finished read) h,
    )
