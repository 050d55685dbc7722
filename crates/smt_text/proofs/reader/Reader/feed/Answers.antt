use Rattle.std.proofs.Common.{◌+◌, ◌++◌, length, subst, sym, ap, refl, ◌∙◌}
use Rattle.smt_text.proofs.ReaderLemmas.{none_if, stands_read, stands_skip}
use Rattle.smt_text.proofs.TreeEndLemmas.{ends_read, ends_skip}
use Rattle.smt_text.specs.Reader.{KeepsEnds, StandsFor}
use Rattle.smt_text.specs.declared.reader.Reader.{Reader}
use Rattle.smt_text.proofs.reader.Reader.feed.Goals as goal
use Rattle.smt_text.proofs.reader.Reader.feed.Goals.{then-is_none, else-is_none}

pub returns-clause-stands : goal.returns-clause-stands
returns-clause-stands c =
    λ fed taken h. elim c.if-is_none.branch [
      | then-is_none w ↦ subst
          (λ (s : Reader). StandsFor (record s { fed = s.fed + length c.args.piece.now })
          (fed ++ c.args.piece.now) taken) (sym w.self-is)
          (stands_read c.args.self.now
          (record w.read.new.self {
            failure = w.err-self.result;
            fed = w.read.new.self.fed + length c.args.piece.now;
          }) c.args.piece.now w.read.result fed taken
          c.requires.unfinished (w.read.ensures.beside.1 ∙ c.requires.unfinished) w.read.ensures.beside.3
          (none_if c.args.self.now.failure w.if-is_none.ensures)
          (ap (λ n. n + length c.args.piece.now) w.read.ensures.beside.0) w.err-self.ensures.value
          w.read.ensures.goes h)
      | else-is_none w ↦ subst
          (λ (s : Reader). StandsFor (record s { fed = s.fed + length c.args.piece.now })
          (fed ++ c.args.piece.now) taken) (sym w.self-is)
          (stands_skip c.args.self.now
          (record c.args.self.now { fed = c.args.self.now.fed + length c.args.piece.now })
          c.args.piece.now fed taken c.requires.unfinished c.requires.unfinished refl w.if-is_none.ensures
          refl refl refl h)
    ]

pub returns-clause-ends : goal.returns-clause-ends
returns-clause-ends c =
    λ fed taken h k. elim c.if-is_none.branch [
      | then-is_none w ↦ subst
          (λ (s : Reader). KeepsEnds (record s { fed = s.fed + length c.args.piece.now })
          (fed ++ c.args.piece.now) taken) (sym w.self-is)
          (ends_read c.args.self.now
          (record w.read.new.self {
            failure = w.err-self.result;
            fed = w.read.new.self.fed + length c.args.piece.now;
          }) w.read.new.self c.args.piece.now w.read.result fed taken c.requires.unfinished
          (none_if c.args.self.now.failure w.if-is_none.ensures) w.read.ensures.beside.3
          w.read.ensures.beside.4 refl w.err-self.ensures.value w.read.ensures.marks h k)
      | else-is_none w ↦ subst
          (λ (s : Reader). KeepsEnds (record s { fed = s.fed + length c.args.piece.now })
          (fed ++ c.args.piece.now) taken) (sym w.self-is)
          (ends_skip c.args.self.now
          (record c.args.self.now { fed = c.args.self.now.fed + length c.args.piece.now })
          c.args.piece.now fed taken refl refl refl refl k)
    ]
