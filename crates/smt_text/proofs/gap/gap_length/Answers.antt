use Rattle.std.proofs.Common.{◌+◌, ◌∙◌, arith, sym}
use Rattle.smt_text.proofs.GapLemmas.{comment_last, comment_more, gap_all, gap_before, gap_reads, white_more}
use Rattle.smt_text.proofs.RunLemmas.{rest_length}
use Rattle.smt_text.proofs.gap.gap_length.Goals as goal

pub returns-then-end-text-clause-gap : goal.returns-then-end-text-clause-gap
returns-then-end-text-clause-gap c =
    comment_last c.args.text.now c.loop-place.place c.comment_length.result c.loop-place-test.true c.if-text-place-eq59.true
    c.comment_length.ensures.within c.comment_length.ensures.skipped c.comment_length.ensures.stops
    c.if-end-text.true c.loop-place.invariant.gap

pub returns-then-end-text-clause-reads : goal.returns-then-end-text-clause-reads
returns-then-end-text-clause-reads c =
    λ max_depth. gap_reads max_depth c.args.text.now (c.loop-place.place + c.comment_length.result)
    (returns-then-end-text-clause-gap c)

pub loop-place-preserved : goal.loop-place-preserved
loop-place-preserved c = record {
  within = omega (
    arith,
    c.comment_length.ensures.within,
    rest_length c.args.text.now c.loop-place.place,
    c.if-end-text.false,
  );
  gap = comment_more c.args.text.now c.loop-place.place c.comment_length.result c.loop-place-test.true c.if-text-place-eq59.true
      c.comment_length.ensures.within c.comment_length.ensures.skipped c.comment_length.ensures.stops
      c.if-end-text.false c.loop-place.invariant.gap;
}

pub loop-place-preserved-then-is_white : goal.loop-place-preserved-then-is_white
loop-place-preserved-then-is_white c = record {
  within = omega arith;
  gap = white_more c.args.text.now c.loop-place.place c.loop-place-test.true
      (sym c.is_white.ensures ∙ c.if-is_white.true) c.loop-place.invariant.gap;
}

pub returns-else-text-place-eq59-clause-gap : goal.returns-else-text-place-eq59-clause-gap
returns-else-text-place-eq59-clause-gap c =
    gap_before c.args.text.now c.loop-place.place c.loop-place-test.true c.loop-place.invariant.gap
    (sym c.is_white.ensures ∙ c.if-is_white.false) c.if-text-place-eq59.false

pub returns-else-text-place-eq59-clause-reads : goal.returns-else-text-place-eq59-clause-reads
returns-else-text-place-eq59-clause-reads c =
    λ max_depth. gap_reads max_depth c.args.text.now c.loop-place.place (returns-else-text-place-eq59-clause-gap c)

pub returns-clause-gap : goal.returns-clause-gap
returns-clause-gap c =
    gap_all c.args.text.now c.loop-place.place c.loop-place.invariant.within c.loop-place-test.false
    c.loop-place.invariant.gap

pub returns-clause-reads : goal.returns-clause-reads
returns-clause-reads c =
    λ max_depth. gap_reads max_depth c.args.text.now c.loop-place.place (returns-clause-gap c)
