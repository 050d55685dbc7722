use Rattle.std.proofs.Common.{◌+◌, Some, true, refl, sym, subst}
use Rattle.smt_text.proofs.LayoutLemmas.{IsLaidOut, laid_out_more}
use Rattle.smt_text.proofs.RunLemmas.{rest_is}
use Rattle.smt_text.specs.Reader.{depth_limit}
use Rattle.smt_text.specs.Reading.{Reads}
use Rattle.smt_text.specs.Spans.{IsGapLength}
use Rattle.smt_trees.specs.Owned.{sexp_of}
use Rattle.smt_text.proofs.layout.tree_spans.Goals as goal

pub loop-tree-preserved : goal.loop-tree-preserved
loop-tree-preserved c =
    let text = c.args.text.now in
    let before = c.loop-tree.before in
    let gap = c.gap_length.result in
    let end = c.tree_end-end.result in
    subst (λ spans. IsLaidOut c.args.max_depth text c.next.new.self spans end)
    (sym c.in_ok-push-in-Tree.ensures.items)
    (laid_out_more c.args.max_depth text c.loop-tree.reader c.next.new.self c.loop-tree.spans.items before
    (record { start = before + gap; end = end }) gap (sexp_of c.in-Tree._tree) c.loop-tree.invariant
    c.in-Tree.ensures.stands c.in-Tree.ensures.ends c.in-Tree.ensures.finished c.in-Tree.ensures.limit
    c.tree_end-end.ensures.reads refl
    (subst (λ t. IsGapLength t gap) (rest_is text before) c.gap_length.ensures.gap))

pub returns-in-Some : goal.returns-in-Some
returns-in-Some c =
    let text = c.args.text.now in
    let h = c.loop-tree.invariant in
    let flaw = c.in-Some.field-0 in (
      h.taken,
      Some flaw,
      subst (λ m. Reads m true text h.taken (Some flaw)) h.limit
          (subst (λ b. Reads (depth_limit c.loop-tree.reader) b text h.taken (Some flaw)) h.finished
          (c.in-Fault.ensures.right text h.taken h.stands flaw (sym c.in-Some.ensures))),
      h.all,
    )
