use Rattle.std.proofs.Common.{sym, ◌∙◌, arith}
use Rattle.smt_forms.proofs.PlaceLemmas.{back-found, back-more}
use Rattle.smt_forms.proofs.places.find_last.Goals as goal

pub returns-then-is_same : goal.returns-then-is_same
returns-then-is_same c =
    sym (c.loop-left.invariant.none ∙ back-found c.args.names.now c.loop-left.left _ c.args.name.now
    c.is_same.result (omega arith) c.loop-left.invariant.within c.is_same.ensures c.if-is_same.true)

pub loop-left-preserved : goal.loop-left-preserved
loop-left-preserved c = record {
  within = omega arith;
  none = c.loop-left.invariant.none ∙ back-more c.args.names.now c.loop-left.left _ c.args.name.now
      c.is_same.result (omega arith) c.loop-left.invariant.within c.is_same.ensures c.if-is_same.false;
}
