use Rattle.std.proofs.Common.{◌++◌}
use Rattle.smt_terms.specs.Items.{items_before, list_of}
use Rattle.smt_eval.proofs.blames.take_items.Goals as goal

pub loop-item-init : goal.loop-item-init
loop-item-init c = record { reads = c.requires; stands = λ s es stands old. (es, old) }

pub loop-item-preserved : goal.loop-item-preserved
loop-item-preserved c = record {
  reads = c.in_default-define_item.ensures.reads;
  stands = λ s es stands old.
      let i = c.loop-item.invariant.stands s es stands old in
      let made = c.in_default-define_item.ensures.defined s (items_before s i.0) stands i.1 in
      (i.0 ++ list_of made.0, made.2);
}

pub returns-in-Err : goal.returns-in-Err
returns-in-Err c = λ s es stands old.
    let i = c.loop-item.invariant.stands s es stands old in
    (i.0, c.in-Err.ensures.unchanged (items_before s i.0) i.1)

pub returns : goal.returns
returns c = c.loop-item.invariant.stands
