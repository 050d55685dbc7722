use Rattle.std.proofs.Common.{◌<◌, ◌∙◌, [], length, arith}
use Rattle.std.proofs.lemmas.List.{get_or_default}
use Rattle.smt_names.proofs.OrderLemmas.{places-next}
use Rattle.smt_names.proofs.order.places_of.Goals as goal

pub loop-next-preserved : goal.loop-next-preserved
loop-next-preserved c =
    let names = c.args.names.now in
    let k = c.loop-next.next in
    let below : k < length names = omega (arith, c.loop-next-test.true) in
    record {
      within = omega (arith, below);
      first =
          places-next names k _ c.bytes.result.now c.loop-next.places c.insert.new.places below (omega (arith, below))
          (c.bytes.ensures.name ∙ c.index-names-next.is ∙ get_or_default names k c.index-names-next.result [] below)
          c.loop-next.invariant.first c.in_ok-insert.ensures.noted;
    }
