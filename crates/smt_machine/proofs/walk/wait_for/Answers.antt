use Rattle.std.proofs.Common.{◌+◌, arith}
use Rattle.std.proofs.lemmas.List.{length-map}
use Rattle.smt_machine.specs.Internal.Parts.{numbers_of}
use Rattle.smt_machine.proofs.WalkLemmas.{parts_count, parts_next, sum_counts}
use Rattle.smt_machine.proofs.walk.wait_for.Goals as goal

pub returns-in_default-clause-taken : goal.returns-in_default-clause-taken
returns-in_default-clause-taken c = λ cost positive.
    let wait = sum_counts cost c.args.waiting.now.items positive in
    let few = c.in_default.ensures in
    let count = c.len.ensures in omega (arith, wait, few, count)

pub returns-then-parts-room-clause-taken : goal.returns-then-parts-room-clause-taken
returns-then-parts-room-clause-taken c = λ cost positive.
    let wait = sum_counts cost c.args.waiting.now.items positive in
    let parts = parts_count c.args.number cost (numbers_of c.args.parts) positive in
    let counted = length-map c.args.parts.ids.now (λ id. c.args.parts.shift + id) in
    let room = c.in-Some.ensures in
    let count = c.len.ensures in
    let more = c.if-parts-room.true in omega (arith, wait, parts, counted, room, count, more)

pub loop-id-preserved : goal.loop-id-preserved
loop-id-preserved c =
    let i = c.loop-id.invariant in
    let one = c.in_ok-left.ensures.one in
    let fewer = c.in_ok-left.ensures.fewer in
    record {
      room = omega (arith, i.room, one);
      fewer = omega (arith, i.fewer, fewer);
      taken = λ cost.
          let next = parts_next c.args.number cost (λ id. c.args.parts.shift + id) c.args.parts.ids.now
          c.loop-id.id-index c.id-item.result c.loop-id-test.true c.id-item.is in
          let taken = c.in_ok-left.ensures.taken cost in
          let so_far = i.taken cost in omega (arith, next, taken, so_far);
    }
