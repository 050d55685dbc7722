use Rattle.std.proofs.Common.{rules, take, drop, sym, subst}
use Rattle.std.proofs.Math.Seq.{take-add}
use Rattle.std.proofs.lemmas.List.{take_rest}
use Rattle.std.specs.Io.KnownBytes.{Appends}
use Rattle.std.proofs.KnownBytes.{Appends-trans}
use Rattle.smt_streams.proofs.sink.put_all.Goals as goal

-- what a call took stands behind what was put
pub loop-done-preserved : goal.loop-done-preserved
loop-done-preserved g c =
    let bytes = c.args.bytes.now in
    let done = c.loop-done.done in
    let count = c.in_ok-taken.taken in
    let more = rw (take_rest bytes done) at c.in_ok-taken.ensures.bytes in
    let behind = Appends-trans _ _ _ (take done bytes) (take count (drop done bytes)) c.loop-done.invariant.2 more in
    (search rules, search rules, subst (Appends _ _) (sym (take-add done count bytes)) behind)
