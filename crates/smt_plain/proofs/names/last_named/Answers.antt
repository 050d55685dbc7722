use Rattle.std.proofs.Common.{◌-◌, take, sym, ◌∙◌, arith}
use Rattle.smt_plain.proofs.PlainLemmas.{last_is_meant, last_is_not_meant, last_of_first, weight-last}
use Rattle.smt_plain.proofs.names.last_named.Goals as goal

pub returns-then-eq-clause-means : goal.returns-then-eq-clause-means
returns-then-eq-clause-means c = λ m args.
    let n = c.loop-count.count in
    let ds = c.args.definitions.now in
    let d = c.index-definitions-count.result in
    let split = last_of_first ds (n - 1) n d (omega (arith, c.loop-count-test.true)) c.loop-count.invariant.within
    c.index-definitions-count.is in
    c.loop-count.invariant.means m args
    ∙ last_is_meant m (take (n - 1) ds) (take n ds) d c.args.name.now args split (sym c.eq.ensures ∙ c.if-eq.true)

pub returns-then-eq-clause-lighter : goal.returns-then-eq-clause-lighter
returns-then-eq-clause-lighter c =
    let n = c.loop-count.count in
    let ds = c.args.definitions.now in
    let d = c.index-definitions-count.result in
    let w = weight-last (take (n - 1) ds) (take n ds) d
    (last_of_first ds (n - 1) n d (omega (arith, c.loop-count-test.true)) c.loop-count.invariant.within
    c.index-definitions-count.is) in
    omega (arith, w, c.loop-count.invariant.lighter)

pub loop-count-preserved : goal.loop-count-preserved
loop-count-preserved c =
    let n = c.loop-count.count in
    let ds = c.args.definitions.now in
    let d = c.index-definitions-count.result in
    let split = last_of_first ds (n - 1) n d (omega (arith, c.loop-count-test.true)) c.loop-count.invariant.within
    c.index-definitions-count.is in
    let w = weight-last (take (n - 1) ds) (take n ds) d split in
    record {
      within = omega (arith, c.loop-count.invariant.within);
      means = λ m args. c.loop-count.invariant.means m args
          ∙ last_is_not_meant m (take (n - 1) ds) (take n ds) d c.args.name.now args split
          (sym c.eq.ensures ∙ c.if-eq.false);
      lighter = omega (arith, w, c.loop-count.invariant.lighter);
    }
