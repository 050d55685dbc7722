use Rattle.std.proofs.Common.{◌≡◌, ◌∙◌, ◌-◌, ◌&&◌, suc, ap, sym, arith}
use Rattle.smt_arrays.specs.Cells.{arrays_of}
use Rattle.smt_arrays.specs.Reading.{both_indexes, has_vectors}
use Rattle.smt_arrays.specs.Tables.{array_at}
use Rattle.smt_arrays.proofs.AlikeLemmas.{highest, vectors_step}
use Rattle.smt_arrays.proofs.sameness.are_vectors_written.Goals as goal

pub loop-width-init : goal.loop-width-init
loop-width-init c =
    let js = both_indexes (array_at (arrays_of c.args.cells.now) c.args.a)
    (array_at (arrays_of c.args.cells.now) c.args.b) in
    let e = highest c.args.width c.bits.result c.bits.ensures.value c.bits.ensures.within in
    record { below = omega (arith, e); same = ap (λ n. has_vectors c.args.width n js) (sym e) }

pub loop-width-preserved : goal.loop-width-preserved
loop-width-preserved c =
    let js = both_indexes (array_at (arrays_of c.args.cells.now) c.args.a)
    (array_at (arrays_of c.args.cells.now) c.args.b) in
    let n = c.loop-width.number in
    let less : suc (n - 1) ≡ n = omega arith in
    record {
      below = omega (arith, c.loop-width.invariant.below);
      same = c.loop-width.invariant.same
          ∙ vectors_step c.args.width n js c.is_written.result c.new.result c.new.ensures c.loop-width.invariant.below
          c.is_written.ensures
          ∙ ap (λ b. b && has_vectors c.args.width n js) c.loop-width-test.true
          ∙ ap (λ m. has_vectors c.args.width m js) (sym less);
    }

pub returns : goal.returns
returns c =
    let js = both_indexes (array_at (arrays_of c.args.cells.now) c.args.a)
    (array_at (arrays_of c.args.cells.now) c.args.b) in
    let n = c.loop-width.number in
    sym (c.loop-width.invariant.same
    ∙ vectors_step c.args.width n js c.is_written.result c.new.result c.new.ensures c.loop-width.invariant.below
    c.is_written.ensures
    ∙ ap (λ b. b && has_vectors c.args.width n js) c.loop-width-test.false)
