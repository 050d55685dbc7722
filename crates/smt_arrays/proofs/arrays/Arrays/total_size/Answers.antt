use Rattle.std.proofs.Common.{◌≡◌, ◌+◌, ◌∙◌, min, map, sym, ap, arith}
use Rattle.std.specs.List.{sum}
use Rattle.smt_arrays.specs.Cells.{arrays_of}
use Rattle.smt_arrays.specs.Internal.{elements_in, size_up_to_limit, value_or}
use Rattle.smt_arrays.specs.Known.{size}
use Rattle.smt_arrays.specs.Tables.{element_in}
use Rattle.smt_arrays.proofs.OperateLemmas.{none_left, sizes_more, total_more}
use Rattle.smt_arrays.proofs.arrays.Arrays.total_size.Goals as goal

pub returns : goal.returns
returns c =
    let e = none_left (arrays_of c.args.self.now) c.loop-first.left.now c.in_default.ensures.cases in
    let below = c.loop-first.invariant.below in
    let whole : min (c.loop-first.total + 0) 257 ≡ c.loop-first.total = omega arith in
    sym (c.loop-first.invariant.same ∙ ap (λ n. min (c.loop-first.total + n) 257) e ∙ whole)

pub loop-first-preserved : goal.loop-first-preserved
loop-first-preserved c =
    let arrays = arrays_of c.args.self.now in
    let total = c.loop-first.total in
    let rest = sum (map size (elements_in arrays c.in-Some.rest.now)) in
    let s = size (element_in arrays (value_or c.in-Some.first.now)) in
    let here = c.size_of.ensures ∙ ap (λ v. size_up_to_limit (element_in arrays v)) c.value_or.ensures in
    record {
      below = omega (arith, c.sum_up_to_limit-total.ensures);
      same = c.loop-first.invariant.same
          ∙ ap (λ n. min (total + n) 257)
          (sizes_more arrays c.loop-first.left.now c.in-Some.rest.now c.in-Some.first.now c.in-Some.ensures.cases.0)
          ∙ sym (total_more total c.size_of.result rest s (sym here))
          ∙ ap (λ n. min (n + rest) 257) (sym c.sum_up_to_limit-total.ensures);
    }
