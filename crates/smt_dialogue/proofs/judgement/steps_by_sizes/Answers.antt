use Rattle.std.proofs.Common.{◌≤◌, ◌*◌, ℕ, Option, subst, arith}
use Rattle.std.specs.Prelude.{IfSome}
use Rattle.smt_trees.specs.Sexp.{weight}
use Rattle.smt_terms.specs.Library.{terms_of}
use Rattle.smt_eval.specs.Cost.{cost_over}
use Rattle.smt_eval.specs.Structure.{structure_of}
use Rattle.smt_dialogue.specs.Internal.Claims.{claims_left}
use Rattle.smt_dialogue.proofs.SizedClaimLemmas.{sizes_left, sums_next}
use Rattle.smt_dialogue.proofs.judgement.steps_by_sizes.Goals as goal

pub loop-next-init : goal.loop-next-init
loop-next-init c = record {
  sized = c.requires.sized;
  summed = λ script definitions all stands holds claims. (all, claims, omega arith);
}

pub loop-next-preserved : goal.loop-next-preserved
loop-next-preserved c =
    let l = terms_of c.args.library.now in
    let before = claims_left c.loop-next.left in
    let after = claims_left c.next.new.self in
    let a = c.in-Some-next.next in
    let here = c.in-Some-next.ensures in
    let sum = c.in-Some-steps_with.ensures in
    let sizes = c.loop-next.invariant.sized in
    record {
      sized = sizes_left l before after a here sizes;
      summed = λ script definitions all stands holds claims.
          let d = structure_of script definitions in
          sums_next l before after a d c.loop-next.steps c.in-Some-steps_with.sum c.in-Some.rate sum.0 _ here sum.1 sum.2
          sizes
          (λ t u term other. subst (λ (o : Option ℕ). IfSome o (λ n. cost_over d t ≤ weight u * n)) c.in-Some.is
          (c.in_ok-rate.ensures.bound script definitions a.term t u stands holds term other))
          (c.loop-next.invariant.summed script definitions all stands holds claims);
    }
