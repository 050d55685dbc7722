use Rattle.std.proofs.Common.{arith, sym, ◌∙◌}
use Rattle.smt_terms.specs.Library.{terms_of}
use Rattle.smt_eval.specs.Structure.{structure_of}
use Rattle.smt_dialogue.specs.Internal.Claims.{claims_left}
use Rattle.smt_dialogue.proofs.JudgementLemmas.{leaves_next, leaves_within, term_left, terms_left}
use Rattle.smt_dialogue.proofs.judgement.cost_of_all.Goals as goal

pub cost_within-requires-clause-term : goal.cost_within-requires-clause-term
cost_within-requires-clause-term c = term_left (terms_of c.args.library.now)
    (claims_left c.loop-next.left) (claims_left c.next.new.self) c.in-Some.next c.in-Some.ensures
    c.loop-next.invariant.terms

pub loop-next-preserved : goal.loop-next-preserved
loop-next-preserved c =
    let l = terms_of c.args.library.now in
    let fits = c.requires.fits in
    let before = claims_left c.loop-next.left in
    let after = claims_left c.next.new.self in
    let enough = leaves_within l before after c.in-Some.next
    (structure_of fits.script fits.definitions) c.loop-next.steps c.in-Some-2.cost c.in-Some.ensures
    c.loop-next.invariant.terms
    (λ t term. sym c.in-Some-2.is ∙ c.in_ok-cost.ensures fits.script fits.definitions t fits.names fits.holds term) in
    let most = c.loop-next.invariant.most in
    record {
      terms = terms_left l before after c.in-Some.next c.in-Some.ensures c.loop-next.invariant.terms;
      summed = λ script definitions all stands holds claims.
          leaves_next l before after c.in-Some.next
          (structure_of script definitions) c.args.limit.steps c.loop-next.steps c.in-Some-2.cost _ _
          c.in-Some.ensures
          (λ t term. sym c.in-Some-2.is ∙ c.in_ok-cost.ensures script definitions t stands holds term)
          (omega (arith, enough))
          (c.loop-next.invariant.summed script definitions all stands holds claims);
      most = omega (arith, most);
    }
