use Rattle.std.proofs.Common.{◌∙◌, Some, ap, arith, inl, sym}
use Rattle.smt_dialogue.specs.History.{with_taken}
use Rattle.smtcheck_c.proofs.OutcomeLemmas.{number_of_invalid, number_of_valid}
use Rattle.smtcheck_c.proofs.feed.Feed.verdict.Goals as goal

pub returns-in-Some-clause-number : goal.returns-in-Some-clause-number
returns-in-Some-clause-number c = λ h k.
    let v = c.in-Some.verdict in
    let number = c.number_of.ensures.number in
    let below = c.number_of.ensures.below in
    let all = with_taken h c.args.self.now.waiting.items in
    record {
      range = inl (omega (arith, below));
      verdict = λ _. (v, number, c.in-Some.ensures.told all k);
      valid = λ e. c.in-Some.ensures.valid all k (ap Some (number_of_valid v (sym number ∙ e)));
      invalid = λ e. c.in-Some.ensures.invalid all k (ap Some (number_of_invalid v (sym number ∙ e)));
      memory = λ e. absurd (omega (arith, e, below));
      none = λ e. absurd (omega (arith, e, below));
      long = λ e. absurd (omega (arith, e, below));
    }
