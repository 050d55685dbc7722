use Rattle.std.proofs.Common.{Some, ap, ◌∙◌, sym}
use Rattle.std.proofs.Common as std
use Rattle.smt_values.specs.Element.{Truth}
use Rattle.smt_values.specs.KnownOperations.{is_known}
use Rattle.smt_terms.specs.Library.{element_names_of, terms_of}
use Rattle.smt_eval.specs.Known.{known_over}
use Rattle.smt_eval.specs.Structure.{structure_of}
use Rattle.smt_dialogue.proofs.JudgementLemmas.{cost_first, cost_rest, judged_from, left-false, left-none, left-open}
use Rattle.smt_dialogue.proofs.JudgementLemmas.{left-opened, left-true, term_left, terms_left, test_by_number}
use Rattle.smt_dialogue.proofs.JudgementLemmas.{truth_by_number}
use Rattle.smt_dialogue.specs.Internal.Claims.{claims_left}
use Rattle.smt_dialogue.specs.Judgement.{open_or_confirmed}
use Rattle.smt_dialogue.proofs.judgement.judge_claims.Goals as goal

pub eval_by-requires-clause-term : goal.eval_by-requires-clause-term
eval_by-requires-clause-term c = term_left (terms_of c.args.library.now)
    (claims_left c.loop-next.left) (claims_left c.next.new.self) c.in-Some.next c.in-Some.ensures
    c.loop-next.invariant.terms

pub eval_by-requires-clause-enough : goal.eval_by-requires-clause-enough
eval_by-requires-clause-enough c = λ script definitions t stands holds term.
    cost_first (terms_of c.args.library.now) (claims_left c.loop-next.left) (claims_left c.next.new.self) c.in-Some.next
    (structure_of script definitions) _ t c.in-Some.ensures
    (c.loop-next.invariant.enough script definitions stands holds) c.loop-next.invariant.terms term

pub returns-in-Some-false : goal.returns-in-Some-false
returns-in-Some-false c = λ script definitions all stands holds assertions.
    let s = structure_of script definitions in
    left-false (terms_of c.args.library.now)
    (claims_left c.loop-next.left) (claims_left c.next.new.self) c.in-Some.next s c.loop-next.first_open
    (judged_from s std.None all) c.in-Some.ensures
    (λ t term. truth_by_number (element_names_of c.args.interpretation.now.definitions) (known_over s t) std.false
    (sym (c.in_ok-value.ensures.known script definitions t stands holds term) ∙ c.in-Some-false.ensures
    ∙ ap (λ b. Some (Truth b)) c.in-Some-false.field-0-test))
    (c.loop-next.invariant.judged script definitions all stands holds assertions)

pub loop-next-preserved-in-Some-true : goal.loop-next-preserved-in-Some-true
loop-next-preserved-in-Some-true c = record {
  serves = c.in_ok-value.ensures.serves;
  terms = terms_left (terms_of c.args.library.now)
      (claims_left c.loop-next.left) (claims_left c.next.new.self) c.in-Some.next c.in-Some.ensures
      c.loop-next.invariant.terms;
  enough = λ script definitions stands holds.
      let term = term_left (terms_of c.args.library.now) (claims_left c.loop-next.left)
      (claims_left c.next.new.self) c.in-Some.next c.in-Some.ensures c.loop-next.invariant.terms in
      cost_rest (terms_of c.args.library.now) (claims_left c.loop-next.left)
      (claims_left c.next.new.self) c.in-Some.next (structure_of script definitions) _ _ term.0 c.in-Some.ensures
      (c.loop-next.invariant.enough script definitions stands holds) term.1
      (c.in_ok-value.ensures.paid script definitions term.0 stands holds term.1);
  judged = λ script definitions all stands holds assertions.
      let s = structure_of script definitions in
      left-true (terms_of c.args.library.now)
      (claims_left c.loop-next.left) (claims_left c.next.new.self) c.in-Some.next s c.loop-next.first_open
      (judged_from s std.None all) c.in-Some.ensures
      (λ t term. truth_by_number (element_names_of c.args.interpretation.now.definitions) (known_over s t) std.true
      (sym (c.in_ok-value.ensures.known script definitions t stands holds term) ∙ c.in-Some-true.ensures
      ∙ ap (λ b. Some (Truth b)) c.in-Some-true.field-0-test))
      (c.loop-next.invariant.judged script definitions all stands holds assertions);
}

pub loop-next-preserved : goal.loop-next-preserved
loop-next-preserved c = record {
  serves = c.in_ok-value.ensures.serves;
  terms = terms_left (terms_of c.args.library.now)
      (claims_left c.loop-next.left) (claims_left c.next.new.self) c.in-Some.next c.in-Some.ensures
      c.loop-next.invariant.terms;
  enough = λ script definitions stands holds.
      let term = term_left (terms_of c.args.library.now) (claims_left c.loop-next.left)
      (claims_left c.next.new.self) c.in-Some.next c.in-Some.ensures c.loop-next.invariant.terms in
      cost_rest (terms_of c.args.library.now) (claims_left c.loop-next.left)
      (claims_left c.next.new.self) c.in-Some.next (structure_of script definitions) _ _ term.0 c.in-Some.ensures
      (c.loop-next.invariant.enough script definitions stands holds) term.1
      (c.in_ok-value.ensures.paid script definitions term.0 stands holds term.1);
  judged = λ script definitions all stands holds assertions.
      let s = structure_of script definitions in
      left-open (terms_of c.args.library.now)
      (claims_left c.loop-next.left) (claims_left c.next.new.self) c.in-Some.next s c.loop-next.first_open
      (judged_from s std.None all) c.in-Some.ensures
      (λ t term.
      let known = c.in_ok-value.ensures.known script definitions t stands holds term in
      let names = element_names_of c.args.interpretation.now.definitions in (
        test_by_number names (known_over s t) std.false ∙ ap (is_known std.false) (sym known) ∙ c.in-None.ensures.0,
        test_by_number names (known_over s t) std.true ∙ ap (is_known std.true) (sym known) ∙ c.in-None.ensures.1,
      ))
      c.if-is_none.ensures
      (c.loop-next.invariant.judged script definitions all stands holds assertions);
}

pub returns-in-Some-first_open : goal.returns-in-Some-first_open
returns-in-Some-first_open c = λ script definitions all stands holds assertions.
    let s = structure_of script definitions in
    sym (ap open_or_confirmed c.in-Some-first_open.is)
    ∙ left-none (terms_of c.args.library.now) (claims_left c.loop-next.left) s c.loop-next.first_open
    (judged_from s std.None all) c.in_default.ensures
    (c.loop-next.invariant.judged script definitions all stands holds assertions)

pub returns-in-None-first_open : goal.returns-in-None-first_open
returns-in-None-first_open c = λ script definitions all stands holds assertions.
    let s = structure_of script definitions in
    sym (ap open_or_confirmed c.in-None-first_open.is)
    ∙ left-none (terms_of c.args.library.now) (claims_left c.loop-next.left) s c.loop-next.first_open
    (judged_from s std.None all) c.in_default.ensures
    (c.loop-next.invariant.judged script definitions all stands holds assertions)

pub loop-next-preserved-then-is_none : goal.loop-next-preserved-then-is_none
loop-next-preserved-then-is_none c = record {
  serves = c.in_ok-value.ensures.serves;
  terms = terms_left (terms_of c.args.library.now)
      (claims_left c.loop-next.left) (claims_left c.next.new.self) c.in-Some.next c.in-Some.ensures
      c.loop-next.invariant.terms;
  enough = λ script definitions stands holds.
      let term = term_left (terms_of c.args.library.now) (claims_left c.loop-next.left)
      (claims_left c.next.new.self) c.in-Some.next c.in-Some.ensures c.loop-next.invariant.terms in
      cost_rest (terms_of c.args.library.now) (claims_left c.loop-next.left)
      (claims_left c.next.new.self) c.in-Some.next (structure_of script definitions) _ _ term.0 c.in-Some.ensures
      (c.loop-next.invariant.enough script definitions stands holds) term.1
      (c.in_ok-value.ensures.paid script definitions term.0 stands holds term.1);
  judged = λ script definitions all stands holds assertions.
      let s = structure_of script definitions in
      left-opened (terms_of c.args.library.now)
      (claims_left c.loop-next.left) (claims_left c.next.new.self) c.in-Some.next s c.loop-next.first_open
      (judged_from s std.None all) c.in-Some.ensures
      (λ t term.
      let known = c.in_ok-value.ensures.known script definitions t stands holds term in
      let names = element_names_of c.args.interpretation.now.definitions in (
        test_by_number names (known_over s t) std.false ∙ ap (is_known std.false) (sym known) ∙ c.in-None.ensures.0,
        test_by_number names (known_over s t) std.true ∙ ap (is_known std.true) (sym known) ∙ c.in-None.ensures.1,
      ))
      c.if-is_none.ensures
      (c.loop-next.invariant.judged script definitions all stands holds assertions);
}
