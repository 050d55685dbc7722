use Rattle.std.proofs.Common.{◌++◌, ◌∷◌, [], List, ap, sym, ◌∙◌, subst, append_assoc}
use Rattle.smt_trees.specs.Sexp.{Sexps}
use Rattle.smt_trees.specs.View.{sexp_of, sexps_of}
use Rattle.smt_terms.specs.Contents.{Contents}
use Rattle.smt_terms.specs.Library.{Holds, terms_of}
use Rattle.smt_terms.specs.Signature.{names_of}
use Rattle.smt_script.specs.Stack.{trees_of}
use Rattle.smt_script.specs.StackView.{AreTerms}
use Rattle.smt_script.proofs.AssumptionLemmas.{literal_next, more_terms, terms_stay}
use Rattle.smt_script.proofs.stack.effects.check_literals.Goals as goal

pub loop-literal-preserved : goal.loop-literal-preserved
loop-literal-preserved c =
    let i = c.loop-literal.invariant in
    let before = c.loop-literal.library in
    let after = c.check_literal.new.library in
    let literal = sexp_of c.in-Some.literal in
    let rest = sexps_of c.in-Some.rest in
    let first = c.in-Some.ensures in
    record {
      held = c.check_literal.ensures.held ∙ i.held;
      flaw = λ s h. i.flaw s h
          ∙ literal_next (names_of s) literal rest (sexps_of c.loop-literal.left) first
          (c.in_ok-term.ensures.term s (subst (λ (x : Contents). Holds x s) (sym i.held) h)).0;
      done = λ s h.
          let d = i.done s h in
          let made = c.in_ok-term.ensures.term s (subst (λ (x : Contents). Holds x s) (sym i.held) h) in (
            d.0 ++ literal ∷ [],
            d.1 ∙ ap (λ (xs : Sexps). d.0 ++ trees_of xs) first
                ∙ sym (append_assoc d.0 (literal ∷ []) (trees_of rest)),
            subst (λ (ids : List _). AreTerms (terms_of after) ids (d.0 ++ literal ∷ []))
                (sym c.in_ok-push.ensures.items)
                (more_terms (terms_of after) c.loop-literal.terms.items d.0 c.in_ok-term.term literal
                (terms_stay before after c.check_literal.ensures.kept c.loop-literal.terms.items d.0 d.2) made.1),
          );
    }
