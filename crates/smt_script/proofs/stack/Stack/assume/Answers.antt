use Rattle.std.proofs.Common.{refl, sym, subst, ◌∙◌}
use Rattle.smt_trees.specs.View.{sexps_of}
use Rattle.smt_terms.specs.Contents.{Contents, Extends, contents_of}
use Rattle.smt_terms.specs.Library.{Holds}
use Rattle.smt_script.specs.Stack.{signature_in_force}
use Rattle.smt_script.specs.StackView.{profile_of}
use Rattle.smt_script.proofs.AssumptionLemmas.{assume_effect}
use Rattle.smt_script.proofs.EffectLemmas.{extends_itself, unchanged_by}
use Rattle.smt_script.proofs.stack.Stack.assume.Goals as goal

pub returns-in-Ok-clause-effect : goal.returns-in-Ok-clause-effect
returns-in-Ok-clause-effect c = λ number.
    let old = contents_of c.args.self.now.library in
    let same = c.check_literals.ensures.held ∙ c.take_transient-before.ensures.held in
    assume_effect c.contents_are_kept.ensures c.args.self.now c.check_literals.new.library c.in-Ok.terms
    number (sexps_of c.args.literals) (λ s h. subst (λ (x : Contents). Holds x s) (sym same) h)
    (subst (λ (x : Contents). Extends old x) (sym same) (extends_itself old))
    (λ s h. (c.in-Ok.ensures.terms s
    (subst (λ (x : Contents). Holds x s) (sym c.take_transient-before.ensures.held) h)).0)

pub returns-in-Ok-clause-assumed : goal.returns-in-Ok-clause-assumed
returns-in-Ok-clause-assumed c = λ s h.
    (c.in-Ok.ensures.terms s
    (subst (λ (x : Contents). Holds x s) (sym c.take_transient-before.ensures.held) h)).1

pub returns-in-Err-clause-refused : goal.returns-in-Err-clause-refused
returns-in-Err-clause-refused c = λ number commands h.
    c.in-Err.ensures.terms (signature_in_force (profile_of c.args.self.now) commands)
    (subst (λ (x : Contents). Holds x (signature_in_force (profile_of c.args.self.now) commands))
    (sym c.take_transient-before.ensures.held)
    h.library)

pub returns-in-Err-clause-unchanged : goal.returns-in-Err-clause-unchanged
returns-in-Err-clause-unchanged c =
    let old = contents_of c.args.self.now.library in
    let same = c.put_transient.ensures.held ∙ c.check_literals.ensures.held ∙ c.take_transient-before.ensures.held in
    unchanged_by c.args.self.now c.put_transient.new.self c.args.self.now.assertions
    (subst (λ (x : Contents). Extends old x) (sym same) (extends_itself old))
    (c.put_transient.ensures.put ∙ c.take_transient-before.ensures.taken) refl
