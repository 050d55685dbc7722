use Rattle.std.proofs.Common.{refl}
use Rattle.std.proofs.lemmas.Result.{err_from_is_err_and}
use Rattle.smt_trees.specs.View.{sexp_of}
use Rattle.smt_terms.specs.Assertions.{asserted_in}
use Rattle.smt_terms.specs.Signature.{names_of}
use Rattle.smt_script.specs.Stack.{signature_in_force}
use Rattle.smt_script.specs.StackView.{profile_of}
use Rattle.smt_script.proofs.EffectLemmas.{assert_effect, refused_by, unchanged_by}
use Rattle.smt_script.proofs.stack.Stack.assert.Goals as goal

pub returns-in_err-term-clause-refused : goal.returns-in_err-term-clause-refused
returns-in_err-term-clause-refused c =
    let p = err_from_is_err_and c.from_residual-in_err-term.result c.from_residual-in_err-term.ensures.1 in
    let term = sexp_of c.args.term in
    rw p.1
    (λ cs h.
    let s = signature_in_force (profile_of c.args.self.now) cs in
    refused_by (asserted_in (names_of s) term) c.in_err-term.field-0.0 p.0 p.2
    (c.in_err-term.ensures.refused s h.library))

pub returns-in_err-term-clause-unchanged : goal.returns-in_err-term-clause-unchanged
returns-in_err-term-clause-unchanged c =
    let p = err_from_is_err_and c.from_residual-in_err-term.result c.from_residual-in_err-term.ensures.1 in
    rw p.1 (unchanged_by c.args.self.now c.assert.new.self c.args.self.now.assertions
    c.assert.ensures.grown c.assert.ensures.transient refl)

pub returns-in-Ok-clause-effect : goal.returns-in-Ok-clause-effect
returns-in-Ok-clause-effect c =
    assert_effect c.contents_are_kept.ensures c.args.self.now c.assert.new.self c.push.new.self
    (record { command = c.args.number; term = c.in_ok-term.term; size = c.in_ok-size.size }) (sexp_of c.args.term)
    c.in_ok-term.ensures.asserted c.in_ok-term.ensures.term c.in_ok-size.ensures c.in_ok-term.ensures.grown
    c.in-Ok.ensures.items

pub returns-in-Err-clause-unchanged : goal.returns-in-Err-clause-unchanged
returns-in-Err-clause-unchanged c =
    unchanged_by c.args.self.now c.assert.new.self c.push.new.self c.assert.ensures.grown c.assert.ensures.transient
    c.in-Err.ensures.items
