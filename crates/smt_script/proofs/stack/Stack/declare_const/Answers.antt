use Rattle.std.proofs.Common.{refl, subst}
use Rattle.std.proofs.lemmas.Result.{err_from_is_err_and}
use Rattle.smt_trees.specs.Sexp.{Nil}
use Rattle.smt_trees.specs.View.{sexp_of}
use Rattle.smt_terms.specs.Declarations.{declared_in}
use Rattle.smt_faults.specs.Outcome.{Tells}
use Rattle.smt_script.specs.Stack.{signature_in_force}
use Rattle.smt_script.specs.StackView.{profile_of}
use Rattle.smt_script.proofs.EffectLemmas.{DeclaresIn, declare_const_effect, refused_by, unchanged_by}
use Rattle.smt_script.proofs.stack.Stack.declare_const.Goals as goal

pub returns-in_err-declare-clause-refused : goal.returns-in_err-declare-clause-refused
returns-in_err-declare-clause-refused c =
    let p = err_from_is_err_and c.from_residual.result c.from_residual.ensures.1 in
    let name = c.args.name.now in
    let sort = sexp_of c.args.sort in
    rw p.1
    (λ cs h.
    let s = signature_in_force (profile_of c.args.self.now) cs in
    refused_by (declared_in s c.args.number name Nil sort) c.in_err-declare.field-0.0 p.0 p.2
    (subst (λ ps. Tells (declared_in s c.args.number name ps sort) c.in_err-declare.field-0.0) c.empty.ensures
    (c.in_err-declare.ensures.refused s h.library)))

pub returns-in_err-declare-clause-unchanged : goal.returns-in_err-declare-clause-unchanged
returns-in_err-declare-clause-unchanged c =
    let p = err_from_is_err_and c.from_residual.result c.from_residual.ensures.1 in
    rw p.1 (unchanged_by c.args.self.now c.declare.new.self c.args.self.now.assertions
    c.declare.ensures.grown c.declare.ensures.transient refl)

pub returns-clause-effect : goal.returns-clause-effect
returns-clause-effect c =
    declare_const_effect c.contents_are_kept.ensures c.args.self.now c.declare.new.self c.args.number
    c.args.name.now (sexp_of c.args.sort)
    (subst (λ ps. DeclaresIn c.args.self.now.library c.declare.new.self c.args.number c.args.name.now ps
    (sexp_of c.args.sort)) c.empty.ensures c.in_ok-declare.ensures.declared) c.in_ok-declare.ensures.grown
