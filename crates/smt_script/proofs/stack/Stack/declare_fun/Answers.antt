use Rattle.std.proofs.Common.{refl}
use Rattle.std.proofs.lemmas.Result.{err_from_is_err_and}
use Rattle.smt_trees.specs.View.{sexp_of, sexps_of}
use Rattle.smt_terms.specs.Declarations.{declared_in}
use Rattle.smt_script.specs.Stack.{signature_in_force}
use Rattle.smt_script.specs.StackView.{profile_of}
use Rattle.smt_script.proofs.EffectLemmas.{declare_fun_effect, refused_by, unchanged_by}
use Rattle.smt_script.proofs.stack.Stack.declare_fun.Goals as goal

pub returns-in_err-declare-clause-refused : goal.returns-in_err-declare-clause-refused
returns-in_err-declare-clause-refused c =
    let p = err_from_is_err_and c.from_residual.result c.from_residual.ensures.1 in
    let name = c.args.name.now in
    let params = sexps_of c.args.params in
    let sort = sexp_of c.args.sort in
    rw p.1
    (λ cs h.
    let s = signature_in_force (profile_of c.args.self.now) cs in
    refused_by (declared_in s c.args.number name params sort) c.in_err-declare.field-0.0 p.0 p.2
    (c.in_err-declare.ensures.refused s h.library))

pub returns-in_err-declare-clause-unchanged : goal.returns-in_err-declare-clause-unchanged
returns-in_err-declare-clause-unchanged c =
    let p = err_from_is_err_and c.from_residual.result c.from_residual.ensures.1 in
    rw p.1 (unchanged_by c.args.self.now c.declare.new.self c.args.self.now.assertions
    c.declare.ensures.grown c.declare.ensures.transient refl)

pub returns-clause-effect : goal.returns-clause-effect
returns-clause-effect c =
    declare_fun_effect c.contents_are_kept.ensures c.args.self.now c.declare.new.self c.args.number
    c.args.name.now (sexps_of c.args.params) (sexp_of c.args.sort)
    c.in_ok-declare.ensures.declared c.in_ok-declare.ensures.grown
