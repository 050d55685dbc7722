use Rattle.std.proofs.Common.{refl}
use Rattle.std.proofs.lemmas.Result.{err_from_is_err_and}
use Rattle.smt_trees.specs.View.{sexp_of}
use Rattle.smt_terms.specs.Signature.{sort_names_of}
use Rattle.smt_terms.specs.Declarations.{abbreviated_in}
use Rattle.smt_script.specs.Stack.{signature_in_force}
use Rattle.smt_script.specs.StackView.{profile_of}
use Rattle.smt_script.proofs.EffectLemmas.{define_sort_effect, refused_by, unchanged_by}
use Rattle.smt_script.proofs.stack.Stack.define_sort.Goals as goal

pub returns-in_err-abbreviate-clause-refused : goal.returns-in_err-abbreviate-clause-refused
returns-in_err-abbreviate-clause-refused c =
    let p = err_from_is_err_and c.from_residual.result c.from_residual.ensures.1 in
    let name = c.args.name.now in
    let sort = sexp_of c.args.sort in
    rw p.1
    (λ n cs h.
    let s = signature_in_force (profile_of c.args.self.now) cs in
    refused_by (abbreviated_in (sort_names_of s) name sort) c.in_err-abbreviate.field-0.0 p.0 p.2
    (c.in_err-abbreviate.ensures.refused s h.library))

pub returns-in_err-abbreviate-clause-unchanged : goal.returns-in_err-abbreviate-clause-unchanged
returns-in_err-abbreviate-clause-unchanged c =
    let p = err_from_is_err_and c.from_residual.result c.from_residual.ensures.1 in
    rw p.1 (unchanged_by c.args.self.now c.abbreviate.new.self c.args.self.now.assertions
    c.abbreviate.ensures.grown c.abbreviate.ensures.transient refl)

pub returns-clause-effect : goal.returns-clause-effect
returns-clause-effect c = λ n.
    define_sort_effect c.contents_are_kept.ensures c.args.self.now c.abbreviate.new.self n c.args.name.now
    (sexp_of c.args.sort) c.in_ok-abbreviate.ensures.abbreviated c.in_ok-abbreviate.ensures.grown
