use Rattle.std.proofs.Common.{ℕ, List, map, ap, subst, ◌∙◌, refl}
use Rattle.std.proofs.lemmas.Result.{err_from_is_err_and}
use Rattle.smt_trees.specs.Sexp.{Sexp}
use Rattle.smt_trees.specs.View.{sexp_of, sexps_of}
use Rattle.smt_forms.specs.Bindings.{named_trees}
use Rattle.smt_terms.specs.Definitions.{defined_in}
use Rattle.smt_forms.specs.ParamView.{param_view}
use Rattle.smt_faults.specs.Outcome.{Tells}
use Rattle.smt_script.specs.Stack.{signature_in_force}
use Rattle.smt_script.specs.StackView.{profile_of}
use Rattle.smt_script.proofs.EffectLemmas.{DefinesIn, define_effect, refused_by, unchanged_by}
use Rattle.smt_script.proofs.stack.Stack.define.Goals as goal

pub returns-in_err-define-clause-refused : goal.returns-in_err-define-clause-refused
returns-in_err-define-clause-refused c =
    let p = err_from_is_err_and c.from_residual-in_err-define.result c.from_residual-in_err-define.ensures.1
    in
    let name = c.args.name.now in
    let sort = sexp_of c.args.sort in
    let body = sexp_of c.args.body in
    let params = named_trees (sexps_of c.args.params) in
    let named = ap (λ qs. map param_view qs) c.as_slice.ensures.value ∙ c.in_ok-params.ensures in
    rw p.1
    (λ n cs h.
    let s = signature_in_force (profile_of c.args.self.now) cs in
    let P : List (List ℕ × Sexp) → Type 0 =
    λ ps. Tells (defined_in s name ps sort body) c.in_err-define.field-0.0 in
    refused_by (defined_in s name params sort body) c.in_err-define.field-0.0 p.0 p.2
    (subst P named (c.in_err-define.ensures.refused s h.library)))

pub returns-in_err-define-clause-unchanged : goal.returns-in_err-define-clause-unchanged
returns-in_err-define-clause-unchanged c =
    let p = err_from_is_err_and c.from_residual-in_err-define.result c.from_residual-in_err-define.ensures.1
    in
    rw p.1 (unchanged_by c.args.self.now c.define.new.self c.args.self.now.assertions
    c.define.ensures.grown c.define.ensures.transient refl)

pub returns-clause-effect : goal.returns-clause-effect
returns-clause-effect c =
    let P : List (List ℕ × Sexp) → Type 0 =
    λ ps. DefinesIn c.args.self.now.library c.define.new.self c.args.name.now ps (sexp_of c.args.sort)
    (sexp_of c.args.body) in
    let named = ap (λ qs. map param_view qs) c.as_slice.ensures.value ∙ c.in_ok-params.ensures in
    λ n.
    define_effect c.contents_are_kept.ensures c.args.self.now c.define.new.self n c.args.name.now
    (named_trees (sexps_of c.args.params)) (sexp_of c.args.sort) (sexp_of c.args.body)
    (subst P named c.in_ok-define.ensures.defined) c.in_ok-define.ensures.grown
