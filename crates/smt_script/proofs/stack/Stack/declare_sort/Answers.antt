use Rattle.std.proofs.Common.{◌≡◌, refl, rules, subst}
use Rattle.smt_faults.specs.Outcome.{Tells}
use Rattle.std.proofs.lemmas.Result.{err_from_is_err_and}
use Rattle.smt_terms.specs.Signature.{sort_names_of}
use Rattle.smt_terms.specs.Declarations.{sort_declared_in}
use Rattle.smt_script.specs.Command.{DeclareSort}
use Rattle.smt_script.specs.Internal.Effect.{HasEffect}
use Rattle.smt_script.specs.Stack.{signature_in_force}
use Rattle.smt_script.specs.StackView.{profile_of}
use Rattle.smt_script.proofs.EffectLemmas.{declare_sort_effect, refused_by, unchanged_by}
use Rattle.smt_script.proofs.stack.Stack.declare_sort.Goals as goal

pub returns-in_err-declare_sort-clause-refused : goal.returns-in_err-declare_sort-clause-refused
returns-in_err-declare_sort-clause-refused c =
    let p = err_from_is_err_and c.from_residual.result c.from_residual.ensures.1 in
    let name = c.args.name.now in
    let same : c.in-Ok.command ≡ c.args.number = search rules in
    rw p.1
    (λ cs h.
    let s = signature_in_force (profile_of c.args.self.now) cs in
    refused_by (sort_declared_in (sort_names_of s) c.args.number name) c.in_err-declare_sort.field-0.0 p.0 p.2
    (subst (λ n. Tells (sort_declared_in (sort_names_of s) n name) c.in_err-declare_sort.field-0.0) same
    (c.in_err-declare_sort.ensures.refused s h.library)))

pub returns-in_err-declare_sort-clause-unchanged : goal.returns-in_err-declare_sort-clause-unchanged
returns-in_err-declare_sort-clause-unchanged c =
    let p = err_from_is_err_and c.from_residual.result c.from_residual.ensures.1 in
    rw p.1 (unchanged_by c.args.self.now c.declare_sort.new.self c.args.self.now.assertions
    c.declare_sort.ensures.grown c.declare_sort.ensures.transient refl)

pub returns-clause-effect : goal.returns-clause-effect
returns-clause-effect c =
    let same : c.in-Ok.command ≡ c.args.number = search rules in
    subst (λ n. HasEffect c.args.self.now (record c.args.self.now { library = c.declare_sort.new.self }) n (DeclareSort c.args.name.now)) same
    (declare_sort_effect c.contents_are_kept.ensures c.args.self.now c.declare_sort.new.self c.in-Ok.command
    c.args.name.now c.in_ok-declare_sort.ensures.declared c.in_ok-declare_sort.ensures.grown)
