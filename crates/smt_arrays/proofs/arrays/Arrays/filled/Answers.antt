use Rattle.std.proofs.Common.{◌∙◌, ◌∷◌, [], Some, subst, ap, sym}
use Rattle.smt_theory.specs.Sort.{Sort}
use Rattle.smt_theory.specs.declared.op.ArraysOp.TheVariants.{Const}
use Rattle.smt_arrays.specs.Cells.{arrays_of}
use Rattle.smt_arrays.specs.Element.{Filled}
use Rattle.smt_arrays.specs.Internal.{IsKnownIn, elements_in}
use Rattle.smt_arrays.specs.Known.{known_arrays}
use Rattle.smt_arrays.specs.Tables.{element_in}
use Rattle.smt_arrays.proofs.OperateLemmas.{added_known, exactly_one}
use Rattle.smt_arrays.proofs.arrays.Arrays.filled.Goals as goal

pub returns-clause-known : goal.returns-clause-known
returns-clause-known c =
    let one = exactly_one c.args.args.now c.index-args-0.result c.if-args-ne1.false
    c.index-args-0.is in
    let arrays = arrays_of c.args.self.now in
    let known = λ (sort : Sort). ap (λ v. known_arrays (Const sort) (element_in arrays v ∷ [])) c.value_or.ensures
    ∙ sym (ap (λ xs. known_arrays (Const sort) (elements_in arrays xs)) one) in
    λ sort. subst (λ k. IsKnownIn arrays (arrays_of c.fill.new.self) k (Some c.in_ok-fill.field-0)) (known sort)
    (added_known arrays (arrays_of c.fill.new.self) (Filled (element_in arrays c.value_or.result)) c.in_ok-fill.field-0
    c.in_ok-fill.ensures.added)
