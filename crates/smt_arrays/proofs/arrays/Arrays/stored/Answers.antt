use Rattle.std.proofs.Common.{◌∙◌, ◌∷◌, [], subst, ap, sym}
use Rattle.std.proofs.lemmas.Result.{IfOk-weaker}
use Rattle.smt_theory.specs.declared.op.ArraysOp.TheVariants.{Store}
use Rattle.smt_arrays.specs.Cells.{arrays_of}
use Rattle.smt_arrays.specs.Internal.{IsKnownIn, elements_in, value_or}
use Rattle.smt_arrays.specs.Known.{known_arrays}
use Rattle.smt_arrays.specs.Tables.{element_in}
use Rattle.smt_arrays.proofs.OperateLemmas.{added_if_known, exactly_three}
use Rattle.smt_arrays.proofs.arrays.Arrays.stored.Goals as goal

pub returns-clause-known : goal.returns-clause-known
returns-clause-known c =
    let three = exactly_three c.args.args.now c.index-args-0.result c.index-args-1.result c.index-args-2.result
    c.if-args-ne3.false c.index-args-0.is c.index-args-1.is c.index-args-2.is in
    let arrays = arrays_of c.args.self.now in
    let known = ap (λ v. known_arrays Store (element_in arrays v ∷ element_in arrays c.value_or-2.result
    ∷ element_in arrays c.value_or-3.result ∷ [])) c.value_or.ensures
    ∙ ap (λ v. known_arrays Store (element_in arrays (value_or c.index-args-0.result) ∷ element_in arrays v
    ∷ element_in arrays c.value_or-3.result ∷ [])) c.value_or-2.ensures
    ∙ ap (λ v. known_arrays Store (element_in arrays (value_or c.index-args-0.result)
    ∷ element_in arrays (value_or c.index-args-1.result) ∷ element_in arrays v ∷ [])) c.value_or-3.ensures
    ∙ sym (ap (λ xs. known_arrays Store (elements_in arrays xs)) three) in
    IfOk-weaker c.store.result _ _
    (λ v h. subst (λ k. IsKnownIn arrays (arrays_of c.store.new.self) k v) known (added_if_known _ _ _ _ h))
    c.store.ensures.added
