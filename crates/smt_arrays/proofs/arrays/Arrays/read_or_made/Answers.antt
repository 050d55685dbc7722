use Rattle.std.proofs.Common.{◌∙◌, sym, subst}
use Rattle.std.proofs.lemmas.Result.{IfOk-weaker}
use Rattle.smt_theory.specs.declared.op.ArraysOp.TheVariants.{Select, Store, Const}
use Rattle.smt_arrays.specs.Cells.{arrays_of}
use Rattle.smt_arrays.specs.Internal.{IsKnownIn}
use Rattle.smt_arrays.specs.Known.{known_arrays}
use Rattle.smt_arrays.proofs.OperateLemmas.{made_step, open_known, step_of_open}
use Rattle.smt_arrays.proofs.arrays.Arrays.read_or_made.Goals as goal

pub returns-then-not-are_all_known-clause-known : goal.returns-then-not-are_all_known-clause-known
returns-then-not-are_all_known-clause-known c =
    open_known (arrays_of c.args.self.now) _
    (step_of_open (arrays_of c.args.self.now) (known_arrays c.args.op) c.args.args.now
    (sym c.are_all_known.ensures ∙ c.if-not-are_all_known.true))

pub returns-in-Select-clause-known : goal.returns-in-Select-clause-known
returns-in-Select-clause-known c =
    let arrays = arrays_of c.args.self.now in
    subst (λ k. IsKnownIn arrays arrays k c.selected.result)
    (sym (made_step c.args.self.now c.args.op Select c.args.args.now c.in-Select.is c.requires.held
    (sym c.are_all_known.ensures ∙ c.if-not-are_all_known.false)))
    c.selected.ensures

pub returns-in-Store-clause-known : goal.returns-in-Store-clause-known
returns-in-Store-clause-known c =
    let arrays = arrays_of c.args.self.now in
    let made = made_step c.args.self.now c.args.op Store c.args.args.now c.in-Store.is c.requires.held
    (sym c.are_all_known.ensures ∙ c.if-not-are_all_known.false) in
    IfOk-weaker c.stored.result _ _
    (λ v h. subst (λ k. IsKnownIn arrays (arrays_of c.stored.new.self) k v) (sym made) h) c.stored.ensures.known

pub returns-in-Const-clause-known : goal.returns-in-Const-clause-known
returns-in-Const-clause-known c =
    let arrays = arrays_of c.args.self.now in
    let made = made_step c.args.self.now c.args.op (Const c.in-Const.field-0)
    c.args.args.now c.in-Const.is c.requires.held
    (sym c.are_all_known.ensures ∙ c.if-not-are_all_known.false) in
    IfOk-weaker c.filled.result _ _
    (λ v h. subst (λ k. IsKnownIn arrays (arrays_of c.filled.new.self) k v) (sym made) h)
    (c.filled.ensures.known c.in-Const.field-0)
