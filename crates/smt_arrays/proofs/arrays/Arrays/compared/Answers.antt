use Rattle.std.proofs.Common.{◌∙◌, List, ap, not, sym, subst}
use Rattle.smt_theory.specs.declared.op.Op.TheVariants.{Core}
use Rattle.smt_arrays.specs.Cells.{arrays_of}
use Rattle.smt_arrays.specs.Internal.{IsKnownIn, elements_in}
use Rattle.smt_arrays.specs.Known.{are_all_so, known_step, neighbours_same, pairs_different}
use Rattle.smt_arrays.specs.Tables.{all_known_in}
use Rattle.smt_arrays.specs.declared.arrays.Cell.{Cell}
use Rattle.smt_arrays.proofs.OperateLemmas.{compared_long, compared_open, distinct_known, equal_known, open_known}
use Rattle.smt_arrays.proofs.OperateLemmas.{truth_known}
use Rattle.smt_arrays.proofs.OperateLemmas.{not_so, value_known}
use Rattle.smt_arrays.proofs.arrays.Arrays.compared.Goals as goal

pub returns-then-takes_values : goal.returns-then-takes_values
returns-then-takes_values c =
    value_known c.args.self.now (not c.has_array-without_arrays.result) (Core c.args.op) c.args.args.now
    c.apply_in_place.result c.requires.held (not_so _ _ c.has_array-without_arrays.ensures)
    (sym c.takes_values.ensures ∙ c.if-takes_values.true)
    c.apply_in_place.ensures

pub returns-then-not-are_all_known : goal.returns-then-not-are_all_known
returns-then-not-are_all_known c =
    open_known (arrays_of c.args.self.now) _
    (compared_open c.args.self.now (not c.has_array-without_arrays.result) c.args.op c.args.args.now
    (sym c.takes_values.ensures ∙ c.if-takes_values.false)
    (sym c.are_all_known.ensures ∙ c.if-not-are_all_known.true))

pub returns-then-is_too_much : goal.returns-then-is_too_much
returns-then-is_too_much c =
    open_known (arrays_of c.args.self.now) _
    (compared_long c.args.self.now (not c.has_array-without_arrays.result) c.args.op c.args.args.now
    (sym c.takes_values.ensures ∙ c.if-takes_values.false) c.requires.held
    (sym c.are_all_known.ensures ∙ c.if-not-are_all_known.false)
    (sym c.is_too_much.ensures ∙ c.if-is_too_much.true))

pub returns-in-Equal : goal.returns-in-Equal
returns-in-Equal c =
    let arrays = arrays_of c.args.self.now in
    let found = c.are_neighbours_same.ensures
    ∙ ap (λ (cells : List Cell). are_all_so (neighbours_same (elements_in (arrays_of cells) c.args.args.now)))
    (c.as_slice-cells.ensures.value ∙ c.self.view_is) in
    subst (IsKnownIn arrays arrays (known_step (Core c.args.op) (all_known_in arrays c.args.args.now)))
    (sym c.truth_value.ensures)
    (truth_known arrays c.are_neighbours_same.result _
    (equal_known c.args.self.now c.args.op c.args.args.now c.are_neighbours_same.result c.in-Equal.is c.requires.held
    (sym c.are_all_known.ensures ∙ c.if-not-are_all_known.false)
    (sym c.is_too_much.ensures ∙ c.if-is_too_much.false) found))

pub returns-in_default : goal.returns-in_default
returns-in_default c =
    let arrays = arrays_of c.args.self.now in
    let found = c.are_pairs_different.ensures
    ∙ ap (λ (cells : List Cell). are_all_so (pairs_different (elements_in (arrays_of cells) c.args.args.now)))
    (c.as_slice-cells.ensures.value ∙ c.self.view_is) in
    subst (IsKnownIn arrays arrays (known_step (Core c.args.op) (all_known_in arrays c.args.args.now)))
    (sym c.truth_value-in_default.ensures)
    (truth_known arrays c.are_pairs_different.result _
    (distinct_known c.args.self.now (not c.has_array-without_arrays.result) c.args.op c.args.args.now
    c.are_pairs_different.result (sym c.takes_values.ensures ∙ c.if-takes_values.false) c.in_default.not-Equal
    c.requires.held (sym c.are_all_known.ensures ∙ c.if-not-are_all_known.false)
    (sym c.is_too_much.ensures ∙ c.if-is_too_much.false) found))
