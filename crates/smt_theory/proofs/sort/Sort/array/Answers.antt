use Rattle.std.proofs.Common.{◌-◌, ◌/◌, ◌%◌, ◌∙◌, ap, sym, arith}
use Rattle.smt_theory.specs.Sort.{Array}
use Rattle.smt_theory.specs.Internal.SortCodes.{plain_of_code}
use Rattle.smt_theory.proofs.SortLemmas.{array_view, nested_parts, nested_sort, plain_view}
use Rattle.smt_theory.proofs.sort.Sort.array.Goals as goal

pub invariant_of-result-2 : goal.invariant_of-result-2
invariant_of-result-2 c =
    nested_sort c.index.inside.code ((c.element.inside.code - 4611686018427387904) / 2147483648)
    ((c.element.inside.code - 4611686018427387904) % 2147483648)
    c.if-i-ge-NESTED_PART.false c.if-j-ge-NESTED_PART.false c.if-f-ge-NESTED_PART.false

pub returns-clause-sort : goal.returns-clause-sort
returns-clause-sort c =
    let index = sym (plain_view c.index.inside.code (omega (arith, c.if-i-ge-NESTED_PART.false))) ∙ c.index.view_is in
    let element =
    sym (array_view c.element.inside.code c.if-e-lt-ARRAY.false c.if-e-ge-NESTED.false) ∙ c.element.view_is
    in
    nested_parts c.index.inside.code ((c.element.inside.code - 4611686018427387904) / 2147483648)
    ((c.element.inside.code - 4611686018427387904) % 2147483648)
    c.if-i-ge-NESTED_PART.false c.if-j-ge-NESTED_PART.false c.if-f-ge-NESTED_PART.false
    ∙ ap (λ s. Array s (Array (plain_of_code ((c.element.inside.code - 4611686018427387904) / 2147483648))
    (plain_of_code ((c.element.inside.code - 4611686018427387904) % 2147483648)))) index
    ∙ ap (Array c.args.index) element
