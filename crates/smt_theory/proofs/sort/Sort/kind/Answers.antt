use Rattle.std.proofs.Common.{◌+◌, ◌-◌, ◌*◌, ◌/◌, ◌%◌, ◌<◌, ◌∙◌, ap, sym, arith}
use Rattle.smt_theory.specs.Sort.{Array}
use Rattle.smt_theory.specs.Internal.SortCodes.{plain_of_code, sort_of_code}
use Rattle.smt_theory.proofs.SortLemmas.{few_left, inner_view, nested_view, plain_view}
use Rattle.smt_theory.proofs.sort.Sort.kind.Goals as goal

pub returns-in_default-4 : goal.returns-in_default-4
returns-in_default-4 c =
    let r = c.self.inside.code - 9223372036854775808 in
    let few : r / 1099511627776 < 1048576 =
    few_left c.self.inside.code c.if-code-lt-NESTED.false c.self.invariant.1
    in
    ap (λ s. Array s (sort_of_code (4611686018427387904 + (r / 1048576 % 1048576 * 2147483648 + r % 1048576))))
    (plain_view (r / 1099511627776) (omega (arith, few)))
    ∙ ap (Array (plain_of_code (r / 1099511627776)))
    (inner_view (r / 1048576 % 1048576) (r % 1048576) (omega arith) (omega arith))
    ∙ sym (nested_view c.self.inside.code c.if-code-lt-NESTED.false)
    ∙ c.self.view_is
