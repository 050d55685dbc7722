use Rattle.std.proofs.Common.{◌∙◌, Some, ap, rules, sym}
use Rattle.std.proofs.lemmas.Fn.{always_returns_same}
use Rattle.smt_values.proofs.DistinctLemmas.{distinct_by_order}
use Rattle.smt_values.proofs.KnownLoopLemmas.{distinct_all}
use Rattle.smt_values.specs.Element.{Truth, known_element}
use Rattle.smt_values.specs.Internal.Keys.{key_of}
use Rattle.smt_values.proofs.operations.distinct.distinctness_in_place.Goals as goal

pub returns-then-all_are_known : goal.returns-then-all_are_known
returns-then-all_are_known c =
    let sorted = c.sort_unstable_by_key.ensures.sorted (λ x. key_of (known_element x))
    (always_returns_same _ _ _ (λ a r q k. search rules)) in
    ap (λ b. Some (Truth b))
    (c.are_neighbours_distinct.ensures
    ∙ distinct_by_order c.args.args.now _ c.sort_unstable_by_key.ensures.permutation sorted)
    ∙ distinct_all c.args.args.now (sym c.all_are_known.ensures ∙ c.if-all_are_known.true)
