use Rattle.std.proofs.Common.{List, slice_get, ap, ◌∙◌}
use Rattle.smt_nodes.specs.Internal.Annotations.{annotated_of}
use Rattle.smt_nodes.specs.Internal.Numbers.{large_of}
use Rattle.smt_nodes.specs.declared.annotated.AnnotatedNode.{AnnotatedNode}
use Rattle.smt_nodes.specs.declared.large.LargeNumber.{LargeNumber}
use Rattle.smt_nodes.proofs.PlaceLemmas.{get_first}
use Rattle.smt_nodes.proofs.tables.Tables.truncate.Goals as goal

pub returns-clause-large : goal.returns-clause-large
returns-clause-large c = λ i x at mine.
    let count = c.count_before.result in
    ap (λ (xs : List LargeNumber). slice_get xs i) c.truncate-4.ensures.items
    ∙ get_first count (large_of c.args.self.now) i x
    (c.count_before.ensures.kept i x
    (ap (λ (xs : List LargeNumber). slice_get xs i) c.as_slice.ensures.value ∙ at) mine) at

pub returns-clause-annotated : goal.returns-clause-annotated
returns-clause-annotated c = λ i x at mine.
    let count = c.count_before-2.result in
    ap (λ (xs : List AnnotatedNode). slice_get xs i) c.truncate-5.ensures.items
    ∙ get_first count (annotated_of c.args.self.now) i x
    (c.count_before-2.ensures.kept i x
    (ap (λ (xs : List AnnotatedNode). slice_get xs i) c.as_slice-2.ensures.value ∙ at) mine) at
