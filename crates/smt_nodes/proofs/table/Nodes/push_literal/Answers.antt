use Rattle.std.proofs.Common.{List, length, ap, refl, sym, ◌∙◌}
use Rattle.smt_nodes.specs.Internal.Annotations.{annotated_of}
use Rattle.smt_nodes.specs.Internal.Lists.{lengths, lists_of, node_of}
use Rattle.smt_nodes.specs.Internal.Numbers.{large_of}
use Rattle.smt_nodes.specs.Node.{Literal, Row}
use Rattle.smt_nodes.specs.Nodes.{names_of, rows_of}
use Rattle.smt_nodes.specs.Elements.{element_number}
use Rattle.smt_nodes.proofs.ElementLemmas.{named_grown}
use Rattle.smt_nodes.proofs.NumberLemmas.{numbered_grown}
use Rattle.smt_nodes.proofs.OutcomeLemmas.{err_as_well, if_ok, on_err, on_ok}
use Rattle.smt_nodes.proofs.PushLemmas.{as_before, grown_seen, pushed_seen}
use Rattle.smt_nodes.proofs.SoundLemmas.{sound_grown}
use Rattle.smt_nodes.proofs.table.Nodes.push_literal.Goals as goal

pub invariant_of-self : goal.invariant_of-self
invariant_of-self c =
    let nodes = c.args.self.now in
    let after = c.store_literal.new.self in
    let same = as_before (annotated_of nodes.tables) (annotated_of after) c.store_literal.ensures.annotated in
    record {
      sound = sound_grown nodes.rows.items (lists_of nodes.tables) (lists_of after) (annotated_of nodes.tables)
          (annotated_of after) nodes.sound c.store_literal.ensures.grown same;
      numbered = numbered_grown nodes.rows.items (lists_of nodes.tables) (lists_of after) (large_of nodes.tables)
          (large_of after) (annotated_of nodes.tables) (annotated_of after) nodes.sound c.store_literal.ensures.grown
          c.store_literal.ensures.longer same nodes.numbered;
      named = named_grown nodes.rows.items (lists_of nodes.tables) (lists_of after) nodes.names
          (annotated_of nodes.tables) (annotated_of after) nodes.sound c.store_literal.ensures.grown same nodes.named;
    }

pub push_stored-requires-clause-element : goal.push_stored-requires-clause-element
push_stored-requires-clause-element c =
    c.in_ok-stored.ensures.element
    ∙ ap (element_number c.args.self.now.names) (sym c.in_ok-stored.ensures.stored.node)

pub returns-in_err-stored-clause-unchanged : goal.returns-in_err-stored-clause-unchanged
unfolding rows_of
returns-in_err-stored-clause-unchanged c =
    let nodes = c.args.self.now in
    err_as_well c.from_residual.result
    (grown_seen nodes c.store_literal.new.self c.in_err-stored.ensures.grown
    (as_before (annotated_of nodes.tables) (annotated_of c.store_literal.new.self) c.in_err-stored.ensures.annotated))

pub returns-clause-pushed : goal.returns-clause-pushed
unfolding rows_of
returns-clause-pushed c =
    let after = c.store_literal.new.self in
    on_ok c.push_stored.result c.push_stored.ensures.pushed
    (pushed_seen c.args.self.now after (rows_of c.push_stored.new.self)
    (node_of (lists_of after) (lengths (lists_of after)) c.in_ok-stored.stored) (Literal c.args.kind c.args.digits.now)
    c.args.around c.in_ok-stored.ensures.grown c.in_ok-stored.ensures.annotated c.in_ok-stored.ensures.stored.node)

pub returns-clause-number : goal.returns-clause-number
unfolding rows_of
returns-clause-number c =
    let nodes = c.args.self.now in
    if_ok c.push_stored.result c.push_stored.ensures.number
    (λ id is. is ∙ ap (λ (rows : List Row). length rows) (grown_seen nodes c.store_literal.new.self
    c.in_ok-stored.ensures.grown
    (as_before (annotated_of nodes.tables) (annotated_of c.store_literal.new.self) c.in_ok-stored.ensures.annotated)))

pub returns-clause-unchanged : goal.returns-clause-unchanged
unfolding rows_of
returns-clause-unchanged c =
    let nodes = c.args.self.now in
    on_err c.push_stored.result c.push_stored.ensures.unchanged
    (λ is. is ∙ grown_seen nodes c.store_literal.new.self c.in_ok-stored.ensures.grown
    (as_before (annotated_of nodes.tables) (annotated_of c.store_literal.new.self) c.in_ok-stored.ensures.annotated))

pub returns-in_err-stored-clause-names : goal.returns-in_err-stored-clause-names
unfolding names_of
returns-in_err-stored-clause-names c = refl

pub returns-clause-names : goal.returns-clause-names
unfolding names_of
returns-clause-names c = c.push_stored.ensures.names
