use Rattle.std.proofs.Common.{◌≡◌, [], sym, subst, append-nil, ◌∙◌}
use Rattle.smt_nodes.specs.Internal.Annotations.{annotated_of}
use Rattle.smt_nodes.specs.Internal.Lists.{IsHeld, Lists, lengths, lists_of, node_of}
use Rattle.smt_nodes.specs.Internal.Numbers.{large_of}
use Rattle.smt_nodes.specs.Nodes.{rows_of}
use Rattle.smt_nodes.specs.declared.rows.Stored.{Stored}
use Rattle.smt_nodes.specs.Elements.{element_number}
use Rattle.smt_nodes.specs.Internal.Elements.{held_element}
use Rattle.smt_nodes.proofs.ElementLemmas.{named_grown}
use Rattle.smt_nodes.proofs.NumberLemmas.{numbered_grown}
use Rattle.smt_nodes.proofs.OutcomeLemmas.{err_as_well, on_err, on_ok}
use Rattle.smt_nodes.proofs.PushLemmas.{grown_seen, number_seen, rows_with, same_lists, stored_seen}
use Rattle.smt_nodes.proofs.SoundLemmas.{sound_grown}
use Rattle.smt_nodes.proofs.table.Nodes.push_stored.Goals as goal

pub invariant_of-self : goal.invariant_of-self
invariant_of-self c =
    let nodes = c.args.self.now in
    let after = c.annotate.new.self in
    let grown = same_lists (lists_of nodes.tables) (lists_of after) c.annotate.ensures.lists in
    record {
      sound = sound_grown nodes.rows.items (lists_of nodes.tables) (lists_of after) (annotated_of nodes.tables)
          (annotated_of after) nodes.sound grown c.annotate.ensures.longer;
      numbered = numbered_grown nodes.rows.items (lists_of nodes.tables) (lists_of after) (large_of nodes.tables)
          (large_of after) (annotated_of nodes.tables) (annotated_of after) nodes.sound grown
          ([], c.annotate.ensures.large ∙ sym (append-nil (large_of nodes.tables))) c.annotate.ensures.longer
          nodes.numbered;
      named = named_grown nodes.rows.items (lists_of nodes.tables) (lists_of after) nodes.names
          (annotated_of nodes.tables) (annotated_of after) nodes.sound grown c.annotate.ensures.longer nodes.named;
    }

pub push_row-requires-clause-element : goal.push_row-requires-clause-element
push_row-requires-clause-element c =
    let after = c.annotate.new.self in
    subst (λ (s : Stored). held_element s
    ≡ element_number c.args.self.now.names (node_of (lists_of after) (lengths (lists_of after)) s))
    (sym c.in_ok-stored.ensures.annotated.node)
    (subst (λ (t : Lists). held_element c.args.stored
    ≡ element_number c.args.self.now.names (node_of t (lengths t) c.args.stored))
    (sym c.annotate.ensures.lists) c.requires.element)

pub push_row-requires-clause-held : goal.push_row-requires-clause-held
push_row-requires-clause-held c =
    let held : IsHeld (lengths (lists_of c.annotate.new.self)) c.args.stored =
    subst (λ (t : Lists). IsHeld (lengths t) c.args.stored) (sym c.annotate.ensures.lists) c.requires.held in
    subst (λ (s : Stored). IsHeld (lengths (lists_of c.annotate.new.self)) s)
    (sym c.in_ok-stored.ensures.annotated.node) held

pub returns-in_err-stored-clause-unchanged : goal.returns-in_err-stored-clause-unchanged
unfolding rows_of
returns-in_err-stored-clause-unchanged c =
    err_as_well c.from_residual.result
    (grown_seen c.args.self.now c.annotate.new.self
    (same_lists (lists_of c.args.self.now.tables) (lists_of c.annotate.new.self) c.annotate.ensures.lists)
    c.annotate.ensures.longer)

pub returns-clause-pushed : goal.returns-clause-pushed
returns-clause-pushed c =
    on_ok c.push_row.result c.push_row.ensures.pushed
    (stored_seen c.args.self.now c.push_row.new.self c.annotate.new.self c.in_ok-stored.stored c.args.stored
    _ c.args.around c.push_row.ensures.tables c.annotate.ensures.lists c.annotate.ensures.longer
    c.in_ok-stored.ensures.annotated)

pub returns-clause-number : goal.returns-clause-number
returns-clause-number c = number_seen c.args.self.now c.push_row.result c.push_row.ensures.number

pub returns-clause-unchanged : goal.returns-clause-unchanged
returns-clause-unchanged c =
    on_err c.push_row.result c.push_row.ensures.unchanged
    (λ same. rows_with c.push_row.new.self c.args.self.now.rows.items c.annotate.new.self
    c.push_row.ensures.tables same
    ∙ grown_seen c.args.self.now c.annotate.new.self
    (same_lists (lists_of c.args.self.now.tables) (lists_of c.annotate.new.self) c.annotate.ensures.lists)
    c.annotate.ensures.longer)
