use Rattle.std.proofs.Common.{◌≡◌, List, [], ◌∷◌, ◌++◌, sym, ap, ◌∙◌, subst}
use Rattle.smt_nodes.specs.Internal.Annotations.{annotated_of}
use Rattle.smt_nodes.specs.Internal.Lists.{lists_of}
use Rattle.smt_nodes.specs.Internal.Numbers.{large_of}
use Rattle.smt_nodes.specs.Internal.Rows.{AreNumbered, IsSound}
use Rattle.smt_nodes.specs.declared.rows.StoredRow.{StoredRow}
use Rattle.smt_nodes.specs.Internal.Elements.{AreNamed}
use Rattle.smt_nodes.proofs.ElementLemmas.{named_pushed}
use Rattle.smt_nodes.proofs.NumberLemmas.{numbered_pushed}
use Rattle.smt_nodes.proofs.SoundLemmas.{sound_pushed}
use Rattle.smt_nodes.proofs.table.Nodes.push_row.Goals as goal

pub invariant_of-self : goal.invariant_of-self
invariant_of-self c =
    let nodes = c.args.self.now in
    let kept : IsSound c.reserve.new.self.items (lists_of nodes.tables) (annotated_of nodes.tables) =
    subst (λ (rows : List StoredRow). IsSound rows (lists_of nodes.tables) (annotated_of nodes.tables)) (sym c.reserve.ensures.items)
    nodes.sound in
    let numbered : AreNumbered c.reserve.new.self.items (lists_of nodes.tables) (large_of nodes.tables)
    (annotated_of nodes.tables) =
    subst (λ (rows : List StoredRow). AreNumbered rows (lists_of nodes.tables) (large_of nodes.tables)
    (annotated_of nodes.tables))
    (sym c.reserve.ensures.items) nodes.numbered in
    let named : AreNamed c.reserve.new.self.items (lists_of nodes.tables) nodes.names (annotated_of nodes.tables) =
    subst (λ (rows : List StoredRow). AreNamed rows (lists_of nodes.tables) nodes.names (annotated_of nodes.tables))
    (sym c.reserve.ensures.items) nodes.named in
    record { sound = kept; numbered = numbered; named = named }

pub invariant_of-self-2 : goal.invariant_of-self-2
invariant_of-self-2 c =
    let nodes = c.args.self.now in
    let new : StoredRow =
    record { stored = c.args.stored; ends = c.in_ok-ends.ends } in
    let pushed : c.push_reserved.new.self.items ≡ nodes.rows.items ++ new ∷ [] =
    c.push_reserved.ensures.items ∙ ap (λ rows. rows ++ new ∷ []) c.reserve.ensures.items in
    let kept : IsSound c.push_reserved.new.self.items (lists_of nodes.tables) (annotated_of nodes.tables) =
    subst (λ (rows : List StoredRow). IsSound rows (lists_of nodes.tables) (annotated_of nodes.tables)) (sym pushed)
    (sound_pushed nodes.rows.items (lists_of nodes.tables) (annotated_of nodes.tables) new nodes.sound c.in_ok-ends.ensures
    c.requires.held c.requires.own) in
    let numbered : AreNumbered c.push_reserved.new.self.items (lists_of nodes.tables) (large_of nodes.tables)
    (annotated_of nodes.tables) =
    subst (λ (rows : List StoredRow). AreNumbered rows (lists_of nodes.tables) (large_of nodes.tables)
    (annotated_of nodes.tables)) (sym pushed)
    (numbered_pushed nodes.rows.items (lists_of nodes.tables) (large_of nodes.tables) (annotated_of nodes.tables)
    new nodes.numbered c.in_ok-ends.ensures c.requires.number) in
    let named : AreNamed c.push_reserved.new.self.items (lists_of nodes.tables) nodes.names
    (annotated_of nodes.tables) =
    subst (λ (rows : List StoredRow). AreNamed rows (lists_of nodes.tables) nodes.names (annotated_of nodes.tables))
    (sym pushed)
    (named_pushed nodes.rows.items (lists_of nodes.tables) nodes.names (annotated_of nodes.tables) new nodes.named
    c.in_ok-ends.ensures c.requires.element) in
    record { sound = kept; numbered = numbered; named = named }
