use Rattle.std.proofs.Common.{sym, subst}
use Rattle.smt_nodes.specs.Internal.Lists.{IsHeld}
use Rattle.smt_nodes.specs.declared.rows.Stored.{Stored}
use Rattle.smt_nodes.proofs.table.Nodes.parts.Goals as goal

pub node_parts-requires-clause-held : goal.node_parts-requires-clause-held
node_parts-requires-clause-held c =
    subst (λ (s : Stored). IsHeld c.args.row.ends s) (sym c.inner-stored.ensures)
    (c.args.self.now.sound.held c.requires.0 c.args.row c.requires.1)

pub node_parts-requires-clause-within : goal.node_parts-requires-clause-within
node_parts-requires-clause-within c = c.args.self.now.sound.within c.requires.0 c.args.row c.requires.1
