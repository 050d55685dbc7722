use Rattle.std.proofs.Common.{take, ap, sym, ◌∙◌}
use Rattle.std.proofs.lemmas.List.{take-map}
use Rattle.std.specs.Map.{keys_of}
use Rattle.indexmap.specs.IndexMap.{keys}
use Rattle.smt_names.proofs.TableLemmas.{cut_front, no_map, table-take}
use Rattle.smt_names.proofs.table.Table.cut.Goals as goal

pub invariant_of-self : goal.invariant_of-self
invariant_of-self c =
    table-take c.args.len (keys c.self.inside.names) c.self.inside.late.items (keys c.truncate.new.self)
    c.self.inside.begun c.self.inside.places c.self.invariant (no_map c.self.inside.places c.if-is_none.ensures)
    (ap keys_of c.truncate.ensures.entries ∙ sym (take-map (λ e. e.0) c.args.len c.self.inside.names.entries))

pub returns-then-is_none : goal.returns-then-is_none
returns-then-is_none c =
    cut_front c.args.len (keys c.self.inside.names) c.self.inside.late.items (keys c.truncate.new.self)
    c.self.inside.begun c.self.inside.places c.self.invariant (no_map c.self.inside.places c.if-is_none.ensures)
    (ap keys_of c.truncate.ensures.entries ∙ sym (take-map (λ e. e.0) c.args.len c.self.inside.names.entries))
    ∙ ap (λ ns. take c.args.len ns) c.self.view_is
