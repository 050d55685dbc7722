use Rattle.std.proofs.Common.{◌≡◌, ℕ, List, Result, Ok, Err, OnErr, OnOk, refl, sym, subst}
use Rattle.smt_faults.specs.declared.memory.Memory.{Memory}
use Rattle.smt_names.specs.Places.{with_name}
use Rattle.smt_nodes.specs.Internal.Annotations.{annotated_of}
use Rattle.smt_nodes.specs.Internal.Elements.{AreNamed}
use Rattle.smt_nodes.specs.Internal.Lists.{lists_of}
use Rattle.smt_nodes.specs.Nodes.{rows_of}
use Rattle.smt_nodes.proofs.ElementLemmas.{named_more}
use Rattle.smt_nodes.proofs.table.Nodes.name_element.Goals as goal

pub invariant_of-self : goal.invariant_of-self
invariant_of-self c =
    let nodes = c.args.self.now in
    record {
      sound = nodes.sound;
      numbered = nodes.numbered;
      named = by c.place.result c.place.ensures.added c.place.ensures.unchanged;
    }
  where
    Named : List (List ℕ) → Type 0
    Named names = AreNamed c.args.self.now.rows.items (lists_of c.args.self.now.tables) names
        (annotated_of c.args.self.now.tables)

    by : (r : Result ℕ Memory) → OnOk r (c.place.new.self ≡ with_name c.args.self.now.names c.in-Element.name.now)
        → OnErr r (c.place.new.self ≡ c.args.self.now.names) → Named c.place.new.self
    by (Ok k) added same = subst Named (sym added)
        (named_more c.args.self.now.rows.items (lists_of c.args.self.now.tables) c.args.self.now.names
        c.in-Element.name.now (annotated_of c.args.self.now.tables) c.args.self.now.named)
    by (Err e) added same = subst Named (sym same) c.args.self.now.named

pub returns-in-Element-clause-rows : goal.returns-in-Element-clause-rows
unfolding rows_of
returns-in-Element-clause-rows c = refl
