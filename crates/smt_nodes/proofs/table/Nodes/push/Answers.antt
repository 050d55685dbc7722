use Rattle.std.proofs.Common.{◌≡◌, ◌++◌, ℕ, List, [], Result, Ok, Err, OnErr, OnOk, append-nil, sym, subst, ◌∙◌}
use Rattle.smt_faults.specs.declared.memory.Memory.{Memory}
use Rattle.smt_nodes.specs.Elements.{names_with}
use Rattle.smt_nodes.specs.Internal.Lists.{IsPrefix}
use Rattle.smt_nodes.specs.NodeView.{node_view}
use Rattle.smt_nodes.specs.Nodes.{names_of}
use Rattle.smt_nodes.proofs.ElementLemmas.{longer}
use Rattle.smt_nodes.proofs.table.Nodes.push.Goals as goal

ok_as_well : {T E : Type 0} {P : Type 0} (r : Result T E) → P → OnOk r P
ok_as_well (Ok x) p = p
ok_as_well (Err e) p = tt

pub returns-in_err-element-clause-longer : goal.returns-in_err-element-clause-longer
unfolding names_of
returns-in_err-element-clause-longer c =
    ([], c.in_err-element.ensures.unchanged ∙ sym (append-nil c.args.self.now.names))

pub returns-clause-names : goal.returns-clause-names
unfolding names_of
returns-clause-names c =
    ok_as_well c.push_named.result (c.push_named.ensures.names ∙ c.in_ok-element.ensures.names)

pub returns-clause-longer : goal.returns-clause-longer
unfolding names_of
returns-clause-longer c =
    subst (λ (names : List (List ℕ)). IsPrefix c.args.self.now.names names)
    (sym (c.push_named.ensures.names ∙ c.in_ok-element.ensures.names))
    (longer c.args.self.now.names (node_view c.args.node.now))
