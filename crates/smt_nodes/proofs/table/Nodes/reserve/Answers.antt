use Rattle.std.proofs.Common.{ap, refl, subst, sym}
use Rattle.smt_nodes.specs.Internal.Annotations.{annotated_of}
use Rattle.smt_nodes.specs.Internal.Elements.{AreNamed}
use Rattle.smt_nodes.specs.Internal.Lists.{lists_of}
use Rattle.smt_nodes.specs.Internal.Numbers.{large_of}
use Rattle.smt_nodes.specs.Internal.Rows.{AreNumbered, IsSound, views}
use Rattle.smt_nodes.specs.Nodes.{names_of, rows_of}
use Rattle.smt_nodes.proofs.table.Nodes.reserve.Goals as goal

pub invariant_of-self : goal.invariant_of-self
invariant_of-self c =
    let nodes = c.args.self.now in
    let lists = lists_of nodes.tables in
    let annotated = annotated_of nodes.tables in
    let same = sym c.reserve.ensures.items in
    record {
      sound = subst (λ rows. IsSound rows lists annotated) same nodes.sound;
      numbered = subst (λ rows. AreNumbered rows lists (large_of nodes.tables) annotated) same nodes.numbered;
      named = subst (λ rows. AreNamed rows lists nodes.names annotated) same nodes.named;
    }

pub returns-clause-rows : goal.returns-clause-rows
unfolding rows_of
returns-clause-rows c =
    let tables = c.args.self.now.tables in
    ap (λ rows. views rows (lists_of tables) (annotated_of tables)) c.reserve.ensures.items

pub returns-clause-names : goal.returns-clause-names
unfolding names_of
returns-clause-names c = refl

pub returns-in_err-reserve-clause-rows : goal.returns-in_err-reserve-clause-rows
unfolding rows_of
returns-in_err-reserve-clause-rows c =
    let tables = c.args.self.now.tables in
    ap (λ rows. views rows (lists_of tables) (annotated_of tables)) c.reserve.ensures.items

pub returns-in_err-reserve-clause-names : goal.returns-in_err-reserve-clause-names
unfolding names_of
returns-in_err-reserve-clause-names c = refl
