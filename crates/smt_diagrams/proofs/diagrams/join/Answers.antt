use Rattle.std.proofs.Common.{sym, ◌∙◌}
use Rattle.smt_diagrams.proofs.ForkLemmas.{found, fork_itself, forks_once, joined_at, joined_leaf}
use Rattle.smt_diagrams.specs.contracts.diagram.ForkPartialEq.TheImpl.{eq-value}
use Rattle.smt_diagrams.proofs.diagrams.join.Goals as goal

pub returns-clause-distinct : goal.returns-clause-distinct
returns-clause-distinct c = forks_once eq-value.it fork_itself c.insert_full.new.self.keys c.in_ok-place.ensures.unique

pub returns-clause-made : goal.returns-clause-made
returns-clause-made c =
    joined_at c.insert_full.new.self.keys c.args.even c.args.odd c.in_ok-place.place
    (sym c.is_one_leaf.ensures ∙ c.if-is_one_leaf.false)
    (found c.insert_full.new.self.keys c.in_ok-place.place (record { even = c.args.even; odd = c.args.odd })
    c.in_ok-place.ensures.stored)

pub returns-then-is_one_leaf-clause-made : goal.returns-then-is_one_leaf-clause-made
returns-then-is_one_leaf-clause-made c = joined_leaf c.args.forks.now.keys c.args.even c.args.odd
    (sym c.is_one_leaf.ensures ∙ c.if-is_one_leaf.true)
