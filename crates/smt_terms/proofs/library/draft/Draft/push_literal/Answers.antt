use Rattle.std.proofs.Common.{[], append-nil, refl, sym, ◌∙◌}
use Rattle.smt_nodes.specs.Nodes.{rows_of}
use Rattle.smt_terms.proofs.TableLemmas.{grows_rows}
use Rattle.smt_terms.proofs.library.draft.Draft.push_literal.Goals as goal

pub returns-in_err-node-clause-longer : goal.returns-in_err-node-clause-longer
returns-in_err-node-clause-longer c =
    grows_rows c.args.self.now (record c.args.self.now { nodes = c.push_literal.new.self }) _ refl c.in_ok-own.ensures.pushed

pub returns-clause-longer : goal.returns-clause-longer
returns-clause-longer c =
    grows_rows c.args.self.now (record c.args.self.now { nodes = c.push_literal.new.self }) _ refl c.in_ok-own.ensures.pushed

pub returns-in_err-own-clause-longer : goal.returns-in_err-own-clause-longer
returns-in_err-own-clause-longer c =
    grows_rows c.args.self.now (record c.args.self.now { nodes = c.push_literal.new.self }) [] refl
    (c.in_err-own.ensures.unchanged ∙ sym (append-nil (rows_of c.args.self.now.nodes)))
