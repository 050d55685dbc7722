use Rattle.smt_trees.specs.Sexp.{Atom, Decimal}
use Rattle.smt_theory.specs.declared.literal.LiteralKind.TheVariants as literal
use Rattle.smt_nodes.specs.Node as node
use Rattle.smt_terms.specs.Internal.NodesView.{AddsNode, Stands}
use Rattle.smt_terms.proofs.NodeLemmas.{if_answered, literal_stands}
use Rattle.smt_terms.proofs.library.Library.push_decimal.Goals as goal

pub returns-clause-node : goal.returns-clause-node
returns-clause-node c =
    let digits = c.args.digits.now in
    if_answered c.push_literal.result (AddsNode c.args.self.now.nodes c.args.draft.now c.push_literal.new.draft c.args.around (node.Literal literal.Decimal digits))
    (Stands c.args.self.now c.args.draft.now c.push_literal.new.draft c.args.around (Atom Decimal digits))
    (λ found adds. literal_stands c.args.self.now c.args.draft.now c.push_literal.new.draft c.args.around (Atom Decimal digits)
    (node.Literal literal.Decimal digits) found c.push_literal.ensures.longer adds tt (λ t slots next i is. is))
    c.push_literal.ensures.added
