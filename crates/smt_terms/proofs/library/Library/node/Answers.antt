use Rattle.std.proofs.Common.{[]}
use Rattle.smt_terms.specs.Library.{terms_of}
use Rattle.smt_terms.proofs.BodyLemmas.{denotes_within, not_missing}
use Rattle.smt_terms.proofs.library.Library.node.Goals as goal

pub unreachable-requires : goal.unreachable-requires
unreachable-requires c =
    let table = terms_of c.args.self.now in
    not_missing table.rows c.args.term c.number.result c.number.ensures
    (denotes_within table [] 0 0 c.args.term c.requires.0 c.requires.1) c.in-None.ensures
