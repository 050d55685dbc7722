use Rattle.std.proofs.Common.{[]}
use Rattle.smt_terms.specs.Contents.{terms_in}
use Rattle.smt_terms.proofs.BodyLemmas.{denotes_within}
use Rattle.smt_terms.proofs.laws.terms_have_nodes.Goals as goal

pub returns : goal.returns
returns c = λ contents i t is. denotes_within (terms_in contents) [] 0 0 i t is
