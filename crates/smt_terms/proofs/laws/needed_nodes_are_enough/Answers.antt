use Rattle.std.proofs.Common.{[], max, arith}
use Rattle.smt_terms.specs.Contents.{terms_in}
use Rattle.smt_terms.specs.Ends.{end_of}
use Rattle.smt_terms.proofs.EndLemmas.{are_below_end}
use Rattle.smt_terms.proofs.FirstRowLemmas.{denotes_left, holds_left}
use Rattle.smt_terms.proofs.laws.needed_nodes_are_enough.Goals as goal

pub returns-clause-names : goal.returns-clause-names
returns-clause-names c = λ count contents s stands.
    holds_left (max count (end_of contents.bodies)) contents s
    (are_below_end contents.bodies (max count (end_of contents.bodies)) (omega arith)) stands

pub returns-clause-terms : goal.returns-clause-terms
returns-clause-terms c = λ count contents i t below is.
    denotes_left (max count (end_of contents.bodies)) (terms_in contents) [] 0 0 i t (omega (arith, below)) is
