use Rattle.std.proofs.Common.{map, refl, ap}
use Rattle.smt_terms.specs.Contents.{declaration_view}
use Rattle.smt_terms.specs.Internal.LibraryView.{rank_of}
use Rattle.smt_terms.specs.Internal.TableView.{head_of}
use Rattle.smt_terms.proofs.StandsLemmas.{nothing_stands}
use Rattle.smt_terms.proofs.library.Library.new.Goals as goal

pub returns-clause-stands : goal.returns-clause-stands
returns-clause-stands c = nothing_stands _ c.args.theories
    (ap (λ z. z.theories) c.new.ensures) refl (ap (λ z. z.abbreviations) c.new.ensures)
    (ap (map (λ p. (p.0, rank_of p.1))) c.new-2.ensures) (ap (map (λ p. (p.0, head_of p.1))) c.new-2.ensures)
    (ap (map declaration_view) c.new-3.ensures.items) c.new-4.ensures.items c.new-5.ensures.items
