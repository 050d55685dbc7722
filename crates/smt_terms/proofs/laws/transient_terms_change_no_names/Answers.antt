use Rattle.std.proofs.Common.{refl}
use Rattle.smt_terms.specs.Contents.{contents_of}
use Rattle.smt_terms.specs.Library.{held_terms_of, terms_of, transient_of}
use Rattle.smt_terms.proofs.BodyLemmas.{bodies_longer}
use Rattle.smt_terms.proofs.ApartLemmas.{apart_same}
use Rattle.smt_terms.proofs.ContentsLemmas.{nothing_more}
use Rattle.smt_terms.proofs.laws.transient_terms_change_no_names.Goals as goal

pub returns : goal.returns
returns c = λ library s stands. record {
  theories = stands.terms.theories;
  elements = stands.terms.elements;
  heads = stands.terms.heads;
  free = stands.terms.free;
  names = stands.terms.names;
  bodies = bodies_longer (held_terms_of library) (terms_of library) 0 (contents_of library).bodies s.entries (record {
    theories = refl;
    elements = refl;
    heads = nothing_more _ _ refl;
    apart = apart_same _ _ _ refl;
    names = nothing_more _ _ refl;
    bodies = nothing_more _ _ refl;
    rows = (transient_of library, refl);
  }) stands.terms.bodies;
}
