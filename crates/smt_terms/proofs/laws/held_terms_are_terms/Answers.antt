use Rattle.std.proofs.Common.{[], refl}
use Rattle.smt_terms.specs.Library.{held_terms_of, terms_of, transient_of}
use Rattle.smt_terms.proofs.ApartLemmas.{apart_same}
use Rattle.smt_terms.proofs.ContentsLemmas.{nothing_more}
use Rattle.smt_terms.proofs.DenotesLemmas.{denotes_kept}
use Rattle.smt_terms.proofs.laws.held_terms_are_terms.Goals as goal

pub returns : goal.returns
returns c = λ library i t is.
    denotes_kept (held_terms_of library) (terms_of library) (record {
      theories = refl;
      elements = refl;
      heads = nothing_more _ _ refl;
      apart = apart_same _ _ _ refl;
      names = nothing_more _ _ refl;
      bodies = nothing_more _ _ refl;
      rows = (transient_of library, refl);
    }) [] 0 0 i t is
