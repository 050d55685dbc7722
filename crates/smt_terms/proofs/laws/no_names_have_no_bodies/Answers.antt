use Rattle.std.proofs.Common.{refl}
use Rattle.std.proofs.lemmas.List.Elements.{All-nil}
use Rattle.smt_terms.proofs.laws.no_names_have_no_bodies.Goals as goal

pub returns : goal.returns
returns c = λ theories rows. record {
  theories = refl;
  elements = refl;
  heads = refl;
  free = All-nil _;
  names = refl;
  bodies = refl;
}
