use Rattle.std.proofs.Common.{◌∙◌, ◌≡◌, Some, sym}
use Rattle.smt_names.proofs.PlaceLemmas.{stands_at}
use Rattle.smt_names.proofs.laws.places_are_of_one_name.Goals as goal

pub returns : goal.returns
returns c names name other place here there =
    let same : Some name ≡ Some other = sym (stands_at names name place here) ∙ stands_at names other place there in cc
