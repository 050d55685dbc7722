use Rattle.smt_names.proofs.PlaceLemmas.{place_at, stands_at}
use Rattle.smt_names.proofs.laws.places_are_where_names_stand.Goals as goal

pub returns : goal.returns
returns c names name place distinct = (stands_at names name place, place_at names name place distinct)
