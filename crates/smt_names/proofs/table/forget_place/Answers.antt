use Rattle.std.proofs.Common.{◌++◌, ◌∷◌, [], None, subst}
use Rattle.smt_names.specs.Internal.Order.{HasPlacesIfAny}
use Rattle.smt_names.proofs.OrderLemmas.{changed, places-pop}
use Rattle.smt_names.proofs.table.forget_place.Goals as goal

pub returns-in-Some-clause-left : goal.returns-in-Some-clause-left
returns-in-Some-clause-left c names none has =
    let name = c.args.name.now in
    places-pop names name c.in-Some.places c.remove.new.self none
    (subst (λ m. HasPlacesIfAny (names ++ name ∷ []) m) c.in-Some.is has)
    (changed c.in-Some.places c.remove.new.self name None c.remove.ensures.updates)
