use Rattle.std.proofs.Common.{◌≡◌, ◌++◌, ◌∷◌, [], List, ℕ, None, ap, ◌∙◌, subst}
use Rattle.std.specs.Option.{option_to_list}
use Rattle.indexmap.specs.IndexMap.{keys}
use Rattle.smt_names.specs.Places.{place_of}
use Rattle.smt_names.specs.Internal.Order.{HasPlacesIfAny}
use Rattle.smt_names.proofs.TableLemmas.{table-pop}
use Rattle.smt_names.proofs.table.Table.pop.Goals as goal

pub invariant_of-self-2 : goal.invariant_of-self-2
invariant_of-self-2 c =
    let front = keys c.take_last.new.names in
    let rest = c.take_last.new.late.items in
    let forgets = λ (n : List ℕ). (ns : List (List ℕ)) → place_of ns n ≡ None
    → HasPlacesIfAny (ns ++ n ∷ []) c.self.inside.places → HasPlacesIfAny ns c.forget_place.new.places in
    table-pop (keys c.self.inside.names) c.self.inside.late.items front rest c.in-Some.gone c.self.inside.begun
    c.self.inside.places c.forget_place.new.places c.self.invariant
    (c.take_last.ensures.taken ∙ ap (λ o. (front ++ rest) ++ option_to_list o) c.in-Some.is)
    c.take_last.ensures.none_late (subst forgets c.bytes.ensures.name c.forget_place.ensures.left)
    c.forget_place.ensures.none
