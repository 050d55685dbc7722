use Rattle.std.proofs.Common.{◌++◌, ◌∷◌, [], length, ap, sym, ◌∙◌, subst, arith}
use Rattle.indexmap.specs.IndexMap.{keys}
use Rattle.smt_names.specs.Places.{place_of}
use Rattle.smt_names.specs.Internal.Order.{IsTable}
use Rattle.smt_names.proofs.PlaceLemmas.{inserted}
use Rattle.smt_names.proofs.TableLemmas.{grown_in_front, table-insert, table-push, without}
use Rattle.smt_names.proofs.table.Table.put.Goals as goal

pub invariant_of-self-in-None : goal.invariant_of-self-in-None
invariant_of-self-in-None c =
    let names = keys c.self.inside.names in
    let late = c.self.inside.late.items in
    let name = c.args.name.now in
    let new = ap (λ ns. place_of ns name) c.self.view_is ∙ c.requires.new in
    table-insert names late (keys c.insert.new.self) name c.self.inside.begun c.first_of.result c.self.inside.places
    c.self.invariant c.in-None.is
    (inserted c.self.inside.names.entries c.insert.new.self.entries late c.args.kept name tt
    c.in_ok-insert-in-None.ensures.entries c.requires.same new)
    new (omega (arith, ap length c.self.view_is, c.requires.few)) c.first_of.ensures.value c.first_of.ensures.byte

pub invariant_of-self-in-Some : goal.invariant_of-self-in-Some
invariant_of-self-in-Some c =
    let names = keys c.self.inside.names in
    let late = c.self.inside.late.items in
    let name = c.args.name.now in
    let begun = c.self.inside.begun in
    table-push names late c.push_reserved.new.self.items name begun c.first_of-in-Some.result _ c.in-Some.places
    c.insert-in-Some.new.places (subst (λ m. IsTable names late begun m) c.in-Some.is c.self.invariant)
    (c.push_reserved.ensures.items ∙ ap (λ ns. ns ++ c.args.kept ∷ []) c.reserve.ensures.items
    ∙ ap (λ n. late ++ n ∷ []) c.requires.same)
    (ap (λ ns. place_of ns name) c.self.view_is ∙ c.requires.new)
    (omega (arith, ap length c.self.view_is, c.requires.few)) c.first_of-in-Some.ensures.value
    c.first_of-in-Some.ensures.byte (c.len-place.ensures ∙ ap length (sym c.self.view_is))
    c.in_ok-insert-in-Some.ensures.noted

pub returns-in_ok-insert-in-None-clause-added : goal.returns-in_ok-insert-in-None-clause-added
returns-in_ok-insert-in-None-clause-added c =
    let names = keys c.self.inside.names in
    let late = c.self.inside.late.items in
    let name = c.args.name.now in
    let new = ap (λ ns. place_of ns name) c.self.view_is ∙ c.requires.new in
    grown_in_front names (keys c.insert.new.self) late name
    (without c.self.inside.places c.self.invariant.late_none c.in-None.is)
    (inserted c.self.inside.names.entries c.insert.new.self.entries late c.args.kept name tt
    c.in_ok-insert-in-None.ensures.entries c.requires.same new)
    ∙ ap (λ ns. ns ++ name ∷ []) c.self.view_is
