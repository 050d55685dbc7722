use Rattle.std.proofs.Common.{List, take, ap, sym, ◌∙◌, arith}
use Rattle.smt_forms.specs.Internal.Places.{names_of, place_from}
use Rattle.smt_forms.specs.declared.places.Placed.{Placed}
use Rattle.smt_forms.specs.declared.places.TheConstants.{FEW}
use Rattle.smt_forms.proofs.MarkLemmas.{place-unmarked}
use Rattle.smt_forms.proofs.PlaceLemmas.{found-early, found-late}
use Rattle.smt_forms.proofs.places.Places.find.Goals as goal

pub returns-in-Some : goal.returns-in-Some
returns-in-Some c =
    let name = c.args.name.now in
    sym (ap (λ ns. place_from 0 ns name) (sym c.self.view_is)
    ∙ found-late FEW c.self.inside.names.items c.self.inside.last name c.in-Some.place (omega arith)
    c.self.invariant.0 (sym c.last_place.ensures ∙ c.in-Some.is))

pub returns-in-None : goal.returns-in-None
returns-in-None c =
    let name = c.args.name.now in
    c.find_last-in-None.ensures
    ∙ ap (λ (ns : List Placed). place_from 0 (names_of (take FEW ns)) name) c.as_slice-names.ensures.value
    ∙ sym (ap (λ ns. place_from 0 ns name) (sym c.self.view_is)
    ∙ found-early FEW c.self.inside.names.items c.self.inside.last name (omega arith) c.self.invariant.0
    (sym c.last_place.ensures ∙ c.in-None.is))

pub returns-then-not-is_marked : goal.returns-then-not-is_marked
returns-then-not-is_marked c =
    let name = c.args.name.now in
    sym (ap (λ ns. place_from 0 ns name) (sym c.self.view_is)
    ∙ place-unmarked 0 c.self.inside.marks (names_of c.self.inside.names.items) name c.self.invariant.1
    (sym c.is_marked.ensures ∙ c.if-not-is_marked.true))
