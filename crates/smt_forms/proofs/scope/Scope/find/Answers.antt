use Rattle.std.proofs.Common.{Some, None, ap, sym, ◌∙◌}
use Rattle.std.specs.List.{slice_get}
use Rattle.smt_forms.specs.ScopeOf.{scope_of}
use Rattle.smt_forms.proofs.ScopeLemmas.{found-value}
use Rattle.smt_forms.proofs.scope.Scope.find.Goals as goal

pub returns-in-Some : goal.returns-in-Some
unfolding scope_of
returns-in-Some g c =
    let self = c.args.self.now in
    c.value_at.ensures ∙ ap (λ vs. slice_get vs c.in-Some.place) c.as_slice.ensures.value
    ∙ found-value self.places self.values.items c.args.name.now (Some c.in-Some.place) self.paired
    (sym c.in-Some.is ∙ c.find.ensures)

pub returns-in-None : goal.returns-in-None
unfolding scope_of
returns-in-None g c =
    let self = c.args.self.now in
    found-value self.places self.values.items c.args.name.now None self.paired
    (sym c.in-None.is ∙ c.find.ensures)
