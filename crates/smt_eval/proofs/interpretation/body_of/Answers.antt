use Rattle.std.proofs.Common.{◌≡◌, Some, None, ap, sym, ◌∙◌, slice_get, subst}
use Rattle.smt_terms.specs.Library.{IsFound, held_terms_of}
use Rattle.smt_terms.specs.declared.library.Found.TheVariants as place
use Rattle.smt_eval.proofs.GivenBodyLemmas.{body_found, none_declared}
use Rattle.smt_eval.proofs.interpretation.body_of.Goals as goal

pub returns-in-Some-Defined : goal.returns-in-Some-Defined
returns-in-Some-Defined c = λ d stands all.
    let f = c.in-Some-Defined.ensures d stands in
    let at : IsFound (place.Defined c.in-Some-Defined.place) d.entries f.0 =
    subst (λ p. IsFound p d.entries f.0) c.in-Some-Defined.field-0-is f.2 in
    body_found d.entries (held_terms_of c.args.definitions.now) c.args.name.now c.in-Some-Defined.place f.0
    c.item_at.result all stands.terms.bodies f.1 at
    (c.item_at.ensures ∙ ap (λ bodies. slice_get bodies c.in-Some-Defined.place) c.bodies.ensures)

pub returns-in-Some-Declared : goal.returns-in-Some-Declared
returns-in-Some-Declared c = λ d stands all.
    let f = c.in-Some-Declared.ensures d stands in
    let n = c.in-Some-Declared.field-0-0 in
    let at : IsFound (place.Declared n) d.entries f.0 =
    subst (λ p. IsFound p d.entries f.0) c.in-Some-Declared.field-0-is f.2 in
    let both : Some f.0 ≡ None = sym at ∙ ap (λ es. slice_get es n) (none_declared d.entries all) in cc
