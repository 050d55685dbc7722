use Rattle.std.proofs.Common.{ℕ, List, Some, None, ◌≡◌, ◌-◌, length, slice_get, subst, sym}
use Rattle.smt_terms.proofs.EndLemmas.{end_is, no_end_is}
use Rattle.smt_terms.proofs.library.Library.end.Goals as goal

pub returns-in-Some : goal.returns-in-Some
returns-in-Some c =
    let library = c.args.self.now in
    end_is library.ends.items library.bodies.items c.in-Some.end.now library.ended
    (subst (λ (es : List ℕ). slice_get es (length es - 1) ≡ Some c.in-Some.end.now) c.deref.ensures.value
    (sym c.in-Some.ensures.value))

pub returns-in-None : goal.returns-in-None
returns-in-None c =
    let library = c.args.self.now in
    no_end_is library.ends.items library.bodies.items library.ended
    (subst (λ (es : List ℕ). slice_get es (length es - 1) ≡ None) c.deref.ensures.value (sym c.in-None.ensures.value))
