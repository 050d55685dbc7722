use Rattle.std.proofs.Common.{Some, None, cond, ap, sym, ◌∙◌}
use Rattle.smt_theory.specs.Words.{look_up}
use Rattle.smt_terms.specs.Internal.LibraryView.{rank_of}
use Rattle.smt_terms.proofs.ItemLemmas.{declared_at, not_declared, places_as}
use Rattle.smt_terms.proofs.PlaceLemmas.{is_declared_place}
use Rattle.smt_terms.proofs.library.Library.get_declared.Goals as goal

pub returns-in_default : goal.returns-in_default
returns-in_default c = λ s stands. not_declared s.entries c.args.name.now
    (c.in_default.ensures.ranked ∙ ap (λ rs. look_up rs c.args.name.now) stands.ranks)

pub returns-in-Declared : goal.returns-in-Declared
returns-in-Declared c = λ s stands.
    let r = rank_of c.in-Some.entry.now in
    sym (ap (λ f. cond (is_declared_place f) (Some r) None) c.in-Declared.is)
    ∙ declared_at s.entries c.args.name.now c.in-Some.entry.now.place r
    (c.in-Some.ensures.placed ∙ ap (λ ps. look_up ps c.args.name.now) (places_as c.args.self.now s stands))
    (c.in-Some.ensures.ranked ∙ ap (λ rs. look_up rs c.args.name.now) stands.ranks)

pub returns-in-Defined : goal.returns-in-Defined
returns-in-Defined c = λ s stands.
    let r = rank_of c.in-Some.entry.now in
    sym (ap (λ f. cond (is_declared_place f) (Some r) None) c.in-Defined.is)
    ∙ declared_at s.entries c.args.name.now c.in-Some.entry.now.place r
    (c.in-Some.ensures.placed ∙ ap (λ ps. look_up ps c.args.name.now) (places_as c.args.self.now s stands))
    (c.in-Some.ensures.ranked ∙ ap (λ rs. look_up rs c.args.name.now) stands.ranks)
