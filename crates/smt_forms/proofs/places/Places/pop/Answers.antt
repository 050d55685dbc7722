use Rattle.std.proofs.Common.{◌≡◌, ℕ, List, Some, refl, subst, sym, ◌∙◌, arith}
use Rattle.std.proofs.lemmas.Bool.{eqb-true}
use Rattle.std.specs.Prelude.{bytes_eq, if◌then◌else◌}
use Rattle.smt_theory.specs.Words.{look_up}
use Rattle.smt_names.specs.Entries.{entries_of}
use Rattle.smt_forms.specs.Internal.Marks.{AreMarked}
use Rattle.smt_forms.specs.Internal.Places.{IsIndexed, names_of}
use Rattle.smt_forms.specs.declared.places.Placed.{Placed}
use Rattle.smt_forms.specs.declared.places.TheConstants.{FEW}
use Rattle.smt_forms.proofs.MarkLemmas.{marked-none, marked-pop}
use Rattle.smt_forms.proofs.PlaceLemmas.{indexed-front, indexed-pop, last-known, placed_alone, written}
use Rattle.smt_forms.proofs.places.Places.pop.Goals as goal

pub invariant_of-self-then-len-lt-FEW : goal.invariant_of-self-then-len-lt-FEW
invariant_of-self-then-len-lt-FEW c = (
  indexed-front FEW c.pop.new.self.items c.in-Some.gone c.self.inside.last (omega arith)
      (subst (λ (ns : List Placed). IsIndexed FEW ns c.self.inside.last) c.in-Some.ensures.items
      c.self.invariant.0),
  marked-pop c.self.inside.marks c.pop.new.self.items c.in-Some.gone
      (subst (λ (ns : List Placed). AreMarked c.self.inside.marks (names_of ns)) c.in-Some.ensures.items
      c.self.invariant.1),
)

pub invariant_of-self-2 : goal.invariant_of-self-2
invariant_of-self-2 c =
    let last = c.self.inside.last in
    let gone = c.in-Some.gone in
    let before = subst (λ (ns : List Placed). IsIndexed FEW ns last) c.in-Some.ensures.items c.self.invariant.0 in
    let alone = written
    {P = (other : List ℕ) → look_up (entries_of c.replace.new.self) other
    ≡ (if bytes_eq gone.name.now other then Some gone.hidden else look_up (entries_of last) other)}
    c.replace.result (look_up (entries_of last) gone.name.now) _ c.replace.ensures.alone
    c.replace.ensures.refused (last-known FEW c.pop.new.self.items gone last (omega arith) before) in (
      indexed-pop FEW c.pop.new.self.items gone last c.replace.new.self gone.hidden (omega arith) refl
          (placed_alone last c.replace.new.self gone.name.now gone.hidden alone) before,
      marked-pop c.self.inside.marks c.pop.new.self.items c.in-Some.gone
          (subst (λ (ns : List Placed). AreMarked c.self.inside.marks (names_of ns)) c.in-Some.ensures.items
          c.self.invariant.1),
    )

pub invariant_of-self-then-is_empty : goal.invariant_of-self-then-is_empty
invariant_of-self-then-is_empty c =
    let none = eqb-true _ 0 (sym c.is_empty.ensures ∙ c.if-is_empty.true) in (
      indexed-front FEW c.pop.new.self.items c.in-Some.gone c.self.inside.last (omega arith)
          (subst (λ (ns : List Placed). IsIndexed FEW ns c.self.inside.last) c.in-Some.ensures.items
          c.self.invariant.0),
      marked-none 0 c.pop.new.self.items (omega (arith, none)),
    )
