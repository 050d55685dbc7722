use Rattle.std.proofs.Common.{List, None, Some, refl, ap, sym, ◌∙◌, subst, arith, ◌++◌, ◌∷◌, []}
use Rattle.std.specs.Option.{option_flatten}
use Rattle.smt_forms.specs.Internal.Marks.{AreMarked}
use Rattle.smt_forms.specs.Internal.Places.{IsIndexed, names_of}
use Rattle.smt_forms.specs.declared.places.Placed.{Placed}
use Rattle.smt_forms.specs.declared.places.TheConstants.{FEW}
use Rattle.smt_forms.proofs.MarkLemmas.{marked-push}
use Rattle.smt_forms.proofs.PlaceLemmas.{indexed-few, indexed-push, placed_alone}
use Rattle.smt_forms.proofs.places.Places.push.Goals as goal

pub invariant_of-self-then-place-lt-FEW : goal.invariant_of-self-then-place-lt-FEW
invariant_of-self-then-place-lt-FEW c = (
  subst (λ (ns : List Placed). IsIndexed FEW ns c.self.inside.last) (sym c.in_ok-push.ensures.items)
      (indexed-few FEW c.self.inside.names.items (record { name = c.args.name; hidden = None })
      c.self.inside.last (omega arith) refl c.self.invariant.0),
  subst (λ (ns : List Placed). AreMarked c.with_mark-self-inside.result (names_of ns)) (sym c.in_ok-push.ensures.items)
      (marked-push c.self.inside.marks c.with_mark-self-inside.result c.self.inside.names.items
      (record { name = c.args.name; hidden = None }) c.self.invariant.1 c.with_mark-self-inside.ensures.own
      c.with_mark-self-inside.ensures.others),
)

pub invariant_of-self-2 : goal.invariant_of-self-2
invariant_of-self-2 c =
    let added : Placed = record { name = c.args.name; hidden = c.flatten-hidden.result } in (
      subst (λ (ns : List Placed). IsIndexed FEW ns c.replace.new.self)
          (sym (c.in_ok-push-2.ensures.items ∙ ap (λ ns. ns ++ added ∷ []) c.reserve.ensures.items))
          (indexed-push FEW c.self.inside.names.items added c.self.inside.last c.replace.new.self
          c.len-place.result (omega arith) (omega arith) (c.flatten-hidden.ensures ∙ ap option_flatten c.in_ok-hidden.ensures.old)
          (placed_alone c.self.inside.last c.replace.new.self c.args.name.now (Some c.len-place.result)
          c.in_ok-hidden.ensures.alone)
          c.self.invariant.0),
      subst (λ (ns : List Placed). AreMarked c.with_mark-self-inside-2.result (names_of ns))
          (sym (c.in_ok-push-2.ensures.items ∙ ap (λ ns. ns ++ added ∷ []) c.reserve.ensures.items))
          (marked-push c.self.inside.marks c.with_mark-self-inside-2.result c.self.inside.names.items added
          c.self.invariant.1 c.with_mark-self-inside-2.ensures.own c.with_mark-self-inside-2.ensures.others),
    )
