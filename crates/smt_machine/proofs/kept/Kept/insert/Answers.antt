use Rattle.std.proofs.Common.{sym, ◌≡◌, ◌∙◌, ℕ, List, Some, ap, arith, cond, length, length-set, nat_eq, refl}
use Rattle.std.proofs.Common.{slice_get, slice_set, Result, Ok, Err, OnErr}
use Rattle.std.specs.Global.{Vec}
use Rattle.std.proofs.lemmas.List.{with_items_is}
use Rattle.smt_machine.specs.Internal.KeptView.{found_by, kept_at}
use Rattle.smt_machine.specs.declared.kept.Found.{Found}
use Rattle.smt_machine.proofs.KeptLemmas.{kept_more}
use Rattle.smt_machine.proofs.kept.Kept.insert.Goals as goal

pub returns-clause-kept : goal.returns-clause-kept
unfolding kept_at
returns-clause-kept c = λ other.
    let number = c.args.number in
    let found : List Found = c.make_room.new.self.found.items in
    let places : List ℕ = c.make_room.new.self.places.items in
    let before = c.as_mut_slice.result.now in
    let after = slice_set before number c.len-place.result in
    ap (λ ps. found_by c.push.new.self.items (slice_get ps other) other)
    (with_items_is c.make_room.new.self.places after
    (length-set before number c.len-place.result ∙ c.as_mut_slice.ensures.len))
    ∙ ap (λ ps. found_by c.push.new.self.items (slice_get (slice_set ps number c.len-place.result) other) other)
    c.as_mut_slice.ensures.value
    ∙ ap (λ n. found_by c.push.new.self.items (slice_get (slice_set places number n) other) other)
    (let v = c.args.self.now.found in
    let long : c.len-place.result ≡ length v.items = omega (arith, c.len-place.ensures) in
    long ∙ ap (λ (w : Vec Found). length w.items) (sym c.make_room.ensures.found))
    ∙ ap (λ fs. found_by fs (slice_get (slice_set places number (length found)) other) other)
    c.in_ok-push.ensures.items
    ∙ kept_more found places number other c.args.value (nat_eq other number) refl
    c.in_ok-make_room.ensures.room
    ∙ ap (λ k. cond (nat_eq other number) (Some c.args.value) k)
    (c.make_room.ensures.kept other)

err_as_well : {T E : Type 0} {P : Type 0} (r : Result T E) → P → OnErr r P
err_as_well (Ok x) p = tt
err_as_well (Err e) p = p

pub returns-in_err-push-clause-unchanged : goal.returns-in_err-push-clause-unchanged
unfolding kept_at
returns-in_err-push-clause-unchanged c = err_as_well c.from_residual-in_err-push.result
    (λ other. ap (λ fs. found_by fs (slice_get c.make_room.new.self.places.items other) other)
    c.in_err-push.ensures.items ∙ c.make_room.ensures.kept other)
