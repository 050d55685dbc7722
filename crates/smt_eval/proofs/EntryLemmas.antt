-- Entries by name and by place.
use Rattle.std.proofs.Common.{◌≡◌, ℕ, zero, suc, ◌≤◌, false, cond, List, [], ◌∷◌, take, slice_get, Some, None}
use Rattle.std.proofs.Common.{refl, ap, sym, ◌∙◌, arith}
use Rattle.std.specs.Str.{bytes_eq}
use Rattle.smt_terms.specs.Signature.{Entry, AreDistinct, entry_named}
use Rattle.smt_eval.proofs.NameLemmas.{none_step, same_flip}

-- an entry of another name is passed over
pub entry_named-skip : (e : Entry) (es : List Entry) (x : List ℕ) → bytes_eq x e.name ≡ false
    → entry_named (e ∷ es) x ≡ entry_named es x
entry_named-skip e es x h = ap (λ b. cond b (Some e) (entry_named es x)) h

-- a name that is in no place is in none of the first
pub entry_named-take : (es : List Entry) (x : List ℕ) (n : ℕ) → entry_named es x ≡ None
    → entry_named (take n es) x ≡ None
entry_named-take [] x zero h = refl
entry_named-take [] x (suc n) h = refl
entry_named-take (e ∷ es) x zero h = refl
entry_named-take (e ∷ es) x (suc n) h =
    let p = none_step (bytes_eq x e.name) e (entry_named es x) h in
    entry_named-skip e (take n es) x p.0 ∙ entry_named-take es x n p.1

-- a name that is in no place is not in this one
pub other_at : (es : List Entry) (x : List ℕ) (p : ℕ) (e : Entry) → entry_named es x ≡ None
    → slice_get es p ≡ Some e → bytes_eq x e.name ≡ false
other_at [] x p e h at = cc
other_at (d ∷ es) x zero e h at =
    let p =
    none_step (bytes_eq x d.name) d (entry_named es x) h in let s : d ≡ e = cc
    in ap (λ z. bytes_eq x z.name) (sym s) ∙ p.0
other_at (d ∷ es) x (suc p) e h at =
    other_at es x p e (none_step (bytes_eq x d.name) d (entry_named es x) h).1 at

-- before its place a name does not stand
pub none_before : (es : List Entry) (p : ℕ) (e : Entry) (n : ℕ) → AreDistinct es → slice_get es p ≡ Some e
    → n ≤ p → entry_named (take n es) e.name ≡ None
none_before [] p e n d at h = cc
none_before (c ∷ es) p e zero d at h = refl
none_before (c ∷ es) zero e (suc n) d at h = absurd (omega arith)
none_before (c ∷ es) (suc p) e (suc n) d at h =
    entry_named-skip c (take n es) e.name
    (same_flip c.name e.name (other_at es c.name p e d.0 at)) ∙ none_before es p e n d.1 at (omega arith)
