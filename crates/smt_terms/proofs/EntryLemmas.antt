-- Entries by name and by place.
use Rattle.std.proofs.Common.{◌≡◌, ◌≢◌, ◌↔◌, ℕ, zero, suc, true, false, cond, List, [], ◌∷◌, ◌++◌, slice_get}
use Rattle.std.proofs.Common.{Bool, Option, Some, None, option_map, refl, ap, sym, ◌∙◌, append-nil}
use Rattle.std.proofs.lemmas.List.Elements.{All-cons, All-head, All-nil, All-tail}
use Rattle.std.specs.List.{All}
use Rattle.std.specs.Str.{bytes_eq}
use Rattle.smt_terms.proofs.NameLemmas.{none_step, same_flip, same_name, same_self}
use Rattle.smt_theory.specs.Words.{look_up}
use Rattle.smt_terms.specs.Signature.{Entry, Rank, entry_named, rank_of_entry, ranks_of, AreDistinct}

-- an entry of another name is passed over
pub entry_named-skip : (e : Entry) (es : List Entry) (x : List ℕ) → bytes_eq x e.name ≡ false
    → entry_named (e ∷ es) x ≡ entry_named es x
entry_named-skip e es x h = ap (λ b. cond b (Some e) (entry_named es x)) h

-- and one of the name is found
pub entry_named-hit : (e : Entry) (es : List Entry) (x : List ℕ) → bytes_eq x e.name ≡ true
    → entry_named (e ∷ es) x ≡ Some e
entry_named-hit e es x h = ap (λ b. cond b (Some e) (entry_named es x)) h

-- a name that is in no place is in none where an entry of another name comes behind all
entry_named-push : (es : List Entry) (e : Entry) (x : List ℕ) → entry_named es x ≡ None
    → bytes_eq x e.name ≡ false → entry_named (es ++ e ∷ []) x ≡ None
entry_named-push [] e x none other = entry_named-skip e [] x other
entry_named-push (y ∷ es) e x none other =
    let p = none_step (bytes_eq x y.name) y (entry_named es x) none in
    entry_named-skip y (es ++ e ∷ []) x p.0 ∙ entry_named-push es e x p.1 other

-- with an entry of a new name behind all, no name stands twice
pub distinct-push : (es : List Entry) (e : Entry) → AreDistinct es → entry_named es e.name ≡ None
    → AreDistinct (es ++ e ∷ [])
distinct-push [] e d none = (refl, tt)
distinct-push (y ∷ es) e d none =
    let p = none_step (bytes_eq e.name y.name) y (entry_named es e.name) none in
    (entry_named-push es e y.name d.0 (same_flip e.name y.name p.0), distinct-push es e d.1 p.1)

abbrev name_or : Option (List ℕ × Rank) → List ℕ
name_or None = []
name_or (Some p) = p.0

-- where a rank stands, an entry of this name does
pub ranked_at : (es : List Entry) (i : ℕ) (x : List ℕ) (r : Rank) → slice_get (ranks_of es) i ≡ Some (x, r)
    → (e : Entry) × (slice_get es i ≡ Some e) × (x ≡ e.name)
ranked_at [] i x r h = cc
ranked_at (e ∷ es) zero x r h = (e, refl, sym (ap name_or h))
ranked_at (e ∷ es) (suc i) x r h = ranked_at es i x r h

-- the rank of a name is that of its entry
pub look_up-ranks : (es : List Entry) (x : List ℕ)
    → look_up (ranks_of es) x ≡ option_map rank_of_entry (entry_named es x)
look_up-ranks [] x = refl
look_up-ranks (e ∷ es) x = by (bytes_eq x e.name) (look_up-ranks es x)
  where
    by : (b : Bool) → look_up (ranks_of es) x ≡ option_map rank_of_entry (entry_named es x)
        → cond b (Some (rank_of_entry e)) (look_up (ranks_of es) x)
        ≡ option_map rank_of_entry (cond b (Some e) (entry_named es x))
    by true rest = refl
    by false rest = rest

-- ## Found and not found

abbrev Others : List ℕ → List Entry → Type 0
Others x es = All (λ e. e.name ≢ x) es

-- an entry of the name passes the test
other_name : (e : Entry) (x : List ℕ) → bytes_eq x e.name ≡ false → e.name ≢ x
other_name e x h = λ is. let t : bytes_eq x e.name ≡ true = ap (λ y. bytes_eq x y) is ∙ same_self x in cc

none-others : (es : List Entry) (x : List ℕ) → entry_named es x ≡ None → Others x es
none-others [] x h = All-nil (λ e. e.name ≢ x)
none-others (e ∷ es) x h = let p = none_step (bytes_eq x e.name) e (entry_named es x) h
    in All-cons (λ e. e.name ≢ x) e es (other_name e x p.0) (none-others es x p.1)

-- behind others, an entry of the name is found
found_behind : (before after : List Entry) (x : List ℕ) → Others x before
    → entry_named (before ++ after) x ≡ entry_named after x
found_behind [] after x h = refl
found_behind (d ∷ before) after x h =
    by (bytes_eq x d.name) refl (found_behind before after x (All-tail (λ e. e.name ≢ x) d before h))
  where
    by : (b : Bool) → bytes_eq x d.name ≡ b → entry_named (before ++ after) x ≡ entry_named after x
        → cond b (Some d) (entry_named (before ++ after) x) ≡ entry_named after x
    by true is rest = absurd (All-head (λ e. e.name ≢ x) d before h (sym (same_name x d.name is)))
    by false is rest = rest

pub absent_entry : (es : List Entry) (x : List ℕ) → (entry_named es x ≡ None) ↔ All (λ e. e.name ≢ x) es
absent_entry es x =
    (none-others es x, λ h. ap (λ ds. entry_named ds x) (sym (append-nil es)) ∙ found_behind es [] x h)

abbrev IsFirstNamed : List Entry → List ℕ → Entry → Type 0
IsFirstNamed es x e =
    (before after : List Entry) × (es ≡ before ++ e ∷ after) × (e.name ≡ x) × Others x before

first_named : (es : List Entry) (x : List ℕ) (e : Entry) → entry_named es x ≡ Some e → IsFirstNamed es x e
first_named [] x e h = cc
first_named (d ∷ es) x e h = by (bytes_eq x d.name) refl h (λ g. first_named es x e g)
  where
    by : (b : Bool) → bytes_eq x d.name ≡ b → cond b (Some d) (entry_named es x) ≡ Some e
        → (entry_named es x ≡ Some e → IsFirstNamed es x e) → IsFirstNamed (d ∷ es) x e
    by true is g rest = let here : d ≡ e = cc
        in (
          [],
          es,
          ap (λ c. c ∷ es) here,
          sym
              (same_name x d.name is ∙ ap (λ (c : Entry). c.name) here),
          All-nil (λ c. c.name ≢ x),
        )
    by false is g rest =
        let f = rest g in
        (d ∷ f.0, f.1, ap (λ cs. d ∷ cs) f.2, f.3, All-cons (λ c. c.name ≢ x) d f.0 (other_name d x is) f.4)

pub found_entry : (es : List Entry) (x : List ℕ) (e : Entry) → (entry_named es x ≡ Some e)
    ↔ ((before after : List Entry) × (es ≡ before ++ e ∷ after) × (e.name ≡ x) × All (λ d. d.name ≢ x) before)
found_entry es x e = (first_named es x e, back)
  where
    back : IsFirstNamed es x e → entry_named es x ≡ Some e
    back f =
        ap (λ ds. entry_named ds x) f.2 ∙ found_behind f.0 (e ∷ f.1) x f.4
        ∙ entry_named-hit e f.1 x (ap (λ y. bytes_eq x y) f.3 ∙ same_self x)
