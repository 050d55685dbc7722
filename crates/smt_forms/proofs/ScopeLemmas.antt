-- Names with what stands for each, the last first: one more, fewer, and what stands for a name.
use Rattle.std.proofs.Common.{◌≡◌, ℕ, zero, suc, ◌-◌, Bool, true, false, cond, List, [], ◌∷◌, ◌++◌, length}
use Rattle.std.proofs.Common.{drop, take, Option, Some, None, Result, Ok, Err, OnErr, refl, ap, sym, ◌∙◌}
use Rattle.std.proofs.Common.{arith, subst}
use Rattle.std.proofs.Common.{append_assoc}
use Rattle.std.proofs.lemmas.List.{drop-append-le, drop_all, length-append}
use Rattle.std.specs.List.{slice_get}
use Rattle.std.specs.Option.{option_or, option_and_then}
use Rattle.std.specs.Prelude.{bytes_eq, if◌then◌else◌}
use Rattle.smt_theory.specs.Words.{look_up}
use Rattle.smt_forms.specs.Internal.Places.{place_from}
use Rattle.smt_forms.specs.ScopeOf.{innermost_first}

abbrev Names : Type 0
Names = List (List ℕ)

pub on_err : {T E P : Type 0} (r : Result T E) → P → OnErr r P
on_err (Ok v) p = tt
on_err (Err f) p = p

pub first-none : {V : Type 0} (xs : Names) (vs : List V) → xs ≡ [] → innermost_first xs vs ≡ []
first-none xs vs h = ap (λ ys. innermost_first ys vs) h

pub first-push : {V : Type 0} (xs : Names) (vs : List V) (x : List ℕ) (v : V) → length vs ≡ length xs
    → innermost_first (xs ++ x ∷ []) (vs ++ v ∷ []) ≡ (x, v) ∷ innermost_first xs vs
first-push [] [] x v h = refl
first-push [] (w ∷ ws) x v h = absurd (omega arith)
first-push (y ∷ ys) [] x v h = absurd (omega arith)
first-push (y ∷ ys) (w ∷ ws) x v h = ap (λ ps. ps ++ (y, w) ∷ []) (first-push ys ws x v (omega arith))

pub first-length : {V : Type 0} (xs : Names) (vs : List V) → length vs ≡ length xs
    → length (innermost_first xs vs) ≡ length vs
first-length [] [] h = refl
first-length [] (w ∷ ws) h = absurd (omega arith)
first-length (y ∷ ys) [] h = absurd (omega arith)
first-length (y ∷ ys) (w ∷ ws) h =
    omega (arith, length-append (innermost_first ys ws) ((y, w) ∷ []), first-length ys ws (omega arith))

pub first-take : {V : Type 0} (n : ℕ) (xs : Names) (vs : List V) → length vs ≡ length xs
    → innermost_first (take n xs) (take n vs)
    ≡ drop (length (innermost_first xs vs) - n) (innermost_first xs vs)
first-take zero xs vs h =
    sym (drop_all (length (innermost_first xs vs) - 0) (innermost_first xs vs) (omega arith))
first-take (suc n) [] [] h = sym (drop_all (0 - suc n) [] (omega arith))
first-take (suc n) [] (w ∷ ws) h = absurd (omega arith)
first-take (suc n) (y ∷ ys) [] h = absurd (omega arith)
first-take {V} (suc n) (y ∷ ys) (w ∷ ws) h =
    let inner : List (List ℕ × V) = innermost_first ys ws in
    let outer : List (List ℕ × V) = (y, w) ∷ [] in
    let fewer : length inner - n ≡ length (inner ++ outer) - suc n =
    omega (arith, length-append inner outer) in
    ap (λ ps. ps ++ outer) (first-take n ys ws (omega arith))
    ∙ sym (drop-append-le (length inner - n) inner outer (omega arith))
    ∙ ap (λ k. drop k (inner ++ outer)) fewer

pub first-cut : {V : Type 0} (n : ℕ) (xs ys : Names) (vs ws : List V) → length vs ≡ length xs
    → ys ≡ take n xs → ws ≡ take n vs
    → innermost_first ys ws ≡ drop (length (innermost_first xs vs) - n) (innermost_first xs vs)
first-cut n xs ys vs ws h names values =
    ap (λ us. innermost_first ys us) values ∙ ap (λ us. innermost_first us (take n vs)) names
    ∙ first-take n xs vs h

pub first-pushed : {V : Type 0} (xs ys : Names) (vs us ws : List V) (x : List ℕ) (v : V)
    → length vs ≡ length xs → ys ≡ xs ++ x ∷ [] → us ≡ vs → ws ≡ us ++ v ∷ []
    → innermost_first ys ws ≡ (x, v) ∷ innermost_first xs vs
first-pushed xs ys vs us ws x v h names room values =
    ap (λ ts. innermost_first ys ts) values
    ∙ ap (λ ts. innermost_first ys (ts ++ v ∷ [])) room
    ∙ ap (λ ts. innermost_first ts (vs ++ v ∷ [])) names
    ∙ first-push xs vs x v h

pub first-same : {V : Type 0} (xs ys : Names) (vs ws : List V) → ys ≡ xs → ws ≡ vs
    → innermost_first ys ws ≡ innermost_first xs vs
first-same xs ys vs ws names values =
    ap (λ us. innermost_first ys us) values ∙ ap (λ us. innermost_first us vs) names

-- ## What stands for a name

look_up-append : {V : Type 0} (ps qs : List (List ℕ × V)) (name : List ℕ)
    → look_up (ps ++ qs) name ≡ option_or (look_up ps name) (look_up qs name)
look_up-append [] qs name = refl
look_up-append {V} (p ∷ ps) qs name = by (bytes_eq name p.0) (look_up-append ps qs name)
  where
    by : (b : Bool) → look_up (ps ++ qs) name ≡ option_or (look_up ps name) (look_up qs name)
        → cond b (Some p.1) (look_up (ps ++ qs) name)
        ≡ option_or (cond b (Some p.1) (look_up ps name)) (look_up qs name)
    by true h = refl
    by false h = h

-- a value is at a place, or there is neither
abbrev Tied : {V : Type 0} → (ℕ → Option V) → Option V → Option ℕ → Type 0
Tied at None None = Unit {0}
Tied at (Some v) (Some k) = at k ≡ Some v
Tied at _ _ = ⊥

tied-or : {V : Type 0} (at : ℕ → Option V) (o p : Option V) (j k : Option ℕ) → Tied at o j → Tied at p k
    → Tied at (option_or o p) (option_or j k)
tied-or at None p None k h i = i
tied-or at (Some v) p (Some j) k h i = h
tied-or at None p (Some j) k h i = absurd h
tied-or at (Some v) p None k h i = absurd h

tied-value : {V : Type 0} (at : ℕ → Option V) (o : Option V) (k : Option ℕ) → Tied at o k
    → option_and_then at k ≡ o
tied-value at None None h = refl
tied-value at (Some v) (Some k) h = h
tied-value at None (Some k) h = absurd h
tied-value at (Some v) None h = absurd h

at-seam : {V : Type 0} (ws : List V) (v : V) (vs : List V) → slice_get (ws ++ v ∷ vs) (length ws) ≡ Some v
at-seam [] v vs = refl
at-seam (w ∷ ws) v vs = at-seam ws v vs

tied : {V : Type 0} (ws vs : List V) (xs : Names) (name : List ℕ) → length vs ≡ length xs
    → Tied (slice_get (ws ++ vs)) (look_up (innermost_first xs vs) name) (place_from (length ws) xs name)
tied ws [] [] name h = tt
tied ws (v ∷ vs) [] name h = absurd (omega arith)
tied ws [] (x ∷ xs) name h = absurd (omega arith)
tied {V} ws (v ∷ vs) (x ∷ xs) name h =
    let at : ℕ → Option V = slice_get (ws ++ v ∷ vs) in
    let next : length (ws ++ v ∷ []) ≡ suc (length ws) = omega (arith, length-append ws (v ∷ [])) in
    let inner = subst (λ (us : List V). Tied (slice_get us) (look_up (innermost_first xs vs) name)
    (place_from (length (ws ++ v ∷ [])) xs name)) (append_assoc ws (v ∷ []) vs)
    (tied (ws ++ v ∷ []) vs xs name (omega arith)) in
    let there = subst (λ (k : ℕ). Tied at (look_up (innermost_first xs vs) name) (place_from k xs name))
    next inner in
    subst (λ (o : Option V). Tied at o (place_from (length ws) (x ∷ xs) name))
    (sym (look_up-append (innermost_first xs vs) ((x, v) ∷ []) name))
    (tied-or at (look_up (innermost_first xs vs) name) (look_up ((x, v) ∷ []) name)
    (place_from (suc (length ws)) xs name) (if bytes_eq name x then Some (length ws) else None) there
    (outer (bytes_eq name x)))
  where
    outer : (b : Bool)
        → Tied (slice_get (ws ++ v ∷ vs)) (cond b (Some v) None) (cond b (Some (length ws)) None)
    outer true = at-seam ws v vs
    outer false = tt

pub found-value : {V : Type 0} (xs : Names) (vs : List V) (name : List ℕ) (o : Option ℕ)
    → length vs ≡ length xs → o ≡ place_from 0 xs name
    → option_and_then (λ k. slice_get vs k) o ≡ look_up (innermost_first xs vs) name
found-value xs vs name o h is =
    ap (λ k. option_and_then (slice_get vs) k) is
    ∙ tied-value (slice_get vs) (look_up (innermost_first xs vs) name) (place_from 0 xs name)
    (tied [] vs xs name h)
