-- Names with what each stands for, as they are found, more and fewer.
use Rattle.std.proofs.Common.{◌≡◌, ℕ, zero, suc, ◌+◌, ◌<◌, Bool, true, false, cond, List, [], ◌∷◌, ◌++◌}
use Rattle.std.proofs.Common.{length, take, slice_get, set, Option, Some, None, refl, ap, sym, ◌∙◌, arith, get_or, add-zero, zero-add}
use Rattle.std.proofs.lemmas.Bool.{false_from_ne_true, true≢false}
use Rattle.std.proofs.lemmas.Cmp.{nat_list_eq_equiv}
use Rattle.std.proofs.lemmas.List.{length-append}
use Rattle.std.proofs.lemmas.Option.{slice_get_within}
use Rattle.std.specs.Cmp.Lexicographic.{same_text}
use Rattle.std.specs.Option.{option_or}
use Rattle.std.specs.Prelude.{bytes_eq, Result, Ok, Err, OnErr}
use Rattle.smt_theory.specs.Words.{look_up}
use Rattle.smt_names.specs.Entries.{paired, with_value}
use Rattle.smt_names.specs.Places.{AreDistinct, place_from, place_of}
use Rattle.smt_names.proofs.PlaceLemmas.{none_of, later, first_here, stands_at}

abbrev Names : Type 0
Names = List (List ℕ)

-- what holds where something was refused, whatever it was
pub on_err : {A E P : Type 0} (r : Result A E) → P → OnErr r P
on_err (Ok a) h = tt
on_err (Err e) h = h

-- and at no other place
alone : (names : Names) (name : List ℕ) (k : ℕ) → AreDistinct names → place_of names name ≡ Some k → (j : ℕ)
    → j < length names → bytes_eq name (get_or names j []) ≡ true → j ≡ k
alone names name k distinct is j l e =
    let both : Some j ≡ Some k =
    sym (distinct j l) ∙ ap (λ x. place_of names x) (sym (same_text name (get_or names j []) (sym e))) ∙ is in cc

no_step : {A : Type 0} (b : Bool) (a : A) (o : Option A) → cond b (Some a) o ≡ None → (b ≡ false) × (o ≡ None)
no_step true a o h = cc
no_step false a o h = (refl, h)

module _ {V : Type 0} where
  pub paired-length : (xs : Names) (vs : List V) → length vs ≡ length xs → length (paired xs vs) ≡ length vs
  paired-length [] [] h = refl
  paired-length [] (v ∷ vs) h = absurd (omega (arith, h))
  paired-length (x ∷ xs) [] h = refl
  paired-length (x ∷ xs) (v ∷ vs) h = ap suc (paired-length xs vs (omega (arith, h)))

  -- the entry at a place
  pub paired-some : (xs : Names) (vs : List V) (i : ℕ) (v : V) → length vs ≡ length xs
      → slice_get vs i ≡ Some v → slice_get (paired xs vs) i ≡ Some (get_or xs i [], v)
  paired-some xs [] i v h at = cc
  paired-some [] (w ∷ vs) i v h at = absurd (omega (arith, h))
  paired-some (x ∷ xs) (w ∷ vs) zero v h at = let is : w ≡ v = cc in ap (λ u. Some (x, u)) is
  paired-some (x ∷ xs) (w ∷ vs) (suc i) v h at = paired-some xs vs i v (omega (arith, h)) at

  pub paired-none : (xs : Names) (vs : List V) (i : ℕ) → slice_get vs i ≡ None → slice_get (paired xs vs) i ≡ None
  paired-none [] vs i at = refl
  paired-none (x ∷ xs) [] i at = refl
  paired-none (x ∷ xs) (w ∷ vs) zero at = cc
  paired-none (x ∷ xs) (w ∷ vs) (suc i) at = paired-none xs vs i at

  -- one entry more
  pub paired-push : (xs : Names) (vs : List V) (x : List ℕ) (v : V) → length vs ≡ length xs
      → paired (xs ++ x ∷ []) (vs ++ v ∷ []) ≡ paired xs vs ++ (x, v) ∷ []
  paired-push [] [] x v h = refl
  paired-push [] (w ∷ vs) x v h = absurd (omega (arith, h))
  paired-push (y ∷ xs) [] x v h = absurd (omega (arith, h))
  paired-push (y ∷ xs) (w ∷ vs) x v h = ap (λ ps. (y, w) ∷ ps) (paired-push xs vs x v (omega (arith, h)))

  pub paired-longer : (xs new : Names) (vs after : List V) (x : List ℕ) (v : V) → length vs ≡ length xs
      → new ≡ xs ++ x ∷ [] → after ≡ vs ++ v ∷ [] → length after ≡ length new
  paired-longer xs new vs after x v h grown more =
      omega (arith, h, ap length grown, ap length more, length-append xs (x ∷ []), length-append vs (v ∷ []))

  pub paired-grown : (xs new : Names) (vs after : List V) (x : List ℕ) (v : V) → length vs ≡ length xs
      → new ≡ xs ++ x ∷ [] → after ≡ vs ++ v ∷ [] → paired new after ≡ paired xs vs ++ (x, v) ∷ []
  paired-grown xs new vs after x v h grown more =
      ap (λ ys. paired ys after) grown ∙ ap (λ ws. paired (xs ++ x ∷ []) ws) more ∙ paired-push xs vs x v h

  -- the first entries
  pub paired-take : (n : ℕ) (xs : Names) (vs : List V) → paired (take n xs) (take n vs) ≡ take n (paired xs vs)
  paired-take zero xs vs = refl
  paired-take (suc n) [] vs = refl
  paired-take (suc n) (x ∷ xs) [] = refl
  paired-take (suc n) (x ∷ xs) (v ∷ vs) = ap (λ ps. (x, v) ∷ ps) (paired-take n xs vs)

  -- a name that has no place stands for nothing
  absent_from : (at : ℕ) (xs : Names) (vs : List V) (name : List ℕ) → place_from at xs name ≡ None
      → look_up (paired xs vs) name ≡ None
  absent_from at [] vs name none = refl
  absent_from at (x ∷ xs) [] name none = refl
  absent_from at (x ∷ xs) (v ∷ vs) name none =
      let apart = none_of (place_from (suc at) xs name) (bytes_eq name x) at none in
      ap (λ b. cond b (Some v) (look_up (paired xs vs) name)) apart.1
      ∙ absent_from (suc at) xs vs name apart.0

  pub absent : (xs : Names) (vs : List V) (name : List ℕ) → place_of xs name ≡ None
      → look_up (paired xs vs) name ≡ None
  absent = absent_from 0

  -- a name that has one place alone stands for the value there
  found_from : (at : ℕ) (xs : Names) (vs : List V) (name : List ℕ) (k : ℕ) → length vs ≡ length xs
      → place_from at xs name ≡ Some (at + k)
      → ((j : ℕ) → j < length xs → bytes_eq name (get_or xs j []) ≡ true → j ≡ k)
      → look_up (paired xs vs) name ≡ slice_get vs k
  found_from at [] vs name k h is once = cc
  found_from at (x ∷ xs) [] name k h is once = absurd (omega (arith, h))
  found_from at (x ∷ xs) (v ∷ vs) name zero h is once =
      let here = first_here at xs name (bytes_eq name x) (place_from (suc at) xs name) refl (is ∙ ap (λ n. Some n) (add-zero at)) in
      ap (λ b. cond b (Some v) (look_up (paired xs vs) name)) here
  found_from at (x ∷ xs) (v ∷ vs) name (suc k) h is once =
      let other : bytes_eq name x ≡ false =
      false_from_ne_true (bytes_eq name x) (λ e. absurd (omega (arith, once 0 (omega arith) e))) in
      ap (λ b. cond b (Some v) (look_up (paired xs vs) name)) other
      ∙ found_from (suc at) xs vs name k (omega (arith, h))
      (later (place_from (suc at) xs name) (bytes_eq name x) at (at + suc k) other is
      ∙ ap (λ n. Some n) (let same : at + suc k ≡ suc at + k = omega arith in same))
      (λ j l e. omega (arith, once (suc j) (omega (arith, l)) e))

  pub place_within : (xs : Names) (vs : List V) (name : List ℕ) (k : ℕ) → length vs ≡ length xs
      → place_of xs name ≡ Some k → k < length vs
  place_within xs vs name k h is = omega (arith, h, slice_get_within xs k name (stands_at xs name k is))

  pub found : (xs : Names) (vs : List V) (name : List ℕ) (k : ℕ) → length vs ≡ length xs → AreDistinct xs
      → place_of xs name ≡ Some k → look_up (paired xs vs) name ≡ slice_get vs k
  found xs vs name k h distinct is =
      found_from 0 xs vs name k h (is ∙ ap (λ n. Some n) (sym (zero-add k)))
      (λ j l e. alone xs name k distinct is j l e)

  -- a name that stands for nothing has no place
  pub unplaced : (xs : Names) (vs : List V) (name : List ℕ) → length vs ≡ length xs
      → look_up (paired xs vs) name ≡ None → place_of xs name ≡ None
  unplaced = unplaced_from 0
    where
      unplaced_from : (at : ℕ) (xs : Names) (vs : List V) (name : List ℕ) → length vs ≡ length xs
          → look_up (paired xs vs) name ≡ None → place_from at xs name ≡ None
      unplaced_from at [] vs name h none = refl
      unplaced_from at (x ∷ xs) [] name h none = absurd (omega (arith, h))
      unplaced_from at (x ∷ xs) (v ∷ vs) name h none =
          let apart = no_step (bytes_eq name x) v (look_up (paired xs vs) name) none in
          ap (λ o. option_or o (cond (bytes_eq name x) (Some at) None))
          (unplaced_from (suc at) xs vs name (omega (arith, h)) apart.1)
          ∙ ap (λ b. cond b (Some at) None) apart.0

  -- a name that has a place stands for another value, and the others for theirs
  set_from : (at : ℕ) (xs : Names) (vs : List V) (name : List ℕ) (k : ℕ) (v : V) → length vs ≡ length xs
      → place_from at xs name ≡ Some (at + k)
      → ((j : ℕ) → j < length xs → bytes_eq name (get_or xs j []) ≡ true → j ≡ k)
      → paired xs (set vs k v) ≡ with_value (paired xs vs) name v
  set_from at [] vs name k v h is once = cc
  set_from at (x ∷ xs) [] name k v h is once = absurd (omega (arith, h))
  set_from at (x ∷ xs) (u ∷ vs) name zero v h is once =
      let here = first_here at xs name (bytes_eq name x) (place_from (suc at) xs name) refl
      (is ∙ ap (λ n. Some n) (add-zero at)) in
      sym (ap (λ b. cond b ((x, v) ∷ paired xs vs) ((x, u) ∷ with_value (paired xs vs) name v)) here)
  set_from at (x ∷ xs) (u ∷ vs) name (suc k) v h is once =
      let other : bytes_eq name x ≡ false =
      false_from_ne_true (bytes_eq name x) (λ e. absurd (omega (arith, once 0 (omega arith) e))) in
      ap (λ es. (x, u) ∷ es)
      (set_from (suc at) xs vs name k v (omega (arith, h))
      (later (place_from (suc at) xs name) (bytes_eq name x) at (at + suc k) other is
      ∙ ap (λ n. Some n) (let same : at + suc k ≡ suc at + k = omega arith in same))
      (λ j l e. omega (arith, once (suc j) (omega (arith, l)) e)))
      ∙ sym (ap (λ b. cond b ((x, v) ∷ paired xs vs) ((x, u) ∷ with_value (paired xs vs) name v)) other)

  pub set_value : (xs : Names) (vs : List V) (name : List ℕ) (k : ℕ) (v : V) → length vs ≡ length xs
      → AreDistinct xs → place_of xs name ≡ Some k → paired xs (set vs k v) ≡ with_value (paired xs vs) name v
  set_value xs vs name k v h distinct is =
      set_from 0 xs vs name k v h (is ∙ ap (λ n. Some n) (sym (zero-add k)))
      (λ j l e. alone xs name k distinct is j l e)

  -- a new name stands behind all
  pub new_value : (es : List (List ℕ × V)) (name : List ℕ) (v : V) → look_up es name ≡ None
      → with_value es name v ≡ es ++ (name, v) ∷ []
  new_value [] name v h = refl
  new_value (e ∷ es) name v h =
      let apart = no_step (bytes_eq name e.0) e.1 (look_up es name) h in
      ap (λ b. cond b ((e.0, v) ∷ es) (e ∷ with_value es name v)) apart.0
      ∙ ap (λ ys. e ∷ ys) (new_value es name v apart.1)

  -- a name stands for the value that it was given, and the others for theirs
  pub with_value_alone : (es : List (List ℕ × V)) (name : List ℕ) (v : V) (other : List ℕ)
      → look_up (with_value es name v) other ≡ cond (bytes_eq name other) (Some v) (look_up es other)
  with_value_alone [] name v other =
      ap (λ b. cond b (Some v) None) (nat_list_eq_equiv.symm other name)
  with_value_alone (e ∷ es) name v other =
      by (bytes_eq name e.0) refl (with_value_alone es name v other)
    where
      twice : (b : Bool) (rest : Option V) → cond b (Some v) rest ≡ cond b (Some v) (cond b (Some e.1) rest)
      twice true rest = refl
      twice false rest = refl

      exchanged : (a b : Bool) (rest : Option V) → (a ≡ true → b ≡ true → ⊥)
          → cond a (Some e.1) (cond b (Some v) rest) ≡ cond b (Some v) (cond a (Some e.1) rest)
      exchanged true true rest apart = absurd (apart refl refl)
      exchanged true false rest apart = refl
      exchanged false b rest apart = refl

      by : (b : Bool) → bytes_eq name e.0 ≡ b
          → look_up (with_value es name v) other ≡ cond (bytes_eq name other) (Some v) (look_up es other)
          → look_up (cond b ((e.0, v) ∷ es) (e ∷ with_value es name v)) other
          ≡ cond (bytes_eq name other) (Some v) (cond (bytes_eq other e.0) (Some e.1) (look_up es other))
      by true is rest =
          let same : bytes_eq other e.0 ≡ bytes_eq name other =
          ap (λ x. bytes_eq other x) (sym (same_text name e.0 (sym is))) ∙ nat_list_eq_equiv.symm other name in
          ap (λ b. cond b (Some v) (look_up es other)) same
          ∙ twice (bytes_eq name other) (look_up es other)
          ∙ ap (λ b. cond (bytes_eq name other) (Some v) (cond b (Some e.1) (look_up es other))) (sym same)
      by false is rest =
          ap (λ o. cond (bytes_eq other e.0) (Some e.1) o) rest
          ∙ exchanged (bytes_eq other e.0) (bytes_eq name other) (look_up es other)
          (λ here same. true≢false
          (sym (ap (λ x. bytes_eq x e.0) (same_text name other (sym same)) ∙ here) ∙ is))
