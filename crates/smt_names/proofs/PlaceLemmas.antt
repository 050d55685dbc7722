-- Places in lists of names, one name more and fewer.
use Rattle.std.proofs.Common.{◌≡◌, ℕ, zero, suc, ◌+◌, ◌<◌, ◌≤◌, Bool, true, false, cond, List, [], ◌∷◌}
use Rattle.std.proofs.Common.{length, take, drop, slice_get, nat_lt, position, get_or, refl, ap, sym, subst, ◌∙◌, arith, ◌++◌, Option, Some, None}
use Rattle.std.proofs.Common.{add-zero, zero-add, inl, inr, Result, Ok, Err, OnOk, IfOk}
use Rattle.std.proofs.lemmas.List.{take_all, take-append-drop, length-take, length-append, get_or_append_left}
use Rattle.std.proofs.lemmas.List.Sums.{passes_at_first, fails_before_first}
use Rattle.std.proofs.lemmas.Bool.{ltb-true, ltb-false}
use Rattle.std.proofs.Math.Seq.{take-append_seam, take-suc, get_or-append_seam}
use Rattle.std.proofs.lemmas.Bool.Decides.{eqb_tells}
use Rattle.std.proofs.lemmas.Option.{none-some, get_or_from_slice_get, slice_get_within}
use Rattle.std.proofs.lemmas.Cmp.{nat_list_eq_equiv}
use Rattle.std.specs.Cmp.Lexicographic.{same_text}
use Rattle.std.specs.List.{position_or_len}
use Rattle.std.specs.Map.{keys_of}
use Rattle.std.specs.Option.{option_or}
use Rattle.indexmap.specs.IndexMap.{insert_entry}
use Rattle.std.specs.Prelude.{bytes_eq, if◌then◌else◌}
use Rattle.smt_names.specs.Places.{AreDistinct, place_from, place_of}

abbrev Names : Type 0
Names = List (List ℕ)

-- ## Places

or_assoc : (a b c : Option ℕ) → option_or (option_or a b) c ≡ option_or a (option_or b c)
or_assoc None b c = refl
or_assoc (Some x) b c = refl

or_none : (o : Option ℕ) → option_or o None ≡ o
or_none None = refl
or_none (Some x) = refl

place-append : (at : ℕ) (xs ys : Names) (name : List ℕ)
    → place_from at (xs ++ ys) name ≡ option_or (place_from (at + length xs) ys name) (place_from at xs name)
place-append at [] ys name = rw add-zero (sym (or_none (place_from at ys name)))
place-append at (x ∷ xs) ys name =
    let last = if bytes_eq name x then Some at else None in
    let shifted : suc at + length xs ≡ at + suc (length xs) = omega arith in
    ap (λ o. option_or o last) (place-append (suc at) xs ys name)
    ∙ or_assoc (place_from (suc at + length xs) ys name) (place_from (suc at) xs name) last
    ∙ ap (λ n. option_or (place_from n ys name) (place_from at (x ∷ xs) name)) shifted

-- one more name
pub place-push : (xs : Names) (y name : List ℕ)
    → place_of (xs ++ y ∷ []) name ≡ (if bytes_eq name y then Some (length xs) else place_of xs name)
place-push xs y name =
    place-append 0 xs (y ∷ []) name
    ∙ ap (λ n. option_or (place_from n (y ∷ []) name) (place_of xs name)) (zero-add (length xs))
    ∙ by (bytes_eq name y) (place_of xs name)
  where
    by : (b : Bool) (o : Option ℕ) → option_or (option_or None (cond b (Some (length xs)) None)) o
        ≡ cond b (Some (length xs)) o
    by true o = refl
    by false o = refl

-- the first names, one more of them
pub place-more : (xs : Names) (k : ℕ) (name : List ℕ) → k < length xs
    → place_of (take (suc k) xs) name
    ≡ (if bytes_eq name (get_or xs k []) then Some k else place_of (take k xs) name)
place-more xs k name h =
    let size : length (take k xs) ≡ k = omega (arith, length-take k xs) in
    ap (λ ys. place_of ys name) (take-suc xs k [] h)
    ∙ place-push (take k xs) (get_or xs k []) name
    ∙ ap (λ n. if bytes_eq name (get_or xs k []) then Some n else place_of (take k xs) name) size

-- ## Where a name stands

-- a first answer that is none, and a test that fails
pub none_of : (o : Option ℕ) (b : Bool) (at : ℕ) → option_or o (cond b (Some at) None) ≡ None → (o ≡ None) × (b ≡ false)
none_of (Some k) b at h = cc
none_of None true at h = cc
none_of None false at h = (refl, refl)

-- where the test fails the answer is the first
pub later : (o : Option ℕ) (b : Bool) (at k : ℕ) → b ≡ false → option_or o (cond b (Some at) None) ≡ Some k → o ≡ Some k
later (Some n) b at k f h = h
later None true at k f h = cc
later None false at k f h = h

pub place_least : (at : ℕ) (xs : Names) (name : List ℕ) (k : ℕ) → place_from at xs name ≡ Some k → at ≤ k
place_least at [] name k is = cc
place_least at (x ∷ xs) name k is = by (place_from (suc at) xs name) (bytes_eq name x) is (place_least (suc at) xs name k)
  where
    by : (o : Option ℕ) (b : Bool) → option_or o (cond b (Some at) None) ≡ Some k → (o ≡ Some k → suc at ≤ k) → at ≤ k
    by (Some n) b h rest = omega (arith, rest h)
    by None true h rest = let same : at ≡ k = cc in omega (arith, same)
    by None false h rest = cc

-- the first place is that of the first name
pub first_here : (at : ℕ) (xs : Names) (name : List ℕ) (b : Bool) (o : Option ℕ) → place_from (suc at) xs name ≡ o
    → option_or o (cond b (Some at) None) ≡ Some at → b ≡ true
first_here at xs name true o is h = refl
first_here at xs name false None is h = cc
first_here at xs name false (Some n) is h =
    let same : n ≡ at = cc in
    absurd (omega (arith, same, place_least (suc at) xs name n is))

stands_from : (at : ℕ) (xs : Names) (name : List ℕ) (k : ℕ) → place_from at xs name ≡ Some (at + k)
    → slice_get xs k ≡ Some name
stands_from at [] name k is = cc
stands_from at (x ∷ xs) name zero is =
    let here = first_here at xs name (bytes_eq name x) (place_from (suc at) xs name) refl
    (is ∙ ap (λ n. Some n) (add-zero at)) in
    ap (λ n. Some n) (sym (same_text name x (sym here)))
stands_from at (x ∷ xs) name (suc k) is =
    stands_from (suc at) xs name k
    (behind (place_from (suc at) xs name) (bytes_eq name x) at k is
    ∙ ap (λ n. Some n) (let same : at + suc k ≡ suc at + k = omega arith in same))
  where
    behind : (o : Option ℕ) (b : Bool) (at k : ℕ) → option_or o (cond b (Some at) None) ≡ Some (at + suc k)
        → o ≡ Some (at + suc k)
    behind (Some n) b at k h = h
    behind None true at k h = let same : at ≡ at + suc k = cc in absurd (omega (arith, same))
    behind None false at k h = h

pub stands_at : (names : Names) (name : List ℕ) (k : ℕ) → place_of names name ≡ Some k
    → slice_get names k ≡ Some name
stands_at names name k is = stands_from 0 names name k (is ∙ ap (λ n. Some n) (sym (zero-add k)))

pub place_at : (names : Names) (name : List ℕ) (k : ℕ) → AreDistinct names → slice_get names k ≡ Some name
    → place_of names name ≡ Some k
place_at names name k distinct at =
    ap (λ x. place_of names x) (sym (get_or_from_slice_get names k name [] at))
    ∙ distinct k (slice_get_within names k name at)

-- ## One list of names behind another

-- what is none of all is none of the first ones
pub none_in_front : (xs ys : Names) (name : List ℕ) → place_of (xs ++ ys) name ≡ None → place_of xs name ≡ None
none_in_front xs ys name none =
    by (place_from (0 + length xs) ys name) (place_of xs name) (sym (place-append 0 xs ys name) ∙ none)
  where
    by : (o r : Option ℕ) → option_or o r ≡ None → r ≡ None
    by None r h = h
    by (Some k) r h = cc

-- the first of distinct names are distinct
pub distinct-front : (xs ys : Names) → AreDistinct (xs ++ ys) → AreDistinct xs
distinct-front xs ys distinct k l =
    let longer : k < length (xs ++ ys) = omega (arith, length-append xs ys) in
    by (place_from (0 + length xs) ys (get_or xs k [])) refl
    (sym (place-append 0 xs ys (get_or xs k []))
    ∙ ap (λ x. place_of (xs ++ ys) x) (sym (get_or_append_left xs ys [] k l))
    ∙ distinct k longer)
  where
    by : (o : Option ℕ) → place_from (0 + length xs) ys (get_or xs k []) ≡ o
        → option_or o (place_of xs (get_or xs k [])) ≡ Some k → place_of xs (get_or xs k []) ≡ Some k
    by None is h = h
    by (Some n) is h =
        let same : n ≡ k = cc in
        absurd (omega (arith, l, same, place_least (0 + length xs) ys (get_or xs k []) n is))

pub distinct-take : (n : ℕ) (xs : Names) → AreDistinct xs → AreDistinct (take n xs)
distinct-take n xs distinct =
    distinct-front (take n xs) (drop n xs) (subst AreDistinct (sym (take-append-drop n xs)) distinct)

-- one of the first of distinct names has its place there
pub place-front : (xs ys : Names) (name : List ℕ) (k : ℕ) → AreDistinct (xs ++ ys) → place_of xs name ≡ Some k
    → place_of (xs ++ ys) name ≡ Some k
place-front xs ys name k distinct is =
    let at = stands_at xs name k is in
    let inside : k < length xs = slice_get_within xs k name at in
    let longer : k < length (xs ++ ys) = omega (arith, inside, length-append xs ys) in
    ap (λ x. place_of (xs ++ ys) x)
    (sym (get_or_from_slice_get xs k name [] at) ∙ sym (get_or_append_left xs ys [] k inside))
    ∙ distinct k longer

-- ## The library's words

absent_everywhere : (at : ℕ) (xs : Names) (name : List ℕ)
    → ((k : ℕ) → k < length xs → bytes_eq name (get_or xs k []) ≡ false) → place_from at xs name ≡ None
absent_everywhere at [] name h = refl
absent_everywhere at (x ∷ xs) name h =
    ap (λ o. option_or o (cond (bytes_eq name x) (Some at) None))
    (absent_everywhere (suc at) xs name (λ k l. h (suc k) (omega arith)))
    ∙ ap (λ b. cond b (Some at) None) (h 0 (omega arith))

-- the first position of one of distinct names is its place
pub position-place : (xs : Names) (name : List ℕ) → AreDistinct xs
    → position (λ x. bytes_eq name x) xs ≡ place_of xs name
position-place xs name distinct =
    by (nat_lt (position_or_len (λ x. bytes_eq name x) xs) (length xs)) refl
  where
    by : (b : Bool) → nat_lt (position_or_len (λ x. bytes_eq name x) xs) (length xs) ≡ b
        → cond b (Some (position_or_len (λ x. bytes_eq name x) xs)) None ≡ place_of xs name
    by true is =
        let m = position_or_len (λ x. bytes_eq name x) xs in
        let l : m < length xs = ltb-true m (length xs) is in
        sym (ap (λ x. place_of xs x) (same_text name (get_or xs m []) (sym (passes_at_first (λ x. bytes_eq name x) xs [] l)))
        ∙ distinct m l)
    by false is =
        let m = position_or_len (λ x. bytes_eq name x) xs in
        let l : length xs ≤ m = ltb-false m (length xs) is in
        sym (absent_everywhere 0 xs name (λ k h. fails_before_first (λ x. bytes_eq name x) xs k [] (omega (arith, h, l))))

-- a new name goes behind the names of a map
keys-insert : {V : Type 0} (es : List (List ℕ × V)) (name : List ℕ) (v : V)
    → place_of (keys_of es) name ≡ None → keys_of (insert_entry bytes_eq es name v) ≡ keys_of es ++ name ∷ []
keys-insert es name v none = from 0 es name v none
  where
    from : {V : Type 0} (at : ℕ) (es : List (List ℕ × V)) (name : List ℕ) (v : V)
        → place_from at (keys_of es) name ≡ None
        → keys_of (insert_entry bytes_eq es name v) ≡ keys_of es ++ name ∷ []
    from at [] name v none = refl
    from at (e ∷ es) name v none =
        let apart = none_of (place_from (suc at) (keys_of es) name) (bytes_eq name e.0) at none in
        ap (λ b. keys_of (cond b ((e.0, v) ∷ es) (e ∷ insert_entry bytes_eq es name v))) apart.1
        ∙ ap (λ ns. e.0 ∷ ns) (from (suc at) es name v apart.0)

pub inserted : {V : Type 0} (es fs : List (List ℕ × V)) (late : Names) (kept name : List ℕ) (v : V)
    → fs ≡ insert_entry bytes_eq es kept v → kept ≡ name → place_of (keys_of es ++ late) name ≡ None
    → keys_of fs ≡ keys_of es ++ name ∷ []
inserted es fs late kept name v more same new =
    ap keys_of more ∙ ap (λ n. keys_of (insert_entry bytes_eq es n v)) same
    ∙ keys-insert es name v (none_in_front (keys_of es) late name new)

-- ## Distinct names

-- the last of distinct names is none of those before it
alone_at_last : (names : Names) (name : List ℕ) → AreDistinct (names ++ name ∷ []) → (n : ℕ)
    → n ≤ length names → place_of (take n names) name ≡ None
alone_at_last names name distinct zero l = refl
alone_at_last names name distinct (suc n) l =
    place-more names n name l
    ∙ by (bytes_eq name (get_or names n [])) refl (alone_at_last names name distinct n (omega arith))
  where
    longer : n < length (names ++ name ∷ [])
    longer = omega (arith, l, length-append names (name ∷ []))

    by : (b : Bool) → bytes_eq name (get_or names n []) ≡ b → place_of (take n names) name ≡ None
        → cond b (Some n) (place_of (take n names) name) ≡ None
    by false e none = none
    by true e none =
        let own : place_of (names ++ name ∷ []) name ≡ Some n =
        ap (λ x. place_of (names ++ name ∷ []) x)
        (same_text name (get_or names n []) (sym e) ∙ sym (get_or_append_left names (name ∷ []) [] n l))
        ∙ distinct n longer in
        let last : place_of (names ++ name ∷ []) name ≡ Some (length names) =
        place-push names name name
        ∙ ap (λ t. cond t (Some (length names)) (place_of names name)) (nat_list_eq_equiv.refl name) in
        let same : n ≡ length names = cc in
        absurd (omega (arith, l))

pub last_alone : (names : Names) (name : List ℕ) → AreDistinct (names ++ name ∷ []) → place_of names name ≡ None
last_alone names name distinct =
    sym (ap (λ ns. place_of ns name) (take_all (length names) names (omega arith)))
    ∙ alone_at_last names name distinct (length names) (omega arith)

pub distinct-push : (names : Names) (name : List ℕ) → AreDistinct names → place_of names name ≡ None
    → AreDistinct (names ++ name ∷ [])
distinct-push names name before none k l =
    elim (eqb_tells k (length names)) as (λ _.
    place_of (names ++ name ∷ []) (get_or (names ++ name ∷ []) k []) ≡ Some k) [
      | inl w ↦
          ap (λ i. place_of (names ++ name ∷ []) (get_or (names ++ name ∷ []) i [])) w.1
          ∙ ap (λ x. place_of (names ++ name ∷ []) x) (get_or-append_seam names name [] [])
          ∙ place-push names name name
          ∙ ap (λ t. cond t (Some (length names)) (place_of names name)) (nat_list_eq_equiv.refl name)
          ∙ ap (λ i. Some i) (sym w.1)
      | inr w ↦
          let inside : k < length names = omega (arith, length-append names (name ∷ [])) in
          ap (λ x. place_of (names ++ name ∷ []) x) (get_or_append_left names (name ∷ []) [] k inside)
          ∙ place-push names name (get_or names k [])
          ∙ by k (before k inside) (bytes_eq (get_or names k []) name) refl
    ]
  where
    by : (k : ℕ) → place_of names (get_or names k []) ≡ Some k
        → (t : Bool) → bytes_eq (get_or names k []) name ≡ t
        → cond t (Some (length names)) (place_of names (get_or names k [])) ≡ Some k
    by k own true e =
        absurd (none-some k (sym none ∙ ap (λ x. place_of names x)
        (sym (same_text (get_or names k []) name (sym e))) ∙ own))
    by k own false e = own

pub placed : {E : Type 0} (r : Result ℕ E) (old new : Names) (name : List ℕ) → None ≡ place_of old name
    → OnOk r (new ≡ old ++ name ∷ []) → IfOk r (λ i. i ≡ length old) → IfOk r (λ i. place_of new name ≡ Some i)
placed (Ok i) old new name none is at =
    ap (λ ns. place_of ns name) is ∙ place-push old name name
    ∙ ap (λ t. cond t (Some (length old)) (place_of old name)) (nat_list_eq_equiv.refl name)
    ∙ ap (λ k. Some k) (sym at)
placed (Err e) old new name none is at = at

pub kept : {A : Type 0} (n : ℕ) (xs ys : List A) → n ≡ length xs → take n (xs ++ ys) ≡ xs
kept n xs ys e = ap (λ i. take i (xs ++ ys)) e ∙ take-append_seam xs ys
