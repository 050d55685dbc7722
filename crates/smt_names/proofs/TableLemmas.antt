-- The names of a table, which are those of the library's map and the late ones.
use Rattle.std.proofs.Common.{◌≡◌, ℕ, zero, suc, ◌-◌, ◌<◌, List, [], ◌∷◌, ◌++◌, length, take, drop, get_or, set}
use Rattle.std.proofs.Common.{Bool, true, false, cond, Option, None, Some, inl, inr}
use Rattle.std.proofs.Common.{refl, ap, sym, ◌∙◌, subst, arith}
use Rattle.std.proofs.lemmas.List.{append-nil, append_assoc, length-append, length-take, take-append-drop}
use Rattle.std.proofs.lemmas.List.{get_or-set_same, get_or-set_other, length-set}
use Rattle.std.proofs.lemmas.Bool.Decides.{eqb_tells}
use Rattle.std.specs.Cmp.Lexicographic.{same_text}
use Rattle.std.specs.Prelude.{bytes_eq, is_some, IfNone}
use Rattle.std.proofs.Math.Seq.{take-append_seam}
use Rattle.smt_names.specs.Places.{AreDistinct, place_of}
use Rattle.smt_names.specs.Internal.Order.{AreKept, HasPlace, HasPlaces, HasPlacesIfAny, IsTable, PlaceMap}
use Rattle.smt_names.proofs.OrderLemmas.{places-push}
use Rattle.smt_names.proofs.PlaceLemmas.{distinct-push, distinct-take, last_alone, place-front, place-push}

abbrev Names : Type 0
Names = List (List ℕ)

grown_behind : (xs ys new : Names) (name : List ℕ) → new ≡ ys ++ name ∷ []
    → xs ++ new ≡ (xs ++ ys) ++ name ∷ []
grown_behind xs ys new name more = ap (λ ns. xs ++ ns) more ∙ sym (append_assoc xs ys (name ∷ []))

pub grown_in_front : (xs new ys : Names) (name : List ℕ) → ys ≡ [] → new ≡ xs ++ name ∷ []
    → new ++ ys ≡ (xs ++ ys) ++ name ∷ []
grown_in_front xs new ys name none more =
    ap (λ ns. new ++ ns) none ∙ append-nil new ∙ more
    ∙ ap (λ ns. ns ++ name ∷ []) (sym (append-nil xs) ∙ ap (λ ns. xs ++ ns) (sym none))

-- the first of all
split : (n : ℕ) (xs ys : Names) → take n (xs ++ ys) ≡ take n xs ++ take (n - length xs) ys
split zero xs ys = ap (λ m. take m ys) (let none : 0 ≡ 0 - length xs = omega arith in none)
split (suc n) [] ys = ap (λ m. take m ys) (let all : suc n ≡ suc n - 0 = omega arith in all)
split (suc n) (x ∷ xs) ys =
    ap (λ ns. x ∷ ns) (split n xs ys)
    ∙ ap (λ m. (x ∷ take n xs) ++ take m ys) (let same : n - length xs ≡ suc n - suc (length xs) = omega arith in same)

cut_both : (n : ℕ) (xs ys front behind names : Names) → xs ++ ys ≡ names → front ≡ take n xs
    → behind ≡ take (n - length xs) ys → front ++ behind ≡ take n names
cut_both n xs ys front behind names all first rest =
    ap (λ ns. ns ++ behind) first ∙ ap (λ ns. take n xs ++ ns) rest ∙ sym (split n xs ys) ∙ ap (λ ns. take n ns) all

-- ## First bytes

still : (begun : List Bool) (at i : ℕ) → get_or begun i false ≡ true → get_or (set begun at true) i false ≡ true
still begun at i seen = elim (eqb_tells i at) as (λ _. get_or (set begun at true) i false ≡ true) [
  | inl w ↦
      let inside : i < length begun = within begun i seen in
      ap (λ k. get_or (set begun k true) i false) (sym w.1) ∙ get_or-set_same begun i true false inside
  | inr w ↦ get_or-set_other begun at i true false w.1 ∙ seen
]
  where
    within : (bs : List Bool) (k : ℕ) → get_or bs k false ≡ true → k < length bs
    within [] k h = cc
    within (b ∷ bs) zero h = omega arith
    within (b ∷ bs) (suc k) h = omega (arith, within bs k h)

-- ## A name more, or fewer

kept-push : (names new : Names) (name : List ℕ) (begun : List Bool) (at : ℕ) → AreKept names begun
    → place_of names name ≡ None → length names < 4294967295 → at ≡ get_or name 0 0 → at < 256
    → new ≡ names ++ name ∷ [] → AreKept new (set begun at true)
kept-push names new name begun at kept none few is l grown =
    subst (λ ns. AreKept ns (set begun at true)) (sym grown) (record {
      distinct = distinct-push names name kept.distinct none;
      few = omega (arith, few, length-append names (name ∷ []));
      each_byte = omega (arith, kept.each_byte, length-set begun at true);
      noted = λ other k place.
          by other k (bytes_eq other name) refl (sym (place-push names name other) ∙ place);
    })
  where
    by : (other : List ℕ) (k : ℕ) (b : Bool) → bytes_eq other name ≡ b
        → cond b (Some (length names)) (place_of names other) ≡ Some k
        → get_or (set begun at true) (get_or other 0 0) false ≡ true
    by other k true same e =
        ap (λ i. get_or (set begun at true) i false) (ap (λ n. get_or n 0 0) (same_text other name (sym same)) ∙ sym is)
        ∙ get_or-set_same begun at true false (omega (arith, kept.each_byte))
    by other k false differ e = still begun at (get_or other 0 0) (kept.noted other k e)

kept-take : (n : ℕ) (names new : Names) (begun : List Bool) → AreKept names begun → new ≡ take n names
    → AreKept new begun
kept-take n names new begun kept less =
    subst (λ ns. AreKept ns begun) (sym less) (record {
      distinct = distinct-take n names kept.distinct;
      few = omega (arith, kept.few, length-take n names);
      each_byte = kept.each_byte;
      noted = λ name k place.
          kept.noted name k
          (sym (ap (λ ns. place_of ns name) all)
          ∙ place-front (take n names) (drop n names) name k (subst AreDistinct (sym all) kept.distinct) place);
    })
  where
    all : take n names ++ drop n names ≡ names
    all = take-append-drop n names

-- ## The table

take_none : (n : ℕ) → take {A = List ℕ} n [] ≡ []
take_none zero = refl
take_none (suc n) = refl

names_front : (names rest : Names) (name : List ℕ) → names ≡ rest ++ name ∷ [] → rest ≡ take (length names - 1) names
names_front names rest name is =
    let long : length names ≡ suc (length rest) = ap length is ∙ length-append rest (name ∷ []) ∙ omega arith in
    let size : length names - 1 ≡ length rest = omega arith in
    sym (ap (λ i. take i names) size ∙ ap (λ ms. take (length rest) ms) is ∙ take-append_seam rest (name ∷ []))

pub no_map : (map : Option PlaceMap) → is_some map ≡ false → map ≡ None
no_map None h = refl
no_map (Some m) h = cc

-- where there is no map, what then holds
pub without : {P : Type 0} (map : Option PlaceMap) → IfNone map P → map ≡ None → P
without None h e = h
without (Some m) h e = cc

if_none : {P : Type 0} (map : Option PlaceMap) → (map ≡ None → P) → IfNone map P
if_none None h = h refl
if_none (Some m) h = tt

-- with no map, the first names
pub cut_front : (n : ℕ) (names late front : Names) (begun : List Bool) (map : Option PlaceMap)
    → IsTable names late begun map → map ≡ None → front ≡ take n names → front ++ late ≡ take n (names ++ late)
cut_front n names late front begun map is none first =
    let no_late = without map is.late_none none in
    cut_both n names late front late (names ++ late) refl first
    (no_late ∙ sym (take_none (n - length names)) ∙ ap (λ ns. take (n - length names) ns) (sym no_late))

pub table-take : (n : ℕ) (names late front : Names) (begun : List Bool) (map : Option PlaceMap)
    → IsTable names late begun map → map ≡ None → front ≡ take n names → IsTable front late begun map
table-take n names late front begun map is none first =
    record {
      kept =
          kept-take n (names ++ late) (front ++ late) begun is.kept (cut_front n names late front begun map is none first);
      placed = subst (λ m. HasPlacesIfAny (front ++ late) m) (sym none) tt;
      late_none = is.late_none;
    }

-- the last goes
pub table-pop : (names late front rest : Names) (name : List ℕ) (begun : List Bool) (old map : Option PlaceMap)
    → IsTable names late begun old → names ++ late ≡ (front ++ rest) ++ name ∷ [] → (late ≡ [] → rest ≡ [])
    → ((ns : Names) → place_of ns name ≡ None → HasPlacesIfAny (ns ++ name ∷ []) old → HasPlacesIfAny ns map)
    → (map ≡ None → old ≡ None) → IsTable front rest begun map
table-pop names late front rest name begun old map is ends none forgets stays =
    let less = names_front (names ++ late) (front ++ rest) name ends in
    let distinct = subst AreDistinct ends is.kept.distinct in
    record {
      kept = kept-take (length (names ++ late) - 1) (names ++ late) (front ++ rest) begun is.kept less;
      placed =
          forgets (front ++ rest) (last_alone (front ++ rest) name distinct)
          (subst (λ ns. HasPlacesIfAny ns old) ends is.placed);
      late_none = if_none map (λ e. none (without old is.late_none (stays e)));
    }

-- a new name in the library's map
pub table-insert : (names late more : Names) (name : List ℕ) (begun : List Bool) (at : ℕ) (map : Option PlaceMap)
    → IsTable names late begun map → map ≡ None → more ≡ names ++ name ∷ [] → place_of (names ++ late) name ≡ None
    → length (names ++ late) < 4294967295 → at ≡ get_or name 0 0 → at < 256 → IsTable more late (set begun at true) map
table-insert names late more name begun at map is none grown new few first byte =
    let no_late = without map is.late_none none in
    record {
      kept =
          kept-push (names ++ late) (more ++ late) name begun at is.kept new few first byte
          (grown_in_front names more late name no_late grown);
      placed = subst (λ m. HasPlacesIfAny (more ++ late) m) (sym none) tt;
      late_none = if_none map (λ _. no_late);
    }

-- a late name
pub table-push : (names late more : Names) (name : List ℕ) (begun : List Bool) (at place : ℕ) (old map : PlaceMap)
    → IsTable names late begun (Some old) → more ≡ late ++ name ∷ [] → place_of (names ++ late) name ≡ None
    → length (names ++ late) < 4294967295 → at ≡ get_or name 0 0 → at < 256 → place ≡ length (names ++ late)
    → HasPlace name place old map → IsTable names more (set begun at true) (Some map)
table-push names late more name begun at place old map is grown new few first byte next noted = record {
  kept =
      kept-push (names ++ late) (names ++ more) name begun at is.kept new few first byte
      (grown_behind names late more name grown);
  placed =
      subst (λ ns. HasPlaces ns map) (sym (grown_behind names late more name grown))
      (places-push (names ++ late) name place old map next is.placed noted);
  late_none = tt;
}
