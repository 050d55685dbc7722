-- The map of places, where a name more or fewer is among the names.
use Rattle.std.proofs.Common.{◌≡◌, ℕ, ◌+◌, ◌<◌, Bool, true, false, cond, List, [], ◌∷◌, ◌++◌, length, take}
use Rattle.std.proofs.Common.{Option, Some, None, refl, ap, sym, ◌∙◌, subst, arith, get_or}
use Rattle.std.proofs.lemmas.Cmp.{eq_by_cmp_equiv, nat_list_cmp_total, nat_list_eq_equiv}
use Rattle.std.proofs.lemmas.List.{length-take, take_more}
use Rattle.std.proofs.lemmas.Map.Text.{is_eq-slice_cmp}
use Rattle.std.specs.BTreeMap.{UpdatesBy}
use Rattle.std.specs.Cmp.Lexicographic.{same_text, slice_cmp}
use Rattle.std.specs.Map.{KeepsOthers, update}
use Rattle.std.specs.Ordering.{is_eq, nat_cmp}
use Rattle.std.specs.Prelude.{bytes_eq}
use Rattle.smt_names.specs.Places.{place_of}
use Rattle.smt_names.specs.Internal.Order.{HasPlace, HasPlaces, PlaceMap, place_in}
use Rattle.smt_names.proofs.PlaceLemmas.{place-push}

-- a key that is one name is no other
apart : (name other key : List ℕ) → bytes_eq name other ≡ false → is_eq (slice_cmp nat_cmp name key) ≡ true
    → is_eq (slice_cmp nat_cmp other key) ≡ false
apart name other key differ is =
    is_eq-slice_cmp other key ∙ nat_list_eq_equiv.symm other key
    ∙ sym (nat_list_eq_equiv.congr name key other (sym (is_eq-slice_cmp name key) ∙ is)) ∙ differ

-- where the place of one name changes, those of others stay
pub changed : (old new : PlaceMap) (name : List ℕ) (place : Option ℕ)
    → UpdatesBy (λ x y. slice_cmp nat_cmp x.items y.items) (λ k. slice_cmp nat_cmp name k.items) old new place
    → (other : List ℕ) → place_in new other ≡ update bytes_eq (place_in old) name place other
unfolding KeepsOthers
changed old new name place h other = by (bytes_eq name other) refl
  where
    by : (b : Bool) → bytes_eq name other ≡ b → place_in new other ≡ cond b place (place_in old other)
    by true same = ap (λ x. place_in new x) (sym (same_text name other (sym same))) ∙ h.1
    by false differ =
        h.3 (λ k. is_eq (slice_cmp nat_cmp other k.items))
        (λ x y. (eq_by_cmp_equiv nat_list_cmp_total).congr other x.items y.items)
        (λ k. apart name other k.items differ)

-- no name
pub places-none : (map : PlaceMap) → map.entries ≡ [] → HasPlaces [] map
places-none map none name = grind (arith, none)

-- one more
pub places-push : (names : List (List ℕ)) (name : List ℕ) (place : ℕ) (old new : PlaceMap)
    → place ≡ length names → HasPlaces names old → HasPlace name place old new
    → HasPlaces (names ++ name ∷ []) new
places-push names name place old new at has noted other =
    noted other
    ∙ ap (λ o. cond (bytes_eq name other) (Some place) o) (has other)
    ∙ ap (λ b. cond b (Some place) (place_of names other)) (nat_list_eq_equiv.symm name other)
    ∙ ap (λ k. cond (bytes_eq other name) (Some k) (place_of names other)) at
    ∙ sym (place-push names name other)

-- the first names, and the next
pub places-next : (names : List (List ℕ)) (k place : ℕ) (name : List ℕ) (old new : PlaceMap) → k < length names
    → place ≡ k → name ≡ get_or names k [] → HasPlaces (take k names) old → HasPlace name place old new
    → HasPlaces (take (k + 1) names) new
places-next names k place name old new l at is has noted =
    subst (λ ns. HasPlaces ns new)
    (ap (λ x. take k names ++ x ∷ []) is ∙ sym (take_more names k [] l))
    (places-push (take k names) name place old new (omega (arith, length-take k names)) has noted)

-- the last goes
pub places-pop : (names : List (List ℕ)) (name : List ℕ) (old new : PlaceMap) → place_of names name ≡ None
    → HasPlaces (names ++ name ∷ []) old
    → ((other : List ℕ) → place_in new other ≡ update bytes_eq (place_in old) name None other)
    → HasPlaces names new
places-pop names name old new none has gone other = gone other ∙ by (bytes_eq name other) refl
  where
    by : (b : Bool) → bytes_eq name other ≡ b → cond b None (place_in old other) ≡ place_of names other
    by true same = sym none ∙ ap (λ x. place_of names x) (same_text name other (sym same))
    by false differ =
        has other ∙ place-push names name other
        ∙ ap (λ b. cond b (Some (length names)) (place_of names other)) (nat_list_eq_equiv.symm other name ∙ differ)
