-- The places of names in a map by their order.
use Rattle.std.specs.Prelude.{◌≡◌, ◌≤◌, ℕ, Bool, true, false, List, length, Option, None, Some, bytes_eq}
use Rattle.std.specs.Prelude.{[], ◌++◌, IfNone}
use Rattle.std.specs.Prelude.{slice_index, slice_index_or}
use Rattle.std.specs.Global.{Vec}
use Rattle.std.specs.Ordering.{nat_cmp}
use Rattle.std.specs.Cmp.Lexicographic.{slice_cmp}
use Rattle.std.specs.BTreeMap.{BTreeMap, get_by}
use Rattle.std.specs.Map.{update}
use Rattle.smt_names.specs.Places.{AreDistinct, place_of}

abbrev pub PlaceMap : Type 0
PlaceMap = BTreeMap (Vec ℕ) ℕ

-- the place that a map has of a name
abbrev pub place_in : PlaceMap → List ℕ → Option ℕ
place_in map name = get_by (λ k. slice_cmp nat_cmp name k.items) map

-- it has those of these names, and of no others
abbrev pub HasPlaces : List (List ℕ) → PlaceMap → Type 0
HasPlaces names map = (name : List ℕ) → place_in map name ≡ place_of names name

abbrev pub HasPlacesIfAny : List (List ℕ) → Option PlaceMap → Type 0
HasPlacesIfAny names None = Unit {0}
HasPlacesIfAny names (Some map) = HasPlaces names map

-- no name stands twice, each place has 32 bits, and of each name it is noted that one begins with its first byte
pub record AreKept (names : List (List ℕ)) (begun : List Bool) : Type 0 where
  pub distinct : AreDistinct names
  pub few : length names ≤ 4294967295
  pub each_byte : length begun ≡ 256
  pub noted : (name : List ℕ) (place : ℕ) → place_of names name ≡ Some place
      → slice_index_or begun (slice_index name 0) false ≡ true

-- these names are kept, a map, if there is one, has the places of all, and without a map none is late
pub record IsTable (names late : List (List ℕ)) (begun : List Bool) (places : Option PlaceMap) : Type 0 where
  pub kept : AreKept (names ++ late) begun
  pub placed : HasPlacesIfAny (names ++ late) places
  pub late_none : IfNone places (late ≡ [])

-- the second map has this place of the name, and those that the first has of others
abbrev pub HasPlace : List ℕ → ℕ → (old new : PlaceMap) → Type 0
HasPlace name place old new = (other : List ℕ)
    → place_in new other ≡ update bytes_eq (place_in old) name (Some place) other

-- two maps have the same places
abbrev pub AreSame : (old new : PlaceMap) → Type 0
AreSame old new = (name : List ℕ) → place_in new name ≡ place_in old name
