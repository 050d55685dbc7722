-- The places of names in a list, where the last of a name hides those before it. This file knows nothing of
-- what a name stands for.
use Rattle.std.specs.Prelude.{◌≡◌, ℕ, suc, List, [], ◌∷◌, ◌++◌, map, drop, Option, Some, None, bytes_eq}
use Rattle.std.specs.Prelude.{if◌then◌else◌}
use Rattle.std.specs.Option.{option_flatten, option_or}
use Rattle.smt_theory.specs.Words.{look_up}
use Rattle.smt_names.specs.Entries.{entries_of}
use Rattle.smt_names.specs.declared.map.NameMap.{NameMap}
use Rattle.smt_forms.specs.declared.places.Placed.{Placed}

-- the place of the last of these names that is this one, where the first of them stands at this place
abbrev pub place_from : ℕ → List (List ℕ) → List ℕ → Option ℕ
place_from at [] name = None
place_from at (x ∷ xs) name =
    option_or (place_from (suc at) xs name) (if bytes_eq name x then Some at else None)

abbrev pub names_of : List Placed → List (List ℕ)
names_of names = map (λ n. n.name.now) names

-- each name keeps the place of the one that it hides, where the first few hide nothing and aren't hidden, and
-- these names come before
abbrev pub AreHiding : ℕ → List (List ℕ) → List Placed → Type 0
AreHiding few before [] = Unit {0}
AreHiding few before (n ∷ ns) =
    (n.hidden ≡ place_from few (drop few before) n.name.now) × AreHiding few (before ++ n.name.now ∷ []) ns

-- the place that a map has of a name
abbrev pub place_in : NameMap (Option ℕ) → List ℕ → Option ℕ
place_in map name = option_flatten (look_up (entries_of map) name)

-- a map has the place of the last of each name behind the first few, and these keep the places that they hide
pub record IsIndexed (few : ℕ) (names : List Placed) (map : NameMap (Option ℕ)) : Type 0 where
  pub found : (name : List ℕ) → place_in map name ≡ place_from few (drop few (names_of names)) name
  pub hiding : AreHiding few [] names
