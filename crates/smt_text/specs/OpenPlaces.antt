-- What is open at the end of a text, by the places where it begins, in bytes from 0.
use Rattle.std.specs.Prelude.{◌≡◌, ◌<◌, ◌≤◌, ℕ, List, Bool, true, false, Option, Some, None, length}
use Rattle.smt_text.specs.Places.{depth_at, is_between, step_at, token_at}
use Rattle.smt_text.specs.declared.lexer.AtomState.{AtomState}
use Rattle.smt_text.specs.declared.lexer.AtomState.TheVariants.{InText, InBars}
use Rattle.smt_text.specs.declared.lexer.LexerStep.TheVariants.{Open}
use Rattle.smt_text.specs.declared.unfinished.OpenPlaces.{OpenPlaces}

-- a list begins at the place, and up to that end of the text nothing closes it: more lists are open everywhere
pub record IsOpenList (text : List ℕ) (end place : ℕ) : Type 0 where
  pub within : place < end
  pub opens : step_at text place ≡ Open
  pub stays : (later : ℕ) → place < later → later ≤ end → depth_at text place < depth_at text later

-- the token in which that end of the text is begins at the place
pub record IsBegun (text : List ℕ) (end place : ℕ) : Type 0 where
  pub within : place < end
  pub begins : is_between (token_at text place) ≡ true
  pub goes_on : (later : ℕ) → place < later → later ≤ end → is_between (token_at text later) ≡ false

-- in a string, or in a quoted symbol
abbrev pub is_quoted : AtomState → Bool
is_quoted InText = true
is_quoted InBars = true
is_quoted _ = false

-- the first of such places, if there is one
abbrev pub IsFirst : (ℕ → Type 0) → Option ℕ → Type 0
IsFirst P None = (place : ℕ) → P place → ⊥
IsFirst P (Some place) = P place × ((other : ℕ) → P other → place ≤ other)

-- the last of them
abbrev pub IsLast : (ℕ → Type 0) → Option ℕ → Type 0
IsLast P None = (place : ℕ) → P place → ⊥
IsLast P (Some place) = P place × ((other : ℕ) → P other → other ≤ place)

-- where the string or the quoted symbol begins in which the text ends, if it ends in one
abbrev pub IsOpenToken : List ℕ → Option ℕ → Type 0
IsOpenToken text None = is_quoted (token_at text (length text)) ≡ false
IsOpenToken text (Some place) =
    (is_quoted (token_at text (length text)) ≡ true) × IsBegun text (length text) place

pub record AreOpenIn (text : List ℕ) (places : OpenPlaces) : Type 0 where
  pub outermost : IsFirst (IsOpenList text (length text)) places.outermost
  pub innermost : IsLast (IsOpenList text (length text)) places.innermost
  pub token : IsOpenToken text places.token
