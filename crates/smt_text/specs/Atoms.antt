-- Where the atoms of a text stand, in bytes from 0.
use Rattle.std.specs.Prelude.{◌≡◌, ◌<◌, ◌≤◌, ◌+◌, ℕ, List, Bool, true, false, length}
use Rattle.std.specs.List.{All, AllPairs, Contains}
use Rattle.smt_text.specs.Internal.LexerStates.{own_end}
use Rattle.smt_text.specs.Places.{token_at}
use Rattle.smt_text.specs.declared.lexer.AtomState.{AtomState}
use Rattle.smt_text.specs.declared.lexer.AtomState.TheVariants.{Nothing, AfterBar, InComment}
use Rattle.smt_text.specs.declared.span.Span.{Span}

-- in an atom, so that more of it, or its end, may come
abbrev pub is_inside : AtomState → Bool
is_inside Nothing = false
is_inside AfterBar = false
is_inside InComment = false
is_inside _ = true

-- an atom stands there: it begins with the first byte of the span, and the last byte that is looked at shows its
-- end. That byte belongs to it where it is the second bar of a quoted symbol
pub record IsAtom (text : List ℕ) (span : Span) : Type 0 where
  pub last : ℕ
  pub some : span.start < last
  pub within : last < length text
  pub begins : is_inside (token_at text span.start) ≡ false
  pub inside : (place : ℕ) → span.start < place → place ≤ last → is_inside (token_at text place) ≡ true
  pub ends : is_inside (token_at text (last + 1)) ≡ false
  pub end : span.end ≡ last + own_end (token_at text (last + 1))

-- these are the atoms of the text, one behind another
pub record AreAtoms (text : List ℕ) (spans : List Span) : Type 0 where
  pub each : All (IsAtom text) spans
  pub all : (span : Span) → IsAtom text span → Contains spans span
  pub apart : AllPairs (λ span later. span.end ≤ later.start) spans
