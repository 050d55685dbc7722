-- Parts of a text by their places, in bytes from 0, and where its trees stand. SMT-LIB 2.6, section 3.1, says
-- what white space and comments are.
use Rattle.std.specs.Prelude.{◌≡◌, ◌≢◌, ◌⊎◌, ◌≤◌, ◌+◌, ◌-◌, ℕ, List, [], ◌∷◌, ◌++◌, length, take, drop, true}
use Rattle.std.specs.Prelude.{false, None, nat_le, ◌&&◌, if◌then◌else◌}
use Rattle.smt_text.specs.Grammar.{IsComment, IsGap}
use Rattle.smt_text.specs.Lexical.{is_white, semicolon}
use Rattle.smt_text.specs.Reading.{Reads}
use Rattle.smt_text.specs.declared.span.Span.{Span}
use Rattle.smt_trees.specs.Sexp.{Sexps, Nil, Cons, append}

-- the bytes of a part of the text; none where it has no such part
abbrev pub bytes_in : List ℕ → Span → List ℕ
bytes_in text span =
    if nat_le span.start span.end && nat_le span.end (length text)
    then take (span.end - span.start) (drop span.start text) else []

-- neither white space nor a comment begins so
abbrev pub BeginsNoGap : List ℕ → Type 0
BeginsNoGap [] = Unit {0}
BeginsNoGap (b ∷ bs) = (is_white b ≡ false) × (b ≢ semicolon)

-- the text begins with so many bytes of white space and comments: a gap, before what is neither; or all of it,
-- where it ends in a comment
pub record IsGapLength (text : List ℕ) (count : ℕ) : Type 0 where
  pub gap : List ℕ
  pub rest : List ℕ
  pub parts : text ≡ gap ++ rest
  pub is_gap : IsGap gap
  pub ends : ((count ≡ length gap) × BeginsNoGap rest) ⊎ ((count ≡ length text) × IsComment rest)

-- the last of these trees stands there: up to its end the text is these trees, and from the end of the tree
-- before it comes a gap
pub record IsSpan (max_depth : ℕ) (text : List ℕ) (before : ℕ) (trees : Sexps) (span : Span) : Type 0 where
  pub within : span.end ≤ length text
  pub reads : Reads max_depth true (take span.end text) trees None
  pub gap : ℕ
  pub start : span.start ≡ before + gap
  pub is_gap : IsGapLength (drop before text) gap

-- where these trees stand one after another, behind those that were taken, the last of which ended there
abbrev pub AreSpans : ℕ → List ℕ → ℕ → Sexps → List Span → Sexps → Type 0
AreSpans max_depth text before taken [] trees = trees ≡ Nil
AreSpans max_depth text before taken (span ∷ spans) Nil = ⊥
AreSpans max_depth text before taken (span ∷ spans) (Cons x xs) =
    IsSpan max_depth text before (append taken (Cons x Nil)) span
    × AreSpans max_depth text span.end (append taken (Cons x Nil)) spans xs
