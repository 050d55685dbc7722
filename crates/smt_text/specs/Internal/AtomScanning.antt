-- How far a scan of a text for its atoms has come.
use Rattle.std.specs.Prelude.{◌≡◌, ◌<◌, ◌≤◌, ℕ, List, true, false}
use Rattle.std.specs.List.{All, AllPairs, Contains}
use Rattle.smt_text.specs.Atoms.{is_inside, IsAtom}
use Rattle.smt_text.specs.Places.{token_at}
use Rattle.smt_text.specs.declared.atom_places.AtomScan.{AtomScan}
use Rattle.smt_text.specs.declared.span.Span.{Span}

-- the atom in which the text is at the place begins there
pub record IsEntered (text : List ℕ) (place begun : ℕ) : Type 0 where
  pub within : begun < place
  pub begins : is_inside (token_at text begun) ≡ false
  pub inside : (later : ℕ) → begun < later → later ≤ place → is_inside (token_at text later) ≡ true

-- an atom stands there, and what shows its end is before the place
pub record IsAtomBefore (text : List ℕ) (place : ℕ) (span : Span) : Type 0 where
  pub atom : IsAtom text span
  pub before : atom.last < place

-- the text was scanned up to the place
pub record IsAtomScan (text : List ℕ) (place : ℕ) (scan : AtomScan) : Type 0 where
  pub token : scan.token ≡ token_at text place
  pub begun : is_inside (token_at text place) ≡ true → IsEntered text place scan.begun
  pub each : All (IsAtomBefore text place) scan.spans.items
  pub all : (span : Span) → IsAtomBefore text place span → Contains scan.spans.items span
  pub apart : AllPairs (λ span later. span.end ≤ later.start) scan.spans.items
