-- What a search in clap's rows finds, and what defaults add to them.
use Rattle.std.proofs.Common.{◌≡◌, ◌∙◌, ◌||◌, ◌++◌, Bool, List, [], ◌∷◌, ap, true, false}
use Rattle.std.proofs.Common.{Option, Some, None, refl, if◌then◌else◌}
use Rattle.std.proofs.Common.{sym}
use Rattle.std.specs.Prelude.{find, fold}
use Rattle.std.specs.Str.{bytes_eq}
use Rattle.std.proofs.lemmas.List.{append-nil}
use Rattle.std.proofs.lemmas.Slice.Eq.{bytes_eq-Decides}
use Rattle.clap.specs.Words.{Row, Rule, Text}
use Rattle.clap.specs.Walk.{at_row, default_rows, has_row}
use Rattle.clap.specs.Walk.{more_values, reading_by}
use Rattle.clap.specs.Walk.{with_default, with_values, without}
use Rattle.clap.specs.declared.builder.value_parser.Reading.TheVariants.{AsWritten}
use Rattle.clap.specs.declared.parser.matches.ValueSource.TheVariants.{CommandLine, DefaultValue}
use Rattle.smtcheck_command_line.specs.Settings.{Given}
use Rattle.smtcheck_command_line.specs.Settings.{name_of, value_of}

-- the row of an argument with one value from the words
abbrev pub row : Text → Text → Row
row id text = record {
  id = id;
  values = text ∷ [];
  count = None;
  source = Some CommandLine;
  reading = AsWritten;
}

abbrev pub row_of : Given → Row
row_of o = row (name_of o) (value_of o)

abbrev pub find_row : Text → List Row → Option Row
find_row id rows = find (λ r. bytes_eq r.id id) rows

abbrev pub or_else : Option Row → Option Row → Option Row
or_else (Some r) other = Some r
or_else None other = other

-- where no row has the id, a change of its row adds one at the end
pub at_end : (id : Text) (change : Row → List Row) (missing rows : List Row) → has_row id rows ≡ false
    → at_row id change missing rows ≡ rows ++ missing
at_end id change missing [] new = refl
at_end id change missing (r ∷ rs) new = go (bytes_eq r.id id) new (at_end id change missing rs)
  where
    go : (b : Bool) → (b || has_row id rs) ≡ false
        → (has_row id rs ≡ false → at_row id change missing rs ≡ rs ++ missing)
        → (if b then change r ++ rs else r ∷ at_row id change missing rs) ≡ r ∷ (rs ++ missing)
    go true e more = cc
    go false e more = ap (λ l. r ∷ l) (more e)

pub added : (id text : Text) (rows : List Row) → has_row id rows ≡ false
    → with_values id AsWritten CommandLine (text ∷ []) (without id rows) ≡ rows ++ row id text ∷ []
added id text rows new =
    ap (with_values id AsWritten CommandLine (text ∷ [])) (at_end id (λ r. []) [] rows new ∙ append-nil rows)
    ∙ at_end id (more_values CommandLine (text ∷ [])) (row id text ∷ []) rows new

pub still_new : (id : Text) (r : Row) (rows : List Row) → has_row id rows ≡ false → bytes_eq r.id id ≡ false
    → has_row id (rows ++ r ∷ []) ≡ false
still_new id r [] new other = ap (λ b. b || false) other
still_new id r (x ∷ xs) new other = go (bytes_eq x.id id) new (λ e. still_new id r xs e other)
  where
    go : (b : Bool) → (b || has_row id xs) ≡ false
        → (has_row id xs ≡ false → has_row id (xs ++ r ∷ []) ≡ false)
        → (b || has_row id (xs ++ r ∷ [])) ≡ false
    go true e more = cc
    go false e more = more e

-- what is found stays found, and what is not may be among the rows behind
pub stays_found : (id : Text) (r : Row) (rows more : List Row) → find_row id rows ≡ Some r
    → find_row id (rows ++ more) ≡ Some r
stays_found id r [] more e = cc
stays_found id r (x ∷ xs) more e = go (bytes_eq x.id id) e (stays_found id r xs more)
  where
    go : (b : Bool) → (if b then Some x else find_row id xs) ≡ Some r
        → (find_row id xs ≡ Some r → find_row id (xs ++ more) ≡ Some r)
        → (if b then Some x else find_row id (xs ++ more)) ≡ Some r
    go true e rest = e
    go false e rest = rest e

pub found_behind : (id : Text) (rows more : List Row) → find_row id rows ≡ None
    → find_row id (rows ++ more) ≡ find_row id more
found_behind id [] more e = refl
found_behind id (x ∷ xs) more e = go (bytes_eq x.id id) e (found_behind id xs more)
  where
    go : (b : Bool) → (if b then Some x else find_row id xs) ≡ None
        → (find_row id xs ≡ None → find_row id (xs ++ more) ≡ find_row id more)
        → (if b then Some x else find_row id (xs ++ more)) ≡ find_row id more
    go true e rest = cc
    go false e rest = rest e

pub no_row : (id : Text) (rows : List Row) → find_row id rows ≡ None → has_row id rows ≡ false
no_row id [] e = refl
no_row id (x ∷ xs) e = go (bytes_eq x.id id) e (no_row id xs)
  where
    go : (b : Bool) → (if b then Some x else find_row id xs) ≡ None
        → (find_row id xs ≡ None → has_row id xs ≡ false) → (b || has_row id xs) ≡ false
    go true e rest = cc
    go false e rest = rest e

-- ---- defaults

abbrev pub row_by : Rule → List Text → List Row
row_by a [] = []
row_by a (v ∷ vs) = record {
  id = a.id;
  values = v ∷ vs;
  count = None;
  source = Some DefaultValue;
  reading = reading_by a;
} ∷ []

abbrev pub default_row : Rule → List Row
default_row a = row_by a a.defaults

unfoldable pub default_in : Text → List Rule → Option Row
default_in id [] = None
default_in id (a ∷ rest) = or_else (find_row id (default_row a)) (default_in id rest)

pub defaulted : (rows : List Row) (a : Rule)
    → with_default rows a ≡ rows ++ (if has_row a.id rows then [] else default_row a)
defaulted rows a = go (has_row a.id rows) refl a.defaults
  where
    go : (b : Bool) → has_row a.id rows ≡ b → (defaults : List Text)
        → (if b then rows else default_rows a.id (reading_by a) defaults rows)
        ≡ rows ++ (if b then [] else row_by a defaults)
    go true e defaults = sym (append-nil rows)
    go false e [] = sym (append-nil rows)
    go false e (v ∷ vs) = at_end a.id (more_values DefaultValue (v ∷ vs)) (row_by a (v ∷ vs)) rows e

pub defaults_keep : (id : Text) (r : Row) (rules : List Rule) (rows : List Row) → find_row id rows ≡ Some r
    → find_row id (fold with_default rows rules) ≡ Some r
defaults_keep id r [] rows e = e
defaults_keep id r (a ∷ rest) rows e = defaults_keep id r rest (with_default rows a)
    (ap (find_row id) (defaulted rows a) ∙ stays_found id r rows _ e)

-- a default of an argument that has a row is none of another id
pub hidden : (id : Text) (a : Rule) (rows : List Row) → find_row id rows ≡ None → has_row a.id rows ≡ true
    → find_row id (default_row a) ≡ None
hidden id a rows none has = go a.defaults (bytes_eq a.id id) refl
  where
    go : (defaults : List Text) (b : Bool) → bytes_eq a.id id ≡ b → find_row id (row_by a defaults) ≡ None
    go [] b e = refl
    go (v ∷ vs) false e = rw e refl
    go (v ∷ vs) true e =
        let same : a.id ≡ id = (bytes_eq-Decides _ _).0 e in
        let bad : false ≡ true = sym (no_row id rows none) ∙ ap (λ i. has_row i rows) (sym same) ∙ has in
        cc

pub defaults_add : (id : Text) (rules : List Rule) (rows : List Row) → find_row id rows ≡ None
    → find_row id (fold with_default rows rules) ≡ default_in id rules
unfolding default_in
defaults_add id [] rows none = none
defaults_add id (a ∷ rest) rows none =
    ap (λ l. find_row id (fold with_default l rest)) (defaulted rows a)
    ∙ go (has_row a.id rows) refl (find_row id (default_row a)) refl (defaults_add id rest)
  where
    go : (b : Bool) → has_row a.id rows ≡ b → (o : Option Row) → find_row id (default_row a) ≡ o
        → ((l : List Row) → find_row id l ≡ None
        → find_row id (fold with_default l rest) ≡ default_in id rest)
        → find_row id (fold with_default (rows ++ (if b then [] else default_row a)) rest)
        ≡ or_else o (default_in id rest)
    go true has o e more =
        ap (λ l. find_row id (fold with_default l rest)) (append-nil rows) ∙ more rows none
        ∙ ap (λ x. or_else x (default_in id rest)) (sym (hidden id a rows none has) ∙ e)
    go false has (Some r) e more =
        defaults_keep id r rest (rows ++ default_row a) (found_behind id rows (default_row a) none ∙ e)
    go false has None e more = more (rows ++ default_row a) (found_behind id rows (default_row a) none ∙ e)
