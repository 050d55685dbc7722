-- What clap's definition says of the program's command on any of its options.
use Rattle.std.proofs.Common.{◌≡◌, ◌<◌, ◌∙◌, ◌==◌, ◌&&◌, ◌||◌, ◌++◌, ℕ, Bool, List, [], ◌∷◌, ap, ap₂, true, false}
use Rattle.std.proofs.Common.{not, arith, Some, None, codes, refl, if◌then◌else◌, subst}
use Rattle.std.proofs.Common.{map, sym, suc}
use Rattle.std.specs.List.{All, list_any, starts_with}
use Rattle.std.specs.Option.{option_map_or}
use Rattle.std.specs.Prelude.{⊤, fold, nat_eq}
use Rattle.std.specs.Str.{bytes_eq}
use Rattle.std.specs.Str.Parse.{IsNumeral, without_leading_plus}
use Rattle.std.proofs.lemmas.Bool.{eqb-true}
use Rattle.std.proofs.lemmas.List.{append-nil, append_assoc}
use Rattle.clap.specs.Lexer.{long_of, short_of}
use Rattle.clap.specs.Words.{IsUnsignedIn, Row, Rule, Text}
use Rattle.clap.specs.Walk.{Held, Waiting, Walk, after_step, arg_by_index, has_row}
use Rattle.clap.specs.Walk.{long_or_other, option, plain_word, positional}
use Rattle.clap.specs.Walk.{settled, short_or_plain, subcommand_met, subcommand_or_other, to_positional, value}
use Rattle.clap.specs.Walk.{idle, trailing, walked, with_values}
use Rattle.clap.specs.Walk.{without, word_met}
use Rattle.clap.specs.Simple.{Shape, built}
use Rattle.clap.specs.Takes.{bundle_passes, flag_word_passes, other_passes}
use Rattle.clap.specs.Takes.{settle_passes, step_passes, turn_passes, walk_passes, word_passes}
use Rattle.clap.specs.declared.builder.value_parser.Reading.TheVariants.{AsWritten}
use Rattle.clap.specs.declared.builder.value_parser.ValueParser.TheVariants.{Unsigned}
use Rattle.clap.specs.declared.parser.matches.ValueSource.TheVariants.{CommandLine}
use Rattle.clap.proofs.ValueTestLemmas.{Accepts-accepts}
use Rattle.clap.proofs.OnLiterals.{clap_on_literals}
use Rattle.smt_theory.specs.declared.profile.Profile.TheVariants.{Base, Wide}
use Rattle.smtcheck_command_line.proofs.RowLemmas.{added}
use Rattle.smtcheck_command_line.proofs.RowLemmas.{row, row_of, still_new}
use Rattle.smtcheck_command_line.specs.declared.arguments.Solver.TheVariants as solver
use Rattle.smtcheck_command_line.specs.Settings.{AllPlaces, Explain, ExplainAs, Given, Hints, IsInRange, Language, Preset}
use Rattle.smtcheck_command_line.specs.Settings.{Steps, Strict, Success, are_distinct, given_words}
use Rattle.smtcheck_command_line.specs.declared.arguments.Form.TheVariants as form
use Rattle.smtcheck_command_line.specs.Settings.{is_plain, most_steps, name_of, smtcheck_app, value_of}
use Rattle.smtcheck_command_line.specs.Settings.{words_of}

-- ---- words that begin with no hyphen

pub is_false : (b : Bool) → not b ≡ true → b ≡ false
is_false true e = cc
is_false false e = refl

pub no_dashes : (word : Text) → is_plain word ≡ true → bytes_eq word (45 ∷ 45 ∷ []) ≡ false
no_dashes [] e = cc
no_dashes (x ∷ xs) e = rw (is_false (x == 45) e) refl

pub no_hyphen : (x : ℕ) → not (x == 45) ≡ true → (45 == x) ≡ false
no_hyphen x e = go (45 == x) refl
  where
    go : (b : Bool) → (45 == x) ≡ b → b ≡ false
    go false same = refl
    go true same =
        let is : 45 ≡ x = eqb-true 45 x same in
        let bad : false ≡ true = subst (λ (y : ℕ). not (y == 45) ≡ true) (sym is) e in
        cc

pub no_equals : (word : Text) → is_plain word ≡ true → starts_with nat_eq word (codes "--explain=") ≡ false
no_equals [] e = refl
no_equals (x ∷ xs) e = ap (λ b. b && starts_with nat_eq xs (codes "-explain=")) (no_hyphen x e)

pub no_long : (word : Text) → is_plain word ≡ true → long_of word ≡ None
no_long [] e = cc
no_long (x ∷ xs) e = rw (is_false (x == 45) e) refl

pub no_short : (word : Text) → is_plain word ≡ true → short_of word ≡ None
no_short [] e = cc
no_short (x ∷ xs) e = rw (is_false (x == 45) e) refl

pub no_subcommand : (waiting : Waiting) (word : Text) → subcommand_met [] waiting word ≡ None
no_subcommand idle word = refl
no_subcommand (option id) word = refl
no_subcommand positional word = refl

-- such a word is no flag
pub plain_met : (c : List Rule) (waiting : Waiting) (position : ℕ) (word : Text) (h : Held)
    → is_plain word ≡ true → word_met c [] false waiting position word h ≡ plain_word c waiting word h
plain_met c waiting position word h e =
    let other : word_met c [] false waiting position word h
    ≡ subcommand_or_other c None waiting position word h =
    ap (λ o. subcommand_or_other c o waiting position word h) (no_subcommand waiting word) in
    let dashes : subcommand_or_other c None waiting position word h
    ≡ long_or_other c waiting word (long_of word) h =
    ap (λ b. if b then (h, trailing position) else long_or_other c waiting word (long_of word) h)
    (no_dashes word e) in
    other ∙ dashes ∙ ap (λ o. long_or_other c waiting word o h) (no_long word e) ∙ ap
    (λ o. short_or_plain c waiting word o h) (no_short word e)

pub plain_passes : (s : Shape) (waiting : Waiting) (word : Text) (h : Held) → is_plain word ≡ true
    → word_passes s [] false waiting word h ≡ true
plain_passes s waiting word h e =
    let flag = flag_word_passes s.rules s.args_override_self in
    let other : word_passes s [] false waiting word h ≡ other_passes s None word h = ap
    (λ o. other_passes s o word h) (no_subcommand waiting word) in
    let dashes : other_passes s None word h ≡ flag (long_of word) word h = ap
    (λ b. b || flag (long_of word) word h) (no_dashes word e) in
    other ∙ dashes ∙ ap (λ o. flag o word h) (no_long word e)
    ∙ ap (λ o. option_map_or (λ flags. bundle_passes s.rules s.args_override_self flags h) o true)
    (no_short word e)

-- a walk between two plain words
abbrev pub standing : ℕ → Held → Walk
standing position h =
    record { held = h; waiting = idle; position = position; is_trailing = false; stopped = None }

-- such a word goes to a positional
pub plain_walked : (c : List Rule) (position : ℕ) (word : Text) (h : Held) → is_plain word ≡ true
    → walked c [] (standing position h) word
    ≡ to_positional c (arg_by_index c position) word (standing position h) h
unfolding walked
plain_walked c position word h e =
    ap (λ m. after_step c word (standing position h) m.0 m.1) (plain_met c idle position word h e)

pub plain_turn : (s : Shape) (position : ℕ) (word : Text) (h : Held) → is_plain word ≡ true
    → step_passes s position h value ≡ true
    → turn_passes s [] (standing position h) word ≡ true
plain_turn s position word h e step =
    let met : (word_passes s [] false idle word h
    && step_passes s position (word_met s.rules [] false idle position word h).0
    (word_met s.rules [] false idle position word h).1)
    ≡ (word_passes s [] false idle word h && step_passes s position h value) =
    ap (λ m. word_passes s [] false idle word h && step_passes s position m.0 m.1)
    (plain_met s.rules idle position word h e) in
    met ∙ ap (λ b. b && step_passes s position h value) (plain_passes s idle word h e) ∙ step

-- a number has no hyphen
pub plain_number : (low high : ℕ) (text : Text) → IsUnsignedIn low high text → is_plain text ≡ true
plain_number low high [] is =
    let bad : 0 < 0 = is.0.0 in
    absurd (omega arith)
plain_number low high (x ∷ xs) is = go (x == 45) refl
  where
    go : (b : Bool) → (x == 45) ≡ b → not b ≡ true
    go false e = refl
    go true e =
        let hyphen : IsNumeral 10 (without_leading_plus (45 ∷ xs)) = subst
        (λ (y : ℕ). IsNumeral 10 (without_leading_plus (y ∷ xs))) (eqb-true x 45 e) is.0 in
        let bad : 36 < 10 = hyphen.1.0 in
        absurd (omega arith)

abbrev pub top : Bool → AllPlaces → Shape
top formed places = (built (smtcheck_app formed places)).top

-- ---- one option

-- an explanation with a form is given where the command's option takes a form, and one without where it takes none
abbrev pub Suits : Bool → Given → Type 0
Suits formed Explain = formed ≡ false
Suits formed (ExplainAs form) = formed ≡ true
Suits formed o = ⊤

-- what is held passes, and its rows are these once the pending argument is used
pub record IsAt (formed : Bool) (places : AllPlaces) (rows : List Row) (h : Held) : Type 0 where
  pub settles : (settled (top formed places).rules h).rows ≡ rows
  pub passes : settle_passes (top formed places).rules (top formed places).args_override_self h ≡ true

abbrev pub flagged : Bool → AllPlaces → Held → Given → Held
flagged formed places h o = record h {
  rows = with_values (name_of o) AsWritten CommandLine (value_of o ∷ [])
      (without (name_of o) (settled (top formed places).rules h).rows);
  pending = None;
}

abbrev pub waiting_for : Bool → AllPlaces → Held → Text → List Text → Held
waiting_for formed places h id texts = record (settled (top formed places).rules h) { pending = Some (id, texts) }

-- what is held behind an option
abbrev pub held_after : Bool → AllPlaces → Held → Given → Held
held_after formed places h Explain = flagged formed places h Explain
held_after formed places h (ExplainAs form) = flagged formed places h (ExplainAs form)
held_after formed places h Strict = flagged formed places h Strict
held_after formed places h o = waiting_for formed places h (name_of o) (value_of o ∷ [])

-- the walk that waits for the number of steps
abbrev pub asking : Bool → AllPlaces → Held → Walk
asking formed places h = record (standing 1 (waiting_for formed places h (codes "steps") [])) { waiting = option (codes "steps") }

pub steps_asked : (formed : Bool) (places : AllPlaces) (h : Held)
    → walked (top formed places).rules [] (standing 1 h) (codes "--steps") ≡ asking formed places h
unfolding smtcheck_app clap_on_literals
steps_asked formed places h = refl

pub number_walked : (formed : Bool) (places : AllPlaces) (h : Held) (text : Text) → is_plain text ≡ true
    → walked (top formed places).rules [] (asking formed places h) text
    ≡ standing 1 (waiting_for formed places h (codes "steps") (text ∷ []))
unfolding smtcheck_app walked
number_walked formed places h text e =
    ap (λ m. after_step (top formed places).rules text (asking formed places h) m.0 m.1)
    (plain_met (top formed places).rules (option (codes "steps")) 1 text (waiting_for formed places h (codes "steps") []) e)

pub option_walked : (formed : Bool) (places : AllPlaces) (h : Held) (o : Given) (rest : List Text) → IsInRange o
    → Suits formed o
    → fold (walked (top formed places).rules []) (standing 1 h) (words_of o ++ rest)
    ≡ fold (walked (top formed places).rules []) (standing 1 (held_after formed places h o)) rest
unfolding smtcheck_app clap_on_literals
option_walked formed places h (Preset solver.Z3) rest range suits = refl
option_walked formed places h (Preset solver.Cvc5) rest range suits = refl
option_walked formed places h (Preset solver.Cvc4) rest range suits = refl
option_walked formed places h (Preset solver.Bitwuzla) rest range suits = refl
option_walked formed places h (Preset solver.Boolector) rest range suits = refl
option_walked formed places h (Preset solver.SmtInterpol) rest range suits = refl
option_walked formed places h (Success true) rest range suits = refl
option_walked formed places h (Success false) rest range suits = refl
option_walked formed places h (Language Base) rest range suits = refl
option_walked formed places h (Language Wide) rest range suits = refl
option_walked formed places h (Steps text) rest range suits =
    ap (λ w. fold (walked (top formed places).rules []) (walked (top formed places).rules [] w text) rest)
    (steps_asked formed places h)
    ∙ ap (λ w. fold (walked (top formed places).rules []) w rest)
    (number_walked formed places h text (plain_number 0 most_steps text range))
option_walked false places h Explain rest range suits = refl
option_walked true places h Explain rest range suits = cc
option_walked false places h (ExplainAs f) rest range suits = cc
option_walked true places h (ExplainAs form.Text) rest range suits = refl
option_walked true places h (ExplainAs form.Json) rest range suits = refl
option_walked true places h (ExplainAs form.Sarif) rest range suits = refl
option_walked false places h (Hints true) rest range suits = refl
option_walked true places h (Hints true) rest range suits = refl
option_walked false places h (Hints false) rest range suits = refl
option_walked true places h (Hints false) rest range suits = refl
option_walked false places h Strict rest range suits = refl
option_walked true places h Strict rest range suits = refl

-- the words behind an option pass
abbrev pub rest_passes : Bool → AllPlaces → Held → Given → List Text → Bool
rest_passes formed places h o rest = walk_passes (top formed places) [] (standing 1 (held_after formed places h o)) rest

-- so do those of an option that waits for its value, and of one that needs none
pub worded_passes : (formed : Bool) (places : AllPlaces) (rows : List Row) (h : Held) (o : Given) (rest : List Text)
    → IsAt formed places rows h
    → (settle_passes (top formed places).rules false h && true && rest_passes formed places h o rest)
    ≡ rest_passes formed places h o rest
unfolding smtcheck_app
worded_passes formed places rows h o rest at = ap (λ b. b && true && rest_passes formed places h o rest) at.passes

pub flag_passes : (formed : Bool) (places : AllPlaces) (rows : List Row) (h : Held) (o : Given) (rest : List Text)
    → IsAt formed places rows h → has_row (name_of o) rows ≡ false
    → ((settle_passes (top formed places).rules false h
    && ((not (has_row (name_of o) (settled (top formed places).rules h).rows) || false) && true)) && true
    && rest_passes formed places h o rest) ≡ rest_passes formed places h o rest
unfolding smtcheck_app
flag_passes formed places rows h o rest at new =
    ap₂ (λ b n. (b && ((not n || false) && true)) && true && rest_passes formed places h o rest) at.passes
    (ap (has_row (name_of o)) at.settles ∙ new)

pub number_passes : (formed : Bool) (places : AllPlaces) (rows : List Row) (h : Held) (text : Text) (rest : List Text)
    → IsAt formed places rows h → IsUnsignedIn 0 most_steps text
    → walk_passes (top formed places) [] (standing 1 h) (codes "--steps" ∷ text ∷ rest)
    ≡ walk_passes (top formed places) [] (standing 1 (waiting_for formed places h (codes "steps") (text ∷ []))) rest
unfolding smtcheck_app clap_on_literals
number_passes formed places rows h text rest at range =
    let plain = plain_number 0 most_steps text range in
    let asked = waiting_for formed places h (codes "steps") [] in
    let more = λ (w : Walk). walk_passes (top formed places) [] w rest in
    let turn : turn_passes (top formed places) [] (asking formed places h) text ≡ true =
    ap (λ m. word_passes (top formed places) [] false (option (codes "steps")) text asked
    && step_passes (top formed places) 1 m.0 m.1)
    (plain_met (top formed places).rules (option (codes "steps")) 1 text asked plain)
    ∙ ap (λ b. b && true) (plain_passes (top formed places) (option (codes "steps")) text asked plain) in
    ap (λ b. b && true && (turn_passes (top formed places) [] (asking formed places h) text
    && more (walked (top formed places).rules [] (asking formed places h) text))) at.passes
    ∙ ap (λ b. b && more (walked (top formed places).rules [] (asking formed places h) text)) turn
    ∙ ap more (number_walked formed places h text plain)

-- an option that is new passes
pub option_passes : (formed : Bool) (places : AllPlaces) (rows : List Row) (h : Held) (o : Given) (rest : List Text)
    → IsAt formed places rows h → has_row (name_of o) rows ≡ false → IsInRange o → Suits formed o
    → walk_passes (top formed places) [] (standing 1 h) (words_of o ++ rest)
    ≡ walk_passes (top formed places) [] (standing 1 (held_after formed places h o)) rest
unfolding smtcheck_app clap_on_literals
option_passes formed places rows h (Preset solver.Z3) rest at new range suits =
    worded_passes formed places rows h (Preset solver.Z3) rest at
option_passes formed places rows h (Preset solver.Cvc5) rest at new range suits =
    worded_passes formed places rows h (Preset solver.Cvc5) rest at
option_passes formed places rows h (Preset solver.Cvc4) rest at new range suits =
    worded_passes formed places rows h (Preset solver.Cvc4) rest at
option_passes formed places rows h (Preset solver.Bitwuzla) rest at new range suits =
    worded_passes formed places rows h (Preset solver.Bitwuzla) rest at
option_passes formed places rows h (Preset solver.Boolector) rest at new range suits =
    worded_passes formed places rows h (Preset solver.Boolector) rest at
option_passes formed places rows h (Preset solver.SmtInterpol) rest at new range suits =
    worded_passes formed places rows h (Preset solver.SmtInterpol) rest at
option_passes formed places rows h (Success true) rest at new range suits =
    worded_passes formed places rows h (Success true) rest at
option_passes formed places rows h (Success false) rest at new range suits =
    worded_passes formed places rows h (Success false) rest at
option_passes formed places rows h (Language Base) rest at new range suits =
    worded_passes formed places rows h (Language Base) rest at
option_passes formed places rows h (Language Wide) rest at new range suits =
    worded_passes formed places rows h (Language Wide) rest at
option_passes formed places rows h (Steps text) rest at new range suits =
    number_passes formed places rows h text rest at range
option_passes false places rows h Explain rest at new range suits =
    flag_passes false places rows h Explain rest at new
option_passes true places rows h Explain rest at new range suits = cc
option_passes false places rows h (ExplainAs f) rest at new range suits = cc
option_passes true places rows h (ExplainAs form.Text) rest at new range suits =
    flag_passes true places rows h (ExplainAs form.Text) rest at new
option_passes true places rows h (ExplainAs form.Json) rest at new range suits =
    flag_passes true places rows h (ExplainAs form.Json) rest at new
option_passes true places rows h (ExplainAs form.Sarif) rest at new range suits =
    flag_passes true places rows h (ExplainAs form.Sarif) rest at new
option_passes false places rows h (Hints true) rest at new range suits =
    worded_passes false places rows h (Hints true) rest at
option_passes true places rows h (Hints true) rest at new range suits =
    worded_passes true places rows h (Hints true) rest at
option_passes false places rows h (Hints false) rest at new range suits =
    worded_passes false places rows h (Hints false) rest at
option_passes true places rows h (Hints false) rest at new range suits =
    worded_passes true places rows h (Hints false) rest at
option_passes false places rows h Strict rest at new range suits =
    flag_passes false places rows h Strict rest at new
option_passes true places rows h Strict rest at new range suits =
    flag_passes true places rows h Strict rest at new

-- and adds its row
pub option_held : (formed : Bool) (places : AllPlaces) (rows : List Row) (h : Held) (o : Given)
    → IsAt formed places rows h → has_row (name_of o) rows ≡ false → IsInRange o
    → IsAt formed places (rows ++ row_of o ∷ []) (held_after formed places h o)
unfolding smtcheck_app
option_held formed places rows h o at new range = go o new range
  where
    -- the row of an option with a value, and of one without
    put : (id text : Text) → has_row id rows ≡ false
        → with_values id AsWritten CommandLine (text ∷ []) (without id (settled (top formed places).rules h).rows)
        ≡ rows ++ row id text ∷ []
    put id text e = ap (λ l. with_values id AsWritten CommandLine (text ∷ []) (without id l)) at.settles
        ∙ added id text rows e

    pass : (id : Text) (b : Bool) → has_row id rows ≡ false → b ≡ true
        → ((not (has_row id (settled (top formed places).rules h).rows) || false) && (b && true)) ≡ true
    pass id b e t = ap₂ (λ n x. (not n || false) && (x && true)) (ap (has_row id) at.settles ∙ e) t

    go : (o : Given) → has_row (name_of o) rows ≡ false → IsInRange o
        → IsAt formed places (rows ++ row_of o ∷ []) (held_after formed places h o)
    go (Preset solver.Z3) e r = record { settles = put _ _ e; passes = pass _ true e refl }
    go (Preset solver.Cvc5) e r = record { settles = put _ _ e; passes = pass _ true e refl }
    go (Preset solver.Cvc4) e r = record { settles = put _ _ e; passes = pass _ true e refl }
    go (Preset solver.Bitwuzla) e r = record { settles = put _ _ e; passes = pass _ true e refl }
    go (Preset solver.Boolector) e r = record { settles = put _ _ e; passes = pass _ true e refl }
    go (Preset solver.SmtInterpol) e r = record { settles = put _ _ e; passes = pass _ true e refl }
    go (Success true) e r = record { settles = put _ _ e; passes = pass _ true e refl }
    go (Success false) e r = record { settles = put _ _ e; passes = pass _ true e refl }
    go (Language Base) e r = record { settles = put _ _ e; passes = pass _ true e refl }
    go (Language Wide) e r = record { settles = put _ _ e; passes = pass _ true e refl }
    go (Steps text) e r = record {
      settles = put _ _ e;
      passes = pass _ _ e (Accepts-accepts false (Unsigned 0 most_steps) text r);
    }
    go Explain e r = record { settles = put _ _ e; passes = refl }
    go (ExplainAs f) e r = record { settles = put _ _ e; passes = refl }
    go (Hints true) e r = record { settles = put _ _ e; passes = pass _ true e refl }
    go (Hints false) e r = record { settles = put _ _ e; passes = pass _ true e refl }
    go Strict e r = record { settles = put _ _ e; passes = refl }

-- ---- all options

-- no option has a row yet
pub AreNew : List Row → List Given → Type 0
AreNew rows [] = ⊤
AreNew rows (o ∷ rest) = (has_row (name_of o) rows ≡ false) × AreNew rows rest

pub both : (a b : Bool) → (a && b) ≡ true → (a ≡ true) × (b ≡ true)
both true b e = (refl, e)
both false b e = cc

-- and those that are distinct from one still have none behind it
pub still : (o : Given) (rows : List Row) (given : List Given) → AreNew rows given
    → list_any (λ other. bytes_eq (name_of o) (name_of other)) given ≡ false
    → AreNew (rows ++ row_of o ∷ []) given
unfolding AreNew
still o rows [] new others = tt
still o rows (x ∷ xs) new others = go (bytes_eq (name_of o) (name_of x)) refl others (still o rows xs new.1)
  where
    go : (b : Bool) → bytes_eq (name_of o) (name_of x) ≡ b
        → (b || list_any (λ other. bytes_eq (name_of o) (name_of other)) xs) ≡ false
        → (list_any (λ other. bytes_eq (name_of o) (name_of other)) xs ≡ false
        → AreNew (rows ++ row_of o ∷ []) xs)
        → AreNew (rows ++ row_of o ∷ []) (x ∷ xs)
    go true e f more = cc
    go false e f more = (still_new (name_of x) (row_of o) rows new.0 e, more f)

-- the walk over options, from what is held to what is held behind them
pub record IsWalked (formed : Bool) (places : AllPlaces) (rows : List Row) (h : Held) (given : List Given) (behind : List Text)
    : Type 0 where
  pub held : Held
  pub at : IsAt formed places (rows ++ map row_of given) held
  pub goes : fold (walked (top formed places).rules []) (standing 1 h) (given_words given behind)
      ≡ fold (walked (top formed places).rules []) (standing 1 held) behind
  pub passes : walk_passes (top formed places) [] (standing 1 h) (given_words given behind)
      ≡ walk_passes (top formed places) [] (standing 1 held) behind

pub options_walked : (formed : Bool) (places : AllPlaces) (rows : List Row) (h : Held) (given : List Given) (behind : List Text)
    → IsAt formed places rows h → AreNew rows given → are_distinct given ≡ true → All IsInRange given
    → All (Suits formed) given → IsWalked formed places rows h given behind
unfolding AreNew
options_walked formed places rows h [] behind at new distinct ranges suits = record {
  held = h;
  at = subst (λ l. IsAt formed places l h) (sym (append-nil rows)) at;
  goes = refl;
  passes = refl;
}
options_walked formed places rows h (o ∷ rest) behind at new distinct ranges suits =
    let range : IsInRange o = ranges 0 o (omega arith) in
    let suit : Suits formed o = suits 0 o (omega arith) in
    let apart = both _ _ distinct in
    let one = option_held formed places rows h o at new.0 range in
    let all = options_walked formed places (rows ++ row_of o ∷ []) (held_after formed places h o) rest behind one
    (still o rows rest new.1 (is_false _ apart.0)) apart.1 (λ k d lt. ranges (suc k) d (omega arith))
    (λ k d lt. suits (suc k) d (omega arith)) in
    record {
      held = all.held;
      at = subst (λ l. IsAt formed places l all.held) (append_assoc rows (row_of o ∷ []) (map row_of rest)) all.at;
      goes = option_walked formed places h o (given_words rest behind) range suit ∙ all.goes;
      passes = option_passes formed places rows h o (given_words rest behind) at new.0 range suit
          ∙ all.passes;
    }

pub none_new : (given : List Given) → AreNew [] given
unfolding AreNew
none_new [] = tt
none_new (o ∷ rest) = (refl, none_new rest)
