-- What clap's definition says of the program's command on any of its options, and two words that begin with no
-- hyphen.
use Rattle.std.proofs.Common.{◌≡◌, ◌∙◌, ◌&&◌, ◌||◌, ◌++◌, Bool, List, [], ◌∷◌, ap, ap₂, true, false}
use Rattle.std.proofs.Common.{not, arith, Option, Some, None, unwrap_or, codes, refl, if◌then◌else◌, subst}
use Rattle.std.proofs.Common.{map, option_map, sym, suc, zero}
use Rattle.std.specs.List.{All, list_all, list_any}
use Rattle.std.specs.Option.{option_map_or}
use Rattle.std.specs.Prelude.{find, fold, option_and_then, slice_get}
use Rattle.std.specs.Str.{bytes_eq}
use Rattle.clap.specs.Facts.{explicit_source}
use Rattle.clap.specs.Words.{Row, Rule, Text, first_of, matches_of, one_of, takes}
use Rattle.clap.specs.Walk.{Held, Walk, finished, has_row}
use Rattle.clap.specs.Walk.{nothing_held, pushed}
use Rattle.clap.specs.Walk.{settled, value}
use Rattle.clap.specs.Walk.{row_text, walk, walk_from, walked, with_default, with_values}
use Rattle.clap.specs.Walk.{without}
use Rattle.clap.specs.Simple.{built}
use Rattle.clap.specs.Takes.{default_passes, is_valid}
use Rattle.clap.specs.Takes.{settle_passes, step_passes, turn_passes, walk_passes}
use Rattle.clap.specs.declared.builder.value_parser.Reading.TheVariants.{AsWritten}
use Rattle.clap.specs.declared.parser.matches.ValueSource.TheVariants.{CommandLine}
use Rattle.clap.proofs.TakesLemmas.{leaf_takes}
use Rattle.smt_theory.specs.declared.profile.Profile.TheVariants.{Base, Wide}
use Rattle.smtcheck_command_line.proofs.RowLemmas.{added, default_in, defaults_add, defaults_keep, find_row}
use Rattle.smtcheck_command_line.proofs.RowLemmas.{found_behind, or_else, row, row_of, stays_found, still_new}
use Rattle.smtcheck_command_line.specs.declared.arguments.Solver.TheVariants as solver
use Rattle.smtcheck_command_line.specs.Settings.{AllPlaces, Explain, ExplainAs, Given, Hints, IsInRange, Language, Preset}
use Rattle.smtcheck_command_line.specs.Settings.{Steps, Strict, Success, are_distinct, given_words, is_given}
use Rattle.smtcheck_command_line.specs.Settings.{gives_form, has_form}
use Rattle.smtcheck_command_line.specs.Settings.{is_plain, most_steps, name_of, smtcheck_app, value_in, value_of}
use Rattle.smtcheck_command_line.specs.Settings.{words_of}
use Rattle.smtcheck_command_line.proofs.OptionLemmas.{is_false, no_dashes, no_equals, standing, plain_walked, plain_turn}
use Rattle.smtcheck_command_line.proofs.OptionLemmas.{plain_number, top, Suits, IsAt, both, options_walked, none_new}

-- ---- the two words

abbrev file_held : Bool → AllPlaces → Held → Text → Text → Held
file_held formed places h id text = pushed id text (settled (top formed places).rules h)

abbrev with_script : List Given → Text → List Row
with_script given script = map row_of given ++ row (codes "SCRIPT") script ∷ []

abbrev with_both : List Given → Text → Text → List Row
with_both given script answers = with_script given script ++ row (codes "ANSWERS") answers ∷ []

-- no option has the name of a file
no_file : (id : Text) → ((o : Given) → bytes_eq (name_of o) id ≡ false) → (given : List Given)
    → has_row id (map row_of given) ≡ false
no_file id other [] = refl
no_file id other (o ∷ rest) = ap₂ (λ a b. a || b) (other o) (no_file id other rest)

no_option : (id : Text) → ((o : Given) → bytes_eq (name_of o) id ≡ false) → (given : List Given)
    → find_row id (map row_of given) ≡ None
no_option id other [] = refl
no_option id other (o ∷ rest) =
    ap₂ (λ b r. if b then Some (row_of o) else r) (other o) (no_option id other rest)

not_script : (o : Given) → bytes_eq (name_of o) (codes "SCRIPT") ≡ false
not_script (Preset s) = refl
not_script (Success prints) = refl
not_script (Language profile) = refl
not_script (Steps text) = refl
not_script Explain = refl
not_script (ExplainAs f) = refl
not_script (Hints are_on) = refl
not_script Strict = refl

not_answers : (o : Given) → bytes_eq (name_of o) (codes "ANSWERS") ≡ false
not_answers (Preset s) = refl
not_answers (Success prints) = refl
not_answers (Language profile) = refl
not_answers (Steps text) = refl
not_answers Explain = refl
not_answers (ExplainAs f) = refl
not_answers (Hints are_on) = refl
not_answers Strict = refl

no_answers : (given : List Given) (script : Text) → has_row (codes "ANSWERS") (with_script given script) ≡ false
no_answers given script = still_new (codes "ANSWERS") (row (codes "SCRIPT") script) (map row_of given)
    (no_file (codes "ANSWERS") not_answers given) refl

and_false : (b : Bool) → (b && false) ≡ false
and_false true = refl
and_false false = refl

-- a file that has no row yet adds one
file_at : (formed : Bool) (places : AllPlaces) (rows : List Row) (h : Held) (id text : Text) → IsAt formed places rows h
    → has_row id rows ≡ false
    → with_values id AsWritten CommandLine (text ∷ []) (without id (settled (top formed places).rules h).rows)
    ≡ rows ++ row id text ∷ []
file_at formed places rows h id text at new =
    ap (λ l. with_values id AsWritten CommandLine (text ∷ []) (without id l)) at.settles ∙ added id text rows new

file_passes : (formed : Bool) (places : AllPlaces) (rows : List Row) (h : Held) (id : Text) → IsAt formed places rows h
    → has_row id rows ≡ false
    → ((not (has_row id (settled (top formed places).rules h).rows) || false) && (true && true)) ≡ true
file_passes formed places rows h id at new = ap (λ n. (not n || false) && true) (ap (has_row id) at.settles ∙ new)

script_at : (formed : Bool) (places : AllPlaces) (given : List Given) (h : Held) (script : Text)
    → IsAt formed places (map row_of given) h
    → IsAt formed places (with_script given script) (file_held formed places h (codes "SCRIPT") script)
unfolding smtcheck_app
script_at formed places given h script at =
    let new = no_file (codes "SCRIPT") not_script given in
    record {
      settles = file_at formed places _ h (codes "SCRIPT") script at new;
      passes = file_passes formed places _ h (codes "SCRIPT") at new;
    }

answers_at : (formed : Bool) (places : AllPlaces) (given : List Given) (h : Held) (script answers : Text)
    → IsAt formed places (with_script given script) h
    → IsAt formed places (with_both given script answers) (file_held formed places h (codes "ANSWERS") answers)
unfolding smtcheck_app
answers_at formed places given h script answers at =
    let new = no_answers given script in
    record {
      settles = file_at formed places _ h (codes "ANSWERS") answers at new;
      passes = file_passes formed places _ h (codes "ANSWERS") at new;
    }

script_walked : (formed : Bool) (places : AllPlaces) (h : Held) (script : Text) → is_plain script ≡ true
    → walked (top formed places).rules [] (standing 1 h) script
    ≡ standing 2 (file_held formed places h (codes "SCRIPT") script)
unfolding smtcheck_app
script_walked formed places h script e = plain_walked (top formed places).rules 1 script h e
    ∙ ap (λ b. standing 2 (pushed (codes "SCRIPT") script (if b then h else settled (top formed places).rules h)))
    (and_false (option_map_or (λ q. bytes_eq q.0 (codes "SCRIPT")) h.pending false))

answers_walked : (formed : Bool) (places : AllPlaces) (h : Held) (answers : Text) → is_plain answers ≡ true
    → walked (top formed places).rules [] (standing 2 h) answers
    ≡ standing 3 (file_held formed places h (codes "ANSWERS") answers)
unfolding smtcheck_app
answers_walked formed places h answers e = plain_walked (top formed places).rules 2 answers h e
    ∙ ap (λ b. standing 3 (pushed (codes "ANSWERS") answers (if b then h else settled (top formed places).rules h)))
    (and_false (option_map_or (λ q. bytes_eq q.0 (codes "ANSWERS")) h.pending false))

script_step : (formed : Bool) (places : AllPlaces) (rows : List Row) (h : Held) → IsAt formed places rows h
    → step_passes (top formed places) 1 h value ≡ true
unfolding smtcheck_app
script_step formed places rows h at = ap₂ (λ a b. a || b)
    (and_false (option_map_or (λ q. bytes_eq q.0 (codes "SCRIPT")) h.pending false)) at.passes

answers_step : (formed : Bool) (places : AllPlaces) (rows : List Row) (h : Held) → IsAt formed places rows h
    → step_passes (top formed places) 2 h value ≡ true
unfolding smtcheck_app
answers_step formed places rows h at = ap₂ (λ a b. a || b)
    (and_false (option_map_or (λ q. bytes_eq q.0 (codes "ANSWERS")) h.pending false)) at.passes

-- ---- the whole line

-- the program's name, the options and the two words
abbrev pub line_of : Text → List Given → Text → Text → List Text
line_of name given script answers = name ∷ given_words given (script ∷ answers ∷ [])

-- the option gives a form
abbrev is_formed : Given → Bool
is_formed (ExplainAs form) = true
is_formed o = false

-- an option of another name than `--explain` suits each command, and gives no form
suits_any : (formed : Bool) (o : Given) → bytes_eq (codes "explain") (name_of o) ≡ false → Suits formed o
suits_any formed (Preset s) other = tt
suits_any formed (Success prints) other = tt
suits_any formed (Language profile) other = tt
suits_any formed (Steps text) other = tt
suits_any formed Explain other = cc
suits_any formed (ExplainAs f) other = cc
suits_any formed (Hints are_on) other = tt
suits_any formed Strict other = tt

no_form : (o : Given) → bytes_eq (codes "explain") (name_of o) ≡ false → is_formed o ≡ false
no_form (Preset s) other = refl
no_form (Success prints) other = refl
no_form (Language profile) other = refl
no_form (Steps text) other = refl
no_form Explain other = refl
no_form (ExplainAs f) other = cc
no_form (Hints are_on) other = refl
no_form Strict other = refl

neither : (a b : Bool) → (a || b) ≡ false → (a ≡ false) × (b ≡ false)
neither true b e = cc
neither false b e = (refl, e)

-- none of them is `--explain`
abbrev NoneExplains : List Given → Type 0
NoneExplains given = list_any (λ other. bytes_eq (codes "explain") (name_of other)) given ≡ false

all_suit : (formed : Bool) (given : List Given) → NoneExplains given → All (Suits formed) given
all_suit formed [] none k d lt = absurd (omega arith)
all_suit formed (o ∷ rest) none zero d lt = suits_any formed o (neither _ _ none).0
all_suit formed (o ∷ rest) none (suc k) d lt = all_suit formed rest (neither _ _ none).1 k d (omega arith)

none_formed : (given : List Given) → NoneExplains given → list_any is_formed given ≡ false
none_formed [] none = refl
none_formed (o ∷ rest) none =
    ap₂ (λ a b. a || b) (no_form o (neither _ _ none).0) (none_formed rest (neither _ _ none).1)

suit_first : (formed : Bool) (o : Given) (rest : List Given) → Suits formed o → All (Suits formed) rest
    → All (Suits formed) (o ∷ rest)
suit_first formed o rest one all zero d lt = one
suit_first formed o rest one all (suc k) d lt = all k d (omega arith)

-- distinct options suit the command that takes a form where one of them gives one
suited : (given : List Given) → are_distinct given ≡ true → All (Suits (list_any is_formed given)) given
suited [] distinct = λ k d lt. absurd (omega arith)
suited (o ∷ rest) distinct =
    let apart = both _ _ distinct in
    go o (is_false _ apart.0) (suited rest apart.1)
  where
    go : (o : Given) → list_any (λ other. bytes_eq (name_of o) (name_of other)) rest ≡ false
        → All (Suits (list_any is_formed rest)) rest → All (Suits (list_any is_formed (o ∷ rest))) (o ∷ rest)
    go (Preset s) others all = suit_first _ (Preset s) rest tt all
    go (Success prints) others all = suit_first _ (Success prints) rest tt all
    go (Language profile) others all = suit_first _ (Language profile) rest tt all
    go (Steps text) others all = suit_first _ (Steps text) rest tt all
    go Explain others all = suit_first _ Explain rest (none_formed rest others) (all_suit _ rest others)
    go (ExplainAs f) others all = suit_first _ (ExplainAs f) rest refl (all_suit _ rest others)
    go (Hints are_on) others all = suit_first _ (Hints are_on) rest tt all
    go Strict others all = suit_first _ Strict rest tt all

-- a plain word gives no form
plain_form : (word : Text) (behind : List Text) → is_plain word ≡ true → has_form (word ∷ behind) ≡ has_form behind
plain_form word behind e =
    ap₂ (λ a b. not a && (b || has_form behind)) (no_dashes word e) (no_equals word e)

option_form : (o : Given) (behind : List Text) → IsInRange o
    → has_form (words_of o ++ behind) ≡ (is_formed o || has_form behind)
option_form (Preset solver.Z3) behind range = refl
option_form (Preset solver.Cvc5) behind range = refl
option_form (Preset solver.Cvc4) behind range = refl
option_form (Preset solver.Bitwuzla) behind range = refl
option_form (Preset solver.Boolector) behind range = refl
option_form (Preset solver.SmtInterpol) behind range = refl
option_form (Success true) behind range = refl
option_form (Success false) behind range = refl
option_form (Language Base) behind range = refl
option_form (Language Wide) behind range = refl
option_form (Steps text) behind range = plain_form text behind (plain_number 0 most_steps text range)
option_form Explain behind range = refl
option_form (ExplainAs f) behind range = refl
option_form (Hints true) behind range = refl
option_form (Hints false) behind range = refl
option_form Strict behind range = refl

or_assoc : (a b c : Bool) → (a || (b || c)) ≡ ((a || b) || c)
or_assoc true b c = refl
or_assoc false b c = refl

options_form : (given : List Given) (behind : List Text) → All IsInRange given
    → has_form (given_words given behind) ≡ (list_any is_formed given || has_form behind)
options_form [] behind ranges = refl
options_form (o ∷ rest) behind ranges =
    option_form o (given_words rest behind) (ranges 0 o (omega arith))
    ∙ ap (λ b. is_formed o || b) (options_form rest behind (λ k d lt. ranges (suc k) d (omega arith)))
    ∙ or_assoc (is_formed o) (list_any is_formed rest) (has_form behind)

or_false : (b : Bool) → (b || false) ≡ b
or_false true = refl
or_false false = refl

line_form : (name : Text) (given : List Given) (script answers : Text) → All IsInRange given
    → is_plain script ≡ true → is_plain answers ≡ true
    → gives_form (line_of name given script answers) ≡ list_any is_formed given
line_form name given script answers ranges p q =
    options_form given (script ∷ answers ∷ []) ranges
    ∙ ap (λ b. list_any is_formed given || b) (plain_form script (answers ∷ []) p ∙ plain_form answers [] q)
    ∙ or_false (list_any is_formed given)

line_suits : (name : Text) (given : List Given) (script answers : Text)
    → are_distinct given ≡ true → All IsInRange given → is_plain script ≡ true → is_plain answers ≡ true
    → All (Suits (gives_form (line_of name given script answers))) given
line_suits name given script answers distinct ranges p q =
    subst (λ b. All (Suits b) given) (sym (line_form name given script answers ranges p q)) (suited given distinct)

record IsRead (formed : Bool) (places : AllPlaces) (given : List Given) (script answers : Text) : Type 0 where
  held : Held
  at : IsAt formed places (with_both given script answers) held
  goes : walk (top formed places).rules [] nothing_held (given_words given (script ∷ answers ∷ [])) ≡ standing 3 held
  passes : walk_passes (top formed places) [] (walk_from nothing_held) (given_words given (script ∷ answers ∷ [])) ≡ true

line_read : (formed : Bool) (places : AllPlaces) (given : List Given) (script answers : Text)
    → are_distinct given ≡ true → All IsInRange given → All (Suits formed) given → is_plain script ≡ true
    → is_plain answers ≡ true → IsRead formed places given script answers
unfolding walk_passes
line_read formed places given script answers distinct ranges suits p q =
    let words = script ∷ answers ∷ [] in
    let options = options_walked formed places [] nothing_held given words (record { settles = refl; passes = refl })
    (none_new given) distinct ranges suits in
    let h = options.held in
    let first = file_held formed places h (codes "SCRIPT") script in
    let first_at = script_at formed places given h script options.at in
    let second = file_held formed places first (codes "ANSWERS") answers in
    let behind = λ (w : Walk). turn_passes (top formed places) [] w answers && true in
    let last : behind (standing 2 first) ≡ true = ap (λ b. b && true)
    (plain_turn (top formed places) 2 answers first q (answers_step formed places _ first first_at)) in
    record {
      held = second;
      at = answers_at formed places given first script answers first_at;
      goes = options.goes ∙ ap (λ w. walked (top formed places).rules [] w answers) (script_walked formed places h script p)
          ∙ answers_walked formed places first answers q;
      passes = options.passes
          ∙ ap (λ b. b && behind (walked (top formed places).rules [] (standing 1 h) script))
          (plain_turn (top formed places) 1 script h p (script_step formed places _ h options.at))
          ∙ ap behind (script_walked formed places h script p) ∙ last;
    }

-- ---- the rows at the end

-- what an id has at the end, where no file has it: the option that is given, or else the default
looked_up : (rules : List Rule) (given : List Given) (script answers id : Text)
    → bytes_eq (codes "SCRIPT") id ≡ false → bytes_eq (codes "ANSWERS") id ≡ false
    → find_row id (fold with_default (with_both given script answers) rules)
    ≡ or_else (option_map row_of (find (λ o. bytes_eq (name_of o) id) given)) (default_in id rules)
looked_up rules given script answers id s a =
    go (find (λ o. bytes_eq (name_of o) id) given) (of_given given)
  where
    of_given : (given : List Given) → find_row id (map row_of given)
        ≡ option_map row_of (find (λ o. bytes_eq (name_of o) id) given)
    of_given [] = refl
    of_given (o ∷ rest) = step (bytes_eq (name_of o) id) (of_given rest)
      where
        step : (b : Bool)
            → find_row id (map row_of rest) ≡ option_map row_of (find (λ o. bytes_eq (name_of o) id) rest)
            → (if b then Some (row_of o) else find_row id (map row_of rest))
            ≡ option_map row_of (if b then Some o else find (λ o. bytes_eq (name_of o) id) rest)
        step true e = refl
        step false e = e

    go : (o : Option Given) → find_row id (map row_of given) ≡ option_map row_of o
        → find_row id (fold with_default (with_both given script answers) rules)
        ≡ or_else (option_map row_of o) (default_in id rules)
    go (Some o) e = defaults_keep id (row_of o) rules (with_both given script answers)
        (stays_found id (row_of o) (with_script given script) _
        (stays_found id (row_of o) (map row_of given) _ e))
    go None e = defaults_add id rules (with_both given script answers)
        (found_behind id (with_script given script) _ (found_behind id (map row_of given) _ e
        ∙ ap (λ b. if b then Some (row (codes "SCRIPT") script) else None) s)
        ∙ ap (λ b. if b then Some (row (codes "ANSWERS") answers) else None) a)

-- the rows of the two files
script_row : (rules : List Rule) (given : List Given) (script answers : Text)
    → find_row (codes "SCRIPT") (fold with_default (with_both given script answers) rules)
    ≡ Some (row (codes "SCRIPT") script)
script_row rules given script answers =
    let id = codes "SCRIPT" in
    defaults_keep id _ rules (with_both given script answers) (stays_found id _ (with_script given script) _
    (found_behind id (map row_of given) (row id script ∷ []) (no_option id not_script given)))

answers_row : (rules : List Rule) (given : List Given) (script answers : Text)
    → find_row (codes "ANSWERS") (fold with_default (with_both given script answers) rules)
    ≡ Some (row (codes "ANSWERS") answers)
answers_row rules given script answers =
    let id = codes "ANSWERS" in
    defaults_keep id _ rules (with_both given script answers)
    (found_behind id (with_script given script) (row id answers ∷ [])
    (found_behind id (map row_of given) (row (codes "SCRIPT") script ∷ []) (no_option id not_answers given)))

-- what is checked after the words
abbrev end_passes : Bool → AllPlaces → Held → Bool
end_passes formed places h = settle_passes (top formed places).rules (top formed places).args_override_self h
    && (list_all default_passes (top formed places).rules
    && is_valid (top formed places) (finished (top formed places).rules h) false)

end_holds : (formed : Bool) (places : AllPlaces) (given : List Given) (h : Held) (script answers : Text)
    → IsAt formed places (with_both given script answers) h → end_passes formed places h ≡ true
unfolding smtcheck_app
end_holds formed places given h script answers at =
    let rules = (top formed places).rules in
    let of = λ (l : List Row). fold with_default l rules in
    let was = λ (o : Option Row). option_map_or (λ r. explicit_source r.source) o false in
    ap₂ (λ b l. b && (was (find_row (codes "SCRIPT") (of l)) && (was (find_row (codes "ANSWERS") (of l)) && true)))
    at.passes at.settles
    ∙ ap₂ (λ x y. was x && (was y && true)) (script_row rules given script answers)
    (answers_row rules given script answers)

taken_by : (formed : Bool) (places : AllPlaces) (name : Text) (given : List Given) (script answers : Text)
    → are_distinct given ≡ true → All IsInRange given → All (Suits formed) given → is_plain script ≡ true
    → is_plain answers ≡ true → takes (smtcheck_app formed places) (line_of name given script answers) ≡ true
unfolding smtcheck_app
taken_by formed places name given script answers distinct ranges suits p q =
    let words = given_words given (script ∷ answers ∷ []) in
    let read = line_read formed places given script answers distinct ranges suits p q in
    let ends : end_passes formed places (walk (top formed places).rules [] nothing_held words).held ≡ true =
    ap (λ (w : Walk). end_passes formed places w.held) read.goes
    ∙ end_holds formed places given read.held script answers read.at in
    leaf_takes (built (smtcheck_app formed places)) nothing_held words refl
    (ap (λ b. b && end_passes formed places (walk (top formed places).rules [] nothing_held words).held) read.passes ∙ ends)

pub line-taken : (places : AllPlaces) (name : Text) (given : List Given) (script answers : Text)
    → are_distinct given ≡ true → All IsInRange given → is_plain script ≡ true → is_plain answers ≡ true
    → takes (smtcheck_app (gives_form (line_of name given script answers)) places) (line_of name given script answers)
    ≡ true
line-taken places name given script answers distinct ranges p q =
    taken_by (gives_form (line_of name given script answers)) places name given script answers distinct ranges
    (line_suits name given script answers distinct ranges p q) p q

-- ---- the values that the command has on the words

abbrev first_in : Option Row → Option Text
first_in = option_and_then (λ r. slice_get r.values 0)

-- the rows have these values: where an option is not given, its default
pub record HasValues (given : List Given) (script answers : Text) (rows : List Row) : Type 0 where
  pub of_script : first_of (codes "SCRIPT") rows ≡ Some script
  pub of_answers : first_of (codes "ANSWERS") rows ≡ Some answers
  pub of_solver : first_of (codes "solver") rows ≡ value_in given (codes "solver")
  pub of_success : first_of (codes "print-success") rows ≡ value_in given (codes "print-success")
  pub of_profile : first_of (codes "profile") rows ≡ value_in given (codes "profile")
  pub of_hints : first_of (codes "hints") rows ≡ value_in given (codes "hints")
  pub of_steps : one_of (codes "steps") rows
      ≡ Some (unwrap_or (value_in given (codes "steps")) (codes "10000000"))
  pub of_explain : first_of (codes "explain") rows ≡ value_in given (codes "explain")
  pub of_strict : is_given (first_of (codes "strict") rows) ≡ is_given (value_in given (codes "strict"))

end_values : (formed : Bool) (places : AllPlaces) (given : List Given) (h : Held) (script answers : Text)
    → IsAt formed places (with_both given script answers) h
    → HasValues given script answers (finished (top formed places).rules h)
unfolding smtcheck_app default_in
end_values formed places given h script answers at = subst
    (λ l. HasValues given script answers (fold with_default l (top formed places).rules)) (sym at.settles) (record {
      of_script = ap first_in (script_row (top formed places).rules given script answers);
      of_answers = ap first_in (answers_row (top formed places).rules given script answers);
      of_solver = no_default (codes "solver") refl refl refl;
      of_success = no_default (codes "print-success") refl refl refl;
      of_profile = no_default (codes "profile") refl refl refl;
      of_hints = no_default (codes "hints") refl refl refl;
      of_steps = ap (option_and_then row_text)
          (looked_up (top formed places).rules given script answers (codes "steps") refl refl)
          ∙ number (find (λ o. bytes_eq (name_of o) (codes "steps")) given);
      of_explain = no_default (codes "explain") refl refl refl;
      of_strict = ap (λ o. is_given (first_in o))
          (looked_up (top formed places).rules given script answers (codes "strict") refl refl)
          ∙ flag (codes "strict") refl (find (λ o. bytes_eq (name_of o) (codes "strict")) given);
    })
  where
    none : (o : Option Given) → first_in (or_else (option_map row_of o) None) ≡ option_map value_of o
    none None = refl
    none (Some o) = refl

    no_default : (id : Text) → bytes_eq (codes "SCRIPT") id ≡ false → bytes_eq (codes "ANSWERS") id ≡ false
        → default_in id (top formed places).rules ≡ None
        → first_of id (fold with_default (with_both given script answers) (top formed places).rules)
        ≡ value_in given id
    no_default id s a absent = ap first_in (looked_up (top formed places).rules given script answers id s a)
        ∙ ap (λ d. first_in (or_else (option_map row_of (find (λ o. bytes_eq (name_of o) id) given)) d)) absent
        ∙ none (find (λ o. bytes_eq (name_of o) id) given)

    number : (o : Option Given)
        → option_and_then row_text (or_else (option_map row_of o) (default_in (codes "steps") (top formed places).rules))
        ≡ Some (unwrap_or (option_map value_of o) (codes "10000000"))
    number None = refl
    number (Some o) = refl

    flag : (id : Text) → first_in (default_in id (top formed places).rules) ≡ Some (codes "false") → (o : Option Given)
        → is_given (first_in (or_else (option_map row_of o) (default_in id (top formed places).rules)))
        ≡ is_given (option_map value_of o)
    flag id absent None = ap is_given absent
    flag id absent (Some o) = refl

values_by : (formed : Bool) (places : AllPlaces) (name : Text) (given : List Given) (script answers : Text)
    → are_distinct given ≡ true → All IsInRange given → All (Suits formed) given → is_plain script ≡ true
    → is_plain answers ≡ true
    → HasValues given script answers (matches_of (smtcheck_app formed places) (line_of name given script answers))
unfolding smtcheck_app
values_by formed places name given script answers distinct ranges suits p q =
    let read = line_read formed places given script answers distinct ranges suits p q in
    subst (λ (w : Walk). HasValues given script answers (finished (top formed places).rules w.held)) (sym read.goes)
    (end_values formed places given read.held script answers read.at)

pub line-values : (places : AllPlaces) (name : Text) (given : List Given) (script answers : Text)
    → are_distinct given ≡ true → All IsInRange given → is_plain script ≡ true → is_plain answers ≡ true
    → HasValues given script answers (matches_of (smtcheck_app (gives_form (line_of name given script answers)) places)
    (line_of name given script answers))
line-values places name given script answers distinct ranges p q =
    values_by (gives_form (line_of name given script answers)) places name given script answers distinct ranges
    (line_suits name given script answers distinct ranges p q) p q
