use Rattle.std.proofs.Common.{◌≡◌, ◌∙◌, ap, ap₂, arith, subst, sym, ℕ, codes, false, true, inl, inr, refl}
use Rattle.std.proofs.Common.{Bool, map, option_map, List, [], Option, None, Some}
use Rattle.std.specs.Prelude.{Result, unwrap_or}
use Rattle.std.specs.Borrow.{Bor}
use Rattle.std.specs.List.{All}
use Rattle.std.specs.Option.{option_map_or}
use Rattle.std.specs.Str.Parse.{ExplainsUnsignedError, HasUnsignedDigitsIfOk, ParsesUnsigned}
use Rattle.std.specs.declared.num.ParseIntError.{ParseIntError}
use Rattle.clap.specs.Words.{App, HasMatchesOf, IsAmong, IsUnsignedIn, ReadsOne, Row, Text, takes, kind_of}
use Rattle.clap.specs.Words.{fault_of, first_of, first_value, found_of, is_simple, is_simple_and_free}
use Rattle.clap.specs.Words.{matches_of, one_of, one_text}
use Rattle.clap.specs.declared.parser.ArgMatches.{ArgMatches}
use Rattle.clap.specs.declared.error.kind.ErrorKind.TheVariants.{OutOfMemory}
use Rattle.clap.proofs.OnLiterals.{clap_on_literals}
use Rattle.clap.proofs.WalkLemmas.{first_value-rows, one_text-rows}
use Rattle.clap.specs.Walk.{texts}
use Rattle.smtcheck_command_line.proofs.SettingsLemmas.{line_of, line-taken, line-values}
use Rattle.smtcheck_command_line.proofs.ClapLemmas.{takes-without_fault}
use Rattle.smtcheck_command_line.specs.Settings.{AllPlaces, AreAskedFor, AreSettings, Given, IsInRange, Places}
use Rattle.smtcheck_command_line.specs.Settings.{are_distinct, default_steps, form_of, gives_form, is_given, is_plain, most_steps}
use Rattle.smtcheck_command_line.specs.Settings.{number_of, prints_success, profile_taken, smtcheck_app, switch_of}
use Rattle.smtcheck_command_line.specs.Settings.{value_in}
use Rattle.smtcheck_command_line.specs.declared.arguments.Settings.{Settings}
use Rattle.smtcheck_command_line.proofs.command.settings.Goals as goal

simple : (formed : Bool) (places : AllPlaces) → is_simple (smtcheck_app formed places) ≡ true
unfolding clap_on_literals smtcheck_app
simple formed places = refl

free : (formed : Bool) (places : AllPlaces) → is_simple_and_free (smtcheck_app formed places) ≡ true
unfolding clap_on_literals smtcheck_app
free formed places = refl

-- what a getter answers is what the command makes of the words
read : (formed : Bool) (places : AllPlaces) (a : App) (words : List Text) (m : ArgMatches) (id : Text) (o : Option (Bor Text))
    (s : Bor Text)
    → a ≡ smtcheck_app formed places → HasMatchesOf a words m
    → option_map (λ t. t.now) o ≡ first_value (found_of m) id → o ≡ Some s
    → first_of id (matches_of (smtcheck_app formed places) words) ≡ Some s.now
read formed places a words m id o s is matches got some =
    let rows = (matches (ap is_simple is ∙ simple formed places)).0 in
    let first = sym (ap (first_of id) (rows ∙ ap (λ x. matches_of x words) is)) ∙ sym
    (first_value-rows (found_of m) id) in
    first ∙ sym got ∙ ap (option_map (λ t. t.now)) some

-- and what it has, if it has anything
given_read : (formed : Bool) (places : AllPlaces) (a : App) (words : List Text) (m : ArgMatches) (id : Text)
    → a ≡ smtcheck_app formed places → HasMatchesOf a words m
    → first_value (found_of m) id ≡ first_of id (matches_of (smtcheck_app formed places) words)
given_read formed places a words m id is matches =
    let rows = (matches (ap is_simple is ∙ simple formed places)).0 in
    first_value-rows (found_of m) id ∙ ap (first_of id) (rows ∙ ap (λ x. matches_of x words) is)

-- the same of what `get_one` reads
read_one : (formed : Bool) (places : AllPlaces) (a : App) (words : List Text) (m : ArgMatches) (id t : Text)
    → a ≡ smtcheck_app formed places → HasMatchesOf a words m → one_text (found_of m) id ≡ Some t
    → one_of id (matches_of (smtcheck_app formed places) words) ≡ Some t
read_one formed places a words m id t is matches got =
    let rows = (matches (ap is_simple is ∙ simple formed places)).0 in
    sym (ap (one_of id) (rows ∙ ap (λ x. matches_of x words) is)) ∙ sym (one_text-rows (found_of m) id) ∙ got

-- how `u64` reads a text
abbrev ReadsNumber : Text → Result ℕ ParseIntError → Type 0
ReadsNumber t r = ParsesUnsigned 64 10 t r × ExplainsUnsignedError 10 t r × HasUnsignedDigitsIfOk t r

-- a text in the option's range is read as the number that it writes
number_read : (t : Text) (r : Option ℕ) → ReadsOne ReadsNumber t r → IsUnsignedIn 0 most_steps t
    → r ≡ Some (number_of t)
number_read t (Some n) read is = ap Some read.0.1
number_read t None read is = absurd (read.1.0 (is.0, is.1))

-- a command without a fault takes the words
taken : (formed : Bool) (places : AllPlaces) (a : App) (words : List Text) → a ≡ smtcheck_app formed places
    → (is_simple_and_free a ≡ true → fault_of a words ≡ []) → takes (smtcheck_app formed places) words ≡ true
unfolding clap_on_literals smtcheck_app
taken formed places a words is faultless =
    let none : fault_of (smtcheck_app formed places) words ≡ [] = sym (ap (λ x. fault_of x words) is) ∙ faultless
    (ap is_simple_and_free is ∙ free formed places) in
    takes-without_fault (smtcheck_app formed places) words (simple formed places) refl refl refl none

-- what a getter reads of the matches on these words
abbrev read_by : (List Row → Option Text) → AllPlaces → List Text → Option Text
read_by get places words = get (matches_of (smtcheck_app (gives_form words) places) words)

-- it is one text on the same words
same_value : (get : List Row → Option Text) (places : AllPlaces) (words others : List Text) (t u : Text)
    → read_by get places words ≡ Some t → words ≡ others → read_by get places others ≡ Some u → t ≡ u
same_value get places words others t u is same other =
    ap (λ o. unwrap_or o t) (sym is ∙ ap (read_by get places) same ∙ other)

-- the settings of a line with two plain words, behind the options that are given
of_line : (places : AllPlaces) (words : List Text) (s : Settings) (name : Text) (given : List Given)
    (script answers : Text) → AreSettings words s (smtcheck_app (gives_form words) places)
    → words ≡ line_of name given script answers → are_distinct given ≡ true → All IsInRange given
    → is_plain script ≡ true → is_plain answers ≡ true
    → (s.script.now ≡ script) × (s.answers.now ≡ answers)
    × (s.steps ≡ option_map_or number_of (value_in given (codes "steps")) default_steps)
    × AreAskedFor (value_in given) s
of_line places words s name given script answers are is distinct ranges p q =
    let values = line-values places name given script answers distinct ranges p q in
    let same : (id : Text) → read_by (first_of id) places words
    ≡ read_by (first_of id) places (line_of name given script answers) =
    λ id. ap (read_by (first_of id) places) is in
    let solver = same (codes "solver") ∙ values.of_solver in (
      same_value (first_of (codes "SCRIPT")) places _ _ _ _ are.script is values.of_script,
      same_value (first_of (codes "ANSWERS")) places _ _ _ _ are.answers is values.of_answers,
      are.steps.2.1
          ∙ ap number_of (same_value (one_of (codes "steps")) places _ _ _ _ are.steps.1 is values.of_steps)
          ∙ counted (value_in given (codes "steps")),
      record {
        print_success = are.asked.print_success
            ∙ ap₂ prints_success (same (codes "print-success") ∙ values.of_success) solver;
        profile = are.asked.profile ∙ ap₂ profile_taken (same (codes "profile") ∙ values.of_profile) solver;
        explain = are.asked.explain ∙ ap form_of (same (codes "explain") ∙ values.of_explain);
        hints = are.asked.hints ∙ ap switch_of (same (codes "hints") ∙ values.of_hints);
        strict = are.asked.strict ∙ ap is_given (same (codes "strict")) ∙ values.of_strict;
      },
    )
  where
    counted : (o : Option Text) → number_of (unwrap_or o (codes "10000000")) ≡ option_map_or number_of o default_steps
    counted None = refl
    counted (Some text) = refl

-- the command is the one for the words
for_words : (places : AllPlaces) (a : App) (formed : Bool) (words : List Text) → a ≡ smtcheck_app formed places
    → formed ≡ gives_form words → a ≡ smtcheck_app (gives_form words) places
for_words places a formed words is gives = is ∙ ap (λ b. smtcheck_app b places) gives

pub returns-clause-ok : goal.returns-clause-ok
returns-clause-ok c =
    let app = c.in-Ok.ensures.app in
    let is = for_words app.0 _ _ (texts c.args.words.now) app.1 c.gives_form.ensures in
    let matches = c.in-Ok-try_get_matches_from.ensures.matches in
    let word : (id : Text) → first_value (found_of c.in-Ok-try_get_matches_from.matches) id
    ≡ read_by (first_of id) app.0 (texts c.args.words.now) =
    λ id. given_read _ app.0 _ _ _ id is matches in
    let steps = c.in-Ok.ensures.steps c.in-Ok-try_get_matches_from.matches
    c.in-Ok-try_get_matches_from.ensures.parsed in
    let number = number_read steps.0 c.get_one.result (c.get_one.ensures.value steps.0 steps.2) steps.3.0 in (
      app.0,
      record {
        script = read _ app.0 _ _ _ _ _ _ is matches c.get_str.ensures c.unwrap.ensures;
        answers = read _ app.0 _ _ _ _ _ _ is matches c.get_str-2.ensures c.unwrap-2.ensures;
        asked = record {
          print_success = c.prints_success.ensures ∙ ap₂ prints_success
              (c.get_str-3.ensures ∙ word (codes "print-success")) (c.get_str-solver.ensures ∙ word (codes "solver"));
          profile = c.profile_taken.ensures ∙ ap₂ profile_taken
              (c.get_str-4.ensures ∙ word (codes "profile")) (c.get_str-solver.ensures ∙ word (codes "solver"));
          explain = c.form_of.ensures ∙ ap form_of (c.get_str-5.ensures ∙ word (codes "explain"));
          hints = c.switch.ensures ∙ ap switch_of (c.get_str-6.ensures ∙ word (codes "hints"));
          strict = c.is_given_in.ensures ∙ ap is_given (word (codes "strict"));
        };
        steps = (
          steps.0,
          read_one _ app.0 _ _ _ _ _ is matches steps.2,
          (steps.3.0, ap (λ o. unwrap_or o c.unwrap-3.result) (sym c.unwrap-3.ensures ∙ number)),
        );
      },
    )

pub returns-clause-given : goal.returns-clause-given
returns-clause-given c = λ name script answers given words distinct ranges p q.
    let ok = returns-clause-ok c in
    of_line ok.0 _ _ name given script answers ok.1 words distinct ranges p q

pub returns-clause-limited : goal.returns-clause-limited
returns-clause-limited c =
    let ok = returns-clause-ok c in
    let steps = ok.1.steps.2 in
    let range = steps.0.3 in
    let is = steps.1 in
    omega arith

pub returns-clause-taken : goal.returns-clause-taken
returns-clause-taken c =
    let app = c.in-Ok.ensures.app in (
      app.0,
      taken _ app.0 _ _ (for_words app.0 _ _ (texts c.args.words.now) app.1 c.gives_form.ensures) c.in-Ok-try_get_matches_from.ensures.kinds,
    )

abbrev anywhere : Places
anywhere = record { list = (0, 0); word = λ i. (0, 0) }

pub returns-in_default-clause-memory : goal.returns-in_default-clause-memory
returns-in_default-clause-memory c = (
  record { solver = anywhere; success = anywhere; profile = anywhere; explain = anywhere; hints = anywhere },
  λ passed. refl,
)

pub returns-in-Err-2-clause-memory : goal.returns-in-Err-2-clause-memory
returns-in-Err-2-clause-memory c =
    let app = c.in-Ok.ensures.app in
    let is = for_words app.0 _ _ (texts c.args.words.now) app.1 c.gives_form.ensures in (
      app.0,
      λ passed.
          let same : c.kind.result ≡ OutOfMemory = c.kind.ensures ∙ c.in-Err.ensures.passes
          (ap (λ a. takes a (texts c.args.words.now)) is ∙ passed) in
          let hit : c.eq.result ≡ true = rw same at c.eq.ensures in
          let bad : false ≡ true = rw c.if-eq.false at hit in
          cc,
    )

pub returns-in-Err-2-clause-given : goal.returns-in-Err-2-clause-given
returns-in-Err-2-clause-given c = λ name script answers given words distinct ranges p q.
    let memory = returns-in-Err-2-clause-memory c in
    memory.1 (ap (λ ws. takes (smtcheck_app (gives_form ws) memory.0) ws) words
    ∙ line-taken memory.0 name given script answers distinct ranges p q)

pub returns-in-Err-2-clause-refused : goal.returns-in-Err-2-clause-refused
returns-in-Err-2-clause-refused c =
    let app = c.in-Ok.ensures.app in
    let is = for_words app.0 _ _ (texts c.args.words.now) app.1 c.gives_form.ensures in
    let kinds = c.in-Err.ensures.kinds (ap is_simple_and_free is ∙ free _ app.0) in (
      app.0,
      elim kinds [
        | inl memory ↦
            let same : c.kind.result ≡ OutOfMemory = c.kind.ensures ∙ memory in
            let hit : c.eq.result ≡ true = rw same at c.eq.ensures in
            let bad : false ≡ true = rw c.if-eq.false at hit in
            cc
        | inr among ↦ subst (λ a. IsAmong (kind_of c.in-Err.error)
            (fault_of a (map (λ w. w.now) c.args.words.now))) is among
      ],
    )
