-- The command line of the program, in the words in which clap says what a parse gives.
use Rattle.std.specs.Prelude.{◌≡◌, ◌==◌, ◌-◌, ◌^◌, ◌&&◌, ℕ, suc, Bool, true, false, not, Some, ⊤, codes, is_some}
use Rattle.std.specs.Prelude.{List, [], ◌∷◌, ◌++◌, find, map, MatchResult, None, Option, Result, if◌then◌else◌}
use Rattle.std.specs.Prelude.{drop, nat_eq, option_and_then, option_map, unwrap_or, ◌||◌}
use Rattle.std.specs.List.{All, list_any, starts_with}
use Rattle.std.specs.Option.{option_map_or}
use Rattle.std.specs.Str.{bytes_eq}
use Rattle.std.specs.Borrow.{Bor}
use Rattle.std.specs.Str.Parse.{digits_value, without_leading_plus}
use Rattle.clap.specs.Words.{App, IsAmong, IsParsedFrom, IsUnsignedIn, Rule, Text, fault_of, first_of}
use Rattle.clap.specs.Words.{first_value, found_of, kind_of, matches_of, new_app, new_rule, one_of, one_text}
use Rattle.clap.specs.Words.{with_rule}
use Rattle.clap.specs.Simple.{on_top}
use Rattle.clap.specs.declared.builder.value_parser.ValueParser.TheVariants as parser
use Rattle.clap.specs.declared.builder.Command.{Command}
use Rattle.clap.specs.declared.parser.ArgMatches.{ArgMatches}
use Rattle.clap.specs.declared.builder.ArgAction.TheVariants.{Set, SetTrue}
use Rattle.clap.specs.declared.error.ErrorKind.{ErrorKind}
use Rattle.clap.specs.declared.error.ErrorKind.TheVariants as kind
use Rattle.smt_theory.specs.declared.profile.Profile.{Profile}
use Rattle.smt_theory.specs.declared.profile.Profile.TheVariants.{Base, Wide}
use Rattle.smtcheck_command_line.specs.declared.arguments.Form.{Form}
use Rattle.smtcheck_command_line.specs.declared.arguments.Form.TheVariants as form
use Rattle.smtcheck_command_line.specs.declared.arguments.LineFault.{LineFault}
use Rattle.smtcheck_command_line.specs.declared.arguments.LineFault.TheVariants as line
use Rattle.smtcheck_command_line.specs.declared.arguments.Settings.{Settings}
use Rattle.smtcheck_command_line.specs.declared.arguments.Solver.{Solver}
use Rattle.smtcheck_command_line.specs.declared.arguments.Solver.TheVariants as solver

-- a file that has to be named, once: a positional argument
abbrev pub file_rule : Text → Rule
file_rule id = record (new_rule id) { action = Some Set; required = true }

-- where in memory the list of an option's words lies, and each of them, by its place in the list: clap's
-- definition keeps the references, and reads the words
pub record Places : Type 0 where
  pub list : ℕ × ℕ
  pub word : ℕ → ℕ × ℕ

abbrev pub placed : List Text → (ℕ → ℕ × ℕ) → List (Bor Text)
placed [] at = []
placed (t ∷ ts) at = record { ref_ptr = at 0; now = t } ∷ placed ts (λ i. at (suc i))

abbrev pub choices : List Text → Places → Bor (List (Bor Text))
choices words places = record { ref_ptr = places.list; now = placed words places.word }

-- the option of this name with one of these words, and no word where the option is not given
abbrev pub word_rule : Text → List Text → Places → Rule
word_rule id words places = record (new_rule id) {
  long = Some id;
  action = Some Set;
  value_names = 1;
  parser = Some (parser.Names (choices words places));
}

-- the option's word for whether something is so
abbrev pub switch_word : Bool → Text
switch_word is_on = if is_on then codes "on" else codes "off"

-- and what a word says, if the option is given
abbrev pub switch_of : Option Text → Option Bool
switch_of = option_map (λ word. bytes_eq word (codes "on"))

-- the option's word for the language that is taken
abbrev pub profile_word : Profile → Text
profile_word Base = codes "base"
profile_word Wide = codes "wide"

-- and the language of a word
abbrev pub profile_named : Text → Profile
profile_named word = if bytes_eq word (codes "wide") then Wide else Base

-- the option's word for a form
abbrev pub form_word : Form → Text
form_word form.Text = codes "text"
form_word form.Json = codes "json"
form_word form.Sarif = codes "sarif"

-- all of them
abbrev pub forms : List Form
forms = form.Text ∷ form.Json ∷ form.Sarif ∷ []

-- and the form of a word
abbrev pub form_named : Text → Form
form_named word = if bytes_eq word (codes "json") then form.Json
    else (if bytes_eq word (codes "sarif") then form.Sarif else form.Text)

-- and what is asked for, if the option is given
abbrev pub form_of : Option Text → Option Form
form_of = option_map form_named

-- one of the words gives `--explain` a form: it begins with `--explain=`, and no `--` stands before it
abbrev pub has_form : List Text → Bool
has_form [] = false
has_form (word ∷ behind) = not (bytes_eq word (codes "--"))
    && (starts_with nat_eq word (codes "--explain=") || has_form behind)

-- and stands behind the program's name
abbrev pub gives_form : List Text → Bool
gives_form words = has_form (drop 1 words)

-- the option's word for a solver
abbrev pub solver_word : Solver → Text
solver_word solver.Z3 = codes "z3"
solver_word solver.Cvc5 = codes "cvc5"
solver_word solver.Cvc4 = codes "cvc4"
solver_word solver.Bitwuzla = codes "bitwuzla"
solver_word solver.Boolector = codes "boolector"
solver_word solver.SmtInterpol = codes "smtinterpol"

-- all of them
abbrev pub solvers : List Solver
solvers = solver.Z3 ∷ solver.Cvc5 ∷ solver.Cvc4 ∷ solver.Bitwuzla ∷ solver.Boolector ∷ solver.SmtInterpol ∷ []

-- the solver of a word
abbrev pub solver_named : Text → Option Solver
solver_named word = find (λ s. bytes_eq word (solver_word s)) solvers

abbrev pub solver_of : Option Text → Option Solver
solver_of = option_and_then solver_named

-- the solver prints `success` before a script asks for it
abbrev pub prints_by_default : Solver → Bool
prints_by_default solver.SmtInterpol = true
prints_by_default _ = false

abbrev pub solver_rule : Places → Rule
solver_rule places = word_rule (codes "solver") (map solver_word solvers) places

abbrev pub success_rule : Places → Rule
success_rule places = word_rule (codes "print-success") (codes "on" ∷ codes "off" ∷ []) places

abbrev pub profile_rule : Places → Rule
profile_rule places = word_rule (codes "profile") (codes "base" ∷ codes "wide" ∷ []) places

abbrev pub hints_rule : Places → Rule
hints_rule places = word_rule (codes "hints") (codes "on" ∷ codes "off" ∷ []) places

-- the option for an explanation, whose form stands behind a `=`, and is `text` where it is missing. It takes one only
-- where the words give it one. (Of an option that requires the `=` clap's definition says nothing.)
abbrev pub explain_rule : Bool → Places → Rule
explain_rule takes_form places = record (word_rule (codes "explain") (map form_word forms) places) {
  long = Some (if takes_form then codes "explain" else codes "explain[=<FORM>]");
  aliases = if takes_form then [] else codes "explain" ∷ [];
  range = Some (record { start_inclusive = 0; end_inclusive = if takes_form then 1 else 0 });
  missing = codes "text" ∷ [];
}

-- the most steps that the command line may ask for, and how many are meant where it asks for none
abbrev pub most_steps : ℕ
most_steps = 2 ^ 64 - 2

abbrev pub default_steps : ℕ
default_steps = 10000000

-- the option with a number of steps, which is `default_steps` where the option is not given
abbrev pub steps_rule : Rule
steps_rule = record (new_rule (codes "steps")) {
  long = Some (codes "steps");
  action = Some Set;
  value_names = 1;
  parser = Some (parser.Unsigned 0 most_steps);
  defaults = codes "10000000" ∷ [];
}

-- an option without a value, which is meant where it is given
abbrev pub flag_rule : Text → Rule
flag_rule id = record (new_rule id) { long = Some id; action = Some SetTrue }

-- a command that tells its version
abbrev pub with_version : App → App
with_version = on_top (λ s. record s { has_version = true })

-- where the words of the options lie
pub record AllPlaces : Type 0 where
  pub solver : Places
  pub success : Places
  pub profile : Places
  pub explain : Places
  pub hints : Places

-- `smtcheck [--solver NAME] [--print-success on|off] [--profile base|wide] [--steps N] [--explain[=text|json|sarif]]
-- [--hints on|off] [--strict] SCRIPT ANSWERS`, which has `--version` and `--help` besides
unfoldable pub smtcheck_app : Bool → AllPlaces → App
smtcheck_app takes_form places =
    with_rule (with_rule (with_rule (with_rule (with_rule (with_rule (with_rule (with_rule
    (with_rule (with_version (new_app (codes "smtcheck"))) (file_rule (codes "SCRIPT")))
    (file_rule (codes "ANSWERS"))) (solver_rule places.solver)) (success_rule places.success))
    (profile_rule places.profile)) steps_rule) (explain_rule takes_form places.explain))
    (hints_rule places.hints)) (flag_rule (codes "strict"))

-- of the program's command for these words of a line, where the words of its options lie at some places
abbrev pub OfCommand : List Text → (App → Type 0) → Type 0
OfCommand words P = (places : AllPlaces) × P (smtcheck_app (gives_form words) places)

-- the number that a text writes, in decimal
abbrev pub number_of : Text → ℕ
number_of text = digits_value 10 (without_leading_plus text)

-- the text writes this number of steps, and the number is in the option's range
abbrev pub WritesSteps : Text → ℕ → Type 0
WritesSteps text steps = IsUnsignedIn 0 most_steps text × (steps ≡ number_of text)

-- the matches have a value for the argument
abbrev pub HasValue : ArgMatches → Text → Type 0
HasValue m id = is_some (first_value (found_of m) id) ≡ true

-- a parse of the command that succeeds has both files
abbrev pub NeedsFiles : Command → Type 0
NeedsFiles c =
    (m : ArgMatches) → IsParsedFrom c m → HasValue m (codes "SCRIPT") × HasValue m (codes "ANSWERS")

-- and a number of steps
abbrev pub HasSteps : Command → Type 0
HasSteps c = (m : ArgMatches) → IsParsedFrom c m
    → (text : Text) × (steps : ℕ) × (one_text (found_of m) (codes "steps") ≡ Some text)
    × WritesSteps text steps

-- the text behind a reference
abbrev pub text_of : Option (Bor Text) → Option Text
text_of = option_map (λ t. t.now)

-- whether the solver prints `success` from the start, by the word of `--print-success`, else by that of `--solver`,
-- else as the standard has it
abbrev pub prints_success : Option Text → Option Text → Bool
prints_success word solver =
    unwrap_or (switch_of word) (option_map_or prints_by_default (solver_of solver) true)

-- the language, by the word of `--profile`, else by that of `--solver`
abbrev pub profile_taken : Option Text → Option Text → Profile
profile_taken word solver =
    option_map_or profile_named word (option_map_or (λ s. Wide) (solver_of solver) Base)

-- an option without a value is given where its value is `true`, as clap has it
abbrev pub is_given : Option Text → Bool
is_given value = option_map_or (λ t. bytes_eq t (codes "true")) value false

-- the settings are those that the words of the options ask for, by the options' names
pub record AreAskedFor (word : Text → Option Text) (s : Settings) : Type 0 where
  pub print_success : s.print_success ≡ prints_success (word (codes "print-success")) (word (codes "solver"))
  pub profile : s.profile ≡ profile_taken (word (codes "profile")) (word (codes "solver"))
  pub explain : s.explain ≡ form_of (word (codes "explain"))
  pub hints : s.hints ≡ switch_of (word (codes "hints"))
  pub strict : s.strict ≡ is_given (word (codes "strict"))

-- the settings are the matches that the command has on these words, where a number stands as its text
pub record AreSettings (words : List Text) (s : Settings) (a : App) : Type 0 where
  pub script : first_of (codes "SCRIPT") (matches_of a words) ≡ Some s.script.now
  pub answers : first_of (codes "ANSWERS") (matches_of a words) ≡ Some s.answers.now
  pub asked : AreAskedFor (λ id. first_of id (matches_of a words)) s
  pub steps : (text : Text) × (one_of (codes "steps") (matches_of a words) ≡ Some text)
      × WritesSteps text s.steps

-- what is refused is refused with a kind that the command has on these words
abbrev pub IsFaultOf : List Text → LineFault → App → Type 0
IsFaultOf words line.Memory a = ⊤
IsFaultOf words (line.Refused e) a = IsAmong (kind_of e) (fault_of a words)

-- the word is not empty and begins with no hyphen
abbrev pub is_plain : Text → Bool
is_plain [] = false
is_plain (x ∷ xs) = not (x == 45)

-- an option that is given, with what it says; a number as its text; `--explain` alone, or with a form
pub data Given : Type 0 where
  Preset : Solver → Given
  Success : Bool → Given
  Language : Profile → Given
  Steps : Text → Given
  Explain : Given
  ExplainAs : Form → Given
  Hints : Bool → Given
  Strict : Given

-- its name
abbrev pub name_of : Given → Text
name_of (Preset s) = codes "solver"
name_of (Success prints) = codes "print-success"
name_of (Language profile) = codes "profile"
name_of (Steps text) = codes "steps"
name_of Explain = codes "explain"
name_of (ExplainAs form) = codes "explain"
name_of (Hints are_on) = codes "hints"
name_of Strict = codes "strict"

-- its value; that of `--explain` alone is `text`, and that of an option without one `true`
abbrev pub value_of : Given → Text
value_of (Preset s) = solver_word s
value_of (Success prints) = switch_word prints
value_of (Language profile) = profile_word profile
value_of (Steps text) = text
value_of Explain = form_word form.Text
value_of (ExplainAs form) = form_word form
value_of (Hints are_on) = switch_word are_on
value_of Strict = codes "true"

-- its words on the command line
abbrev pub words_of : Given → List Text
words_of Explain = codes "--explain" ∷ []
words_of (ExplainAs form) = (codes "--explain=" ++ form_word form) ∷ []
words_of Strict = codes "--strict" ∷ []
words_of option = (codes "--" ++ name_of option) ∷ value_of option ∷ []

-- the words of options, and those behind them
abbrev pub given_words : List Given → List Text → List Text
given_words [] behind = behind
given_words (option ∷ rest) behind = words_of option ++ given_words rest behind

-- the value that one of the options has
abbrev pub value_in : List Given → Text → Option Text
value_in given name = option_map value_of (find (λ option. bytes_eq (name_of option) name) given)

-- no option is given twice
abbrev pub are_distinct : List Given → Bool
are_distinct [] = true
are_distinct (option ∷ rest) =
    not (list_any (λ other. bytes_eq (name_of option) (name_of other)) rest) && are_distinct rest

-- a number of steps is in its range
abbrev pub IsInRange : Given → Type 0
IsInRange (Steps text) = IsUnsignedIn 0 most_steps text
IsInRange option = ⊤

-- after the program's name any of the options, in any order, and two plain words name the two files: only memory
-- may be missing
abbrev pub TakesOptions : List Text → Result Settings LineFault → Type 0
TakesOptions words r = (name script answers : Text) (given : List Given)
    → words ≡ name ∷ given_words given (script ∷ answers ∷ [])
    → are_distinct given ≡ true → All IsInRange given
    → is_plain script ≡ true → is_plain answers ≡ true
    → MatchResult r (λ s. (s.script.now ≡ script) × (s.answers.now ≡ answers)
    × (s.steps ≡ option_map_or number_of (value_in given (codes "steps")) default_steps)
    × AreAskedFor (value_in given) s)
    (λ f. f ≡ line.Memory)

-- the version was asked for
abbrev pub is_version : ErrorKind → Bool
is_version kind.DisplayVersion = true
is_version _ = false

abbrev pub asks_for_version : LineFault → Bool
asks_for_version line.Memory = false
asks_for_version (line.Refused e) = is_version (kind_of e)

-- what a fault says; of the text of its own errors clap promises nothing
abbrev pub text_of_line_fault : LineFault → Option Text
text_of_line_fault line.Memory = Some (codes "out of memory")
text_of_line_fault (line.Refused e) = None
