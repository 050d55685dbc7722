-- SMT-LIB 2.6, sections 4.1.1, 4.1.4 and 4.2: what is in force after commands that took effect, and the fault
-- of a command's effect. Commands count from 1. Assertions go with the level at which they came; so do
-- declarations, definitions, labels and abbreviations, unless declarations are global (section 4.1.7): then a
-- `reset` alone removes them. That there are at most 10,000 levels is this project's max_levels.
use Rattle.std.specs.Prelude.{◌≡◌, ◌≤◌, ℕ, ◌+◌, ◌-◌, List, [], ◌∷◌, ◌++◌, Bool, true, false, not, ◌&&◌, ◌||◌}
use Rattle.std.specs.Prelude.{Option, Some, None, is_some, Result, Ok, Err, fold, nat_le, nat_lt}
use Rattle.std.specs.Prelude.{if◌then◌else◌}
use Rattle.std.specs.Bool.{beq}
use Rattle.std.specs.List.{flat_map, list_all, list_any}
use Rattle.std.specs.Option.{option_or}
use Rattle.smt_trees.specs.Sexp.{Sexp, Sexps, Nil, Cons}
use Rattle.smt_theory.specs.Sort.{is_same_sort}
use Rattle.smt_theory.specs.Sort.{Boolean}
use Rattle.smt_terms.specs.declared.named_sort.NamedSort.{NamedSort}
use Rattle.smt_terms.specs.Checking.{sort_in}
use Rattle.smt_theory.specs.Theories.{all_theories, theories_named}
use Rattle.smt_theory.specs.declared.profile.Profile.{Profile}
use Rattle.smt_theory.specs.Sort.{Sort}
use Rattle.smt_theory.specs.declared.theories.Theories.{Theories}
use Rattle.smt_terms.specs.Assertions.{asserted_in}
use Rattle.smt_terms.specs.Definitions.{defined_in}
use Rattle.smt_terms.specs.Declarations.{abbreviated_in, sort_declared_in, declared_in}
use Rattle.smt_terms.specs.Signature.{Entry, Names, Signature, names_of, sort_names_of}
use Rattle.smt_faults.specs.declared.term_flaw.TermFlaw.{TermFlaw}
use Rattle.smt_faults.specs.declared.term_flaw.TermFlaw.TheVariants.{IllSorted}
use Rattle.smt_script.specs.Command.{Command, Effect, Addition, Removes, SetsLogic, Brings, Pushes, Pops}
use Rattle.smt_script.specs.Command.{SetsGlobal}
use Rattle.smt_script.specs.Command.{Assumes, Removing, Nothing, AllButOptions, Everything, closes_window}
use Rattle.smt_script.specs.Command.{effect_of, is_check, kind_of}
use Rattle.smt_script.specs.Command as items
use Rattle.smt_script.specs.declared.command.Kind.{Kind}
use Rattle.smt_script.specs.declared.command.Kind.TheVariants as kinds
use Rattle.smt_faults.specs.declared.command_flaw.CommandFlaw.{CommandFlaw}
use Rattle.smt_faults.specs.declared.command_flaw.CommandFlaw.TheVariants.{TooDeep, NoLevel, Logic, Term}

-- a command that took effect, and its number
pub record Numbered : Type 0 where
  pub number : ℕ
  pub command : Command

-- an assertion, and the command that made it
pub record Assertion : Type 0 where
  pub command : ℕ
  pub term : Sexp

-- ---- theories, levels and `success`

-- those of a logic, or else the ones before it
abbrev pub theories_or : Theories → Option Theories → Theories
theories_or theories None = theories
theories_or theories (Some named) = named

-- whether what a command removes is all names, abbreviations and assertions
abbrev pub resets : Removes → Bool
resets Nothing = false
resets AllButOptions = true
resets Everything = true

-- whether it is the options too
abbrev pub is_everything : Removes → Bool
is_everything Nothing = false
is_everything AllButOptions = false
is_everything Everything = true

-- the theories once so much is removed
abbrev pub theories_left : Profile → Theories → Removes → Theories
theories_left profile theories Nothing = theories
theories_left profile theories AllButOptions = theories
theories_left profile theories Everything = all_theories profile

abbrev pub theories_by : Profile → Theories → Effect → Theories
theories_by profile theories (SetsLogic name) = theories_or theories (theories_named profile name)
theories_by profile theories (Brings item) = theories
theories_by profile theories (Pushes levels) = theories
theories_by profile theories (Pops levels) = theories
theories_by profile theories (Removing what) = theories_left profile theories what
theories_by profile theories (SetsGlobal on) = theories
theories_by profile theories (Assumes literals) = theories

-- the theories after a command, from those before it
abbrev pub theories_after : Profile → Theories → Command → Theories
theories_after profile theories command = theories_by profile theories (effect_of command)

-- the theories in force after commands: those of the last logic that was set since the last reset, or else all
-- of the profile
abbrev pub theories_in_force : Profile → List Numbered → Theories
theories_in_force profile commands =
    fold (λ theories c. theories_after profile theories c.command) (all_theories profile) commands

abbrev pub depth_by : ℕ → Effect → ℕ
depth_by depth (SetsLogic name) = depth
depth_by depth (Brings item) = depth
depth_by depth (Pushes levels) = depth + levels
depth_by depth (Pops levels) = depth - levels
depth_by depth (Removing what) = if resets what then 0 else depth
depth_by depth (SetsGlobal on) = depth
depth_by depth (Assumes literals) = depth

-- how many levels there are after a command
abbrev pub depth_after : ℕ → Command → ℕ
depth_after depth command = depth_by depth (effect_of command)

-- how many levels there are after commands
abbrev pub depth_in_force : List Numbered → ℕ
depth_in_force commands = fold (λ depth c. depth_after depth c.command) 0 commands

abbrev pub global_by : Bool → Effect → Bool
global_by global (SetsLogic name) = global
global_by global (Brings item) = global
global_by global (Pushes levels) = global
global_by global (Pops levels) = global
global_by global (Removing what) = if is_everything what then false else global
global_by global (SetsGlobal on) = on
global_by global (Assumes literals) = global

-- whether declarations are global after a command, from whether they were before it
abbrev pub global_after : Bool → Command → Bool
global_after global command = global_by global (effect_of command)

-- whether declarations are global after commands: as the last one since the last `reset` said that set it
abbrev pub global_in_force : List Numbered → Bool
global_in_force commands = fold (λ global c. global_after global c.command) false commands

abbrev pub print_success_by : Bool → Bool → Kind → Bool
print_success_by initial on (kinds.PrintSuccess value) = value
print_success_by initial on kinds.Reset = initial
print_success_by initial on _ = on

-- whether `success` is printed after a command: `initial` says whether it is at the start
abbrev pub print_success_after : Bool → Bool → Command → Bool
print_success_after initial on command = print_success_by initial on (kind_of command)

abbrev pub print_success_in_force : Bool → List Numbered → Bool
print_success_in_force initial commands =
    fold (λ on c. print_success_after initial on c.command) initial commands

abbrev pub exits : Kind → Bool
exits kinds.Exit = true
exits _ = false

abbrev pub is_exit : Command → Bool
is_exit command = exits (kind_of command)

-- whether an `exit` is among commands
abbrev pub has_exited : List Numbered → Bool
has_exited commands = list_any (λ c. is_exit c.command) commands

-- ---- what each command brought

-- what a command brought: names, abbreviations and assertions; the level at which they came; whether
-- declarations were global there; and what it removed
pub record Brought : Type 0 where
  pub level : ℕ
  pub global : Bool
  pub removes : Removes
  pub entries : List Entry
  pub abbreviations : List (List ℕ × NamedSort)
  pub assertions : List Assertion

-- whether what came at a level stands after a later command, which left so many levels: that did not remove
-- all, and left as many
abbrev pub stands_after : ℕ → Brought → Bool
stands_after level later = not (resets later.removes) && nat_le level later.level

-- whether assertions stand that were brought before these
abbrev pub assertions_stand : Brought → List Brought → Bool
assertions_stand b later = list_all (stands_after b.level) later

-- whether names and abbreviations that were brought stand after a later command: global ones do that did not
-- remove everything, and others as assertions do
abbrev pub name_stands_after : Brought → Brought → Bool
name_stands_after b later =
    if b.global then not (is_everything later.removes) else stands_after b.level later

-- whether they stand that were brought before these
abbrev pub names_stand : Brought → List Brought → Bool
names_stand b later = list_all (name_stands_after b) later

-- what is in force of all that was brought: what stands after all that was brought later
abbrev pub in_force : (Brought → List Brought → Bool) → List Brought → List Brought
in_force stands [] = []
in_force stands (b ∷ later) = (if stands b later then b ∷ [] else []) ++ in_force stands later

abbrev pub entries_of : List Brought → List Entry
entries_of brought = flat_map (λ b. b.entries) brought

abbrev pub abbreviations_of : List Brought → List (List ℕ × NamedSort)
abbreviations_of brought = flat_map (λ b. b.abbreviations) brought

abbrev pub assertions_of : List Brought → List Assertion
assertions_of brought = flat_map (λ b. b.assertions) brought

-- the signature that what was brought gives in these theories
abbrev pub signature_of : Theories → List Brought → Signature
signature_of theories brought =
    record {
      theories = theories;
      abbreviations = abbreviations_of brought;
      elements = None;
      entries = entries_of brought;
    }

-- one thing, or none at a fault
abbrev pub one_or_none : {A : Type 0} → Result A TermFlaw → List A
one_or_none (Ok x) = x ∷ []
one_or_none (Err fault) = []

-- some things, or none at a fault
abbrev pub all_or_none : {A : Type 0} → Result (List A) TermFlaw → List A
all_or_none (Ok xs) = xs
all_or_none (Err fault) = []

abbrev pub named : List ℕ → List NamedSort → List (List ℕ × NamedSort)
named x [] = []
named x (sort ∷ sorts) = (x, sort) ∷ named x sorts

-- the names that an item of command n brings to a signature
abbrev pub entries_of_addition : Signature → ℕ → Addition → List Entry
entries_of_addition s n (items.Declaration x parameters sort) =
    one_or_none (declared_in s n x parameters sort)
entries_of_addition s n (items.Definition x parameters sort body) =
    one_or_none (defined_in s x parameters sort body)
entries_of_addition s n (items.SortDeclaration x) = []
entries_of_addition s n (items.Abbreviation x sort) = []
entries_of_addition s n (items.Assertion term) = all_or_none (asserted_in (names_of s) term)

abbrev pub entries_of_effect : Signature → ℕ → Effect → List Entry
entries_of_effect s n (SetsLogic name) = []
entries_of_effect s n (Brings item) = entries_of_addition s n item
entries_of_effect s n (Pushes levels) = []
entries_of_effect s n (Pops levels) = []
entries_of_effect s n (Removing what) = []
entries_of_effect s n (SetsGlobal on) = []
entries_of_effect s n (Assumes literals) = []

-- the names that command n brings to a signature
abbrev pub entries_by : Signature → ℕ → Command → List Entry
entries_by s n command = entries_of_effect s n (effect_of command)

-- the sorts that an item of command n declares, and what it abbreviates
abbrev pub abbreviations_of_addition : Signature → ℕ → Addition → List (List ℕ × NamedSort)
abbreviations_of_addition s n (items.Declaration x parameters sort) = []
abbreviations_of_addition s n (items.Definition x parameters sort body) = []
abbreviations_of_addition s n (items.SortDeclaration x) =
    named x (one_or_none (sort_declared_in (sort_names_of s) n x))
abbreviations_of_addition s n (items.Abbreviation x sort) =
    named x (one_or_none (abbreviated_in (sort_names_of s) x sort))
abbreviations_of_addition s n (items.Assertion term) = []

abbrev pub abbreviations_of_effect : Signature → ℕ → Effect → List (List ℕ × NamedSort)
abbreviations_of_effect s n (SetsLogic name) = []
abbreviations_of_effect s n (Brings item) = abbreviations_of_addition s n item
abbreviations_of_effect s n (Pushes levels) = []
abbreviations_of_effect s n (Pops levels) = []
abbreviations_of_effect s n (Removing what) = []
abbreviations_of_effect s n (SetsGlobal on) = []
abbreviations_of_effect s n (Assumes literals) = []

-- the declared sorts and the abbreviations that command n brings
abbrev pub abbreviations_by : Signature → ℕ → Command → List (List ℕ × NamedSort)
abbreviations_by s n command = abbreviations_of_effect s n (effect_of command)

abbrev pub assertions_of_addition : ℕ → Addition → List Assertion
assertions_of_addition n (items.Declaration x parameters sort) = []
assertions_of_addition n (items.Definition x parameters sort body) = []
assertions_of_addition n (items.SortDeclaration x) = []
assertions_of_addition n (items.Abbreviation x sort) = []
assertions_of_addition n (items.Assertion term) = record { command = n; term = term } ∷ []

abbrev pub assertions_of_effect : ℕ → Effect → List Assertion
assertions_of_effect n (SetsLogic name) = []
assertions_of_effect n (Brings item) = assertions_of_addition n item
assertions_of_effect n (Pushes levels) = []
assertions_of_effect n (Pops levels) = []
assertions_of_effect n (Removing what) = []
assertions_of_effect n (SetsGlobal on) = []
assertions_of_effect n (Assumes literals) = []

-- the assertion that command n brings
abbrev pub assertions_by : ℕ → Command → List Assertion
assertions_by n command = assertions_of_effect n (effect_of command)

abbrev pub removed_of_effect : Effect → Removes
removed_of_effect (SetsLogic name) = Nothing
removed_of_effect (Brings item) = Nothing
removed_of_effect (Pushes levels) = Nothing
removed_of_effect (Pops levels) = Nothing
removed_of_effect (Removing what) = what
removed_of_effect (SetsGlobal on) = Nothing
removed_of_effect (Assumes literals) = Nothing

-- what a command removes at whatever level it came: a reset does. What `pop` takes is no matter of this, but
-- of how many levels it leaves (`stands_after`)
abbrev pub removed_by : Command → Removes
removed_by command = removed_of_effect (effect_of command)

-- whether it removes all assertions, and with them the names and abbreviations that are not global
abbrev pub is_reset : Command → Bool
is_reset command = resets (removed_by command)

-- whether it removes everything
abbrev pub removes_everything : Command → Bool
removes_everything command = is_everything (removed_by command)

-- what a command brings, behind the commands before it and what they brought
abbrev pub brought_by : Profile → List Numbered → List Brought → Numbered → Brought
brought_by profile before brought c =
    let s = signature_of (theories_in_force profile before) (in_force names_stand brought) in
    record {
      level = depth_after (depth_in_force before) c.command;
      global = global_in_force before;
      removes = removed_by c.command;
      entries = entries_by s c.number c.command;
      abbreviations = abbreviations_by s c.number c.command;
      assertions = assertions_by c.number c.command;
    }

-- what commands brought, one by one, behind the commands before them and what those brought
abbrev pub brought_from : Profile → List Numbered → List Brought → List Numbered → List Brought
brought_from profile before brought [] = brought
brought_from profile before brought (c ∷ commands) =
    brought_from profile (before ++ c ∷ []) (brought ++ brought_by profile before brought c ∷ []) commands

-- all that commands ever brought, one by one
abbrev pub history : Profile → List Numbered → List Brought
history profile commands = brought_from profile [] [] commands

-- ---- what is in force

-- the theories, abbreviations and names in force after commands that took effect
abbrev pub signature_in_force : Profile → List Numbered → Signature
signature_in_force profile commands =
    signature_of (theories_in_force profile commands) (in_force names_stand (history profile commands))

-- the assertions in force after commands that took effect, in their order
abbrev pub assertions_in_force : Profile → List Numbered → List Assertion
assertions_in_force profile commands = assertions_of (in_force assertions_stand (history profile commands))

abbrev pub trees_of : Sexps → List Sexp
trees_of Nil = []
trees_of (Cons tree rest) = tree ∷ trees_of rest

abbrev pub literals_of_effect : Effect → List Sexp
literals_of_effect (Assumes literals) = trees_of literals
literals_of_effect _ = []

-- the literals that a command assumes
abbrev pub literals_of : Command → List Sexp
literals_of command = literals_of_effect (effect_of command)

-- the assumptions after a command: those of a check are its own, and what changes what is in force ends them
abbrev pub assumptions_after : List Sexp → Command → List Sexp
assumptions_after before command =
    if is_check command || closes_window command then literals_of command else before

-- the assumptions after commands: those of the last check, if nothing in force has changed since
abbrev pub assumptions_in_force : List Numbered → List Sexp
assumptions_in_force commands = fold (λ before c. assumptions_after before c.command) [] commands

-- whether a command ends the assumptions of the check before it, and assumes nothing itself
abbrev pub ends_assumptions : Command → Bool
ends_assumptions (items.CheckSatAssuming literals) = false
ends_assumptions command = is_check command || closes_window command

-- commands behind others leave so many levels, each of them
abbrev pub KeepLevels : ℕ → List Numbered → List Numbered → Type 0
KeepLevels level before [] = Unit {0}
KeepLevels level before (c ∷ commands) =
    (level ≤ depth_in_force (before ++ c ∷ [])) × KeepLevels level (before ++ c ∷ []) commands

-- an assertion that a command brought stands behind the earlier ones: no later one removes all, and none
-- leaves fewer levels than there were then
pub record Stands (commands earlier : List Numbered) (c : Numbered) : Type 0 where
  pub later : List Numbered
  pub place : commands ≡ earlier ++ c ∷ later
  pub no_reset : list_any (λ d. is_reset d.command) later ≡ false
  pub levels : KeepLevels (depth_in_force (earlier ++ c ∷ [])) (earlier ++ c ∷ []) later

-- the later commands leave names that a command brought behind the earlier ones: global ones where none
-- removes everything, and others where none removes all assertions, or leaves fewer levels
abbrev pub LeaveNames : (global : Bool) → (before later : List Numbered) → Type 0
LeaveNames true before later = list_any (λ d. removes_everything d.command) later ≡ false
LeaveNames false before later =
    (list_any (λ d. is_reset d.command) later ≡ false) × KeepLevels (depth_in_force before) before later

-- the names and abbreviations that a command brought stand behind the earlier ones
pub record NamesStand (commands earlier : List Numbered) (c : Numbered) : Type 0 where
  pub later : List Numbered
  pub place : commands ≡ earlier ++ c ∷ later
  pub left : LeaveNames (global_in_force earlier) (earlier ++ c ∷ []) later

abbrev pub is_set_by : Bool → Kind → Bool
is_set_by set (kinds.Logic known) = true
is_set_by set kinds.Reset = false
is_set_by set _ = set

-- whether a logic is set after a command, by whether one was before
abbrev pub is_set_after : Bool → Command → Bool
is_set_after set command = is_set_by set (kind_of command)

-- whether a logic is set: since the start or the last reset
abbrev pub is_logic_set : List Numbered → Bool
is_logic_set commands = fold (λ set c. is_set_after set c.command) false commands

abbrev pub fixes_logic : Kind → Bool
fixes_logic kinds.Change = true
fixes_logic kinds.Check = true
fixes_logic (kinds.Logic known) = false
fixes_logic kinds.Reset = false
fixes_logic (kinds.PrintSuccess on) = false
fixes_logic kinds.Setting = false
fixes_logic kinds.Exit = false
fixes_logic kinds.Model = false
fixes_logic kinds.Echo = false
fixes_logic kinds.Query = false

-- whether it is too late behind the command to set a logic, or to change whether declarations are global: a
-- declaration, definition, assertion, change of level or check
abbrev pub makes_late : Command → Bool
makes_late command = fixes_logic (kind_of command)

abbrev pub is_late_by : Bool → Kind → Bool
is_late_by late kinds.Reset = false
is_late_by late kind = late || fixes_logic kind

abbrev pub is_late_after : Bool → Command → Bool
is_late_after late command = is_late_by late (kind_of command)

-- whether it is too late: one of these came since the start or the last reset
abbrev pub is_too_late : List Numbered → Bool
is_too_late commands = fold (λ late c. is_late_after late c.command) false commands

-- ---- faults of effects

-- the fault of what a command brings, if it brings none
abbrev pub flaw_of : {A : Type 0} → Result A TermFlaw → Option CommandFlaw
flaw_of (Ok x) = None
flaw_of (Err fault) = Some (Term fault)

-- the fault of setting a logic that has these theories, if it is one that is taken: where one is set, or it
-- is too late
abbrev pub flaw_of_logic : (set late : Bool) → Option Theories → Option CommandFlaw
flaw_of_logic set late theories = if (set || late) || not (is_some theories) then Some Logic else None

-- the fault of setting whether declarations are global: where it is too late to change it
abbrev pub flaw_of_global : (late global on : Bool) → Option CommandFlaw
flaw_of_global late global on = if late && not (beq global on) then Some Logic else None

-- the greatest number of levels
abbrev pub max_levels : ℕ
max_levels = 10000

-- the fault of an item that command n brings to a signature
abbrev pub flaw_of_addition : Signature → ℕ → Addition → Option CommandFlaw
flaw_of_addition s n (items.Declaration x parameters sort) = flaw_of (declared_in s n x parameters sort)
flaw_of_addition s n (items.Definition x parameters sort body) = flaw_of (defined_in s x parameters sort body)
flaw_of_addition s n (items.SortDeclaration x) = flaw_of (sort_declared_in (sort_names_of s) n x)
flaw_of_addition s n (items.Abbreviation x sort) = flaw_of (abbreviated_in (sort_names_of s) x sort)
flaw_of_addition s n (items.Assertion term) = flaw_of (asserted_in (names_of s) term)

-- the fault of a literal, which has to be a formula
abbrev pub flaw_of_formula : Result Sort TermFlaw → Option CommandFlaw
flaw_of_formula (Ok sort) = if is_same_sort sort Boolean then None else Some (Term IllSorted)
flaw_of_formula (Err fault) = Some (Term fault)

-- the first fault of literals, one after another
abbrev pub flaw_of_literals : Names → Sexps → Option CommandFlaw
flaw_of_literals names Nil = None
flaw_of_literals names (Cons literal rest) =
    option_or (flaw_of_formula (sort_in names [] literal)) (flaw_of_literals names rest)

abbrev pub flaw_by : Profile → List Numbered → ℕ → Effect → Option CommandFlaw
flaw_by profile before n (SetsLogic name) =
    flaw_of_logic (is_logic_set before) (is_too_late before) (theories_named profile name)
flaw_by profile before n (Brings item) = flaw_of_addition (signature_in_force profile before) n item
flaw_by profile before n (Pushes levels) =
    if nat_lt max_levels (depth_in_force before + levels) then Some TooDeep else None
flaw_by profile before n (Pops levels) = if nat_lt (depth_in_force before) levels then Some NoLevel else None
flaw_by profile before n (Removing what) = None
flaw_by profile before n (SetsGlobal on) = flaw_of_global (is_too_late before) (global_in_force before) on
flaw_by profile before n (Assumes literals) = flaw_of_literals (names_of (signature_in_force profile before)) literals

-- the fault of the effect of command n after the commands that took effect before it
abbrev pub flaw_of_effect : Profile → List Numbered → ℕ → Command → Option CommandFlaw
flaw_of_effect profile before n command = flaw_by profile before n (effect_of command)

-- no command's effect has a fault, behind those that come before
abbrev pub HaveNoFlaw : Profile → List Numbered → List Numbered → Type 0
HaveNoFlaw profile before [] = Unit {0}
HaveNoFlaw profile before (c ∷ commands) =
    (flaw_of_effect profile before c.number c.command ≡ None) × HaveNoFlaw profile (before ++ c ∷ []) commands
