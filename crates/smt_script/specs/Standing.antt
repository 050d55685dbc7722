-- The words in which laws say what is in force after commands that took effect: which one brought or set it.
use Rattle.std.specs.Prelude.{◌≡◌, ◌⊎◌, ℕ, ◌+◌, List, [], ◌∷◌, ◌++◌, Bool, true, false, is_some}
use Rattle.std.specs.List.{list_any}
use Rattle.smt_theory.specs.Theories.{theories_named}
use Rattle.smt_theory.specs.declared.profile.Profile.{Profile}
use Rattle.smt_terms.specs.declared.named_sort.NamedSort.{NamedSort}
use Rattle.smt_terms.specs.Signature.{Entry}
use Rattle.smt_script.specs.Command.{Command, Effect, SetsLogic, SetsGlobal, Pushes, Pops, effect_of, kind_of}
use Rattle.smt_script.specs.declared.command.Kind.{Kind}
use Rattle.smt_script.specs.declared.command.Kind.TheVariants as kinds
use Rattle.smt_script.specs.Stack.{Assertion, Numbered, abbreviations_by, assertions_by, entries_by}
use Rattle.smt_script.specs.Stack.{signature_in_force}

abbrev pub numbered : ℕ → Command → Numbered
numbered n command = record { number = n; command = command }

-- ---- what commands brought

-- what a command brings, behind the earlier ones
abbrev pub Brings : Type 0 → Type 0
Brings A = List Numbered → Numbered → List A

abbrev pub names_of_command : Profile → Brings Entry
names_of_command profile earlier c = entries_by (signature_in_force profile earlier) c.number c.command

abbrev pub abbreviations_of_command : Profile → Brings (List ℕ × NamedSort)
abbreviations_of_command profile earlier c = abbreviations_by (signature_in_force profile earlier) c.number c.command

abbrev pub assertions_of_command : Brings Assertion
assertions_of_command earlier c = assertions_by c.number c.command

-- it is one of these, and these stand side by side among those
abbrev pub IsAmong : {A : Type 0} → A → List A → Type 0
IsAmong {A} x xs = (first last : List A) × (xs ≡ first ++ x ∷ last)

abbrev pub AreAmong : {A : Type 0} → List A → List A → Type 0
AreAmong {A} some xs = (first last : List A) × (xs ≡ first ++ (some ++ last))

-- when what a command brought stands, behind the earlier ones, after all commands
abbrev pub Standing : Type 1
Standing = (commands earlier : List Numbered) → Numbered → Type 0

-- one of the commands stands, and brings it
pub record IsBrought {A : Type 0} (stands : Standing) (brings : Brings A) (commands : List Numbered) (x : A)
    : Type 0 where
  pub earlier : List Numbered
  pub command : Numbered
  pub standing : stands commands earlier command
  pub among : IsAmong x (brings earlier command)

-- these are, in order, what each of the later commands brings that stands, and nothing of the others
abbrev pub AreBrought : {A : Type 0} → Standing → Brings A → (commands earlier later : List Numbered)
    → List A → Type 0
AreBrought stands brings commands earlier [] xs = xs ≡ []
AreBrought {A} stands brings commands earlier (c ∷ later) xs =
    (stands commands earlier c × (rest : List A) × (xs ≡ brings earlier c ++ rest)
    × AreBrought stands brings commands (earlier ++ c ∷ []) later rest)
    ⊎ ((stands commands earlier c → ⊥) × AreBrought stands brings commands (earlier ++ c ∷ []) later xs)

-- ---- what commands set

abbrev pub Never : (Command → Bool) → List Numbered → Type 0
Never test commands = list_any (λ c. test c.command) commands ≡ false

-- the last of commands that is such
pub record IsLast (test : Command → Bool) (commands : List Numbered) (command : Command) : Type 0 where
  pub earlier : List Numbered
  pub number : ℕ
  pub later : List Numbered
  pub place : commands ≡ earlier ++ numbered number command ∷ later
  pub is : test command ≡ true
  pub none : Never test later

-- the commands since the last that is such, or since the start
pub data AreSince (test : Command → Bool) (commands since : List Numbered) : Type 0 where
  Start : (commands ≡ since) → Never test since → AreSince test commands since
  Behind : (earlier : List Numbered) → (c : Numbered) → (commands ≡ earlier ++ c ∷ since)
      → (test c.command ≡ true) → Never test since → AreSince test commands since

abbrev pub is_reset_kind : Kind → Bool
is_reset_kind kinds.Reset = true
is_reset_kind _ = false

abbrev pub is_whole_reset : Command → Bool
is_whole_reset command = is_reset_kind (kind_of command)

abbrev pub is_logic_kind : Kind → Bool
is_logic_kind (kinds.Logic known) = true
is_logic_kind _ = false

abbrev pub sets_logic : Command → Bool
sets_logic command = is_logic_kind (kind_of command)

abbrev pub names_theories : Profile → Effect → Bool
names_theories profile (SetsLogic name) = is_some (theories_named profile name)
names_theories profile _ = false

-- it sets a logic that is taken
abbrev pub sets_theories : Profile → Command → Bool
sets_theories profile command = names_theories profile (effect_of command)

abbrev pub is_print_success_kind : Kind → Bool
is_print_success_kind (kinds.PrintSuccess on) = true
is_print_success_kind _ = false

abbrev pub sets_print_success : Command → Bool
sets_print_success command = is_print_success_kind (kind_of command)

abbrev pub is_global_effect : Effect → Bool
is_global_effect (SetsGlobal on) = true
is_global_effect _ = false

-- it sets whether declarations are global
abbrev pub sets_global : Command → Bool
sets_global command = is_global_effect (effect_of command)

-- how many levels a command adds, and how many it removes
abbrev pub levels_pushed : Effect → ℕ
levels_pushed (Pushes levels) = levels
levels_pushed _ = 0

abbrev pub pushed_by : Command → ℕ
pushed_by command = levels_pushed (effect_of command)

abbrev pub levels_popped : Effect → ℕ
levels_popped (Pops levels) = levels
levels_popped _ = 0

abbrev pub popped_by : Command → ℕ
popped_by command = levels_popped (effect_of command)

-- how many levels commands add, and how many they remove
abbrev pub pushed : List Numbered → ℕ
pushed [] = 0
pushed (c ∷ commands) = pushed_by c.command + pushed commands

abbrev pub popped : List Numbered → ℕ
popped [] = 0
popped (c ∷ commands) = popped_by c.command + popped commands
