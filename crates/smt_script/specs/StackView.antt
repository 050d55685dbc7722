-- What a contract sees of a stack, and the commands that it stands for.
use Rattle.std.specs.Prelude.{◌≡◌, ◌≤◌, ◌<◌, ◌-◌, ◌⊎◌, ℕ, zero, suc, List, [], ◌∷◌, Bool, true, false, Some}
use Rattle.std.specs.Prelude.{length, nat_le, if◌then◌else◌, slice_get, take}
use Rattle.std.specs.List.{All, filter}
use Rattle.smt_trees.specs.Sexp.{Sexp, weight}
use Rattle.smt_theory.specs.declared.profile.Profile.{Profile}
use Rattle.smt_terms.specs.Contents.{Contents, Extends, IsBelow, IsWithin, contents_of, first_of, needed_of}
use Rattle.smt_terms.specs.Denotes.{Denotes, Table}
use Rattle.smt_terms.specs.Library as library
use Rattle.smt_terms.specs.Library.{Holds, IsTermOf, terms_of}
use Rattle.smt_terms.specs.Signature.{Signature}
use Rattle.smt_terms.specs.declared.library.Library.{Library}
use Rattle.smt_terms.specs.declared.library.marks.Mark.{Mark}
use Rattle.smt_script.specs.Command.{AllButOptions, Assumes, Brings, Effect, Everything, Nothing, Pops, Pushes}
use Rattle.smt_script.specs.Command.{Removing, SetsGlobal, SetsLogic}
use Rattle.smt_script.specs.Stack as spec
use Rattle.smt_script.specs.Stack.{Brought, Numbered, assertions_in_force, assertions_of, assumptions_in_force}
use Rattle.smt_script.specs.Stack.{depth_in_force, global_in_force}
use Rattle.smt_script.specs.Stack.{has_exited, history, in_force, is_logic_set, is_too_late, names_stand}
use Rattle.smt_script.specs.Stack.{assertions_stand, print_success_in_force, signature_in_force, signature_of}
use Rattle.smt_script.specs.Stack.{theories_in_force}
use Rattle.smt_script.specs.declared.stack.Assertion.{Assertion}
use Rattle.smt_script.specs.declared.stack.LogicState.{LogicState}
use Rattle.smt_script.specs.declared.stack.Start.{Start}
use Rattle.smt_script.specs.declared.stack.levels.Level.{Level}
use Rattle.smt_script.specs.declared.stack.Stack.{Stack}

-- its library, which has the names in force and the terms of the assertions
abbrev pub library_of : Stack → Library
library_of stack = stack.library

-- the number of the last command that was applied
abbrev pub last_of : Stack → ℕ
last_of stack = stack.last

-- what holds from the start on
abbrev pub start_of : Stack → Start
start_of stack = stack.start

abbrev pub profile_of : Stack → Profile
profile_of stack = stack.start.profile

-- one by one they are of the same command, the second's term stands under the first's number, and has the first's
-- size
abbrev pub AreAssertions : Contents → List Assertion → List spec.Assertion → Type 0
AreAssertions terms [] [] = Unit {0}
AreAssertions terms (a ∷ as') (b ∷ bs) =
    (a.command ≡ b.command) × IsTermOf terms a.term b.term × (a.size ≡ weight b.term) × AreAssertions terms as' bs
AreAssertions terms _ _ = ⊥

-- what was brought at this level or an outer one
abbrev pub to_level : ℕ → List Brought → List Brought
to_level k brought = filter (λ b. nat_le b.level k) brought

-- the level with which names go: global ones stay while there is any
abbrev pub names_level : Brought → ℕ
names_level b = if b.global then 0 else b.level

-- what was brought whose names go with this level or an outer one
abbrev pub names_to_level : ℕ → List Brought → List Brought
names_to_level k brought = filter (λ b. nat_le (names_level b) k) brought

-- the names in force that stay if so many levels do
abbrev pub signature_to_level : Profile → ℕ → List Numbered → Signature
signature_to_level profile k commands =
    signature_of (theories_in_force profile commands)
    (names_to_level k (in_force names_stand (history profile commands)))

-- the assertions in force that stay if so many levels do
abbrev pub assertions_to_level : Profile → ℕ → List Numbered → List spec.Assertion
assertions_to_level profile k commands =
    assertions_of (to_level k (in_force assertions_stand (history profile commands)))

-- what a level leaves of terms and names: the first so many as it notes, or all, if declarations are global
abbrev pub contents_left : (global : Bool) → Mark → Contents → Contents
contents_left global mark contents = if global then contents else first_of mark contents

-- and of the nodes those that it notes and those that definitions need, if declarations are global
abbrev pub contents_needed : (global : Bool) → Mark → Contents → Contents
contents_needed global mark contents =
    if global then needed_of mark.nodes contents else first_of mark contents

-- what a level leaves are these names, and the first so many of the assertions as it notes are these, whose
-- terms are among the nodes that it notes
pub record IsLevel (global : Bool) (contents : Contents) (assertions : List Assertion) (level : Level)
    (names : Signature) (asserted : List spec.Assertion) : Type 0 where
  pub within : IsWithin level.mark contents
  pub count : level.assertions ≤ length assertions
  pub holds : Holds (contents_left global level.mark contents) names
  pub assertions_are :
      AreAssertions (contents_left global level.mark contents) (take level.assertions assertions) asserted
  pub terms : All (λ a. a.term < level.mark.nodes) (take level.assertions assertions)

-- what a library holds behind a `pop` that leaves so many levels: what the outermost level that goes noted; if
-- declarations are global, all but the nodes that came since and that no definition needs
pub record IsPopped (old : Stack) (now : Contents) (depth : ℕ) : Type 0 where
  pub level : Level
  pub at : slice_get old.levels depth ≡ Some level
  pub library : now ≡ contents_needed old.global level.mark (contents_of (library_of old))

-- the one where declarations are global, the other where they are not
abbrev pub WhenGlobal : Bool → (everywhere inside : Type 0) → Type 0
WhenGlobal true everywhere inside = everywhere
WhenGlobal false everywhere inside = inside

-- what a library holds behind a command of this effect: the same where it brings and removes nothing, and more
-- where it brings something; what a removal of assertions leaves has the nodes that definitions need
abbrev pub HoldsAfter : (old : Stack) → Effect → (now : Contents) → Type 0
HoldsAfter old (SetsLogic name) now = now.rows ≡ []
HoldsAfter old (Brings item) now = Extends (contents_of (library_of old)) now
HoldsAfter old (Pushes levels) now = now ≡ contents_of (library_of old)
HoldsAfter old (Pops zero) now = now ≡ contents_of (library_of old)
HoldsAfter old (Pops (suc n)) now = IsPopped old now (length old.levels - suc n)
HoldsAfter old (Removing Nothing) now = now ≡ contents_of (library_of old)
HoldsAfter old (Removing AllButOptions) now =
    WhenGlobal old.global (now ≡ needed_of 0 (contents_of (library_of old))) (now.rows ≡ [])
HoldsAfter old (Removing Everything) now = now.rows ≡ []
HoldsAfter old (SetsGlobal on) now = now ≡ contents_of (library_of old)
HoldsAfter old (Assumes literals) now = now ≡ contents_of (library_of old)

-- an inner level notes as much as an outer one, or more
pub record IsOuter (level inner : Level) : Type 0 where
  pub mark : IsBelow level.mark inner.mark
  pub assertions : level.assertions ≤ inner.assertions

-- what is noted of the logic behind commands
abbrev pub logic_state : List Numbered → LogicState
logic_state commands = record { set = is_logic_set commands; late = is_too_late commands }

-- one by one the terms stand under these numbers
abbrev pub AreTerms : Table → List ℕ → List Sexp → Type 0
AreTerms table [] [] = Unit {0}
AreTerms table (i ∷ is) (t ∷ ts) = Denotes table [] 0 0 i t × AreTerms table is ts
AreTerms table _ _ = ⊥

-- the stack holds exactly what is in force after these commands; and each of its levels notes what of it came
-- outside that level
pub record HasInForce (stack : Stack) (commands : List Numbered) : Type 0 where
  pub library : library.StandsFor (library_of stack) (signature_in_force (profile_of stack) commands)
  pub assertions : AreAssertions (contents_of (library_of stack)) stack.assertions.items
      (assertions_in_force (profile_of stack) commands)
  pub depth : length stack.levels ≡ depth_in_force commands
  pub levels : (k : ℕ) (level : Level) → slice_get stack.levels k ≡ Some level
      → IsLevel stack.global (contents_of (library_of stack)) stack.assertions.items level
      (signature_to_level (profile_of stack) k commands) (assertions_to_level (profile_of stack) k commands)
  pub ordered : (j k : ℕ) (level inner : Level) → j ≤ k → slice_get stack.levels j ≡ Some level
      → slice_get stack.levels k ≡ Some inner → IsOuter level inner
  pub logic : stack.logic ≡ logic_state commands
  pub global : stack.global ≡ global_in_force commands
  pub print_success : stack.print_success ≡ print_success_in_force stack.start.print_success commands
  pub exited : stack.exited ≡ has_exited commands

-- what was brought has no names and no abbreviations, or was brought where declarations were as global as
-- they are now
abbrev pub IsAs : Bool → Brought → Type 0
IsAs global b = (b.global ≡ global) ⊎ ((b.entries ≡ []) × (b.abbreviations ≡ []))

abbrev pub AreAs : Bool → List Brought → Type 0
AreAs global [] = Unit {0}
AreAs global (b ∷ brought) = IsAs global b × AreAs global brought

-- global names and others never stand together
abbrev pub AreNamesAlike : Profile → List Numbered → Type 0
AreNamesAlike profile commands =
    AreAs (global_in_force commands) (in_force names_stand (history profile commands))

-- so it does, and it holds the assumptions of the last check, if nothing in force has changed since
pub record StandsFor (stack : Stack) (commands : List Numbered) : Type 0 where
  pub force : HasInForce stack commands
  pub alike : AreNamesAlike (profile_of stack) commands
  pub assumptions : AreTerms (terms_of (library_of stack)) stack.assumptions.items
      (assumptions_in_force commands)
