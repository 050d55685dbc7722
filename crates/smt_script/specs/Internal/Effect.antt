-- What a command did to a stack, before it was noted whether a logic may be set, whether `success` is
-- printed, and that it was applied.
use Rattle.std.specs.Prelude.{◌≡◌, ℕ, List, [], ◌∷◌, ◌++◌, ◌||◌, None, Some, length}
use Rattle.std.specs.Prelude.{if◌then◌else◌}
use Rattle.std.specs.Prelude.{slice_get, take, ◌<◌}
use Rattle.smt_nodes.specs.Node.{Row}
use Rattle.smt_trees.specs.Sexp.{Sexp}
use Rattle.smt_theory.specs.declared.theories.Theories.{Theories}
use Rattle.smt_terms.specs.Contents.{Contents, Extends, IsBelow, IsWithin, contents_of, first_of, needed_of}
use Rattle.smt_terms.specs.Library as library
use Rattle.smt_terms.specs.Library.{Holds, IsTermOf, terms_of, transient_of}
use Rattle.smt_terms.specs.Signature.{Signature, no_names}
use Rattle.smt_terms.specs.declared.library.marks.Mark.{Mark}
use Rattle.smt_script.specs.Command.{Assumes, Command, Effect, Nothing, Removing, SetsGlobal}
use Rattle.smt_script.specs.Stack.{Numbered, flaw_of_effect, is_exit, is_late_after, is_set_after, trees_of}
use Rattle.smt_script.specs.Stack.{ends_assumptions, global_after, print_success_after}
use Rattle.smt_script.specs.StackView.{AreNamesAlike, AreTerms, HasInForce, contents_left}
use Rattle.smt_script.specs.StackView.{profile_of, start_of}
use Rattle.smt_faults.specs.declared.command_fault.CommandFault.{CommandFault}
use Rattle.smt_faults.specs.Outcome.{TellsCommand}
use Rattle.smt_script.specs.declared.stack.LogicState.{LogicState}
use Rattle.smt_script.specs.declared.stack.levels.Level.{Level}
use Rattle.smt_script.specs.declared.stack.Stack.{Stack}

-- what is noted of the logic, once a command took effect
abbrev pub logic_after : LogicState → Command → LogicState
logic_after logic command =
    record { set = is_set_after logic.set command; late = is_late_after logic.late command }

-- what a mark counts, and each term, is the same in longer contents
pub record ContentsAreKept : Type 0 where
  pub first : (mark : Mark) (c d : Contents) → IsWithin mark c → Extends c d
      → first_of mark d ≡ first_of mark c
  pub within : (mark : Mark) (c d : Contents) → IsWithin mark c → Extends c d → IsWithin mark d
  pub terms : (c d : Contents) (i : ℕ) (t : Sexp) → Extends c d → IsTermOf c i t → IsTermOf d i t

-- the number of a term is that of a node
abbrev pub TermsHaveNodes : Type 0
TermsHaveNodes = (c : Contents) (i : ℕ) (t : Sexp) → IsTermOf c i t → i < length c.rows

-- contents stand for the same, and terms up to a number too, by the nodes that are needed
pub record NeededIsEnough : Type 0 where
  pub names : (count : ℕ) (c : Contents) (s : Signature) → Holds c s → Holds (needed_of count c) s
  pub terms : (count : ℕ) (c : Contents) (i : ℕ) (t : Sexp) → i < count → IsTermOf c i t
      → IsTermOf (needed_of count c) i t

-- the stack once this is noted
abbrev pub with_notes : Command → Stack → Stack
with_notes command stack = record stack {
  logic = logic_after stack.logic command;
  global = global_after stack.global command;
  print_success = print_success_after stack.start.print_success stack.print_success command;
  exited = stack.exited || is_exit command;
}

-- command n took effect, but for that note
pub record HasEffect (old new : Stack) (n : ℕ) (command : Command) : Type 0 where
  pub faultless : (commands : List Numbered) → HasInForce old commands
      → flaw_of_effect (profile_of old) commands n command ≡ None
  pub stands : (commands : List Numbered) → HasInForce old commands → AreNamesAlike (profile_of old) commands
      → HasInForce (with_notes command new) (commands ++ record { number = n; command = command } ∷ [])
  pub start : start_of new ≡ start_of old

-- it was refused
abbrev pub IsRefused : Stack → ℕ → Command → CommandFault → Type 0
IsRefused old n command fault =
    (commands : List Numbered) → HasInForce old commands
    → TellsCommand (flaw_of_effect (profile_of old) commands n command) fault

-- what is noted of the commands is the same
pub record HasNotesOf (old new : Stack) : Type 0 where
  pub logic : new.logic ≡ old.logic
  pub global : new.global ≡ old.global
  pub print_success : new.print_success ≡ old.print_success
  pub start : new.start ≡ old.start
  pub exited : new.exited ≡ old.exited
  pub last : new.last ≡ old.last

-- nothing changed but that the library may hold more
pub record HasMore (old new : Stack) : Type 0 where
  pub library : Extends (contents_of old.library) (contents_of new.library)
  pub transient : transient_of new.library ≡ transient_of old.library
  pub assertions : new.assertions.items ≡ old.assertions.items
  pub assumptions : new.assumptions.items ≡ old.assumptions.items
  pub levels : new.levels ≡ old.levels
  pub notes : HasNotesOf old new

-- nothing changed
pub record IsUnchanged (old new : Stack) : Type 0 where
  pub library : contents_of new.library ≡ contents_of old.library
  pub transient : transient_of new.library ≡ transient_of old.library
  pub assertions : new.assertions.items ≡ old.assertions.items
  pub assumptions : new.assumptions.items ≡ old.assumptions.items
  pub levels : new.levels ≡ old.levels
  pub notes : HasNotesOf old new

-- the assumptions of the stack after an effect, where it ends none: the literals that it assumes, or those
-- of before
abbrev pub HasAssumed : (old new : Stack) → Effect → Type 0
HasAssumed old new (Assumes literals) =
    (s : Signature) → library.StandsFor old.library s
    → AreTerms (terms_of new.library) new.assumptions.items (trees_of literals)
HasAssumed old new (Removing Nothing) =
    (ts : List Sexp) → AreTerms (terms_of old.library) old.assumptions.items ts
    → AreTerms (terms_of new.library) new.assumptions.items ts
HasAssumed old new (SetsGlobal on) =
    (ts : List Sexp) → AreTerms (terms_of old.library) old.assumptions.items ts
    → AreTerms (terms_of new.library) new.assumptions.items ts
HasAssumed old new _ = Unit {0}

abbrev pub assumptions_left : Command → List ℕ → List ℕ
assumptions_left command assumptions = if ends_assumptions command then [] else assumptions

abbrev pub transient_left : Command → List Row → List Row
transient_left command rows = if ends_assumptions command then [] else rows

-- the stack keeps its assumptions, with their nodes, unless the command ends them, and all else
pub record IsEnded (command : Command) (old new : Stack) : Type 0 where
  pub assumptions : new.assumptions.items ≡ assumptions_left command old.assumptions.items
  pub library : contents_of new.library ≡ contents_of old.library
  pub transient : transient_of new.library ≡ transient_left command (transient_of old.library)
  pub assertions : new.assertions ≡ old.assertions
  pub levels : new.levels ≡ old.levels
  pub notes : HasNotesOf old new

-- the level that notes all that there is
pub record NotesAll (stack : Stack) (level : Level) : Type 0 where
  pub all : first_of level.mark (contents_of stack.library) ≡ contents_of stack.library
  pub within : IsWithin level.mark (contents_of stack.library)
  pub last : (mark : Mark) → IsWithin mark (contents_of stack.library) → IsBelow mark level.mark
  pub assertions : level.assertions ≡ length stack.assertions.items

-- the stack that is left of another at one of its levels
pub record IsCut (old new : Stack) (depth : ℕ) : Type 0 where
  pub level : Level
  pub at : slice_get old.levels depth ≡ Some level
  pub library : contents_of new.library ≡ contents_left old.global level.mark (contents_of old.library)
  pub assertions : new.assertions.items ≡ take level.assertions old.assertions.items
  pub levels : new.levels ≡ take depth old.levels

-- the first so many nodes and those that definitions need are left, if declarations are global; all else is as
-- before
pub record NeedsLeft (old new : Stack) (count : ℕ) : Type 0 where
  pub library : contents_of new.library
      ≡ (if old.global then needed_of count (contents_of old.library) else contents_of old.library)
  pub assertions : new.assertions ≡ old.assertions
  pub assumptions : new.assumptions ≡ old.assumptions
  pub levels : new.levels ≡ old.levels
  pub notes : HasNotesOf old new

-- the names are those of before, if declarations are global, or none
abbrev pub HasNamesLeft : (old new : Stack) → Type 0
HasNamesLeft old new =
    (s : Signature) → library.StandsFor old.library s
    → library.StandsFor new.library (if old.global then s else no_names s.theories)

-- so they are, and all else is as before
pub record NamesAreDropped (old new : Stack) : Type 0 where
  pub library : HasNamesLeft old new
  pub assertions : new.assertions ≡ old.assertions
  pub levels : new.levels ≡ old.levels
  pub assumptions : new.assumptions ≡ old.assumptions
  pub alloc : new.alloc ≡ old.alloc
  pub notes : HasNotesOf old new

-- so they are, and no assertion is in force, and no level
pub record HasNoAssertions (old new : Stack) : Type 0 where
  pub library : HasNamesLeft old new
  pub assertions : new.assertions.items ≡ []
  pub levels : new.levels ≡ []

-- nothing is in force, in these theories
pub record IsEmpty (new : Stack) (theories : Theories) : Type 0 where
  pub library : library.StandsFor new.library (no_names theories)
  pub assertions : new.assertions.items ≡ []
  pub levels : new.levels ≡ []
