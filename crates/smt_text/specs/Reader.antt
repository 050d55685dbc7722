-- What a reader's value says of the text that it was fed and the trees that it handed out. These are this
-- project's rules.
use Rattle.std.specs.Prelude.{◌≡◌, ◌⊎◌, ℕ, List, ◌+◌, length, Bool, true, false, Option, Some, None, option_map}
use Rattle.smt_text.specs.Reading.{Reads}
use Rattle.smt_text.specs.Internal.LexerStates.{start}
use Rattle.smt_text.specs.Internal.ReaderState.{AreWhole, GoesOnFrom, IsWholeAt, flaw_found, trees_in}
use Rattle.smt_trees.specs.Sexp.{Sexps, Nil, Cons, append}
use Rattle.smt_trees.specs.Owned.{sexp_of, sexps_of}
use Rattle.smt_faults.specs.declared.text_fault.TextFault.{TextFault}
use Rattle.smt_faults.specs.declared.text_flaw.TextFlaw.{TextFlaw}
use Rattle.smt_faults.specs.declared.failure.Failure.TheVariants as failures
use Rattle.smt_faults.specs.Faults.{flaw_in, text_failure}
use Rattle.smt_text.specs.declared.reader.Next.{Next}
use Rattle.smt_text.specs.declared.reader.Next.TheVariants.{Tree, Wait, End, Fault}
use Rattle.smt_text.specs.declared.reader.Reader.{Reader}

-- the end of the text was told
abbrev pub is_finished : Reader → Bool
is_finished reader = reader.finished

abbrev pub bytes_fed : Reader → ℕ
bytes_fed reader = reader.fed

-- how deep lists may nest, a list at the top being at depth 1
abbrev pub depth_limit : Reader → ℕ
depth_limit reader = reader.max_depth

-- what has failed so far, as a caller is told it
abbrev pub fault_of : Reader → Option TextFault
fault_of reader = option_map text_failure reader.failure

-- the flaw of the text that was found so far
abbrev pub flaw_of : Reader → Option TextFlaw
flaw_of reader = flaw_found reader.failure

-- the trees that are complete and were not handed out
abbrev pub trees_ready : Reader → Sexps
trees_ready reader = sexps_of (trees_in reader.builder.ready.items)

abbrev pub trees_waiting : Reader → ℕ
trees_waiting reader = length reader.builder.ready.items

-- these trees and those that are ready, with the fault, are what is read of these bytes; and the reader goes
-- on from what they leave
abbrev pub Keeps : Bool → Reader → List ℕ → Sexps → Type 0
Keeps ended reader fed taken =
    Reads (depth_limit reader) ended fed (append taken (trees_ready reader)) (flaw_of reader)
    × GoesOnFrom ended reader fed taken

-- the reader's value fits this history: these bytes were fed, and these trees were handed out
abbrev pub StandsFor : Reader → List ℕ → Sexps → Type 0
StandsFor reader fed taken =
    (bytes_fed reader ≡ length fed)
    × ((reader.failure ≡ Some failures.Memory) ⊎ Keeps (is_finished reader) reader fed taken)

-- how many bytes the text has up to the end of the last tree that was handed out
abbrev pub end_of_trees : Reader → ℕ
end_of_trees reader = reader.tree_end

-- up to the end of the last of the trees that were handed out, and of each one that is ready, the bytes fed are
-- read to the trees up to there. Want of memory says nothing of those that are ready
unfoldable pub KeepsEnds : Reader → List ℕ → Sexps → Type 0
KeepsEnds reader fed taken =
    IsWholeAt (depth_limit reader) start fed (end_of_trees reader) taken
    × ((reader.failure ≡ Some failures.Memory)
    ⊎ AreWhole (depth_limit reader) fed taken reader.builder.ready.items)

-- the trees that were handed out, after this answer
abbrev pub with_answer : Sexps → Next → Sexps
with_answer taken (Tree t) = append taken (Cons (sexp_of t) Nil)
with_answer taken Wait = taken
with_answer taken End = taken
with_answer taken (Fault f) = taken

-- the answer is right after these bytes and these trees, where lists nest no deeper than this. Want of memory
-- says nothing of the text
abbrev pub Answers : ℕ → Bool → List ℕ → Sexps → Next → Type 0
Answers max_depth ended fed taken (Tree t) =
    (later : Sexps) × (flaw : Option TextFlaw)
    × Reads max_depth ended fed (append taken (Cons (sexp_of t) later)) flaw
Answers max_depth ended fed taken Wait = (ended ≡ false) × Reads max_depth false fed taken None
Answers max_depth ended fed taken End = (ended ≡ true) × Reads max_depth true fed taken None
Answers max_depth ended fed taken (Fault fault) =
    (flaw : TextFlaw) → flaw_in fault ≡ Some flaw → Reads max_depth ended fed taken (Some flaw)

-- how many trees wait after this answer
abbrev pub FewerWait : ℕ → ℕ → Next → Type 0
FewerWait before now (Tree t) = before ≡ now + 1
FewerWait before now Wait = now ≡ before
FewerWait before now End = now ≡ before
FewerWait before now (Fault f) = now ≡ before

-- the last tree that was handed out is the same after an answer that is none
abbrev pub EndStays : ℕ → ℕ → Next → Type 0
EndStays before now (Tree t) = Unit {0}
EndStays before now Wait = now ≡ before
EndStays before now End = now ≡ before
EndStays before now (Fault f) = now ≡ before

-- a fault that is answered is the one that was found
abbrev pub IsFound : Option TextFault → Next → Type 0
IsFound found (Fault f) = found ≡ Some f
IsFound found (Tree t) = Unit {0}
IsFound found Wait = Unit {0}
IsFound found End = Unit {0}
