-- What is left of a text so far, whose trees are taken as its pieces come.
use Rattle.std.specs.Prelude.{◌≡◌, ℕ, Bool, List, Option, Some, None, false, true}
use Rattle.smt_text.specs.Reader as readers
use Rattle.smt_text.specs.Reader.{depth_limit, is_finished}
use Rattle.smt_text.specs.Reading.{Reads}
use Rattle.smt_trees.specs.Sexp.{Sexps, Nil, Cons, append}
use Rattle.smt_trees.specs.Owned.{sexp_of}
use Rattle.smt_trees.specs.declared.owned.OwnedTree.{OwnedTree}
use Rattle.smt_dialogue.specs.FirstFault.{TextSoFar, is_over}
use Rattle.smt_dialogue.specs.Report.{IsRead}
use Rattle.smt_dialogue.specs.SoFar.{IsGrown}
use Rattle.smt_dialogue.specs.declared.tree_queue.Ahead.{Ahead}
use Rattle.smt_dialogue.specs.declared.tree_queue.Ahead.TheVariants as comes
use Rattle.smt_dialogue.specs.declared.tree_queue.TreeQueue.{TreeQueue}

abbrev pub next_trees : Option OwnedTree → Sexps
next_trees None = Nil
next_trees (Some tree) = Cons (sexp_of tree) Nil

-- these bytes were fed, and of the trees of this text, which is read of them, these are left: the first is the
-- one that was looked at
pub record HasQueue (front : TreeQueue) (bytes : List ℕ) (text : TextSoFar) (rest : Sexps) : Type 0 where
  pub taken : Sexps
  pub stands : readers.StandsFor front.reader bytes (append taken (next_trees front.next))
  pub told : text.told ≡ is_finished front.reader
  pub reads : Reads (depth_limit front.reader) text.told bytes text.trees text.fault
  pub trees : text.trees ≡ append taken rest
  pub behind : Sexps
  pub begins : rest ≡ append (next_trees front.next) behind

-- it is the same text with more of it
abbrev pub GoesOnFrom : (f g : TreeQueue) → (bytes : List ℕ) → (told : Bool) → (more : List ℕ) → Type 0
GoesOnFrom f g bytes told more =
    (text grown : TextSoFar) (rest : Sexps) → HasQueue f bytes text rest
    → IsRead (depth_limit f.reader) told more grown
    → (s : IsGrown text grown) × HasQueue g more grown (append rest s.later)

-- what comes next, where these trees are left: the first of them, which was looked at, or none
abbrev pub IsAhead : Ahead → Option OwnedTree → TextSoFar → Sexps → Type 0
IsAhead comes.Tree next text rest =
    (tree : OwnedTree) × (later : Sexps) × (next ≡ Some tree) × (rest ≡ Cons (sexp_of tree) later)
IsAhead comes.Wait next text rest = (rest ≡ Nil) × (is_over text ≡ false)
IsAhead (comes.End fault) next text rest = (rest ≡ Nil) × (text.fault ≡ fault) × (is_over text ≡ true)

abbrev pub is_wait : Ahead → Bool
is_wait comes.Wait = true
is_wait _ = false
