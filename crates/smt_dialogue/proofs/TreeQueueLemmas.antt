-- What is left of a text so far, whose trees are looked at and taken.
use Rattle.std.proofs.Common.{◌≡◌, ℕ, Bool, true, false, ◌||◌, List, [], Option, Some, None, is_some, refl, ap}
use Rattle.std.proofs.Common.{sym, ◌∙◌, subst}
use Rattle.std.proofs.lemmas.Bool.{false≢true}
use Rattle.std.specs.Prelude.{MatchOption}
use Rattle.smt_text.specs.Reader as readers
use Rattle.smt_text.specs.Reader.{depth_limit, is_finished}
use Rattle.smt_text.specs.Reading.{Reads}
use Rattle.smt_trees.specs.Sexp.{Sexps, Nil, Cons, append}
use Rattle.smt_trees.specs.Owned.{sexp_of}
use Rattle.smt_trees.specs.declared.owned.OwnedTree.{OwnedTree}
use Rattle.smt_faults.specs.declared.text_flaw.TextFlaw.{TextFlaw}
use Rattle.smt_dialogue.proofs.ReportUnique.{OneReading}
use Rattle.smt_dialogue.proofs.TreesLemmas.{append_assoc, append_nil, same_behind}
use Rattle.smt_dialogue.specs.FirstFault.{TextSoFar, is_over}
use Rattle.smt_dialogue.specs.Report.{IsRead}
use Rattle.smt_dialogue.specs.Internal.TreeQueueView.{HasQueue, next_trees}
use Rattle.smt_dialogue.specs.declared.tree_queue.TreeQueue.{TreeQueue}

pub front_new : (f : TreeQueue) (max_depth : ℕ) (text : TextSoFar) → f.next ≡ None
    → readers.StandsFor f.reader [] Nil → is_finished f.reader ≡ false → depth_limit f.reader ≡ max_depth
    → IsRead max_depth false [] text → HasQueue f [] text text.trees
front_new f max_depth text none stands open' limit read = record {
  taken = Nil;
  stands = subst (λ o. readers.StandsFor f.reader [] (next_trees o)) (sym none) stands;
  told = read.told_so ∙ sym open';
  reads = subst (λ m. Reads m text.told [] text.trees text.fault) (sym limit)
      (subst (λ b. Reads max_depth b [] text.trees text.fault) (sym read.told_so) read.reads);
  trees = refl;
  behind = text.trees;
  begins = ap (λ o. append (next_trees o) text.trees) (sym none);
}

-- the tree that stood ready was taken
pub front_taken : (f g : TreeQueue) (t : OwnedTree) (bytes : List ℕ) (text : TextSoFar) (later : Sexps)
    → g.reader ≡ f.reader → f.next ≡ Some t → g.next ≡ None
    → HasQueue f bytes text (Cons (sexp_of t) later) → HasQueue g bytes text later
front_taken f g t bytes text later same some none h =
    let one = Cons (sexp_of t) Nil in
    let taken = append h.taken one in
    let here : readers.StandsFor g.reader bytes taken =
    subst (λ r. readers.StandsFor r bytes taken) (sym same)
    (subst (λ o. readers.StandsFor f.reader bytes (append h.taken (next_trees o))) some h.stands) in
    record {
      taken = taken;
      stands = subst (λ ts. readers.StandsFor g.reader bytes ts)
          (sym (append_nil taken) ∙ ap (λ o. append taken (next_trees o)) (sym none)) here;
      told = h.told ∙ ap is_finished (sym same);
      reads = subst (λ r. Reads (depth_limit r) text.told bytes text.trees text.fault) (sym same) h.reads;
      trees = h.trees ∙ sym (append_assoc h.taken one later);
      behind = later;
      begins = ap (λ o. append (next_trees o) later) (sym none);
    }

-- what the reader stands for, where no tree was looked at
pub stands_open : (f : TreeQueue) (bytes : List ℕ) (text : TextSoFar) (rest : Sexps) → f.next ≡ None
    → (h : HasQueue f bytes text rest) → readers.StandsFor f.reader bytes h.taken
stands_open f bytes text rest none h =
    subst (λ ts. readers.StandsFor f.reader bytes ts) (append_nil h.taken)
    (subst (λ o. readers.StandsFor f.reader bytes (append h.taken (next_trees o))) none h.stands)

-- what is read of the same bytes is the text
read_as : OneReading → (f : TreeQueue) (bytes : List ℕ) (text : TextSoFar) (rest xs : Sexps) (o : Option TextFlaw)
    → HasQueue f bytes text rest → Reads (depth_limit f.reader) (is_finished f.reader) bytes xs o
    → (text.trees ≡ xs) × (text.fault ≡ o)
read_as one f bytes text rest xs o h read =
    one (depth_limit f.reader) text.told bytes text.trees xs text.fault o h.reads
    (subst (λ b. Reads (depth_limit f.reader) b bytes xs o) (sym h.told) read)

-- the reader has a tree
pub looked_tree : OneReading → (f g : TreeQueue) (t : OwnedTree) (bytes : List ℕ) (text : TextSoFar) (rest : Sexps)
    → f.next ≡ None → g.next ≡ Some t → is_finished g.reader ≡ is_finished f.reader
    → depth_limit g.reader ≡ depth_limit f.reader
    → ((fed : List ℕ) (taken : Sexps) → readers.StandsFor f.reader fed taken
    → (later : Sexps) × (flaw : Option TextFlaw)
    × Reads (depth_limit f.reader) (is_finished f.reader) fed (append taken (Cons (sexp_of t) later)) flaw)
    → ((fed : List ℕ) (taken : Sexps) → readers.StandsFor f.reader fed taken
    → readers.StandsFor g.reader fed (append taken (Cons (sexp_of t) Nil)))
    → HasQueue f bytes text rest
    → HasQueue g bytes text rest × ((later : Sexps) × (rest ≡ Cons (sexp_of t) later))
looked_tree one f g t bytes text rest none some finished limit answers stands h =
    let before = stands_open f bytes text rest none h in
    let read = answers bytes h.taken before in
    let same = read_as one f bytes text rest (append h.taken (Cons (sexp_of t) read.0)) read.1 h read.2 in
    let left : rest ≡ Cons (sexp_of t) read.0 = same_behind h.taken (sym h.trees ∙ same.0) in (
      record {
        taken = h.taken;
        stands = subst (λ o. readers.StandsFor g.reader bytes (append h.taken (next_trees o))) (sym some)
            (stands bytes h.taken before);
        told = h.told ∙ sym finished;
        reads = subst (λ m. Reads m text.told bytes text.trees text.fault) (sym limit) h.reads;
        trees = h.trees;
        behind = read.0;
        begins = left ∙ ap (λ o. append (next_trees o) read.0) (sym some);
      },
      (read.0, left),
    )

-- the reader has none
pub looked_none : OneReading → (f g : TreeQueue) (bytes : List ℕ) (text : TextSoFar) (rest : Sexps)
    (o : Option TextFlaw) → f.next ≡ None → g.next ≡ None → is_finished g.reader ≡ is_finished f.reader
    → depth_limit g.reader ≡ depth_limit f.reader
    → ((fed : List ℕ) (taken : Sexps) → readers.StandsFor f.reader fed taken
    → Reads (depth_limit f.reader) (is_finished f.reader) fed taken o)
    → ((fed : List ℕ) (taken : Sexps) → readers.StandsFor f.reader fed taken
    → readers.StandsFor g.reader fed taken)
    → HasQueue f bytes text rest
    → HasQueue g bytes text rest × (rest ≡ Nil) × (text.fault ≡ o)
looked_none one f g bytes text rest o none after finished limit answers stands h =
    let before = stands_open f bytes text rest none h in
    let same = read_as one f bytes text rest h.taken o h (answers bytes h.taken before) in
    let left : rest ≡ Nil = same_behind h.taken (sym h.trees ∙ same.0 ∙ sym (append_nil h.taken)) in (
      record {
        taken = h.taken;
        stands = subst (λ ts. readers.StandsFor g.reader bytes ts)
            (sym (append_nil h.taken) ∙ ap (λ n. append h.taken (next_trees n)) (sym after))
            (stands bytes h.taken before);
        told = h.told ∙ sym finished;
        reads = subst (λ m. Reads m text.told bytes text.trees text.fault) (sym limit) h.reads;
        trees = h.trees;
        behind = Nil;
        begins = left ∙ ap (λ n. append (next_trees n) Nil) (sym after);
      },
      left,
      same.1,
    )

-- ---- the ends of a text

pub none_there : (o : Option OwnedTree) → false ≡ is_some o → o ≡ None
none_there None h = refl
none_there (Some t) h = cc

pub open_text : (text : TextSoFar) → text.told ≡ false → text.fault ≡ None → is_over text ≡ false
open_text text told none = ap (λ b. b || is_some text.fault) told ∙ ap is_some none

pub ended_text : (text : TextSoFar) → text.told ≡ true → is_over text ≡ true
ended_text text told = ap (λ b. b || is_some text.fault) told

faulty_by : (told : Bool) (f : TextFlaw) → told || is_some (Some f) ≡ true
faulty_by true f = refl
faulty_by false f = refl

pub faulty_text : (text : TextSoFar) (f : TextFlaw) → text.fault ≡ Some f → is_over text ≡ true
faulty_text text f is = ap (λ o. text.told || is_some o) is ∙ faulty_by text.told f

-- what is read of a text whose end was told, or wasn't
pub reads_at : (max_depth : ℕ) (told ended : Bool) (fed : List ℕ) (xs : Sexps) (o : Option TextFlaw)
    → (ended ≡ told) × Reads max_depth told fed xs o → Reads max_depth ended fed xs o
reads_at max_depth told ended fed xs o h = subst (λ b. Reads max_depth b fed xs o) (sym h.0) h.1

pub take_matches : (f g : TreeQueue) (o : Option OwnedTree) → g.reader ≡ f.reader → o ≡ f.next → g.next ≡ None
    → MatchOption o (f.next ≡ None) (λ tree. (f.next ≡ Some tree)
    × ((bytes : List ℕ) (text : TextSoFar) (later : Sexps)
    → HasQueue f bytes text (Cons (sexp_of tree) later) → HasQueue g bytes text later))
take_matches f g None same is none = sym is
take_matches f g (Some t) same is none =
    (sym is, λ bytes text later h. front_taken f g t bytes text later same (sym is) none h)

-- the tree that was looked at comes next
pub stands_ready : (f : TreeQueue) (bytes : List ℕ) (text : TextSoFar) (rest : Sexps) → true ≡ is_some f.next
    → HasQueue f bytes text rest
    → (tree : OwnedTree) × (later : Sexps) × (f.next ≡ Some tree) × (rest ≡ Cons (sexp_of tree) later)
stands_ready f bytes text rest some h = by f.next refl
  where
    by : (o : Option OwnedTree) → f.next ≡ o
        → (tree : OwnedTree) × (later : Sexps) × (f.next ≡ Some tree) × (rest ≡ Cons (sexp_of tree) later)
    by None is = absurd (false≢true (sym (some ∙ ap is_some is)))
    by (Some tree) is =
        (tree, h.behind, is, h.begins ∙ ap (λ (o : Option OwnedTree). append (next_trees o) h.behind) is)
