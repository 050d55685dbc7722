-- What a stack of frames means: each frame is the place in the check of a part where the check of a part in it was
-- begun, as the record of a recursive call would keep it.
use Rattle.std.specs.Prelude.{◌≡◌, ◌<◌, ◌≤◌, ◌+◌, ◌*◌, ℕ, List, [], ◌∷◌, ◌++◌, Bool, true, false, ◌||◌, Ok, is_some}
use Rattle.std.specs.Prelude.{length, map, if◌then◌else◌, Option, Some, None}
use Rattle.smt_trees.specs.Places.{LiesIn, size_of}
use Rattle.smt_trees.specs.Sexp.{Sexp, Sexps, Atom, Cons, Items, Nil, Reserved, Symbol}
use Rattle.smt_trees.specs.View.{sexps_of}
use Rattle.smt_trees.specs.declared.reserved.Word.TheVariants.{Bang, Let}
use Rattle.smt_trees.specs.declared.view.Tree.{Tree}
use Rattle.smt_trees.specs.declared.view.Tree.TheVariants as tree
use Rattle.smt_trees.specs.declared.view.Trees.{Trees}
use Rattle.smt_theory.specs.Words.{look_up}
use Rattle.smt_theory.specs.Sort.{Sort}
use Rattle.smt_forms.specs.Bindings.{are_attributes, are_bindings, are_named_trees}
use Rattle.smt_forms.specs.Identifier.{Identifier, applied_in}
use Rattle.smt_forms.specs.Labels.{labels_among, labels_in, labels_in_all, labels_in_bindings}
use Rattle.smt_forms.specs.Variables.{is_among}
use Rattle.smt_faults.specs.Outcome.{Tells}
use Rattle.smt_faults.specs.declared.term_fault.TermFault.{TermFault}
use Rattle.smt_terms.specs.Checking.{bound_in, sort_in, sorts_in}
use Rattle.smt_terms.specs.Internal.Calls.{HasTheSame, IsSortedUnlessOpen, SeesTheSame, has_labels}
use Rattle.smt_terms.specs.Internal.DraftView.{IsPlaced, are_open, are_open_bindings, is_open, placed_from, seen_by}
use Rattle.smt_terms.specs.Internal.DraftView.{sorts_seen}
use Rattle.smt_terms.specs.Internal.LabelsView.{AreGiven, labels_view}
use Rattle.smt_terms.specs.Internal.LibraryView.{names_for, names_of_library}
use Rattle.smt_terms.specs.Internal.NodesView.{GrowsTo, Stands}
use Rattle.smt_terms.specs.Internal.SoFar.{AreGivenOf, BindingsSoFar, IsPlainHead, TermsSoFar, WaitSince, binding}
use Rattle.smt_terms.specs.Internal.SoFar.{sorts_behind, sorts_since, terms_since, waiting}
use Rattle.smt_terms.specs.declared.library.Library.{Library}
use Rattle.smt_terms.specs.declared.library.draft.CheckedTerm.{CheckedTerm}
use Rattle.smt_terms.specs.declared.library.draft.Draft.{Draft}
use Rattle.smt_terms.specs.declared.library.frames.Application.{Application}
use Rattle.smt_terms.specs.declared.library.frames.Binder.{Binder}
use Rattle.smt_terms.specs.declared.library.frames.Body.{Body}
use Rattle.smt_terms.specs.declared.library.frames.Labelled.{Labelled}
use Rattle.smt_terms.specs.declared.library.frames.Frame.{Frame}
use Rattle.smt_terms.specs.declared.library.frames.Frame.TheVariants as frame
use Rattle.smt_terms.specs.declared.library.frames.Next.{Next}
use Rattle.smt_terms.specs.declared.library.frames.Next.TheVariants.{Enter, Checked}
use Rattle.smt_terms.specs.declared.library.frames.Part.{Part}
use Rattle.smt_terms.specs.declared.library.frames.Step.{Step}
use Rattle.smt_terms.specs.declared.library.frames.Step.TheVariants as step

-- a part of the term, with how many annotations are around it, and the draft when its check began
pub record Begun : Type 0 where
  pub term : Sexp
  pub around : ℕ
  pub draft : Draft

abbrev pub begun : Sexp → ℕ → Draft → Begun
begun term around draft = record { term = term; around = around; draft = draft }

-- its first fault
abbrev pub HasFault : Library → Begun → TermFault → Type 0
HasFault library p e =
    Tells (sort_in (names_for library (labels_view p.draft.labels)) (sorts_seen p.draft) p.term) e

-- it is checked
pub record IsDone (library : Library) (inner : Begun) (last : Draft) (c : CheckedTerm) : Type 0 where
  pub sort : sort_in (names_for library (labels_view inner.draft.labels)) (sorts_seen inner.draft) inner.term
      ≡ Ok c.sort
  pub labels : AreGiven (names_of_library library) inner.draft.labels last.labels (labels_in inner.term)
  pub kept : SeesTheSame inner.draft last
  pub waiting : HasTheSame inner.draft last
  pub used : c.is_open ≡ is_open inner.draft inner.term
  pub node : Stands library inner.draft last inner.around inner.term c
  pub longer : GrowsTo inner.draft last

-- what is found of one part is so of another
pub record Leads (library : Library) (p q : Begun) : Type 0 where
  pub done : (last : Draft) (c : CheckedTerm) → IsDone library p last c → IsDone library q last c
  pub fault : (e : TermFault) → HasFault library p e → HasFault library q e

-- ---- places

-- trees of the whole term between two places
pub record Lie (whole : Trees) (from to : ℕ) (trees : Sexps) : Type 0 where
  pub part : Trees
  pub lies : LiesIn whole part to
  pub from_is : from ≡ size_of part + to
  pub are : sexps_of part ≡ trees

-- ---- applications

-- a part is this application of arguments
pub record IsApplication (library : Library) (whole : Trees) (a : Application) (outer : Begun) (args : Sexps)
    : Type 0 where
  pub head : Sexp
  pub identifier : Identifier
  pub lie : Lie whole a.parts a.end (Cons head args)
  pub is : outer.term ≡ Items (Cons head args)
  pub plain : IsPlainHead head
  pub named : applied_in library.sorts.theories.wide head args ≡ Ok identifier
  pub around : outer.around ≡ a.around
  pub start : a.start ≡ waiting outer.draft

-- some arguments are checked, and others are left
pub record ArgumentsSoFar (library : Library) (old new : Draft) (args left : Sexps) (open_so_far : Bool)
    : Type 0 where
  pub answer : sorts_in (names_for library (labels_view old.labels)) (sorts_seen old) args
      ≡ sorts_behind (names_for library (labels_view new.labels)) (sorts_seen old) (sorts_since old new) left
  pub given : AreGivenOf (names_of_library library) old.labels new.labels (labels_in_all args) (labels_in_all left)
  pub kept : SeesTheSame old new
  pub opened : are_open old args ≡ (open_so_far || are_open old left)
  pub waits : WaitSince old new
  pub stand : TermsSoFar library old new args left (terms_since old new) open_so_far

-- the arguments before these are checked
pub record IsCalled (library : Library) (whole : Trees) (a : Application) (left : Trees) (open_so_far : Bool)
    (outer : Begun) (draft : Draft) : Type 0 where
  pub args : Sexps
  pub application : IsApplication library whole a outer args
  pub lies : LiesIn whole left a.end
  pub so_far : ArgumentsSoFar library outer.draft draft args (sexps_of left) open_so_far

-- an application waits for an argument
pub record ArgumentWaits (library : Library) (whole : Trees) (a : Application) (left : ℕ) (open_so_far : Bool)
    (outer inner : Begun) : Type 0 where
  pub args : Sexps
  pub rest : Sexps
  pub application : IsApplication library whole a outer args
  pub lie : Lie whole left a.end rest
  pub none_around : inner.around ≡ 0
  pub so_far : ArgumentsSoFar library outer.draft inner.draft args (Cons inner.term rest) open_so_far

-- ---- lets

-- how many bindings have names that no earlier one has, up to the first that has not
abbrev pub distinct_from : List (List ℕ) → Sexps → ℕ
distinct_from earlier (Cons (Items (Cons (Atom Symbol x) (Cons term Nil))) rest) =
    if is_among earlier x then 0 else 1 + distinct_from (earlier ++ x ∷ []) rest
distinct_from earlier _ = 0

-- the names of bindings with these sorts
abbrev pub variables_of : Sexps → List Sort → List (List ℕ × Sort)
variables_of (Cons (Items (Cons (Atom Symbol x) tail)) rest) (sort ∷ sorts) = (x, sort) ∷ variables_of rest sorts
variables_of _ _ = []

-- the name of the first binding
abbrev pub first_name : Sexps → Option (List ℕ)
first_name (Cons (Items (Cons (Atom Symbol x) tail)) rest) = Some x
first_name _ = None

-- a part is this `let` of bindings and a body
pub record IsLet (whole : Trees) (b : Binder) (outer : Begun) (bindings : Sexps) (body : Sexp) : Type 0 where
  pub bindings_lie : Lie whole b.bindings b.body bindings
  pub body_lies : Lie whole b.body b.end (Cons body Nil)
  pub is : outer.term ≡ Items (Cons (Reserved Let) (Cons (Items bindings) (Cons body Nil)))
  pub form : are_bindings bindings ≡ true
  pub around : outer.around ≡ b.around
  pub start : b.start ≡ waiting outer.draft

-- some bindings are checked, which bring these variables, and others are left
pub record LetSoFar (library : Library) (old new : Draft) (bindings left : Sexps) (bound : List (List ℕ × Sort))
    (open_so_far : Bool) : Type 0 where
  pub answer : bound_in (names_for library (labels_view old.labels)) (sorts_seen old) [] bindings
      ≡ bound_in (names_for library (labels_view new.labels)) (sorts_seen old) bound left
  pub given : AreGivenOf (names_of_library library) old.labels new.labels (labels_in_bindings bindings)
      (labels_in_bindings left)
  pub kept : SeesTheSame old new
  pub opened : are_open_bindings old bindings ≡ (open_so_far || are_open_bindings old left)
  pub named : are_named_trees left ≡ true
  pub waits : WaitSince old new
  pub stand : BindingsSoFar library old new bindings left (terms_since old new) open_so_far
  pub variables : (sorts : List Sort)
      → variables_of bindings (sorts_since old new ++ sorts) ≡ bound ++ variables_of left sorts

-- the bindings before these are checked
pub record IsBinding (library : Library) (whole : Trees) (b : Binder) (left : Trees) (distinct : ℕ)
    (open_so_far : Bool) (outer : Begun) (draft : Draft) : Type 0 where
  pub bindings : Sexps
  pub body : Sexp
  pub bound : List (List ℕ × Sort)
  pub binder : IsLet whole b outer bindings body
  pub lies : LiesIn whole left b.body
  pub counted : distinct ≡ distinct_from (map (λ v. v.0) bound) (sexps_of left)
  pub so_far : LetSoFar library outer.draft draft bindings (sexps_of left) bound open_so_far

-- a `let` waits for the term of a binding
pub record BindingWaits (library : Library) (whole : Trees) (b : Binder) (left distinct : ℕ) (open_so_far : Bool)
    (outer inner : Begun) : Type 0 where
  pub bindings : Sexps
  pub body : Sexp
  pub rest : Sexps
  pub name : List ℕ
  pub bound : List (List ℕ × Sort)
  pub binder : IsLet whole b outer bindings body
  pub lie : Lie whole left b.body rest
  pub none_around : inner.around ≡ 0
  pub fresh : is_some (look_up bound name) ≡ false
  pub counted : distinct ≡ distinct_from (map (λ v. v.0) bound ++ name ∷ []) rest
  pub so_far : LetSoFar library outer.draft inner.draft bindings (Cons (binding name inner.term) rest) bound
      open_so_far

-- a `let` waits for its body
pub record BodyWaits (library : Library) (b : Body) (open_so_far : Bool) (outer inner : Begun) : Type 0 where
  pub bindings : Sexps
  pub bound : List (List ℕ × Sort)
  pub mid : Draft
  pub is : outer.term ≡ Items (Cons (Reserved Let) (Cons (Items bindings) (Cons inner.term Nil)))
  pub form : are_bindings bindings ≡ true
  pub around : outer.around ≡ b.around
  pub none_around : inner.around ≡ 0
  pub start : b.start ≡ waiting outer.draft
  pub before : b.outer ≡ length (seen_by outer.draft)
  pub so_far : LetSoFar library outer.draft mid bindings Nil bound open_so_far
  pub seen : seen_by inner.draft ≡ placed_from (length (seen_by mid)) bound ++ seen_by mid
  pub base : inner.draft.base ≡ mid.base
  pub labels : inner.draft.labels ≡ mid.labels
  pub nodes : inner.draft.nodes ≡ mid.nodes
  pub arguments : inner.draft.arguments ≡ mid.arguments

-- ---- labels

-- a term with a label waits for the term in it
pub record LabelledWaits (whole : Trees) (l : Labelled) (outer inner : Begun) : Type 0 where
  pub attributes : Sexps
  pub lie : Lie whole l.parts l.end (Cons inner.term attributes)
  pub is : outer.term ≡ Items (Cons (Reserved Bang) (Cons inner.term attributes))
  pub form : are_attributes attributes ≡ true
  pub labelled : has_labels (labels_among attributes) ≡ true
  pub around : outer.around ≡ l.around
  pub none_around : inner.around ≡ 0
  pub base : l.base ≡ outer.draft.base
  pub inside : inner.draft ≡ record outer.draft { base = length (seen_by outer.draft) }

-- ---- stacks

-- a part waits for a part in it
abbrev pub Waits : Library → Trees → Frame → (outer inner : Begun) → Type 0
Waits library whole (frame.Argument a left open_so_far) = ArgumentWaits library whole a left open_so_far
Waits library whole (frame.Binding b left distinct open_so_far) =
    BindingWaits library whole b left distinct open_so_far
Waits library whole (frame.Body b open_so_far) = BodyWaits library b open_so_far
Waits library whole (frame.Labelled l) = LabelledWaits whole l

-- the outer part waits for a part that this one leads to
pub record Link (library : Library) (whole : Trees) (f : Frame) (outer inner : Begun) : Type 0 where
  pub part : Begun
  pub leads : Leads library inner part
  pub placed : IsPlaced (seen_by outer.draft) outer.draft.base
  pub waits : Waits library whole f outer part

-- frames, the innermost first, wait for a part of the first
abbrev pub Chain : Library → Trees → List Frame → (first inner : Begun) → Type 0
Chain library whole [] first inner = Leads library inner first
Chain library whole (f ∷ fs) first inner =
    (outer : Begun) × Link library whole f outer inner × Chain library whole fs first outer

-- the check of a part that waits may go on: the arguments that waited before it still wait, and a term without
-- variables from outside that gets labels has its sort without any
abbrev pub MayGoOn : Library → Trees → Frame → Draft → CheckedTerm → Type 0
MayGoOn library whole (frame.Argument a left open_so_far) draft c = a.start ≤ waiting draft
MayGoOn library whole (frame.Binding b left distinct open_so_far) draft c = b.start ≤ waiting draft
MayGoOn library whole (frame.Body b open_so_far) draft c = b.start ≤ waiting draft
MayGoOn library whole (frame.Labelled l) draft c = (term : Sexp) × (attributes : Sexps)
    × Lie whole l.parts l.end (Cons term attributes) × IsSortedUnlessOpen library c term

-- a list comes next
pub record Enters (library : Library) (whole : Trees) (fs : List Frame) (first : Begun) (draft : Draft) (part : Part)
    : Type 0 where
  pub trees : Sexps
  pub lie : Lie whole part.from part.to trees
  pub placed : IsPlaced (seen_by draft) draft.base
  pub chain : Chain library whole fs first (begun (Items trees) part.around draft)

-- a part was checked
pub record HasChecked (library : Library) (whole : Trees) (fs : List Frame) (first : Begun) (draft : Draft)
    (c : CheckedTerm) : Type 0 where
  pub inner : Begun
  pub placed : IsPlaced (seen_by inner.draft) inner.draft.base
  pub done : IsDone library inner draft c
  pub chain : Chain library whole fs first inner

-- what comes next in the check of the first
abbrev pub IsNext : Library → Trees → List Frame → (first : Begun) → Draft → Next → Type 0
IsNext library whole fs first draft (Enter part) = Enters library whole fs first draft part
IsNext library whole fs first draft (Checked c) = HasChecked library whole fs first draft c

-- the arguments of an application from this place on come next
pub record HasLeft (library : Library) (whole : Trees) (fs : List Frame) (first : Begun) (draft : Draft)
    (a : Application) (left : ℕ) (open_so_far : Bool) : Type 0 where
  pub outer : Begun
  pub trees : Trees
  pub placed : IsPlaced (seen_by outer.draft) outer.draft.base
  pub called : IsCalled library whole a trees open_so_far outer draft
  pub from_is : left ≡ size_of trees + a.end
  pub chain : Chain library whole fs first outer

-- what a step in the check of the first leads to
abbrev pub IsStep : Library → Trees → List Frame → (first : Begun) → Draft → Step → Type 0
IsStep library whole fs first draft (step.Next next) = IsNext library whole fs first draft next
IsStep library whole fs first draft (step.Arguments a left open_so_far) =
    HasLeft library whole fs first draft a left open_so_far

-- what comes next is that this part was checked
abbrev pub IsDoneNext : Library → Begun → Draft → Next → Type 0
IsDoneNext library p draft (Enter part) = ⊥
IsDoneNext library p draft (Checked c) = IsDone library p draft c

abbrev pub IsCheckedNext : Next → Type 0
IsCheckedNext (Enter part) = ⊥
IsCheckedNext (Checked c) = Unit {0}

-- no list
abbrev pub IsAtom : Sexp → Type 0
IsAtom (Items parts) = ⊥
IsAtom _ = Unit {0}

-- a part has begun: it is a list that comes next, or is checked
pub record IsBegun (p : Begun) (draft : Draft) (term : Tree) (end : ℕ) (part : Part) : Type 0 where
  pub parts : Trees
  pub is : term ≡ tree.List parts
  pub from : part.from ≡ size_of parts + part.to
  pub to : part.to ≡ end
  pub around : part.around ≡ p.around
  pub same : draft ≡ p.draft

abbrev pub Begins : Library → (p : Begun) → (draft : Draft) → Tree → (end : ℕ) → Next → Type 0
Begins library p draft term end (Enter part) = IsBegun p draft term end part
Begins library p draft term end (Checked c) = IsDone library p draft c

-- ---- the work that is left

-- the place from which on nothing has been looked at, behind the part that is being checked
abbrev pub place_behind : List Frame → ℕ
place_behind [] = 0
place_behind (frame.Argument a left open_so_far ∷ fs) = left
place_behind (frame.Binding b left distinct open_so_far ∷ fs) = left
place_behind (frame.Body b open_so_far ∷ fs) = place_behind fs
place_behind (frame.Labelled l ∷ fs) = place_behind fs

-- each frame lies in the next
abbrev pub AreNested : List Frame → Type 0
AreNested [] = Unit {0}
AreNested (frame.Argument a left open_so_far ∷ fs) = (place_behind fs ≤ a.end) × (a.end ≤ left) × AreNested fs
AreNested (frame.Binding b left distinct open_so_far ∷ fs) =
    (place_behind fs ≤ b.end) × (b.end ≤ b.body) × (b.body ≤ left) × AreNested fs
AreNested (frame.Body b open_so_far ∷ fs) = AreNested fs
AreNested (frame.Labelled l ∷ fs) = AreNested fs

abbrev pub IsNested : List Frame → Next → Type 0
IsNested fs (Enter part) = (place_behind fs ≤ part.to) × AreNested fs
IsNested fs (Checked c) = AreNested fs

abbrev pub work : List Frame → Next → ℕ
work fs (Enter part) = 3 * part.from + 2 + 2 * length fs
work fs (Checked c) = 3 * place_behind fs + 1 + 2 * length fs

-- what comes next is nested, and less work than this
pub record IsLess (fs : List Frame) (before : ℕ) (next : Next) : Type 0 where
  pub nested : IsNested fs next
  pub less : work fs next < before

abbrev pub IsNestedStep : List Frame → Step → Type 0
IsNestedStep fs (step.Next next) = IsNested fs next
IsNestedStep fs (step.Arguments a left open_so_far) = (place_behind fs ≤ a.end) × (a.end ≤ left) × AreNested fs

abbrev pub step_work : List Frame → Step → ℕ
step_work fs (step.Next next) = work fs next
step_work fs (step.Arguments a left open_so_far) = 3 * left + 2 + 2 * length fs

-- what a step leads to is nested, and less work than this
pub record IsLessStep (fs : List Frame) (before : ℕ) (s : Step) : Type 0 where
  pub nested : IsNestedStep fs s
  pub less : step_work fs s < before
