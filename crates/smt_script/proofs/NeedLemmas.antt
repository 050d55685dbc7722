-- A stack whose library keeps the nodes that definitions need, and those that levels and assertions note.
use Rattle.std.proofs.Common.{◌≡◌, ◌≤◌, ◌<◌, ◌-◌, ℕ, zero, suc, List, [], ◌∷◌, ◌++◌, Bool, true, false, cond, Some, length, max}
use Rattle.std.proofs.Common.{slice_get, take, refl, ap, sym, subst, ◌∙◌, ◌||◌, arith}
use Rattle.std.specs.List.{All}
use Rattle.std.proofs.lemmas.List.{length-take}
use Rattle.std.proofs.lemmas.List.Elements.{All-head, All-tail, All-weaker}
use Rattle.smt_terms.specs.Contents.{Contents, IsWithin, contents_of, needed_of}
use Rattle.smt_terms.specs.Ends.{end_of}
use Rattle.smt_terms.specs.Library.{Holds}
use Rattle.smt_terms.specs.Signature.{Signature}
use Rattle.smt_terms.specs.declared.library.marks.Mark.{Mark}
use Rattle.smt_script.specs.Command.{Pop, Pops}
use Rattle.smt_script.specs.Stack as spec
use Rattle.smt_script.specs.Stack.{Numbered, assertions_in_force, signature_in_force}
use Rattle.smt_script.specs.Stack.{is_exit}
use Rattle.smt_script.specs.StackView.{AreAssertions, HasInForce, HoldsAfter, IsLevel, IsPopped, assertions_to_level}
use Rattle.smt_script.specs.StackView.{contents_left, contents_needed, profile_of, signature_to_level}
use Rattle.smt_script.specs.Internal.Effect.{HasEffect, HasNotesOf, IsCut, NeededIsEnough, NeedsLeft, logic_after}
use Rattle.smt_script.specs.Internal.Effect.{with_notes}
use Rattle.smt_script.specs.declared.stack.Assertion.{Assertion}
use Rattle.smt_script.specs.declared.stack.LogicState.{LogicState}
use Rattle.smt_script.specs.declared.stack.Start.{Start}
use Rattle.smt_script.specs.declared.stack.levels.Level.{Level}
use Rattle.smt_script.specs.declared.stack.Stack.{Stack}

-- what is in force stays where the library holds the same, and all else is the same
pub same_force : (old new : Stack) (cs : List Numbered) → contents_of new.library ≡ contents_of old.library
    → new.assertions.items ≡ old.assertions.items → new.levels ≡ old.levels → HasNotesOf old new
    → HasInForce old cs → HasInForce new cs
same_force old new cs contents assertions levels notes h =
    subst (λ (x : Start). HasInForce (record new { start = x }) cs) (sym notes.start) (record {
      library = subst (λ (c : Contents). Holds c (signature_in_force (profile_of old) cs)) (sym contents) h.library;
      assertions =
          subst (λ (c : Contents). AreAssertions c new.assertions.items (assertions_in_force (profile_of old) cs))
          (sym contents)
          (subst (λ (as' : List Assertion).
          AreAssertions (contents_of old.library) as' (assertions_in_force (profile_of old) cs))
          (sym assertions) h.assertions);
      depth = ap length levels ∙ h.depth;
      levels = λ k x at.
          subst (λ (g : Bool). IsLevel g (contents_of new.library) new.assertions.items x
          (signature_to_level (profile_of old) k cs)
          (assertions_to_level (profile_of old) k cs)) (sym notes.global)
          (subst (λ (c : Contents). IsLevel old.global c new.assertions.items x
          (signature_to_level (profile_of old) k cs)
          (assertions_to_level (profile_of old) k cs)) (sym contents)
          (subst (λ (as' : List Assertion).
          IsLevel old.global (contents_of old.library) as' x (signature_to_level (profile_of old) k cs)
          (assertions_to_level (profile_of old) k cs)) (sym assertions)
          (h.levels k x (ap (λ (xs : List Level). slice_get xs k) (sym levels) ∙ at))));
      ordered = λ j k x y le at there.
          h.ordered j k x y le (ap (λ (xs : List Level). slice_get xs j) (sym levels) ∙ at)
          (ap (λ (xs : List Level). slice_get xs k) (sym levels) ∙ there);
      logic = notes.logic ∙ h.logic;
      global = notes.global ∙ h.global;
      print_success = notes.print_success ∙ h.print_success;
      exited = notes.exited ∙ h.exited;
    })

-- assertions among the first nodes are those of the nodes that are needed
are_needed : NeededIsEnough → (count : ℕ) (c : Contents) (bs : List spec.Assertion) (as' : List Assertion)
    → All (λ a. a.term < count) as' → AreAssertions c as' bs → AreAssertions (needed_of count c) as' bs
are_needed law count c [] [] below h = tt
are_needed law count c (b ∷ bs) [] below h = absurd h
are_needed law count c [] (a ∷ as') below h = absurd h
are_needed law count c (b ∷ bs) (a ∷ as') below h = (
  h.0,
  law.terms count c a.term b.term (All-head (λ x. x.term < count) a as' below) h.1,
  h.2,
  are_needed law count c bs as' (All-tail (λ x. x.term < count) a as' below) h.3,
)

needed_within : (count : ℕ) (c : Contents) (mark : Mark) → mark.nodes ≤ count → IsWithin mark c
    → IsWithin mark (needed_of count c)
needed_within count c mark few h = record {
  abbreviations = h.abbreviations;
  ranks = h.ranks;
  heads = h.heads;
  declared = h.declared;
  definitions = h.definitions;
  bodies = h.bodies;
  rows = omega (arith, few, h.rows, length-take (max count (end_of c.bodies)) c.rows);
}

-- and so levels that note no more
needed_level : NeededIsEnough → (count : ℕ) (c : Contents) (as' : List Assertion) (x : Level) (names : Signature)
    (asserted : List spec.Assertion) → x.mark.nodes ≤ count → IsLevel true c as' x names asserted
    → IsLevel true (needed_of count c) as' x names asserted
needed_level law count c as' x names asserted few h = record {
  within = needed_within count c x.mark few h.within;
  count = h.count;
  holds = law.names count c names h.holds;
  assertions_are = are_needed law count c asserted (take x.assertions as')
      (All-weaker (λ a. a.term < x.mark.nodes) (λ a. a.term < count) (λ a below. omega (arith, below, few))
      (take x.assertions as') h.terms) h.assertions_are;
  terms = h.terms;
}

-- what is in force stays by the nodes that are needed, where levels and assertions note no more
pub needs_force : NeededIsEnough → (old new : Stack) (count : ℕ) (cs : List Numbered) → NeedsLeft old new count
    → All (λ a. a.term < count) old.assertions.items
    → ((k : ℕ) (x : Level) → slice_get old.levels k ≡ Some x → x.mark.nodes ≤ count) → HasInForce old cs
    → HasInForce new cs
needs_force law old new count cs left below few h = by old.global refl left.library
  where
    c : Contents
    c = contents_of old.library

    by : (g : Bool) → old.global ≡ g → contents_of new.library ≡ cond g (needed_of count c) c → HasInForce new cs
    by false is same =
        same_force old new cs same (ap (λ v. v.items) left.assertions) left.levels left.notes h
    by true is same =
        same_force (record old { library = new.library }) new cs refl (ap (λ v. v.items) left.assertions) left.levels
        (record {
          logic = left.notes.logic;
          global = left.notes.global;
          print_success = left.notes.print_success;
          start = left.notes.start;
          exited = left.notes.exited;
          last = left.notes.last;
        }) (record {
          library = subst (λ (d : Contents). Holds d (signature_in_force (profile_of old) cs)) (sym same)
              (law.names count c (signature_in_force (profile_of old) cs) h.library);
          assertions = subst (λ (d : Contents).
              AreAssertions d old.assertions.items (assertions_in_force (profile_of old) cs)) (sym same)
              (are_needed law count c (assertions_in_force
              (profile_of old) cs) old.assertions.items below h.assertions);
          depth = h.depth;
          levels = λ k x at.
              subst (λ (d : Contents). IsLevel old.global d old.assertions.items x
              (signature_to_level (profile_of old) k cs)
              (assertions_to_level (profile_of old) k cs)) (sym same)
              (subst (λ (g : Bool). IsLevel g (needed_of count c) old.assertions.items x
              (signature_to_level (profile_of old) k cs)
              (assertions_to_level (profile_of old) k cs)) (sym is)
              (needed_level law count c old.assertions.items x (signature_to_level (profile_of old) k cs)
              (assertions_to_level (profile_of old) k cs)
              (few k x at)
              (subst (λ (g : Bool). IsLevel g c old.assertions.items x (signature_to_level (profile_of old) k cs)
              (assertions_to_level (profile_of old) k cs)) is (h.levels k x at))));
          ordered = h.ordered;
          logic = h.logic;
          global = h.global;
          print_success = h.print_success;
          exited = h.exited;
        })

-- the same where a `pop` is noted
needs_noted : (mid new : Stack) (count m : ℕ) → NeedsLeft mid new count
    → NeedsLeft (with_notes (Pop m) mid) (with_notes (Pop m) new) count
needs_noted mid new count m left = record {
  library = left.library;
  assertions = left.assertions;
  assumptions = left.assumptions;
  levels = left.levels;
  notes = record {
    logic = ap (λ (l : LogicState). logic_after l (Pop m)) left.notes.logic;
    global = left.notes.global;
    print_success = left.notes.print_success;
    start = left.notes.start;
    exited = ap (λ (b : Bool). b || is_exit (Pop m)) left.notes.exited;
    last = left.notes.last;
  };
}

-- what a `pop` leaves of levels, and then of nodes
pub needs_popped : (old mid new : Stack) (d : ℕ) (level : Level) → slice_get old.levels d ≡ Some level
    → IsCut old mid d → NeedsLeft mid new level.mark.nodes → HasNotesOf old mid
    → IsPopped old (contents_of new.library) d
needs_popped old mid new d level at cut left notes = record {
  level = level;
  at = at;
  library = left.library
      ∙ ap (λ (g : Bool). cond g (needed_of level.mark.nodes (contents_of mid.library)) (contents_of mid.library))
      notes.global
      ∙ ap (λ (x : Contents). cond old.global (needed_of level.mark.nodes x) x)
      (cut.library ∙ ap (λ (l : Level). contents_left old.global l.mark c) (same_level cut.level cut.at))
      ∙ both old.global;
}
  where
    c : Contents
    c = contents_of old.library

    same_level : (l : Level) → slice_get old.levels d ≡ Some l → l ≡ level
    same_level l is = cc

    both : (g : Bool)
        → cond g (needed_of level.mark.nodes (contents_left g level.mark c)) (contents_left g level.mark c)
        ≡ contents_needed g level.mark c
    both true = refl
    both false = refl

-- so a library holds behind a `pop` of some levels, and of none
pub popped_some : (old : Stack) (now : Contents) (d m : ℕ) → 0 < m → d ≡ length old.levels - m
    → IsPopped old now d → HoldsAfter old (Pops m) now
popped_some old now d zero some is h = absurd (omega (arith, some))
popped_some old now d (suc m) some is h = subst (IsPopped old now) is h

pub popped_none : (old : Stack) (m : ℕ) → m ≡ 0 → HoldsAfter old (Pops m) (contents_of old.library)
popped_none old m none = subst (λ (k : ℕ). HoldsAfter old (Pops k) (contents_of old.library)) (sym none) refl

-- an element of the first so many
taken : {A : Type 0} (n : ℕ) (xs : List A) (k : ℕ) (x : A) → slice_get (take n xs) k ≡ Some x
    → (slice_get xs k ≡ Some x) × (k < n)
taken zero xs k x h = cc
taken (suc n) [] k x h = cc
taken (suc n) (y ∷ xs) zero x h = (h, omega arith)
taken (suc n) (y ∷ xs) (suc k) x h = let r = taken n xs k x h in (r.0, omega (arith, r.1))

-- levels that go, and then the nodes that nothing needs
pub needs_effect : NeededIsEnough → (old mid new : Stack) (d m : ℕ) (level : Level)
    → slice_get old.levels d ≡ Some level → IsCut old mid d → NeedsLeft mid new level.mark.nodes
    → HasNotesOf old mid → ((n : ℕ) → HasEffect old mid n (Pop m)) → (n : ℕ) → HasEffect old new n (Pop m)
needs_effect law old mid new d m level at cut left notes effect n = record {
  faultless = (effect n).faultless;
  stands = λ cs h alike.
      let there = h.levels d level at in
      needs_force law (with_notes (Pop m) mid) (with_notes (Pop m) new) level.mark.nodes
      (cs ++ record { number = n; command = Pop m } ∷ []) (needs_noted mid new level.mark.nodes m left)
      (subst (λ (as' : List Assertion). All (λ a. a.term < level.mark.nodes) as') (sym asserted)
      there.terms)
      (λ k x has.
      let outer = taken d old.levels k x (ap (λ (xs : List Level). slice_get xs k) (sym cut.levels) ∙ has) in
      (h.ordered k d x level (omega (arith, outer.1)) outer.0 at).mark.nodes)
      ((effect n).stands cs h alike);
  start = left.notes.start ∙ notes.start;
}
  where
    same_level : (l : Level) → slice_get old.levels d ≡ Some l → l ≡ level
    same_level l is = cc

    asserted : mid.assertions.items ≡ take level.assertions old.assertions.items
    asserted =
        cut.assertions
        ∙ ap (λ (l : Level). take l.assertions old.assertions.items) (same_level cut.level cut.at)
