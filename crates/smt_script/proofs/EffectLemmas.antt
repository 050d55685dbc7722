-- What each command does to a stack.
use Rattle.std.proofs.Common.{◌≡◌, ◌≤◌, ℕ, ◌+◌, zero, suc, List, [], ◌∷◌, ◌++◌, inl, inr, Bool, false}
use Rattle.std.proofs.Common.{true, cond, ◌||◌, Option, None, Some, Result, Ok, length, slice_get, take, refl, ap}
use Rattle.std.proofs.Common.{sym, subst, ◌∙◌, arith}
use Rattle.std.proofs.lemmas.List.{append-nil, length-append}
use Rattle.std.specs.List.{All}
use Rattle.std.specs.Prelude.{nat_le, ◌<◌}
use Rattle.std.specs.Global.{Vec}
use Rattle.smt_trees.specs.Sexp.{Sexp, Sexps, Nil, weight}
use Rattle.smt_theory.specs.Theories.{theories_named}
use Rattle.smt_theory.specs.declared.profile.Profile.{Profile}
use Rattle.smt_theory.specs.declared.theories.Theories.{Theories}
use Rattle.smt_terms.specs.declared.named_sort.NamedSort.{NamedSort}
use Rattle.smt_terms.specs.Assertions.{asserted_in}
use Rattle.smt_terms.specs.Contents.{Contents, Extends, contents_of, first_of}
use Rattle.smt_terms.specs.Definitions.{defined_in}
use Rattle.smt_terms.specs.Library as library
use Rattle.smt_terms.specs.Library.{Holds, IsTermOf, transient_of}
use Rattle.smt_terms.specs.Declarations.{abbreviated_in, declared_in, sort_declared_in}
use Rattle.smt_terms.specs.Signature.{Entry, Signature, names_of, no_names, sort_names_of, with_abbreviation}
use Rattle.smt_terms.specs.Signature.{with_entries, with_entry}
use Rattle.smt_faults.specs.Faults.{fault_by_term}
use Rattle.smt_faults.specs.declared.term_flaw.TermFlaw.{TermFlaw}
use Rattle.smt_terms.specs.declared.library.Library.{Library}
use Rattle.smt_script.specs.Command.{Command, Effect, Addition, SetLogic, DeclareConst, DeclareFun, DefineFun}
use Rattle.smt_script.specs.Command.{DeclareSort, DefineSort, Assert, Brings, Removing, Nothing, effect_of}
use Rattle.smt_script.specs.Stack as spec
use Rattle.smt_script.specs.Stack.{Brought, Numbered, abbreviations_by, abbreviations_of_effect}
use Rattle.smt_script.specs.Stack.{assertions_of_effect, depth_by, entries_of_effect, flaw_by}
use Rattle.smt_script.specs.Stack.{removed_of_effect, resets, theories_by, abbreviations_of, assertions_by}
use Rattle.smt_script.specs.Stack.{assertions_in_force, assertions_of, brought_by, depth_after}
use Rattle.smt_script.specs.Stack.{depth_in_force, entries_by, entries_of, flaw_of, flaw_of_effect}
use Rattle.smt_script.specs.Stack.{history, in_force, names_stand, is_exit, is_reset, one_or_none}
use Rattle.smt_script.specs.Stack.{print_success_after, signature_in_force}
use Rattle.smt_script.specs.Stack.{signature_of, theories_after, theories_in_force, theories_or}
use Rattle.smt_script.specs.Stack.{global_after, global_by, global_in_force, name_stands_after}
use Rattle.smt_script.specs.Stack.{assertions_stand, is_logic_set, is_too_late}
use Rattle.smt_script.specs.StackView.{AreAs, AreAssertions, AreNamesAlike, HasInForce, IsLevel, profile_of}
use Rattle.smt_script.specs.StackView.{assertions_to_level, names_level, names_to_level, signature_to_level, to_level}
use Rattle.smt_script.specs.Internal.Effect.{ContentsAreKept, HasEffect, HasMore, logic_after, with_notes}
use Rattle.smt_faults.specs.declared.command_fault.CommandFault.{CommandFault}
use Rattle.smt_faults.specs.declared.command_flaw.CommandFlaw.{CommandFlaw}
use Rattle.smt_faults.specs.declared.command_flaw.CommandFlaw.TheVariants.{Term}
use Rattle.smt_faults.specs.Outcome.{Tells, TellsCommand, flaw_told}
use Rattle.smt_faults.specs.declared.term_fault.TermFault.{TermFault}
use Rattle.smt_faults.specs.declared.term_fault.TermFault.TheVariants as terms
use Rattle.smt_script.specs.declared.stack.Assertion.{Assertion}
use Rattle.smt_script.specs.declared.stack.LogicState.{LogicState}
use Rattle.smt_script.specs.declared.stack.Start.{Start}
use Rattle.smt_script.specs.declared.stack.levels.Level.{Level}
use Rattle.smt_script.specs.declared.stack.Stack.{Stack}
use Rattle.smt_script.proofs.HistoryLemmas.{abbreviations-push, alike-append, assertion_stands_after}
use Rattle.smt_script.proofs.HistoryLemmas.{assertions-push, assertions_rule, entries-push, exited-push, global-push}
use Rattle.smt_script.proofs.HistoryLemmas.{global_to_level, in_force-grow, level_of, levels_to-push, logic-push}
use Rattle.smt_script.proofs.HistoryLemmas.{names_rule, print-push, theories-push, to_level-push, unfixed_is_empty}
use Rattle.smt_script.proofs.StandingLemmas.{depth-push}

-- ---- assertions

pub assertions_stay : ContentsAreKept → (c d : Contents) → Extends c d
    → (as' : List Assertion) (bs : List spec.Assertion) → AreAssertions c as' bs → AreAssertions d as' bs
assertions_stay law c d more [] [] h = tt
assertions_stay law c d more (a ∷ as') (b ∷ bs) h =
    (h.0, law.terms c d a.term b.term more h.1, h.2, assertions_stay law c d more as' bs h.3)
assertions_stay law c d more [] (b ∷ bs) h = h
assertions_stay law c d more (a ∷ as') [] h = h

one_more_assertion : (c : Contents) (as' : List Assertion) (bs : List spec.Assertion) (a : Assertion)
    (b : spec.Assertion) → AreAssertions c as' bs → a.command ≡ b.command → IsTermOf c a.term b.term
    → a.size ≡ weight b.term → AreAssertions c (as' ++ a ∷ []) (bs ++ b ∷ [])
one_more_assertion c [] [] a b h command term size = (command, term, size, tt)
one_more_assertion c (x ∷ as') (y ∷ bs) a b h command term size =
    (h.0, h.1, h.2, one_more_assertion c as' bs a b h.3 command term size)
one_more_assertion c [] (y ∷ bs) a b h command term size = absurd h
one_more_assertion c (x ∷ as') [] a b h command term size = absurd h

-- ---- lists

pub within : {A : Type 0} (xs : List A) (k : ℕ) (x : A) → slice_get xs k ≡ Some x → k + 1 ≤ length xs
within [] k x h = cc
within (y ∷ xs) zero x h = omega arith
within (y ∷ xs) (suc k) x h = let m = within xs k x h in omega arith

take_before : {A : Type 0} (n : ℕ) (xs ys : List A) → n ≤ length xs → take n (xs ++ ys) ≡ take n xs
take_before zero xs ys h = refl
take_before (suc n) [] ys h = absurd (omega arith)
take_before (suc n) (x ∷ xs) ys h = ap (λ (l : List _). x ∷ l) (take_before n xs ys (omega arith))

-- ---- commands that add to what is in force

-- a command that neither resets nor changes levels and theories
pub record Adds (profile : Profile) (command : Command) : Type 0 where
  pub no_reset : is_reset command ≡ false
  pub level : (d : ℕ) → depth_after d command ≡ d
  pub theories : (t : Theories) → theories_after profile t command ≡ t

-- a command that neither resets nor removes levels
pub record Keeps (profile : Profile) (command : Command) : Type 0 where
  pub no_reset : is_reset command ≡ false
  pub level : (d : ℕ) → d ≤ depth_after d command
  pub theories : (t : Theories) → theories_after profile t command ≡ t

pub adds_keeps : (profile : Profile) (command : Command) → Adds profile command → Keeps profile command
adds_keeps profile command adds =
    record {
      no_reset = adds.no_reset;
      level = λ d. (let e = adds.level d in omega arith);
      theories =
          adds.theories;
    }

-- what a signature is with what a command brings
abbrev pub with_brought : Signature → ℕ → Command → Signature
with_brought s n command =
    record {
      theories = s.theories;
      elements = s.elements;
      abbreviations = s.abbreviations ++ abbreviations_by s n command;
      entries =
          s.entries ++ entries_by s n command;
    }

-- signatures of the same
pub same_signature : (t u : Theories) (xs ys : List Brought) → t ≡ u → abbreviations_of xs ≡ abbreviations_of ys
    → entries_of xs ≡ entries_of ys → signature_of t xs ≡ signature_of u ys
same_signature t u xs ys theories abbreviations entries =
    ap (λ (t : Theories). signature_of t xs) theories
    ∙ ap (λ (es : List Entry). record { theories = u; elements = None; abbreviations = abbreviations_of xs; entries = es }) entries
    ∙ ap (λ (as' : List (List ℕ × NamedSort)). record { theories = u; elements = None; abbreviations = as'; entries = entries_of ys })
    abbreviations

pub names_grow : (profile : Profile) (cs : List Numbered) (c : Numbered) → is_reset c.command ≡ false
    → depth_in_force cs ≤ depth_after (depth_in_force cs) c.command
    → in_force names_stand (history profile (cs ++ c ∷ []))
    ≡ in_force names_stand (history profile cs) ++ brought_by profile cs (history profile cs) c ∷ []
names_grow profile = in_force-grow profile name_stands_after names_level names_rule

pub assertions_grow : (profile : Profile) (cs : List Numbered) (c : Numbered) → is_reset c.command ≡ false
    → depth_in_force cs ≤ depth_after (depth_in_force cs) c.command
    → in_force assertions_stand (history profile (cs ++ c ∷ []))
    ≡ in_force assertions_stand (history profile cs) ++ brought_by profile cs (history profile cs) c ∷ []
assertions_grow profile = in_force-grow profile assertion_stands_after level_of assertions_rule

pub signature-add : (profile : Profile) (cs : List Numbered) (c : Numbered) → Keeps profile c.command
    → signature_in_force profile (cs ++ c ∷ []) ≡ with_brought (signature_in_force profile cs) c.number c.command
signature-add profile cs c adds =
    let b = brought_by profile cs (history profile cs) c in
    let grow = names_grow profile cs c adds.no_reset (adds.level (depth_in_force cs)) in
    ap (λ (t : Theories). signature_of t (in_force names_stand (history profile (cs ++ c ∷ []))))
    (theories-push profile cs c ∙ adds.theories (theories_in_force profile cs))
    ∙ ap (λ (l : List Brought). signature_of (theories_in_force profile cs) l) grow
    ∙ ap (λ (es : List Entry).
    record {
      theories = theories_in_force profile cs;
      elements = None;
      abbreviations =
          abbreviations_of (in_force names_stand (history profile cs) ++ b ∷ []);
      entries = es;
    })
    (entries-push (in_force names_stand (history profile cs)) b)
    ∙ ap (λ (as' : List (List ℕ × NamedSort)).
    record {
      theories = theories_in_force profile cs;
      elements = None;
      abbreviations = as';
      entries =
          entries_of (in_force names_stand (history profile cs)) ++ b.entries;
    })
    (abbreviations-push (in_force names_stand (history profile cs)) b)

pub assertions-add : (profile : Profile) (cs : List Numbered) (c : Numbered) → Keeps profile c.command
    → assertions_in_force profile (cs ++ c ∷ []) ≡ assertions_in_force profile cs ++ assertions_by c.number c.command
assertions-add profile cs c adds =
    let b = brought_by profile cs (history profile cs) c in
    let grow = assertions_grow profile cs c adds.no_reset (adds.level (depth_in_force cs)) in
    ap assertions_of grow ∙ assertions-push (in_force assertions_stand (history profile cs)) b

-- ---- levels

-- what levels leave of names that are global are all
pub all_names_left : (profile : Profile) (k : ℕ) (cs : List Numbered)
    → AreAs true (in_force names_stand (history profile cs))
    → signature_to_level profile k cs ≡ signature_in_force profile cs
all_names_left profile k cs h =
    let all = global_to_level k (in_force names_stand (history profile cs)) h in
    same_signature (theories_in_force profile cs) (theories_in_force profile cs)
    (names_to_level k (in_force names_stand (history profile cs)))
    (in_force names_stand (history profile cs)) refl all.1 all.0

inside_local : (global : Bool) (k level : ℕ) → global ≡ false → k + 1 ≤ level → k + 1 ≤ cond global 0 level
inside_local true k level h le = absurd (cc)
inside_local false k level h le = le

-- names that go with their level are none of an outer one
pub local_names_left : (profile : Profile) (k : ℕ) (cs : List Numbered) (c : Numbered) → Keeps profile c.command
    → global_in_force cs ≡ false → k + 1 ≤ depth_after (depth_in_force cs) c.command
    → signature_to_level profile k (cs ++ c ∷ []) ≡ signature_to_level profile k cs
local_names_left profile k cs c keeps local inside =
    let b = brought_by profile cs (history profile cs) c in
    let N = in_force names_stand (history profile cs) in
    let same = ap (names_to_level k) (names_grow profile cs c keeps.no_reset (keeps.level (depth_in_force cs)))
    ∙ to_level-push names_level k N b (inside_local (global_in_force cs) k b.level local inside) in
    same_signature (theories_in_force profile (cs ++ c ∷ [])) (theories_in_force profile cs)
    (names_to_level k (in_force names_stand (history profile (cs ++ c ∷ [])))) (names_to_level k N)
    (theories-push profile cs c ∙ keeps.theories (theories_in_force profile cs))
    (ap abbreviations_of same) (ap entries_of same)

-- no names and no abbreviations behind others
pub none_more : (xs : List Brought) (b : Brought) (u : Bool) → b.entries ≡ [] → b.abbreviations ≡ []
    → (entries_of (xs ++ cond u (b ∷ []) []) ≡ entries_of xs)
    × (abbreviations_of (xs ++ cond u (b ∷ []) []) ≡ abbreviations_of xs)
none_more xs b true e a = (
  entries-push xs b ∙ ap (λ (l : List Entry). entries_of xs ++ l) e ∙ append-nil (entries_of xs),
  abbreviations-push xs b ∙ ap (λ (l : List (List ℕ × NamedSort)). abbreviations_of xs ++ l) a
      ∙ append-nil (abbreviations_of xs),
)
none_more xs b false e a = (ap entries_of (append-nil xs), ap abbreviations_of (append-nil xs))

-- nor are there more where a command brings none
pub no_names_left : (profile : Profile) (k : ℕ) (cs : List Numbered) (c : Numbered) → Keeps profile c.command
    → entries_by (signature_in_force profile cs) c.number c.command ≡ []
    → abbreviations_by (signature_in_force profile cs) c.number c.command ≡ []
    → signature_to_level profile k (cs ++ c ∷ []) ≡ signature_to_level profile k cs
no_names_left profile k cs c keeps entries abbreviations =
    let b = brought_by profile cs (history profile cs) c in
    let N = in_force names_stand (history profile cs) in
    let same = ap (names_to_level k) (names_grow profile cs c keeps.no_reset (keeps.level (depth_in_force cs)))
    ∙ levels_to-push names_level k N b in
    let none = none_more (names_to_level k N) b (nat_le (names_level b) k) entries abbreviations in
    same_signature (theories_in_force profile (cs ++ c ∷ [])) (theories_in_force profile cs)
    (names_to_level k (in_force names_stand (history profile (cs ++ c ∷ [])))) (names_to_level k N)
    (theories-push profile cs c ∙ keeps.theories (theories_in_force profile cs))
    (ap abbreviations_of same ∙ none.1) (ap entries_of same ∙ none.0)

-- assertions go with their level
pub assertions_left : (profile : Profile) (k : ℕ) (cs : List Numbered) (c : Numbered) → Keeps profile c.command
    → k + 1 ≤ depth_after (depth_in_force cs) c.command
    → assertions_to_level profile k (cs ++ c ∷ []) ≡ assertions_to_level profile k cs
assertions_left profile k cs c keeps inside =
    ap assertions_of (ap (to_level k) (assertions_grow profile cs c keeps.no_reset (keeps.level (depth_in_force cs)))
    ∙ to_level-push level_of k (in_force assertions_stand (history profile cs))
    (brought_by profile cs (history profile cs) c) inside)

-- a level as the contents and the assertions grow; global names grow with them
pub level_grows : ContentsAreKept → (global : Bool)
    → (c d : Contents) (as' more : List Assertion) (l : Level) (old new : Signature)
    (asserted : List spec.Assertion) → Extends c d
    → (global ≡ false → new ≡ old) → (global ≡ true → Holds c old → Holds d new)
    → IsLevel global c as' l old asserted → IsLevel global d (as' ++ more) l new asserted
level_grows law true c d as' more l old new asserted grown local names h = record {
  within = law.within l.mark c d h.within grown;
  count = (let e = length-append as' more in let m = h.count in omega arith);
  holds = names refl h.holds;
  assertions_are =
      subst (λ (x : List Assertion). AreAssertions d x asserted) (sym (take_before l.assertions as' more h.count))
      (assertions_stay law c d grown (take l.assertions as') asserted h.assertions_are);
  terms = subst (All (λ a. a.term < l.mark.nodes)) (sym (take_before l.assertions as' more h.count)) h.terms;
}
level_grows law false c d as' more l old new asserted grown local names h = record {
  within = law.within l.mark c d h.within grown;
  count = (let e = length-append as' more in let m = h.count in omega arith);
  holds = subst (λ (x : Contents). Holds x new) (sym (law.first l.mark c d h.within grown))
      (subst (Holds (first_of l.mark c)) (sym (local refl)) h.holds);
  assertions_are =
      subst (λ (x : Contents). AreAssertions x (take l.assertions (as' ++ more)) asserted)
      (sym (law.first l.mark c d h.within grown))
      (subst (λ (x : List Assertion). AreAssertions (first_of l.mark c) x asserted)
      (sym (take_before l.assertions as' more h.count)) h.assertions_are);
  terms = subst (All (λ a. a.term < l.mark.nodes)) (sym (take_before l.assertions as' more h.count)) h.terms;
}

-- a stack after a command that adds to what is in force
pub added : ContentsAreKept
    → (old new : Stack) (more : List Assertion) (cs : List Numbered) (n : ℕ) (command : Command)
    → HasInForce old cs → AreNamesAlike (profile_of old) cs → Adds (profile_of old) command
    → global_after (global_in_force cs) command ≡ global_in_force cs → new.global ≡ old.global
    → new.levels ≡ old.levels → new.logic ≡ old.logic → new.print_success ≡ old.print_success
    → new.exited ≡ old.exited → new.start ≡ old.start
    → Extends (contents_of old.library) (contents_of new.library)
    → new.assertions.items ≡ old.assertions.items ++ more
    → library.StandsFor new.library (with_brought (signature_in_force (profile_of old) cs) n command)
    → AreAssertions (contents_of new.library) new.assertions.items
    (assertions_in_force (profile_of old) cs ++ assertions_by n command)
    → HasInForce (with_notes command new) (cs ++ record { number = n; command = command } ∷ [])
added law old new more cs n command h alike adds same_global global levels logic print exited start grown asserted
    names assertions =
    let c : Numbered = record { number = n; command = command } in
    let b = brought_by (profile_of old) cs (history (profile_of old) cs) c in
    let keeps = adds_keeps (profile_of old) command adds in
    let all = cs ++ c ∷ [] in
    let now : global_after new.global command ≡ old.global =
    ap (λ (g : Bool). global_after g command) (global ∙ h.global) ∙ same_global ∙ sym h.global in
    subst (λ (x : Start). HasInForce (with_notes command (record new { start = x })) all) (sym start)
    (record {
      library = subst (λ (s : Signature). library.StandsFor new.library s)
          (sym (signature-add (profile_of old) cs c keeps)) names;
      assertions = subst (λ (l : List spec.Assertion). AreAssertions (contents_of new.library)
          new.assertions.items l) (sym (assertions-add (profile_of old) cs c keeps)) assertions;
      depth = ap length levels ∙ h.depth ∙ sym (depth-push cs c ∙ adds.level (depth_in_force cs));
      levels = λ k l at.
          let there : slice_get old.levels k ≡ Some l =
          ap (λ (xs : List Level). slice_get xs k) (sym levels) ∙ at in
          let inside : k + 1 ≤ b.level =
          (let m = within old.levels k l there in let e = h.depth in let f =
          adds.level (depth_in_force cs) in omega arith) in
          let more_global : AreAs (global_in_force cs) (in_force names_stand (history (profile_of old) all)) =
          subst (AreAs (global_in_force cs))
          (sym (names_grow (profile_of old) cs c adds.no_reset (keeps.level (depth_in_force cs))))
          (alike-append (global_in_force cs) (in_force names_stand (history (profile_of old) cs)) b alike (inl refl)) in
          subst (λ (g : Bool). IsLevel g (contents_of new.library) new.assertions.items l
          (signature_to_level (profile_of old) k all) (assertions_to_level (profile_of old) k all)) (sym now)
          (subst (λ (x : List Assertion). IsLevel old.global (contents_of new.library) x l
          (signature_to_level (profile_of old) k all) (assertions_to_level (profile_of old) k all)) (sym asserted)
          (subst (λ (x : List spec.Assertion). IsLevel old.global (contents_of new.library)
          (old.assertions.items ++ more) l (signature_to_level (profile_of old) k all) x)
          (sym (assertions_left (profile_of old) k cs c keeps inside))
          (level_grows law old.global (contents_of old.library) (contents_of new.library)
          old.assertions.items more l (signature_to_level (profile_of old) k cs)
          (signature_to_level (profile_of old) k all)
          (assertions_to_level (profile_of old) k cs) grown
          (λ local. local_names_left (profile_of old) k cs c keeps (sym h.global ∙ local) inside)
          (λ everywhere held. subst (λ (s : Signature). library.StandsFor new.library s)
          (sym (all_names_left (profile_of old) k all
          (subst (λ (g : Bool). AreAs g (in_force names_stand (history (profile_of old) all)))
          (sym h.global ∙ everywhere)
          more_global) ∙ signature-add (profile_of old) cs c keeps)) names)
          (h.levels k l there))));
      ordered = λ j k l m le at there.
          h.ordered j k l m le (ap (λ (xs : List Level). slice_get xs j) (sym levels) ∙ at)
          (ap (λ (xs : List Level). slice_get xs k) (sym levels) ∙ there);
      logic = ap (λ (x : LogicState). logic_after x command) (logic ∙ h.logic) ∙ sym (logic-push cs c);
      global = ap (λ (g : Bool). global_after g command) (global ∙ h.global) ∙ sym (global-push cs c);
      print_success =
          ap (λ (x : Bool). print_success_after old.start.print_success x command) (print ∙ h.print_success)
          ∙ sym (print-push old.start.print_success cs c);
      exited = ap (λ (x : Bool). x || is_exit command) (exited ∙ h.exited) ∙ sym (exited-push cs c);
    })

-- contents extend themselves
pub extends_itself : (c : Contents) → Extends c c
extends_itself c = record {
  theories = refl;
  elements = refl;
  apart = λ x head none found. cc;
  abbreviations = ([], sym (append-nil c.abbreviations));
  ranks = ([], sym (append-nil c.ranks));
  heads = ([], sym (append-nil c.heads));
  declared = ([], sym (append-nil c.declared));
  definitions = ([], sym (append-nil c.definitions));
  bodies = ([], sym (append-nil c.bodies));
  rows = ([], sym (append-nil c.rows));
}

-- a signature to which a command brings nothing
pub nothing_brought : (l : Library) (s : Signature) (n : ℕ) (command : Command)
    → abbreviations_by s n command ≡ [] → entries_by s n command ≡ [] → library.StandsFor l s
    → library.StandsFor l (with_brought s n command)
nothing_brought l s n command abbreviations entries h =
    let P : Signature → Type 0 = λ x. library.StandsFor l x in
    subst P (sym (ap (λ (as' : List (List ℕ × NamedSort)).
    record {
      theories = s.theories;
      elements = s.elements;
      abbreviations = s.abbreviations ++ as';
      entries =
          s.entries ++ entries_by s n command;
    }) abbreviations
    ∙ ap (λ (es : List Entry).
    record { theories = s.theories; elements = s.elements; abbreviations = s.abbreviations ++ []; entries = s.entries ++ es })
    entries
    ∙ ap (λ (es : List Entry).
    record { theories = s.theories; elements = s.elements; abbreviations = s.abbreviations ++ []; entries = es })
    (append-nil s.entries)
    ∙ ap (λ (as' : List (List ℕ × NamedSort)).
    record { theories = s.theories; elements = s.elements; abbreviations = as'; entries = s.entries })
    (append-nil s.abbreviations))) h

-- a command that changes nothing but the notes
pub record Idle (profile : Profile) (command : Command) : Type 0 where
  pub adds : Adds profile command
  pub global : (g : Bool) → global_after g command ≡ g
  pub entries : (s : Signature) (n : ℕ) → entries_by s n command ≡ []
  pub abbreviations : (s : Signature) (n : ℕ) → abbreviations_by s n command ≡ []
  pub assertions : (n : ℕ) → assertions_by n command ≡ []
  pub faultless : (cs : List Numbered) (n : ℕ) → flaw_of_effect profile cs n command ≡ None

pub idle_effect : ContentsAreKept → (s : Stack) (n : ℕ) (command : Command) → Idle (profile_of s) command
    → HasEffect s s n command
idle_effect law s n command idle = record {
  faultless = λ cs h. idle.faultless cs n;
  stands = λ cs h alike.
      let P : List spec.Assertion → Type 0 =
      λ bs. AreAssertions (contents_of s.library) s.assertions.items (assertions_in_force (profile_of s) cs ++ bs) in
      added law s s [] cs n command h alike idle.adds (idle.global (global_in_force cs)) refl refl refl refl refl refl
      (extends_itself (contents_of s.library)) (sym (append-nil s.assertions.items))
      (nothing_brought s.library (signature_in_force (profile_of s) cs) n command
      (idle.abbreviations (signature_in_force (profile_of s) cs) n)
      (idle.entries (signature_in_force (profile_of s) cs) n) h.library)
      (subst P (sym (idle.assertions n))
      (subst (λ (bs : List spec.Assertion). AreAssertions (contents_of s.library) s.assertions.items bs)
      (sym (append-nil (assertions_in_force (profile_of s) cs))) h.assertions));
  start = refl;
}

-- a command that brings an item adds it
pub addition_adds : (profile : Profile) (command : Command) (item : Addition) → effect_of command ≡ Brings item
    → Adds profile command
addition_adds profile command item is = record {
  no_reset = ap (λ (e : Effect). resets (removed_of_effect e)) is;
  level = λ d. ap (depth_by d) is;
  theories = λ t. ap (theories_by profile t) is;
}

-- so is each that has no effect
pub no_effect_is_idle : (profile : Profile) (command : Command) → effect_of command ≡ Removing Nothing
    → Idle profile command
no_effect_is_idle profile command is = record {
  adds = record {
    no_reset = ap (λ (e : Effect). resets (removed_of_effect e)) is;
    level = λ d. ap (depth_by d) is;
    theories = λ t. ap (theories_by profile t) is;
  };
  global = λ g. ap (global_by g) is;
  entries = λ s n. ap (entries_of_effect s n) is;
  abbreviations = λ s n. ap (abbreviations_of_effect s n) is;
  assertions = λ n. ap (assertions_of_effect n) is;
  faultless = λ cs n. ap (flaw_by profile cs n) is;
}

-- ---- names

-- a command that brings these names, without a fault
pub record BringsNames (profile : Profile) (old new : Library) (n : ℕ) (command : Command) : Type 0 where
  pub adds : Adds profile command
  pub global : (g : Bool) → global_after g command ≡ g
  pub grown : Extends (contents_of old) (contents_of new)
  pub assertions : assertions_by n command ≡ []
  pub names : (cs : List Numbered) → library.StandsFor old (signature_in_force profile cs)
      → (flaw_of_effect profile cs n command ≡ None)
      × library.StandsFor new (with_brought (signature_in_force profile cs) n command)

pub names_effect : ContentsAreKept → (old : Stack) (l : Library) (n : ℕ) (command : Command)
    → BringsNames (profile_of old) old.library l n command → HasEffect old (record old { library = l }) n command
names_effect law old l n command brings = record {
  faultless = λ cs h. (brings.names cs h.library).0;
  stands = λ cs h alike.
      let P : List spec.Assertion → Type 0 =
      λ bs. AreAssertions (contents_of l) old.assertions.items (assertions_in_force (profile_of old) cs ++ bs) in
      added law old (record old { library = l })
      [] cs n command h alike brings.adds (brings.global (global_in_force cs)) refl refl refl refl refl refl
      brings.grown
      (sym (append-nil old.assertions.items)) (brings.names cs h.library).1
      (subst P (sym brings.assertions)
      (subst (λ (bs : List spec.Assertion). AreAssertions (contents_of l) old.assertions.items bs)
      (sym (append-nil (assertions_in_force (profile_of old) cs)))
      (assertions_stay law (contents_of old.library) (contents_of l) brings.grown old.assertions.items
      (assertions_in_force (profile_of old) cs) h.assertions)));
  start = refl;
}

-- one more name is what a command brings that brings it alone
one_entry : (l : Library) (s : Signature) (n : ℕ) (command : Command) (e : Entry)
    → abbreviations_by s n command ≡ [] → entries_by s n command ≡ e ∷ [] → library.StandsFor l (with_entry s e)
    → library.StandsFor l (with_brought s n command)
one_entry l s n command e abbreviations entries h =
    let P : Signature → Type 0 = λ x. library.StandsFor l x in
    subst P (sym (ap (λ (as' : List (List ℕ × NamedSort)).
    record {
      theories = s.theories;
      elements = s.elements;
      abbreviations = s.abbreviations ++ as';
      entries =
          s.entries ++ entries_by s n command;
    }) abbreviations
    ∙ ap (λ (es : List Entry).
    record { theories = s.theories; elements = s.elements; abbreviations = s.abbreviations ++ []; entries = s.entries ++ es })
    entries
    ∙ ap (λ (as' : List (List ℕ × NamedSort)).
    record { theories = s.theories; elements = s.elements; abbreviations = as'; entries = s.entries ++ e ∷ [] })
    (append-nil s.abbreviations))) h

abbrev pub DeclaresIn : Library → Library → ℕ → List ℕ → Sexps → Sexp → Type 0
DeclaresIn old new n x parameters sort =
    (s : Signature) → library.StandsFor old s
    → (e : Entry) × (declared_in s n x parameters sort ≡ Ok e) × library.StandsFor new (with_entry s e)

pub declare_const_effect : ContentsAreKept → (old : Stack) (l : Library) (n : ℕ) (x : List ℕ) (sort : Sexp)
    → DeclaresIn old.library l n x Nil sort → Extends (contents_of old.library) (contents_of l)
    → HasEffect old (record old { library = l }) n (DeclareConst x sort)
declare_const_effect law old l n x sort declares grown =
    names_effect law old l n (DeclareConst x sort) (record {
      adds = addition_adds (profile_of old) (DeclareConst x sort) _ refl;
      global = λ g. refl;
      grown = grown;
      assertions = refl;
      names = λ cs h.
          let made = declares (signature_in_force (profile_of old) cs) h in (
            ap flaw_of made.1,
            one_entry l (signature_in_force (profile_of old) cs) n (DeclareConst x sort) made.0 refl
                (ap one_or_none made.1) made.2,
          );
    })

pub declare_fun_effect : ContentsAreKept
    → (old : Stack) (l : Library) (n : ℕ) (x : List ℕ) (parameters : Sexps) (sort : Sexp)
    → DeclaresIn old.library l n x parameters sort → Extends (contents_of old.library) (contents_of l)
    → HasEffect old (record old { library = l }) n (DeclareFun x parameters sort)
declare_fun_effect law old l n x parameters sort declares grown =
    names_effect law old l n (DeclareFun x parameters sort) (record {
      adds = addition_adds (profile_of old) (DeclareFun x parameters sort) _ refl;
      global = λ g. refl;
      grown = grown;
      assertions = refl;
      names = λ cs h.
          let made = declares (signature_in_force (profile_of old) cs) h in (
            ap flaw_of made.1,
            one_entry l (signature_in_force (profile_of old) cs) n (DeclareFun x parameters sort)
                made.0 refl (ap one_or_none made.1) made.2,
          );
    })

abbrev pub DefinesIn : Library → Library → List ℕ → List (List ℕ × Sexp) → Sexp → Sexp → Type 0
DefinesIn old new x parameters sort body =
    (s : Signature) → library.StandsFor old s
    → (e : Entry) × (defined_in s x parameters sort body ≡ Ok e) × library.StandsFor new (with_entry s e)

pub define_effect : ContentsAreKept
    → (old : Stack) (l : Library) (n : ℕ) (x : List ℕ) (parameters : List (List ℕ × Sexp)) (sort body : Sexp)
    → DefinesIn old.library l x parameters sort body → Extends (contents_of old.library) (contents_of l)
    → HasEffect old (record old { library = l }) n (DefineFun x parameters sort body)
define_effect law old l n x parameters sort body defines grown =
    names_effect law old l n (DefineFun x parameters sort body) (record {
      adds = addition_adds (profile_of old) (DefineFun x parameters sort body) _ refl;
      global = λ g. refl;
      grown = grown;
      assertions = refl;
      names = λ cs h.
          let made = defines (signature_in_force (profile_of old) cs) h in (
            ap flaw_of made.1,
            one_entry l (signature_in_force (profile_of old) cs) n (DefineFun x parameters sort body)
                made.0 refl (ap one_or_none made.1) made.2,
          );
    })

abbrev pub AbbreviatesIn : Library → Library → List ℕ → Sexp → Type 0
AbbreviatesIn old new x sort =
    (s : Signature) → library.StandsFor old s
    → (found : NamedSort) × (abbreviated_in (sort_names_of s) x sort ≡ Ok found)
    × library.StandsFor new (with_abbreviation s x found)

one_abbreviation : (l : Library) (s : Signature) (n : ℕ) (command : Command) (x : List ℕ) (sort : NamedSort)
    → abbreviations_by s n command ≡ (x, sort) ∷ [] → entries_by s n command ≡ []
    → library.StandsFor l (with_abbreviation s x sort) → library.StandsFor l (with_brought s n command)
one_abbreviation l s n command x sort abbreviations entries h =
    let P : Signature → Type 0 = λ y. library.StandsFor l y in
    subst P (sym (ap (λ (as' : List (List ℕ × NamedSort)).
    record {
      theories = s.theories;
      elements = s.elements;
      abbreviations = s.abbreviations ++ as';
      entries =
          s.entries ++ entries_by s n command;
    }) abbreviations
    ∙ ap (λ (es : List Entry).
    record {
      theories = s.theories;
      elements = s.elements;
      abbreviations = s.abbreviations ++ (x, sort) ∷ [];
      entries =
          s.entries ++ es;
    }) entries
    ∙ ap (λ (es : List Entry).
    record { theories = s.theories; elements = s.elements; abbreviations = s.abbreviations ++ (x, sort) ∷ []; entries = es })
    (append-nil s.entries))) h

abbrev pub DeclaresSortIn : Library → Library → ℕ → List ℕ → Type 0
DeclaresSortIn old new n x =
    (s : Signature) → library.StandsFor old s
    → (found : NamedSort) × (sort_declared_in (sort_names_of s) n x ≡ Ok found)
    × library.StandsFor new (with_abbreviation s x found)

pub declare_sort_effect : ContentsAreKept → (old : Stack) (l : Library) (n : ℕ) (x : List ℕ)
    → DeclaresSortIn old.library l n x → Extends (contents_of old.library) (contents_of l)
    → HasEffect old (record old { library = l }) n (DeclareSort x)
declare_sort_effect law old l n x declares grown =
    names_effect law old l n (DeclareSort x) (record {
      adds = addition_adds (profile_of old) (DeclareSort x) _ refl;
      global = λ g. refl;
      grown = grown;
      assertions = refl;
      names = λ cs h.
          let made = declares (signature_in_force (profile_of old) cs) h in (
            ap flaw_of made.1,
            one_abbreviation l (signature_in_force (profile_of old) cs) n (DeclareSort x) x made.0
                (ap (λ (r : Result NamedSort TermFlaw). spec.named x (one_or_none r)) made.1) refl made.2,
          );
    })

pub define_sort_effect : ContentsAreKept → (old : Stack) (l : Library) (n : ℕ) (x : List ℕ) (sort : Sexp)
    → AbbreviatesIn old.library l x sort → Extends (contents_of old.library) (contents_of l)
    → HasEffect old (record old { library = l }) n (DefineSort x sort)
define_sort_effect law old l n x sort abbreviates grown =
    names_effect law old l n (DefineSort x sort) (record {
      adds = addition_adds (profile_of old) (DefineSort x sort) _ refl;
      global = λ g. refl;
      grown = grown;
      assertions = refl;
      names = λ cs h.
          let made = abbreviates (signature_in_force (profile_of old) cs) h in (
            ap flaw_of made.1,
            one_abbreviation l (signature_in_force (profile_of old) cs) n (DefineSort x sort) x made.0
                (ap (λ (r : Result NamedSort TermFlaw). spec.named x (one_or_none r)) made.1) refl made.2,
          );
    })

-- ---- assertions

abbrev pub AssertsIn : Library → Library → Sexp → Type 0
AssertsIn old new term =
    (s : Signature) → library.StandsFor old s
    → (labels : List Entry) × (asserted_in (names_of s) term ≡ Ok labels)
    × library.StandsFor new (with_entries s labels)

some_entries : (l : Library) (s : Signature) (n : ℕ) (command : Command) (es : List Entry)
    → abbreviations_by s n command ≡ [] → entries_by s n command ≡ es → library.StandsFor l (with_entries s es)
    → library.StandsFor l (with_brought s n command)
some_entries l s n command es abbreviations entries h =
    let P : Signature → Type 0 = λ x. library.StandsFor l x in
    subst P (sym (ap (λ (as' : List (List ℕ × NamedSort)).
    record {
      theories = s.theories;
      elements = s.elements;
      abbreviations = s.abbreviations ++ as';
      entries =
          s.entries ++ entries_by s n command;
    }) abbreviations
    ∙ ap (λ (ds : List Entry).
    record { theories = s.theories; elements = s.elements; abbreviations = s.abbreviations ++ []; entries = s.entries ++ ds })
    entries
    ∙ ap (λ (as' : List (List ℕ × NamedSort)).
    record { theories = s.theories; elements = s.elements; abbreviations = as'; entries = s.entries ++ es })
    (append-nil s.abbreviations))) h

pub assert_effect : ContentsAreKept
    → (old : Stack) (l : Library) (as' : Vec Assertion) (a : Assertion) (term : Sexp)
    → AssertsIn old.library l term
    → ((s : Signature) → library.StandsFor old.library s → IsTermOf (contents_of l) a.term term)
    → a.size ≡ weight term
    → Extends (contents_of old.library) (contents_of l)
    → as'.items ≡ old.assertions.items ++ a ∷ []
    → HasEffect old (record old { library = l; assertions = as' }) a.command (Assert term)
assert_effect law old l as' a term asserts stored size grown pushed = record {
  faultless = λ cs h. ap flaw_of (asserts (signature_in_force (profile_of old) cs) h.library).1;
  stands = λ cs h alike.
      let made = asserts (signature_in_force (profile_of old) cs) h.library in
      let P : List Assertion → Type 0 =
      λ xs. AreAssertions (contents_of l) xs
      (assertions_in_force (profile_of old) cs ++ record { command = a.command; term = term } ∷ []) in
      added law old (record old { library = l; assertions = as' }) (a ∷ []) cs a.command (Assert term) h alike
      (addition_adds (profile_of old) (Assert term) _ refl) refl refl refl refl refl refl refl grown pushed
      (some_entries l (signature_in_force (profile_of old) cs) a.command (Assert term) made.0 refl
      (ap spec.all_or_none made.1) made.2)
      (subst P (sym pushed)
      (one_more_assertion (contents_of l) old.assertions.items (assertions_in_force (profile_of old) cs) a
      (record { command = a.command; term = term })
      (assertions_stay law (contents_of old.library) (contents_of l) grown old.assertions.items
      (assertions_in_force (profile_of old) cs) h.assertions) refl
      (stored (signature_in_force (profile_of old) cs) h.library) size));
  start = refl;
}

-- a library that holds more, and as many assertions, change nothing else
pub unchanged_by : (old : Stack) (l : Library) (as' : Vec Assertion)
    → Extends (contents_of old.library) (contents_of l) → transient_of l ≡ transient_of old.library
    → as'.items ≡ old.assertions.items → HasMore old (record old { library = l; assertions = as' })
unchanged_by old l as' grown transient same = record {
  library = grown;
  transient = transient;
  assertions = same;
  assumptions = refl;
  levels = refl;
  notes = record { logic = refl; global = refl; print_success = refl; start = refl; exited = refl; last = refl };
}

-- ---- logics

pub no_levels : (old : Stack) (cs : List Numbered) → HasInForce old cs → depth_in_force cs ≡ 0
    → (k : ℕ) (level : Level) → slice_get old.levels k ≡ Some level → ⊥
no_levels old cs h zero_deep k level at = let m = within old.levels k level at in let e =
    h.depth in absurd (omega arith)

pub none_of_any : (c d : Contents) (as' : List Assertion) → AreAssertions c as' [] → AreAssertions d as' []
none_of_any c d [] h = tt
none_of_any c d (a ∷ as') h = h

not_fixed : (old : Stack) (cs : List Numbered) → HasInForce old cs → (old.logic.set || old.logic.late) ≡ false
    → (is_logic_set cs || is_too_late cs) ≡ false
not_fixed old cs h free = sym (ap (λ (l : LogicState). l.set || l.late) h.logic) ∙ free

not_late : (set late : Bool) → (set || late) ≡ false → late ≡ false
not_late true late h = absurd (cc)
not_late false late h = h

pub logic_effect : (old : Stack) (l : Library) (theories : Theories) (name : List ℕ)
    → (old.logic.set || old.logic.late) ≡ false → theories_named (profile_of old) name ≡ Some theories
    → library.StandsFor l (no_names theories)
    → (n : ℕ) → HasEffect old (record old { library = l }) n (SetLogic name)
logic_effect old l theories name free named fresh n = record {
  faultless = λ cs h. rw (not_fixed old cs h free, named);
  stands = λ cs h alike.
      let c : Numbered = record { number = n; command = SetLogic name } in
      let b = brought_by (profile_of old) cs (history (profile_of old) cs) c in
      let N = in_force names_stand (history (profile_of old) cs) in
      let A = in_force assertions_stand (history (profile_of old) cs) in
      let empty = unfixed_is_empty (profile_of old) cs
      (not_late (is_logic_set cs) (is_too_late cs) (not_fixed old cs h free)) in
      let none = none_more N b true refl refl in
      let names = names_grow (profile_of old) cs c refl (omega arith) in
      let assertions : assertions_in_force (profile_of old) (cs ++ c ∷ []) ≡ [] =
      ap assertions_of (assertions_grow (profile_of old) cs c refl (omega arith)) ∙ assertions-push A b
      ∙ append-nil (assertions_of A) ∙ empty.0.assertions in
      let t : theories_in_force (profile_of old) (cs ++ c ∷ []) ≡ theories =
      theories-push (profile_of old) cs c
      ∙ ap (λ (o : Option Theories). theories_or (theories_in_force (profile_of old) cs) o) named in
      let deep : depth_in_force (cs ++ c ∷ []) ≡ 0 = depth-push cs c ∙ empty.1 in
      let s : signature_in_force (profile_of old) (cs ++ c ∷ []) ≡ no_names theories =
      same_signature (theories_in_force (profile_of old) (cs ++ c ∷ [])) theories
      (in_force names_stand (history (profile_of old) (cs ++ c ∷ []))) []
      t (ap abbreviations_of names ∙ none.1 ∙ empty.0.abbreviations)
      (ap entries_of names ∙ none.0 ∙ empty.0.entries) in
      let was : AreAssertions (contents_of old.library) old.assertions.items [] =
      subst (λ (x : List spec.Assertion). AreAssertions (contents_of old.library) old.assertions.items x)
      empty.0.assertions h.assertions in
      record {
        library = subst (λ (x : Signature). library.StandsFor l x) (sym s) fresh;
        assertions = subst (λ (x : List spec.Assertion). AreAssertions (contents_of l) old.assertions.items x)
            (sym assertions)
            (none_of_any (contents_of old.library) (contents_of l) old.assertions.items was);
        depth = h.depth ∙ empty.1 ∙ sym deep;
        levels = λ k level at. absurd (no_levels old cs h empty.1 k level at);
        ordered = h.ordered;
        logic = ap (λ (x : LogicState). logic_after x (SetLogic name)) h.logic ∙ sym (logic-push cs c);
        global = h.global ∙ sym (global-push cs c);
        print_success = ap (λ (x : Bool). print_success_after old.start.print_success x (SetLogic name)) h.print_success
            ∙ sym (print-push old.start.print_success cs c);
        exited = ap (λ (x : Bool). x || is_exit (SetLogic name)) h.exited ∙ sym (exited-push cs c);
      };
  start = refl;
}

-- ---- faults

-- a fault of a term tells what is wrong with its command
told_of_term : (f : TermFault) (fault : CommandFault) (expected : Option CommandFlaw)
    → fault ≡ fault_by_term f
    → expected ≡ Some (Term (flaw_told f)) → TellsCommand expected fault
told_of_term terms.Memory fault expected made h = inl made
told_of_term terms.Form fault expected made h = rw (made, h) (inr (refl, refl))
told_of_term terms.Unsupported fault expected made h = rw (made, h) (inr (refl, refl))
told_of_term terms.Unknown fault expected made h = rw (made, h) (inr (refl, refl))
told_of_term terms.IllSorted fault expected made h = rw (made, h) (inr (refl, refl))
told_of_term terms.Index fault expected made h = rw (made, h) (inr (refl, refl))
told_of_term terms.BoundTwice fault expected made h = rw (made, h) (inr (refl, refl))
told_of_term terms.NotFresh fault expected made h = rw (made, h) (inr (refl, refl))
told_of_term terms.Label fault expected made h = rw (made, h) (inr (refl, refl))

-- what a refused declaration, definition, abbreviation or assertion tells
pub refused_by : {A : Type 0} (r : Result A TermFlaw) (f : TermFault) (fault : CommandFault)
    → fault ≡ fault_by_term f → Tells r f → TellsCommand (flaw_of r) fault
refused_by r f fault made (inl e) = inl (made ∙ ap fault_by_term e)
refused_by r f fault made (inr e) = told_of_term f fault (flaw_of r) made (ap flaw_of e)
