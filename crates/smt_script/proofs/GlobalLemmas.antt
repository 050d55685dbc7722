-- What saying whether declarations are global does to a stack.
use Rattle.std.proofs.Common.{◌≡◌, ℕ, List, [], Bool, false, true, ◌||◌, None, Some, refl, ap, sym, subst, ◌∙◌}
use Rattle.std.proofs.lemmas.List.{append-nil}
use Rattle.smt_terms.specs.Contents.{contents_of}
use Rattle.smt_terms.specs.Library as library
use Rattle.smt_terms.specs.Signature.{Signature}
use Rattle.smt_script.specs.Command.{SetGlobalDeclarations}
use Rattle.smt_script.specs.Stack as spec
use Rattle.smt_script.specs.Stack.{Numbered, assertions_in_force, flaw_of_effect, signature_in_force, flaw_of_global}
use Rattle.smt_script.specs.Stack.{global_in_force, is_too_late}
use Rattle.smt_script.specs.StackView.{AreAssertions, HasInForce, profile_of}
use Rattle.smt_script.specs.Internal.Effect.{ContentsAreKept, HasEffect, logic_after}
use Rattle.smt_faults.specs.declared.command_flaw.CommandFlaw.TheVariants.{Logic}
use Rattle.smt_script.specs.declared.stack.LogicState.{LogicState}
use Rattle.smt_script.specs.declared.stack.Stack.{Stack}
use Rattle.smt_script.proofs.HistoryLemmas.{exited-push, global-push, logic-push, print-push, unfixed_is_empty}
use Rattle.smt_script.proofs.StandingLemmas.{depth-push}
use Rattle.smt_script.proofs.EffectLemmas.{Adds, added, adds_keeps, assertions-add, extends_itself, no_levels}
use Rattle.smt_script.proofs.EffectLemmas.{nothing_brought, signature-add}
use Rattle.smt_theory.specs.declared.profile.Profile.{Profile}

flaw_early : (late global on : Bool) → late ≡ false → flaw_of_global late global on ≡ None
flaw_early true global on h = absurd (cc)
flaw_early false global on h = refl

flaw_same : (late global on : Bool) → global ≡ on → flaw_of_global late global on ≡ None
flaw_same false global on h = refl
flaw_same true true true h = refl
flaw_same true true false h = absurd (cc)
flaw_same true false true h = absurd (cc)
flaw_same true false false h = refl

flaw_late : (late global on : Bool) → late ≡ true → (global ≡ on → ⊥) → flaw_of_global late global on ≡ Some Logic
flaw_late false global on h other = absurd (cc)
flaw_late true true true h other = absurd (other refl)
flaw_late true true false h other = refl
flaw_late true false true h other = refl
flaw_late true false false h other = absurd (other refl)

global_adds : (profile : Profile) (on : Bool) → Adds profile (SetGlobalDeclarations on)
global_adds profile on = record { no_reset = refl; level = λ d. refl; theories = λ t. refl }

-- while it is early, there is no level and nothing in force
pub early_global : (s : Stack) (n : ℕ) (on : Bool) → s.logic.late ≡ false
    → HasEffect s s n (SetGlobalDeclarations on)
early_global s n on early = record {
  faultless = λ cs h. flaw_early (is_too_late cs) (global_in_force cs) on
      (sym (ap (λ (l : LogicState). l.late) h.logic) ∙ early);
  stands = λ cs h alike.
      let command = SetGlobalDeclarations on in
      let c : Numbered = record { number = n; command = command } in
      let empty = unfixed_is_empty (profile_of s) cs (sym (ap (λ (l : LogicState). l.late) h.logic) ∙ early) in
      let keeps = adds_keeps (profile_of s) command (global_adds (profile_of s) on) in
      record {
        library = subst (λ (x : Signature). library.StandsFor s.library x)
            (sym (signature-add (profile_of s) cs c keeps))
            (nothing_brought s.library (signature_in_force (profile_of s) cs) n command refl refl h.library);
        assertions = subst (λ (bs : List spec.Assertion). AreAssertions (contents_of s.library)
            s.assertions.items bs) (sym (assertions-add (profile_of s) cs c keeps
            ∙ append-nil (assertions_in_force (profile_of s) cs)))
            h.assertions;
        depth = h.depth ∙ sym (depth-push cs c);
        levels = λ k level at. absurd (no_levels s cs h empty.1 k level at);
        ordered = h.ordered;
        logic = ap (λ (x : LogicState). logic_after x command) h.logic ∙ sym (logic-push cs c);
        global = sym (global-push cs c);
        print_success = h.print_success ∙ sym (print-push s.start.print_success cs c);
        exited = ap (λ (x : Bool). x || false) h.exited ∙ sym (exited-push cs c);
      };
  start = refl;
}

-- setting the value that there is changes nothing
pub same_global : ContentsAreKept → (s : Stack) (n : ℕ) (on : Bool) → s.global ≡ on
    → HasEffect s s n (SetGlobalDeclarations on)
same_global law s n on same = record {
  faultless = λ cs h. flaw_same (is_too_late cs) (global_in_force cs) on (sym h.global ∙ same);
  stands = λ cs h alike.
      added law s s [] cs n (SetGlobalDeclarations on) h alike (global_adds (profile_of s) on) (sym same ∙ h.global)
      refl refl refl refl refl refl
      (extends_itself (contents_of s.library)) (sym (append-nil s.assertions.items))
      (nothing_brought s.library (signature_in_force (profile_of s) cs) n
      (SetGlobalDeclarations on) refl refl h.library)
      (subst (λ (bs : List spec.Assertion). AreAssertions (contents_of s.library) s.assertions.items bs)
      (sym (append-nil (assertions_in_force (profile_of s) cs))) h.assertions);
  start = refl;
}

pub late_global : (s : Stack) (on : Bool) → s.logic.late ≡ true → (s.global ≡ on → ⊥) → (cs : List Numbered)
    → HasInForce s cs → (n : ℕ) → flaw_of_effect (profile_of s) cs n (SetGlobalDeclarations on) ≡ Some Logic
late_global s on late other cs h n =
    flaw_late (is_too_late cs) (global_in_force cs) on (sym (ap (λ (l : LogicState). l.late) h.logic) ∙ late)
    (λ same. other (h.global ∙ same))
