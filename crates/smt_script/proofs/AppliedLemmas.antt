-- A command that took effect, was noted, and ended what it ends stands under its number.
use Rattle.std.proofs.Common.{◌≡◌, ℕ, List, [], ◌∷◌, ◌++◌, Bool, true, false, cond, refl, ap, sym, subst, ◌∙◌}
use Rattle.std.proofs.lemmas.List.Sums.{fold-append}
use Rattle.smt_trees.specs.Sexp.{Sexp}
use Rattle.smt_nodes.specs.Node.{Row}
use Rattle.smt_terms.specs.Contents.{Contents, contents_of, terms_in}
use Rattle.smt_terms.specs.Denotes.{Table}
use Rattle.smt_terms.specs.Library.{held_terms_of, terms_of, transient_of}
use Rattle.smt_terms.specs.declared.library.Library.{Library}
use Rattle.smt_script.specs.Command.{Command, effect_of}
use Rattle.smt_script.specs.Stack.{Numbered, assumptions_after, assumptions_in_force, ends_assumptions}
use Rattle.smt_script.specs.Stack.{signature_in_force}
use Rattle.smt_script.specs.StackView.{AreNamesAlike, AreTerms, HasInForce, StandsFor, profile_of}
use Rattle.smt_script.specs.Internal.Effect.{HasAssumed, HasEffect, IsEnded, IsUnchanged, assumptions_left, with_notes}
use Rattle.smt_script.specs.declared.stack.Stack.{Stack}
use Rattle.smt_script.specs.declared.stack.Start.{Start}
use Rattle.smt_script.proofs.HistoryLemmas.{alike_step}
use Rattle.smt_script.proofs.AssumptionLemmas.{left_assumptions}
use Rattle.smt_script.proofs.NeedLemmas.{same_force}

-- the number of the last command is no part of what is in force
with_last : (s : Stack) (n : ℕ) (cs : List Numbered) → HasInForce s cs → HasInForce (record s { last = n }) cs
with_last s n cs h = record {
  library = h.library;
  assertions = h.assertions;
  depth = h.depth;
  levels = h.levels;
  ordered = h.ordered;
  logic = h.logic;
  global = h.global;
  print_success = h.print_success;
  exited = h.exited;
}

-- the tables of libraries that hold the same, with the same transient terms
same_terms : (l m : Library) → contents_of l ≡ contents_of m → transient_of l ≡ transient_of m
    → terms_of l ≡ terms_of m
same_terms l m held transient =
    ap (λ (c : Contents). record (terms_in c) { rows = c.rows ++ transient_of l }) held
    ∙ ap (λ (rows : List Row). record (held_terms_of m) { rows = (contents_of m).rows ++ rows }) transient

transient_kept : (b : Bool) (rows : List Row) → b ≡ false → cond b [] rows ≡ rows
transient_kept true rows h = cc
transient_kept false rows h = refl

transient_gone : (b : Bool) (rows : List Row) → b ≡ true → cond b [] rows ≡ []
transient_gone true rows h = refl
transient_gone false rows h = cc

-- no transient terms are left where the assumptions end
pub none_left : (command : Command) (old new : Stack) → IsEnded command old new → ends_assumptions command ≡ true
    → transient_of new.library ≡ []
none_left command old new ended h =
    ended.transient ∙ transient_gone (ends_assumptions command) (transient_of old.library) h

-- so a command that took effect, was noted, and ended what it ends stands under its number
pub applied_stands : (old taken noted ended : Stack) (n : ℕ) (command : Command) → HasEffect old taken n command
    → HasAssumed old taken (effect_of command) → noted ≡ with_notes command taken → IsEnded command noted ended
    → (cs : List Numbered) → StandsFor old cs
    → StandsFor (record ended { last = n }) (cs ++ record { number = n; command = command } ∷ [])
applied_stands old taken noted ended n command effect assumed is gone cs h =
    let all = cs ++ record { number = n; command = command } ∷ [] in
    let force : HasInForce noted all = subst (λ (s : Stack). HasInForce s all) (sym is)
    (effect.stands cs h.force h.alike) in
    let items : ended.assumptions.items ≡ assumptions_left command taken.assumptions.items =
    gone.assumptions ∙ ap (λ (s : Stack). assumptions_left command s.assumptions.items) is in
    let table : ends_assumptions command ≡ false → terms_of ended.library ≡ terms_of taken.library =
    λ stays. same_terms ended.library taken.library
    (gone.library ∙ ap (λ (s : Stack). contents_of s.library) is)
    (gone.transient ∙ transient_kept (ends_assumptions command) (transient_of noted.library) stays
    ∙ ap (λ (s : Stack). transient_of s.library) is) in
    let pushed : assumptions_in_force all ≡ assumptions_after (assumptions_in_force cs) command =
    fold-append (λ (before : List Sexp) (x : Numbered). assumptions_after before x.command) [] cs
    (record { number = n; command = command } ∷ []) in
    record {
      force = with_last ended n all
          (same_force noted ended all gone.library (ap (λ v. v.items) gone.assertions) gone.levels gone.notes force);
      alike = subst (λ (x : Start). AreNamesAlike x.profile all)
          (sym (gone.notes.start ∙ ap (λ (s : Stack). s.start) is ∙ effect.start))
          (alike_step (profile_of old) cs (record { number = n; command = command }) (effect.faultless cs h.force)
          h.alike);
      assumptions = subst (λ (ts : List Sexp). AreTerms (terms_of ended.library) ended.assumptions.items ts)
          (sym pushed)
          (left_assumptions old taken (terms_of ended.library) command (signature_in_force (profile_of old) cs)
          (assumptions_in_force cs) ended.assumptions.items h.force.library assumed h.assumptions items table);
    }

-- a command that was refused leaves what there was
pub unchanged_stands : (old new : Stack) → IsUnchanged old new → (cs : List Numbered) → StandsFor old cs
    → StandsFor new cs
unchanged_stands old new same cs h = record {
  force = same_force old new cs same.library same.assertions same.levels same.notes h.force;
  alike = subst (λ (x : Start). AreNamesAlike x.profile cs) (sym same.notes.start) h.alike;
  assumptions = subst (λ (t : Table). AreTerms t new.assumptions.items (assumptions_in_force cs))
      (sym (same_terms new.library old.library same.library same.transient))
      (subst (λ (ids : List ℕ). AreTerms (terms_of old.library) ids (assumptions_in_force cs))
      (sym same.assumptions) h.assumptions);
}
