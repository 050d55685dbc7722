-- What one more command brings into force, and at which levels.
use Rattle.std.proofs.Common.{◌≡◌, ◌≤◌, ℕ, ◌+◌, Bool, true, false, cond, not, ◌&&◌, ◌||◌, ◌⊎◌, inl, inr, List, []}
use Rattle.std.proofs.Common.{◌∷◌, ◌++◌, None, refl, ap, sym, ◌∙◌, subst, arith, append_assoc}
use Rattle.std.specs.Prelude.{nat_le}
use Rattle.std.specs.List.{filter, list_all}
use Rattle.std.proofs.Math.Bool.{or-false}
use Rattle.std.proofs.lemmas.List.{append-nil}
use Rattle.std.proofs.lemmas.List.Elements.{filter-append}
use Rattle.std.proofs.lemmas.List.Folds.{list_all-append, list_any-append}
use Rattle.std.proofs.lemmas.List.Sums.{fold-append}
use Rattle.std.proofs.lemmas.Grind.{flat_map-append}
use Rattle.smt_theory.specs.declared.theories.Theories.{Theories}
use Rattle.smt_theory.specs.Theories.{all_theories}
use Rattle.smt_theory.specs.declared.profile.Profile.{Profile}
use Rattle.smt_terms.specs.declared.named_sort.NamedSort.{NamedSort}
use Rattle.smt_terms.specs.Signature.{Entry, Signature}
use Rattle.smt_script.specs.Command.{Command, Effect, Removes, SetsLogic, Brings, Pushes, Pops, Removing, SetsGlobal}
use Rattle.smt_script.specs.Command.{Assumes, AllButOptions, Everything, SetLogic, SetPrintSuccess, effect_of}
use Rattle.smt_script.specs.Command.{SetGlobalDeclarations, SetOption, SetInfo, DeclareConst, DeclareFun, DefineFun}
use Rattle.smt_script.specs.Command.{DeclareSort, DefineSort, Assert, Push, Pop, Reset, ResetAssertions, Exit, CheckSat}
use Rattle.smt_script.specs.Command.{CheckSatAssuming, GetModel, Echo, Get}
use Rattle.smt_script.specs.Command as removals
use Rattle.smt_script.specs.Stack.{Assertion, Brought, Numbered, abbreviations_by, abbreviations_of_effect}
use Rattle.smt_script.specs.Stack.{assertions_of_effect, assertions_stand, depth_by, entries_of_effect, flaw_by}
use Rattle.smt_script.specs.Stack.{flaw_of_effect, flaw_of_global, global_after, global_by, global_in_force}
use Rattle.smt_script.specs.Stack.{removed_of_effect, abbreviations_of, assertions_by}
use Rattle.smt_script.specs.Stack.{assertions_of, brought_by, brought_from, depth_after, depth_in_force}
use Rattle.smt_script.specs.Stack.{entries_by, entries_of, has_exited, history, in_force, names_stand}
use Rattle.smt_script.specs.Stack.{is_everything, is_exit, is_reset, name_stands_after, print_success_after}
use Rattle.smt_script.specs.Stack.{print_success_in_force, signature_of, stands_after, theories_after}
use Rattle.smt_script.specs.Stack.{is_late_after, is_logic_set, is_set_after, is_too_late, resets}
use Rattle.smt_script.specs.Stack.{theories_in_force}
use Rattle.smt_script.specs.StackView.{AreAs, AreNamesAlike, IsAs, logic_state, names_level, names_to_level}
use Rattle.smt_script.specs.Internal.Effect.{logic_after}
use Rattle.smt_script.proofs.StandingLemmas.{and_true, depth-push, le_of, le_true, steps-append, steps-from}

-- ---- the notes after one more command

pub theories-push : (profile : Profile) (cs : List Numbered) (c : Numbered)
    → theories_in_force profile (cs ++ c ∷ []) ≡ theories_after profile (theories_in_force profile cs) c.command
theories-push profile cs c = fold-append (λ (t : Theories) (d : Numbered). theories_after profile t d.command)
    (all_theories profile) cs
    (c ∷ [])

set-push : (cs : List Numbered) (c : Numbered)
    → is_logic_set (cs ++ c ∷ []) ≡ is_set_after (is_logic_set cs) c.command
set-push cs c = fold-append (λ (b : Bool) (d : Numbered). is_set_after b d.command) false cs (c ∷ [])

late-push : (cs : List Numbered) (c : Numbered)
    → is_too_late (cs ++ c ∷ []) ≡ is_late_after (is_too_late cs) c.command
late-push cs c = fold-append (λ (b : Bool) (d : Numbered). is_late_after b d.command) false cs (c ∷ [])

pub logic-push : (cs : List Numbered) (c : Numbered)
    → logic_state (cs ++ c ∷ []) ≡ logic_after (logic_state cs) c.command
logic-push cs c =
    ap (λ (b : Bool). record { set = b; late = is_too_late (cs ++ c ∷ []) }) (set-push cs c)
    ∙ ap (λ (b : Bool). record { set = is_set_after (is_logic_set cs) c.command; late = b }) (late-push cs c)

pub print-push : (start : Bool) (cs : List Numbered) (c : Numbered)
    → print_success_in_force start (cs ++ c ∷ [])
    ≡ print_success_after start (print_success_in_force start cs) c.command
print-push start cs c =
    fold-append (λ (b : Bool) (d : Numbered). print_success_after start b d.command) start cs (c ∷ [])

pub exited-push : (cs : List Numbered) (c : Numbered)
    → has_exited (cs ++ c ∷ []) ≡ (has_exited cs || is_exit c.command)
exited-push cs c =
    list_any-append (λ (d : Numbered). is_exit d.command) cs (c ∷ [])
    ∙ ap (λ (b : Bool). has_exited cs || b) (or-false (is_exit c.command))

-- ---- what was brought

pub history-push : (profile : Profile) (cs : List Numbered) (c : Numbered)
    → history profile (cs ++ c ∷ []) ≡ history profile cs ++ brought_by profile cs (history profile cs) c ∷ []
history-push profile cs c =
    steps-from profile [] [] (cs ++ c ∷ []) ∙ steps-append profile [] [] cs (c ∷ [])
    ∙ ap (λ (h : List Brought). h ++ brought_by profile cs h c ∷ []) (sym (steps-from profile [] [] cs))

-- ---- rules by which what was brought stands

-- how names stand, or assertions: after which later ones, and the level with which they go
pub record IsRule (after : Brought → Brought → Bool) (level : Brought → ℕ) : Type 0 where
  pub kept : (a b : Brought) → resets b.removes ≡ false → after a b ≡ nat_le (level a) b.level
  pub within : (a b : Brought) → after a b ≡ true → level a ≤ b.level
  pub gone : (a b : Brought) → is_everything b.removes ≡ true → after a b ≡ false
  pub inner : (b : Brought) → level b ≤ b.level

abbrev pub assertion_stands_after : Brought → Brought → Bool
assertion_stands_after a b = stands_after a.level b

abbrev pub level_of : Brought → ℕ
level_of b = b.level

everything_resets : (what : Removes) → is_everything what ≡ true → resets what ≡ true
everything_resets removals.Nothing h = absurd (cc)
everything_resets AllButOptions h = absurd (cc)
everything_resets Everything h = refl

not_everything : (what : Removes) → resets what ≡ false → is_everything what ≡ false
not_everything removals.Nothing h = refl
not_everything AllButOptions h = refl
not_everything Everything h = absurd (cc)

kept_at : (level : ℕ) (b : Brought) → resets b.removes ≡ false → stands_after level b ≡ nat_le level b.level
kept_at level b keeps = ap (λ (r : Bool). not r && nat_le level b.level) keeps

within_at : (level : ℕ) (b : Brought) → stands_after level b ≡ true → level ≤ b.level
within_at level b is = le_of level b.level (and_true (not (resets b.removes)) (nat_le level b.level) is).1

gone_at : (level : ℕ) (b : Brought) → resets b.removes ≡ true → stands_after level b ≡ false
gone_at level b resets = ap (λ (r : Bool). not r && nat_le level b.level) resets

pub assertions_rule : IsRule assertion_stands_after level_of
assertions_rule = record {
  kept = λ a b keeps. kept_at a.level b keeps;
  within = λ a b is. within_at a.level b is;
  gone = λ a b all. gone_at a.level b (everything_resets b.removes all);
  inner = λ b. omega arith;
}

-- the same by whether declarations were global
abbrev after_by : Bool → ℕ → Brought → Bool
after_by global level b = cond global (not (is_everything b.removes)) (stands_after level b)

kept_by : (global : Bool) (level : ℕ) (b : Brought) → resets b.removes ≡ false
    → after_by global level b ≡ nat_le (cond global 0 level) b.level
kept_by true level b keeps =
    ap not (not_everything b.removes keeps) ∙ sym (le_true 0 b.level (omega arith))
kept_by false level b keeps = kept_at level b keeps

within_by : (global : Bool) (level : ℕ) (b : Brought) → after_by global level b ≡ true
    → cond global 0 level ≤ b.level
within_by true level b is = omega arith
within_by false level b is = within_at level b is

gone_by : (global : Bool) (level : ℕ) (b : Brought) → is_everything b.removes ≡ true
    → after_by global level b ≡ false
gone_by true level b all = ap not all
gone_by false level b all = gone_at level b (everything_resets b.removes all)

inner_by : (global : Bool) (level : ℕ) → cond global 0 level ≤ level
inner_by true level = omega arith
inner_by false level = omega arith

pub names_rule : IsRule name_stands_after names_level
names_rule = record {
  kept = λ a b keeps. kept_by a.global a.level b keeps;
  within = λ a b is. within_by a.global a.level b is;
  gone = λ a b all. gone_by a.global a.level b all;
  inner = λ b. inner_by b.global b.level;
}

-- ---- what stands after one more

-- whether what was brought stands after all that was brought later
abbrev pub standing : (Brought → Brought → Bool) → Brought → List Brought → Bool
standing after b later = list_all (after b) later

-- what stands after one more
abbrev pub still : (Brought → Brought → Bool) → Brought → List Brought → List Brought
still after b brought = filter (λ (a : Brought). after a b) brought

and_truth : (b : Bool) → (b && true) ≡ b
and_truth true = refl
and_truth false = refl

module _ (after : Brought → Brought → Bool) where
  stand_step : (t u : Bool) (a b : Brought) (brought : List Brought) → after a b ≡ u
      → cond (t && u) (a ∷ []) [] ++ (still after b brought ++ b ∷ [])
      ≡ still after b (cond t (a ∷ []) [] ++ brought) ++ b ∷ []
  stand_step false u a b brought is = refl
  stand_step true true a b brought is =
      ap (λ (u : Bool). cond u (a ∷ still after b brought) (still after b brought) ++ b ∷ []) (sym is)
  stand_step true false a b brought is =
      ap (λ (u : Bool). cond u (a ∷ still after b brought) (still after b brought) ++ b ∷ []) (sym is)

  pub in_force-push : (brought : List Brought) (b : Brought)
      → in_force (standing after) (brought ++ b ∷ [])
      ≡ still after b (in_force (standing after) brought) ++ b ∷ []
  in_force-push [] b = refl
  in_force-push (a ∷ brought) b =
      let t = list_all (after a) brought in
      let all : list_all (after a) (brought ++ b ∷ []) ≡ (t && after a b) =
      list_all-append (after a) brought (b ∷ []) ∙ ap (λ (u : Bool). t && u) (and_truth (after a b)) in
      ap (λ (u : Bool). cond u (a ∷ []) [] ++ in_force (standing after) (brought ++ b ∷ [])) all
      ∙ ap (λ (l : List Brought). cond (t && after a b) (a ∷ []) [] ++ l) (in_force-push brought b)
      ∙ stand_step t (after a b) a b (in_force (standing after) brought) refl

-- what goes with so many levels at most
abbrev pub AtMost : (Brought → ℕ) → ℕ → List Brought → Type 0
AtMost level d [] = Unit {0}
AtMost level d (b ∷ bs) = (level b ≤ d) × AtMost level d bs

at_most-append : (level : Brought → ℕ) (d : ℕ) (xs : List Brought) (b : Brought) → AtMost level d xs
    → level b ≤ d → AtMost level d (xs ++ b ∷ [])
at_most-append level d [] b all h = (h, tt)
at_most-append level d (x ∷ xs) b all h = (all.0, at_most-append level d xs b all.1 h)

-- what holds before any command, and is kept by each, holds of all commands
abbrev pub Kept : (profile : Profile) → (List Numbered → List Brought → Type 0) → Type 0
Kept profile P = (before : List Numbered) (brought : List Brought) (c : Numbered) → P before brought
    → P (before ++ c ∷ []) (brought ++ brought_by profile before brought c ∷ [])

kept_from : (profile : Profile) (P : List Numbered → List Brought → Type 0) → Kept profile P
    → (before : List Numbered) (brought : List Brought) (cs : List Numbered) → P before brought
    → P (before ++ cs) (brought_from profile before brought cs)
kept_from profile P keep before brought [] h = subst (λ (b : List Numbered). P b brought) (sym (append-nil before)) h
kept_from profile P keep before brought (c ∷ cs) h =
    let b = brought_by profile before brought c in
    subst (λ (l : List Numbered). P l (brought_from profile (before ++ c ∷ []) (brought ++ b ∷ []) cs))
    (append_assoc before (c ∷ []) cs)
    (kept_from profile P keep (before ++ c ∷ []) (brought ++ b ∷ []) cs (keep before brought c h))

pub kept_by_all : (profile : Profile) (P : List Numbered → List Brought → Type 0) → P [] [] → Kept profile P
    → (cs : List Numbered)
    → P cs (history profile cs)
kept_by_all profile P start keep cs = kept_from profile P keep [] [] cs start

-- ---- the parts of what was brought

pub entries-push : (xs : List Brought) (b : Brought) → entries_of (xs ++ b ∷ []) ≡ entries_of xs ++ b.entries
entries-push xs b = flat_map-append (λ (x : Brought). x.entries) xs (b ∷ [])
    ∙ ap (λ (l : List Entry). entries_of xs ++ l) (append-nil b.entries)

pub abbreviations-push : (xs : List Brought) (b : Brought)
    → abbreviations_of (xs ++ b ∷ []) ≡ abbreviations_of xs ++ b.abbreviations
abbreviations-push xs b =
    flat_map-append (λ (x : Brought). x.abbreviations) xs (b ∷ [])
    ∙ ap (λ (l : List (List ℕ × NamedSort)). abbreviations_of xs ++ l) (append-nil b.abbreviations)

pub assertions-push : (xs : List Brought) (b : Brought)
    → assertions_of (xs ++ b ∷ []) ≡ assertions_of xs ++ b.assertions
assertions-push xs b = flat_map-append (λ (x : Brought). x.assertions) xs (b ∷ [])
    ∙ ap (λ (l : List Assertion). assertions_of xs ++ l) (append-nil b.assertions)

abbrev pub Bounded : (Brought → Brought → Bool) → (Brought → ℕ) → List Numbered → List Brought → Type 0
Bounded after level before brought = AtMost level (depth_in_force before) (in_force (standing after) brought)

-- what goes with so many levels or fewer
abbrev pub levels_to : (Brought → ℕ) → ℕ → List Brought → List Brought
levels_to level k brought = filter (λ (b : Brought). nat_le (level b) k) brought

module _ (after : Brought → Brought → Bool) (level : Brought → ℕ) (rule : IsRule after level) where
  at_most_by : (a b : Brought) (brought : List Brought) → AtMost level b.level (still after b brought)
      → (u : Bool) → after a b ≡ u
      → AtMost level b.level (cond u (a ∷ still after b brought) (still after b brought))
  at_most_by a b brought rest false is = rest
  at_most_by a b brought rest true is = (rule.within a b is, rest)

  pub still_at_most : (b : Brought) (brought : List Brought) → AtMost level b.level (still after b brought)
  still_at_most b [] = tt
  still_at_most b (a ∷ brought) = at_most_by a b brought (still_at_most b brought) (after a b) refl

  -- where a later one only leaves some levels, what goes with these stands
  pub levels_still : (b : Brought) (brought : List Brought) → resets b.removes ≡ false
      → still after b brought ≡ levels_to level b.level brought
  levels_still b [] keeps = refl
  levels_still b (a ∷ brought) keeps =
      ap (λ (u : Bool). cond u (a ∷ still after b brought) (still after b brought)) (rule.kept a b keeps)
      ∙ ap (λ (l : List Brought). cond (nat_le (level a) b.level) (a ∷ l) l) (levels_still b brought keeps)

  -- all of it is within levels that are as many
  pub all_to_level : (k d : ℕ) (brought : List Brought) → d ≤ k → AtMost level d brought
      → levels_to level k brought ≡ brought
  all_to_level k d [] h all = refl
  all_to_level k d (b ∷ brought) h all =
      let here : nat_le (level b) k ≡ true = le_true (level b) k (let m = all.0 in omega arith) in
      ap (λ (u : Bool). cond u (b ∷ levels_to level k brought) (levels_to level k brought)) here
      ∙ ap (λ (l : List Brought). b ∷ l) (all_to_level k d brought h all.1)

  -- where it neither resets nor leaves fewer levels, all stands
  pub all_still : (b : Brought) (d : ℕ) (brought : List Brought) → resets b.removes ≡ false → d ≤ b.level
      → AtMost level d brought → still after b brought ≡ brought
  all_still b d brought keeps h all =
      levels_still b brought keeps ∙ all_to_level b.level d brought h all

  -- where it removes everything, nothing does
  pub none_still : (b : Brought) (brought : List Brought) → is_everything b.removes ≡ true
      → still after b brought ≡ []
  none_still b [] all = refl
  none_still b (a ∷ brought) all =
      ap (λ (u : Bool). cond u (a ∷ still after b brought) (still after b brought)) (rule.gone a b all)
      ∙ none_still b brought all

module _ (profile : Profile) (after : Brought → Brought → Bool) (level : Brought → ℕ) (rule : IsRule after level) where
  pub bound_step : Kept profile (Bounded after level)
  bound_step before brought c h =
      let b = brought_by profile before brought c in
      let some = still after b (in_force (standing after) brought) in
      let all : AtMost level b.level (some ++ b ∷ []) =
      at_most-append level b.level some b (still_at_most after level rule b (in_force (standing after) brought))
      (rule.inner b) in
      subst (λ (l : List Brought). AtMost level (depth_in_force (before ++ c ∷ [])) l)
      (sym (in_force-push after brought b))
      (subst (λ (d : ℕ). AtMost level d (some ++ b ∷ [])) (sym (depth-push before c)) all)

  -- nothing in force goes with more levels than there are
  pub levels_bound : (cs : List Numbered)
      → AtMost level (depth_in_force cs) (in_force (standing after) (history profile cs))
  levels_bound cs = kept_by_all profile (Bounded after level) tt bound_step cs

  -- what is in force after a command that neither resets nor leaves fewer levels
  pub in_force-grow : (cs : List Numbered) (c : Numbered) → is_reset c.command ≡ false
      → depth_in_force cs ≤ depth_after (depth_in_force cs) c.command
      → in_force (standing after) (history profile (cs ++ c ∷ []))
      ≡ in_force (standing after) (history profile cs) ++ brought_by profile cs (history profile cs) c ∷ []
  in_force-grow cs c keeps h =
      let b = brought_by profile cs (history profile cs) c in
      ap (in_force (standing after)) (history-push profile cs c) ∙ in_force-push after (history profile cs) b
      ∙ ap (λ (l : List Brought). l ++ b ∷ [])
      (all_still after level rule b (depth_in_force cs) (in_force (standing after) (history profile cs)) keeps h
      (levels_bound cs))

  -- what is in force after a command that only leaves some levels
  pub in_force-left : (cs : List Numbered) (c : Numbered) → is_reset c.command ≡ false
      → in_force (standing after) (history profile (cs ++ c ∷ []))
      ≡ levels_to level (depth_after (depth_in_force cs) c.command) (in_force (standing after) (history profile cs))
      ++ brought_by profile cs (history profile cs) c ∷ []
  in_force-left cs c keeps =
      let b = brought_by profile cs (history profile cs) c in
      ap (in_force (standing after)) (history-push profile cs c) ∙ in_force-push after (history profile cs) b
      ∙ ap (λ (l : List Brought). l ++ b ∷ [])
      (levels_still after level rule b (in_force (standing after) (history profile cs)) keeps)

-- where a command removes all assertions, none stands
pub no_assertions_still : (b : Brought) (brought : List Brought) → resets b.removes ≡ true
    → still assertion_stands_after b brought ≡ []
no_assertions_still b [] all = refl
no_assertions_still b (a ∷ brought) all =
    ap (λ (u : Bool). cond u (a ∷ still assertion_stands_after b brought) (still assertion_stands_after b brought))
    (gone_at a.level b all) ∙ no_assertions_still b brought all

-- ---- levels

not_le : (m k : ℕ) → k + 1 ≤ m → nat_le m k ≡ false
not_le m k h = grind (arith)

-- one more, with these levels
pub levels_to-push : (level : Brought → ℕ) (k : ℕ) (xs : List Brought) (b : Brought)
    → levels_to level k (xs ++ b ∷ [])
    ≡ levels_to level k xs ++ cond (nat_le (level b) k) (b ∷ []) []
levels_to-push level k xs b = filter-append (λ (x : Brought). nat_le (level x) k) xs (b ∷ [])

-- what goes with more levels is none of it
pub to_level-push : (level : Brought → ℕ) (k : ℕ) (xs : List Brought) (b : Brought) → k + 1 ≤ level b
    → levels_to level k (xs ++ b ∷ []) ≡ levels_to level k xs
to_level-push level k xs b h =
    levels_to-push level k xs b
    ∙ ap (λ (u : Bool). levels_to level k xs ++ cond u (b ∷ []) []) (not_le (level b) k h)
    ∙ append-nil (levels_to level k xs)

not_fewer : (m j k : ℕ) → j ≤ k → nat_le m k ≡ false → nat_le m j ≡ false
not_fewer m j k h is = grind (arith)

module _ (level : Brought → ℕ) where
  fewer_by : (j k : ℕ) (x : Brought) (xs : List Brought) → j ≤ k
      → levels_to level j (levels_to level k xs) ≡ levels_to level j xs
      → (u : Bool) → nat_le (level x) k ≡ u
      → levels_to level j (cond u (x ∷ levels_to level k xs) (levels_to level k xs))
      ≡ cond (nat_le (level x) j) (x ∷ levels_to level j xs) (levels_to level j xs)
  fewer_by j k x xs h rest true is = ap (λ (l : List Brought). cond (nat_le (level x) j) (x ∷ l) l) rest
  fewer_by j k x xs h rest false is =
      rest ∙ ap (λ (u : Bool). cond u (x ∷ levels_to level j xs) (levels_to level j xs))
      (sym (not_fewer (level x) j k h is))

  -- fewer levels of some are fewer of all
  pub to_fewer : (j k : ℕ) (xs : List Brought) → j ≤ k
      → levels_to level j (levels_to level k xs) ≡ levels_to level j xs
  to_fewer j k [] h = refl
  to_fewer j k (x ∷ xs) h = fewer_by j k x xs h (to_fewer j k xs h) (nat_le (level x) k) refl

-- ---- until it is too late, nothing is in force

pub record Nothing (names asserted : List Brought) : Type 0 where
  pub entries : entries_of names ≡ []
  pub abbreviations : abbreviations_of names ≡ []
  pub assertions : assertions_of asserted ≡ []

abbrev names_in : List Brought → List Brought
names_in brought = in_force names_stand brought

abbrev assertions_in : List Brought → List Brought
assertions_in brought = in_force assertions_stand brought

abbrev Unfixed : List Numbered → List Brought → Type 0
Unfixed before brought =
    Bounded name_stands_after names_level before brought × Bounded assertion_stands_after level_of before brought
    × (is_too_late before ≡ false → Nothing (names_in brought) (assertions_in brought) × (depth_in_force before ≡ 0))

-- a command behind which it is not too late removes everything, or brings and changes none of it
pub data Unfixing (late : Bool) (command : Command) : Type 0 where
  Resets : effect_of command ≡ Removing Everything → Unfixing late command
  Idles : (late ≡ false) → ((s : Signature) (n : ℕ) → entries_by s n command ≡ [])
      → ((s : Signature) (n : ℕ) → abbreviations_by s n command ≡ []) → ((n : ℕ) → assertions_by n command ≡ [])
      → is_reset command ≡ false → ((d : ℕ) → depth_after d command ≡ d) → Unfixing late command

-- where it was not, and the command makes it not
free : (late : Bool) → (late || false) ≡ false → late ≡ false
free late h = sym (or-false late) ∙ h

-- it is too late behind a command that makes it so
late_there : (late : Bool) → (late || true) ≡ false → ⊥
late_there true h = absurd (cc)
late_there false h = absurd (cc)

unfixing : (late : Bool) (command : Command) → is_late_after late command ≡ false → Unfixing late command
unfixing late (SetLogic x) h = Idles (free late h) (λ s n. refl) (λ s n. refl) (λ n. refl) refl (λ d. refl)
unfixing late (SetPrintSuccess on) h = Idles (free late h) (λ s n. refl) (λ s n. refl) (λ n. refl) refl (λ d. refl)
unfixing late (SetGlobalDeclarations on) h =
    Idles (free late h) (λ s n. refl) (λ s n. refl) (λ n. refl) refl (λ d. refl)
unfixing late (SetOption k v) h = Idles (free late h) (λ s n. refl) (λ s n. refl) (λ n. refl) refl (λ d. refl)
unfixing late (SetInfo k v) h = Idles (free late h) (λ s n. refl) (λ s n. refl) (λ n. refl) refl (λ d. refl)
unfixing late (DeclareConst x sort) h = absurd (late_there late h)
unfixing late (DeclareFun x ps sort) h = absurd (late_there late h)
unfixing late (DefineFun x ps sort body) h = absurd (late_there late h)
unfixing late (DeclareSort x) h = absurd (late_there late h)
unfixing late (DefineSort x sort) h = absurd (late_there late h)
unfixing late (Assert term) h = absurd (late_there late h)
unfixing late (Push m) h = absurd (late_there late h)
unfixing late (Pop m) h = absurd (late_there late h)
unfixing late Reset h = Resets refl
unfixing late ResetAssertions h = absurd (late_there late h)
unfixing late Exit h = Idles (free late h) (λ s n. refl) (λ s n. refl) (λ n. refl) refl (λ d. refl)
unfixing late CheckSat h = absurd (late_there late h)
unfixing late (CheckSatAssuming literals) h = absurd (late_there late h)
unfixing late GetModel h = Idles (free late h) (λ s n. refl) (λ s n. refl) (λ n. refl) refl (λ d. refl)
unfixing late (Echo text) h = Idles (free late h) (λ s n. refl) (λ s n. refl) (λ n. refl) refl (λ d. refl)
unfixing late (Get query) h = Idles (free late h) (λ s n. refl) (λ s n. refl) (λ n. refl) refl (λ d. refl)

-- names and assertions behind those that stood, and of one more
nothing_with : (names asserted : List Brought) (b : Brought) → entries_of names ≡ [] → abbreviations_of names ≡ []
    → assertions_of asserted ≡ [] → b.entries ≡ [] → b.abbreviations ≡ [] → b.assertions ≡ []
    → Nothing (names ++ b ∷ []) (asserted ++ b ∷ [])
nothing_with names asserted b e a t f g u = record {
  entries = entries-push names b ∙ ap (λ (l : List Entry). l ++ b.entries) e ∙ f;
  abbreviations = abbreviations-push names b ∙ ap (λ (l : List (List ℕ × NamedSort)). l ++ b.abbreviations) a ∙ g;
  assertions = assertions-push asserted b ∙ ap (λ (l : List Assertion). l ++ b.assertions) t ∙ u;
}

abbrev AfterStep : (profile : Profile) → List Numbered → List Brought → Numbered → Type 0
AfterStep profile before brought c =
    let b = brought_by profile before brought c in
    Nothing (still name_stands_after b (names_in brought) ++ b ∷ [])
    (still assertion_stands_after b (assertions_in brought) ++ b ∷ [])
    × (depth_after (depth_in_force before) c.command ≡ 0)

unfixed_by : (profile : Profile) (before : List Numbered) (brought : List Brought) (c : Numbered)
    → Unfixed before brought
    → Unfixing (is_too_late before) c.command → AfterStep profile before brought c
unfixed_by profile before brought c h (Resets is) =
    let b = brought_by profile before brought c in
    let all : is_everything b.removes ≡ true = ap (λ (e : Effect). is_everything (removed_of_effect e)) is in
    let names = none_still name_stands_after names_level names_rule b (names_in brought) all in
    let asserted = none_still assertion_stands_after level_of assertions_rule b (assertions_in brought) all in
    let s = signature_of (theories_in_force profile before) (names_in brought) in
    let P : Effect → Type 0 =
    λ e. (entries_of_effect s c.number e ≡ []) × (abbreviations_of_effect s c.number e ≡ [])
    × (assertions_of_effect c.number e ≡ []) in
    let none : P (effect_of c.command) = subst P (sym is) (refl, refl, refl) in (
      nothing_with (still name_stands_after b (names_in brought)) (still assertion_stands_after b (assertions_in brought))
          b (ap entries_of names) (ap abbreviations_of names) (ap assertions_of asserted) none.0 none.1 none.2,
      ap (depth_by (depth_in_force before)) is,
    )
unfixed_by profile before brought c h (Idles unfixed entries abbreviations assertions keeps depth) =
    let b = brought_by profile before brought c in
    let was = h.2 unfixed in
    let deep : depth_in_force before ≤ b.level = (let e = depth (depth_in_force before) in omega arith) in
    let names = all_still name_stands_after names_level names_rule b (depth_in_force before) (names_in brought)
    keeps deep h.0 in
    let asserted = all_still assertion_stands_after level_of assertions_rule b (depth_in_force before)
    (assertions_in brought) keeps deep h.1 in
    let s = signature_of (theories_in_force profile before) (names_in brought) in (
      nothing_with (still name_stands_after b (names_in brought)) (still assertion_stands_after b (assertions_in brought))
          b (ap entries_of names ∙ was.0.entries) (ap abbreviations_of names ∙ was.0.abbreviations)
          (ap assertions_of asserted ∙ was.0.assertions) (entries s c.number) (abbreviations s c.number) (assertions c.number),
      depth (depth_in_force before) ∙ was.1,
    )

unfixed_step : (profile : Profile) → Kept profile Unfixed
unfixed_step profile before brought c h = (
  bound_step profile name_stands_after names_level names_rule before brought c h.0,
  bound_step profile assertion_stands_after level_of assertions_rule before brought c h.1,
  λ is.
      let b = brought_by profile before brought c in
      let after = unfixed_by profile before brought c h
      (unfixing (is_too_late before) c.command (sym (late-push before c) ∙ is)) in
      let P : List Brought → List Brought → Type 0 = λ xs ys. Nothing xs ys in (
        subst (λ (xs : List Brought). P xs (assertions_in (brought ++ b ∷ [])))
            (sym (in_force-push name_stands_after brought b))
            (subst (P (still name_stands_after b (names_in brought) ++ b ∷ []))
            (sym (in_force-push assertion_stands_after brought b)) after.0),
        depth-push before c ∙ after.1,
      ),
)

-- until it is too late to set a logic nothing is in force, and there are no levels
pub unfixed_is_empty : (profile : Profile) (cs : List Numbered) → is_too_late cs ≡ false
    → Nothing (in_force names_stand (history profile cs)) (in_force assertions_stand (history profile cs))
    × (depth_in_force cs ≡ 0)
unfixed_is_empty profile cs h =
    (kept_by_all profile Unfixed (
      tt,
      tt,
      λ is. (record { entries = refl; abbreviations = refl; assertions = refl }, refl),
    ) (unfixed_step profile) cs).2 h

-- ---- global names and others never stand together

brings_none : (bs : List Brought) (global : Bool) → entries_of bs ≡ [] → abbreviations_of bs ≡ [] → AreAs global bs
brings_none [] global e a = tt
brings_none (b ∷ bs) global e a =
    let f = none_of_both b.entries (entries_of bs) e in
    let g = none_of_both b.abbreviations (abbreviations_of bs) a in
    (inr (f.0, g.0), brings_none bs global f.1 g.1)
  where
    none_of_both : {A : Type 0} (xs ys : List A) → xs ++ ys ≡ [] → (xs ≡ []) × (ys ≡ [])
    none_of_both [] ys h = (refl, h)
    none_of_both (x ∷ xs) ys h = absurd (cc)

pub filter_alike : (f : Brought → Bool) (global : Bool) (bs : List Brought) → AreAs global bs
    → AreAs global (filter f bs)
filter_alike f global [] h = tt
filter_alike f global (b ∷ bs) h = some b (f b) (filter f bs) h.0 (filter_alike f global bs h.1)
  where
    some : (b : Brought) (u : Bool) (bs : List Brought) → IsAs global b → AreAs global bs
        → AreAs global (cond u (b ∷ bs) bs)
    some b true bs h all = (h, all)
    some b false bs h all = all

pub alike-append : (global : Bool) (bs : List Brought) (b : Brought) → AreAs global bs → IsAs global b
    → AreAs global (bs ++ b ∷ [])
alike-append global [] b all h = (h, tt)
alike-append global (x ∷ bs) b all h = (all.0, alike-append global bs b all.1 h)

pub global-push : (cs : List Numbered) (c : Numbered)
    → global_in_force (cs ++ c ∷ []) ≡ global_after (global_in_force cs) c.command
global-push cs c = fold-append (λ (g : Bool) (d : Numbered). global_after g d.command) false cs (c ∷ [])

-- a command keeps whether declarations are global, or changes it while nothing is in force, or removes all
pub data Regards (late global : Bool) (command : Command) : Type 0 where
  Same : (global_after global command ≡ global) → Regards late global command
  Early : (late ≡ false) → ((s : Signature) (n : ℕ) → entries_by s n command ≡ [])
      → ((s : Signature) (n : ℕ) → abbreviations_by s n command ≡ []) → Regards late global command
  Anew : (effect_of command ≡ Removing Everything) → Regards late global command

set_early : (late global on : Bool) → flaw_of_global late global on ≡ None → (late ≡ false) ⊎ (on ≡ global)
set_early false global on h = inl refl
set_early true true true h = inr refl
set_early true false false h = inr refl
set_early true true false h = absurd (cc)
set_early true false true h = absurd (cc)

regards : (profile : Profile) (cs : List Numbered) (n : ℕ) (command : Command) (e : Effect) → effect_of command ≡ e
    → flaw_by profile cs n e ≡ None → Regards (is_too_late cs) (global_in_force cs) command
regards profile cs n command (SetsLogic x) is h = Same (ap (global_by (global_in_force cs)) is)
regards profile cs n command (Brings item) is h = Same (ap (global_by (global_in_force cs)) is)
regards profile cs n command (Pushes m) is h = Same (ap (global_by (global_in_force cs)) is)
regards profile cs n command (Pops m) is h = Same (ap (global_by (global_in_force cs)) is)
regards profile cs n command (Assumes literals) is h = Same (ap (global_by (global_in_force cs)) is)
regards profile cs n command (Removing removals.Nothing) is h = Same (ap (global_by (global_in_force cs)) is)
regards profile cs n command (Removing AllButOptions) is h = Same (ap (global_by (global_in_force cs)) is)
regards profile cs n command (Removing Everything) is h = Anew is
regards profile cs n command (SetsGlobal on) is h = by (set_early (is_too_late cs) (global_in_force cs) on h)
  where
    by : (is_too_late cs ≡ false) ⊎ (on ≡ global_in_force cs)
        → Regards (is_too_late cs) (global_in_force cs) command
    by (inl early) =
        Early early (λ s k. ap (entries_of_effect s k) is) (λ s k. ap (abbreviations_of_effect s k) is)
    by (inr same) = Same (ap (global_by (global_in_force cs)) is ∙ same)

alike_by : (profile : Profile) (cs : List Numbered) (c : Numbered) → AreNamesAlike profile cs
    → Regards (is_too_late cs) (global_in_force cs) c.command
    → AreAs (global_after (global_in_force cs) c.command)
    (still name_stands_after (brought_by profile cs (history profile cs) c) (in_force names_stand (history profile cs))
    ++ brought_by profile cs (history profile cs) c ∷ [])
alike_by profile cs c h (Same is) =
    let b = brought_by profile cs (history profile cs) c in
    let all = in_force names_stand (history profile cs) in
    subst (λ (g : Bool). AreAs g (still name_stands_after b all ++ b ∷ [])) (sym is)
    (alike-append (global_in_force cs) (still name_stands_after b all) b
    (filter_alike (λ (a : Brought). name_stands_after a b) (global_in_force cs) all h) (inl refl))
alike_by profile cs c h (Early early entries abbreviations) =
    let b = brought_by profile cs (history profile cs) c in
    let all = in_force names_stand (history profile cs) in
    let none = (unfixed_is_empty profile cs early).0 in
    let g = global_after (global_in_force cs) c.command in
    let s = signature_of (theories_in_force profile cs) all in
    alike-append g (still name_stands_after b all) b
    (filter_alike (λ (a : Brought). name_stands_after a b) g all
    (brings_none all g none.entries none.abbreviations)) (inr (entries s c.number, abbreviations s c.number))
alike_by profile cs c h (Anew is) =
    let b = brought_by profile cs (history profile cs) c in
    let all = in_force names_stand (history profile cs) in
    let g = global_after (global_in_force cs) c.command in
    let gone = none_still name_stands_after names_level names_rule b all
    (ap (λ (e : Effect). is_everything (removed_of_effect e)) is) in
    let s = signature_of (theories_in_force profile cs) all in
    subst (λ (l : List Brought). AreAs g (l ++ b ∷ [])) (sym gone)
    (inr (ap (entries_of_effect s c.number) is, ap (abbreviations_of_effect s c.number) is), tt)

-- a command without a fault keeps them so
pub alike_step : (profile : Profile) (cs : List Numbered) (c : Numbered)
    → flaw_of_effect profile cs c.number c.command ≡ None
    → AreNamesAlike profile cs → AreNamesAlike profile (cs ++ c ∷ [])
alike_step profile cs c none h =
    let b = brought_by profile cs (history profile cs) c in
    subst (λ (g : Bool). AreAs g (in_force names_stand (history profile (cs ++ c ∷ [])))) (sym (global-push cs c))
    (subst (AreAs (global_after (global_in_force cs) c.command))
    (sym (ap (in_force names_stand) (history-push profile cs c)
    ∙ in_force-push name_stands_after (history profile cs) b))
    (alike_by profile cs c h (regards profile cs c.number c.command (effect_of c.command) refl none)))

-- the names that go with some levels are all, where they are global
pub global_to_level : (k : ℕ) (bs : List Brought) → AreAs true bs
    → (entries_of (names_to_level k bs) ≡ entries_of bs)
    × (abbreviations_of (names_to_level k bs) ≡ abbreviations_of bs)
global_to_level k [] h = (refl, refl)
global_to_level k (b ∷ bs) h = one h.0 (global_to_level k bs h.1)
  where
    Goal : Bool → Type 0
    Goal u = (entries_of (cond u (b ∷ names_to_level k bs) (names_to_level k bs)) ≡ b.entries ++ entries_of bs)
        × (abbreviations_of (cond u (b ∷ names_to_level k bs) (names_to_level k bs))
        ≡ b.abbreviations ++ abbreviations_of bs)

    with_it : (entries_of (names_to_level k bs) ≡ entries_of bs)
        × (abbreviations_of (names_to_level k bs) ≡ abbreviations_of bs) → Goal true
    with_it r = (
      ap (λ (l : List Entry). b.entries ++ l) r.0,
      ap (λ (l : List (List ℕ × NamedSort)). b.abbreviations ++ l) r.1,
    )

    without : b.entries ≡ [] → b.abbreviations ≡ [] → (entries_of (names_to_level k bs) ≡ entries_of bs)
        × (abbreviations_of (names_to_level k bs) ≡ abbreviations_of bs) → Goal false
    without e a r = (
      r.0 ∙ ap (λ (l : List Entry). l ++ entries_of bs) (sym e),
      r.1 ∙ ap (λ (l : List (List ℕ × NamedSort)). l ++ abbreviations_of bs) (sym a),
    )

    either : (u : Bool) → b.entries ≡ [] → b.abbreviations ≡ [] → (entries_of (names_to_level k bs) ≡ entries_of bs)
        × (abbreviations_of (names_to_level k bs) ≡ abbreviations_of bs) → Goal u
    either true e a r = with_it r
    either false e a r = without e a r

    one : IsAs true b → (entries_of (names_to_level k bs) ≡ entries_of bs)
        × (abbreviations_of (names_to_level k bs) ≡ abbreviations_of bs)
        → Goal (nat_le (names_level b) k)
    one (inl is) r =
        subst Goal (sym (ap (λ (g : Bool). nat_le (cond g 0 b.level) k) is ∙ le_true 0 k (omega arith))) (with_it r)
    one (inr none) r = either (nat_le (names_level b) k) none.0 none.1 r
