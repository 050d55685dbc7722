-- What commands set last.
use Rattle.std.proofs.Common.{◌≡◌, ℕ, ◌+◌, ◌-◌, Bool, true, false, cond, ◌||◌, List, [], ◌∷◌, ◌++◌, Some}
use Rattle.std.proofs.Common.{None, refl, ap, sym, ◌∙◌, subst, arith, append_assoc}
use Rattle.std.specs.Prelude.{fold, nat_lt}
use Rattle.std.specs.List.{list_any}
use Rattle.std.proofs.Math.Bool.{or-false}
use Rattle.std.proofs.lemmas.List.{append-nil}
use Rattle.std.proofs.lemmas.List.Sums.{fold-append}
use Rattle.std.specs.Prelude.{Option, is_some}
use Rattle.smt_theory.specs.Theories.{all_theories, theories_named}
use Rattle.smt_theory.specs.declared.profile.Profile.{Profile}
use Rattle.smt_theory.specs.declared.theories.Theories.{Theories}
use Rattle.smt_faults.specs.declared.command_flaw.CommandFlaw.TheVariants.{NoLevel}
use Rattle.smt_script.specs.Command.{Command, Effect, SetLogic, SetPrintSuccess, Exit, SetsLogic, Brings}
use Rattle.smt_script.specs.Command.{Assumes, Pushes, Pops, Removing, Nothing, AllButOptions, Everything, effect_of}
use Rattle.smt_script.specs.Command.{SetsGlobal, SetGlobalDeclarations}
use Rattle.smt_script.specs.Stack.{HaveNoFlaw, Numbered, depth_after, depth_by, depth_in_force}
use Rattle.smt_script.specs.Stack.{flaw_by, has_exited, is_exit, is_late_after, is_logic_set, is_reset}
use Rattle.smt_script.specs.Stack.{is_set_after, is_too_late, makes_late, print_success_after}
use Rattle.smt_script.specs.Stack.{print_success_in_force, removed_of_effect, resets, theories_after}
use Rattle.smt_script.specs.Stack.{global_after, global_in_force, theories_in_force, theories_or}
use Rattle.smt_script.specs.Standing.{AreSince, Behind, IsAmong, IsLast, Never, Start, is_whole_reset}
use Rattle.smt_script.specs.Standing.{levels_popped, levels_pushed, popped, pushed, sets_logic}
use Rattle.smt_script.specs.Standing.{sets_global, sets_print_success, sets_theories}
use Rattle.smt_script.proofs.StandingLemmas.{depth-push}

-- ---- commands since one

none_of_either : (a b : Bool) → (a || b) ≡ false → (a ≡ false) × (b ≡ false)
none_of_either true b h = absurd (cc)
none_of_either false b h = (refl, h)

never_behind : (test : Command → Bool) (earlier : List Numbered) (c : Numbered) (later : List Numbered)
    → Never test (earlier ++ c ∷ later) → Never test later
never_behind test [] c later h = (none_of_either (test c.command) (list_any (λ d. test d.command) later) h).1
never_behind test (e ∷ earlier) c later h =
    never_behind test earlier c later
    (none_of_either (test e.command) (list_any (λ d. test d.command) (earlier ++ c ∷ later)) h).1

never_since : (test : Command → Bool) (commands since : List Numbered) → AreSince test commands since
    → Never test since
never_since test commands since (Start is none) = none
never_since test commands since (Behind earlier c is ends none) = none

-- ---- a value that each command may change

module _ {B : Type 0} (step : B → Command → B) where
  abbrev after_all : B → List Numbered → B
  after_all v cs = fold (λ w c. step w c.command) v cs

  -- a command that begins anew leaves only those since to look at
  pub since_alone : (test : Command → Bool) (start : B)
      → ((v : B) (command : Command) → test command ≡ true → step v command ≡ start)
      → (commands since : List Numbered) → AreSince test commands since
      → after_all start commands ≡ after_all start since
  since_alone test start anew commands since (Start is none) = ap (after_all start) is
  since_alone test start anew commands since (Behind earlier c is ends none) =
      ap (after_all start) is ∙ fold-append (λ (w : B) (d : Numbered). step w d.command) start earlier
      (c ∷ since) ∙ ap (λ (v : B). after_all v since) (anew (after_all start earlier) c.command ends)

  -- commands that neither set it nor begin anew keep it
  pub unset : (sets ends : Command → Bool)
      → ((v : B) (command : Command) → sets command ≡ false → ends command ≡ false → step v command ≡ v)
      → (v : B) (cs : List Numbered) → Never sets cs → Never ends cs → after_all v cs ≡ v
  unset sets ends keeps v [] none goes = refl
  unset sets ends keeps v (c ∷ cs) none goes =
      let a = none_of_either (sets c.command) (list_any (λ d. sets d.command) cs) none in
      let b = none_of_either (ends c.command) (list_any (λ d. ends d.command) cs) goes in
      ap (λ (w : B). after_all w cs) (keeps v c.command a.0 b.0) ∙ unset sets ends keeps v cs a.1 b.1

  -- it is what the last set that sets it
  pub set_last : (sets ends : Command → Bool)
      → ((v : B) (command : Command) → sets command ≡ false → ends command ≡ false → step v command ≡ v)
      → (start value : B) (since : List Numbered) (command : Command) → ((v : B) → step v command ≡ value)
      → IsLast sets since command → Never ends since → after_all start since ≡ value
  set_last sets ends keeps start value since command made l goes =
      let c : Numbered = record { number = l.number; command = command } in
      let still = never_behind ends l.earlier c l.later (subst (Never ends) l.place goes) in
      ap (after_all start) l.place
      ∙ fold-append (λ (w : B) (d : Numbered). step w d.command) start l.earlier (c ∷ l.later)
      ∙ ap (λ (v : B). after_all v l.later) (made (after_all start l.earlier))
      ∙ unset sets ends keeps value l.later l.none still

or_assoc : (a b d : Bool) → ((a || b) || d) ≡ (a || (b || d))
or_assoc true b d = refl
or_assoc false b d = refl

-- one that each command may make true is true where one of them does
any_does : (step : Bool → Command → Bool) (test ends : Command → Bool)
    → ((v : Bool) (command : Command) → ends command ≡ false → step v command ≡ (v || test command))
    → (v : Bool) (cs : List Numbered) → Never ends cs
    → fold (λ w c. step w c.command) v cs ≡ (v || list_any (λ c. test c.command) cs)
any_does step test ends does v [] goes = sym (or-false v)
any_does step test ends does v (c ∷ cs) goes =
    let b = none_of_either (ends c.command) (list_any (λ d. ends d.command) cs) goes in
    ap (λ (w : Bool). fold (λ u d. step u d.command) w cs) (does v c.command b.0)
    ∙ any_does step test ends does (v || test c.command) cs b.1
    ∙ or_assoc v (test c.command) (list_any (λ d. test d.command) cs)

-- ---- theories

theories_anew : (profile : Profile) (t : Theories) (command : Command) → is_whole_reset command ≡ true
    → theories_after profile t command ≡ all_theories profile
theories_anew profile t (SetLogic name) h = cc
theories_anew profile t command h = grind (arith)

kept_or : (t : Theories) (o : Option Theories) → is_some o ≡ false → theories_or t o ≡ t
kept_or t None h = refl
kept_or t (Some u) h = cc

theories_kept : (profile : Profile) (t : Theories) (command : Command) → sets_theories profile command ≡ false
    → is_whole_reset command ≡ false → theories_after profile t command ≡ t
theories_kept profile t (SetLogic name) h k = kept_or t (theories_named profile name) h
theories_kept profile t command h k = grind (arith)

pub theories_of_the_last : (profile : Profile) (commands since : List Numbered) (name : List ℕ) (theories : Theories)
    → AreSince is_whole_reset commands since
    → IsLast (sets_theories profile) since (SetLogic name) → theories_named profile name ≡ Some theories
    → theories_in_force profile commands ≡ theories
theories_of_the_last profile commands since name theories s l is =
    since_alone (theories_after profile) is_whole_reset (all_theories profile) (theories_anew profile) commands since s
    ∙ set_last (theories_after profile) (sets_theories profile) is_whole_reset (theories_kept profile)
    (all_theories profile) theories since
    (SetLogic name) (λ v. ap (theories_or v) is) l (never_since is_whole_reset commands since s)

pub theories_of_the_start : (profile : Profile) (commands since : List Numbered)
    → AreSince is_whole_reset commands since
    → Never (sets_theories profile) since → theories_in_force profile commands ≡ all_theories profile
theories_of_the_start profile commands since s none =
    since_alone (theories_after profile) is_whole_reset (all_theories profile) (theories_anew profile) commands since s
    ∙ unset (theories_after profile) (sets_theories profile) is_whole_reset (theories_kept profile)
    (all_theories profile) since none
    (never_since is_whole_reset commands since s)

-- ---- `success`

print_anew : (start v : Bool) (command : Command) → is_whole_reset command ≡ true
    → print_success_after start v command ≡ start
print_anew start v command h = grind (arith)

print_kept : (start v : Bool) (command : Command) → sets_print_success command ≡ false
    → is_whole_reset command ≡ false → print_success_after start v command ≡ v
print_kept start v command h k = grind (arith)

pub print_of_the_last : (start on : Bool) (commands since : List Numbered)
    → AreSince is_whole_reset commands since
    → IsLast sets_print_success since (SetPrintSuccess on) → print_success_in_force start commands ≡ on
print_of_the_last start on commands since s l =
    since_alone (print_success_after start) is_whole_reset start (print_anew start) commands since s
    ∙ set_last (print_success_after start) sets_print_success is_whole_reset (print_kept start) start on since
    (SetPrintSuccess on) (λ v. refl) l (never_since is_whole_reset commands since s)

pub print_of_the_start : (start : Bool) (commands since : List Numbered)
    → AreSince is_whole_reset commands since → Never sets_print_success since
    → print_success_in_force start commands ≡ start
print_of_the_start start commands since s none =
    since_alone (print_success_after start) is_whole_reset start (print_anew start) commands since s
    ∙ unset (print_success_after start) sets_print_success is_whole_reset (print_kept start) start since none
    (never_since is_whole_reset commands since s)

-- ---- global declarations

global_anew : (v : Bool) (command : Command) → is_whole_reset command ≡ true → global_after v command ≡ false
global_anew v command h = grind (arith)

global_kept : (v : Bool) (command : Command) → sets_global command ≡ false → is_whole_reset command ≡ false
    → global_after v command ≡ v
global_kept v command h k = grind (arith)

pub global_of_the_last : (on : Bool) (commands since : List Numbered) → AreSince is_whole_reset commands since
    → IsLast sets_global since (SetGlobalDeclarations on) → global_in_force commands ≡ on
global_of_the_last on commands since s l =
    since_alone global_after is_whole_reset false global_anew commands since s
    ∙ set_last global_after sets_global is_whole_reset global_kept false on since
    (SetGlobalDeclarations on) (λ v. refl) l (never_since is_whole_reset commands since s)

pub global_of_the_start : (commands since : List Numbered) → AreSince is_whole_reset commands since
    → Never sets_global since → global_in_force commands ≡ false
global_of_the_start commands since s none =
    since_alone global_after is_whole_reset false global_anew commands since s
    ∙ unset global_after sets_global is_whole_reset global_kept false since none
    (never_since is_whole_reset commands since s)

-- ---- logics

set_anew : (v : Bool) (command : Command) → is_whole_reset command ≡ true → is_set_after v command ≡ false
set_anew v command h = grind (arith)

set_by : (v : Bool) (command : Command) → is_whole_reset command ≡ false
    → is_set_after v command ≡ (v || sets_logic command)
set_by v command h = grind (arith)

pub set_since : (commands since : List Numbered) → AreSince is_whole_reset commands since
    → is_logic_set commands ≡ list_any (λ c. sets_logic c.command) since
set_since commands since s =
    since_alone is_set_after is_whole_reset false set_anew commands since s
    ∙ any_does is_set_after sets_logic is_whole_reset set_by false since
    (never_since is_whole_reset commands since s)

late_anew : (v : Bool) (command : Command) → is_whole_reset command ≡ true → is_late_after v command ≡ false
late_anew v command h = grind (arith)

late_by : (v : Bool) (command : Command) → is_whole_reset command ≡ false
    → is_late_after v command ≡ (v || makes_late command)
late_by v command h = grind (arith)

pub late_since : (commands since : List Numbered) → AreSince is_whole_reset commands since
    → is_too_late commands ≡ list_any (λ c. makes_late c.command) since
late_since commands since s =
    since_alone is_late_after is_whole_reset false late_anew commands since s
    ∙ any_does is_late_after makes_late is_whole_reset late_by false since
    (never_since is_whole_reset commands since s)

-- ---- levels

levels_by : (profile : Profile) (before : List Numbered) (n : ℕ) (e : Effect) → flaw_by profile before n e ≡ None
    → resets (removed_of_effect e) ≡ false
    → depth_by (depth_in_force before) e + levels_popped e ≡ depth_in_force before + levels_pushed e
levels_by profile before n (Pops m) h k = popped_all (depth_in_force before) (nat_lt (depth_in_force before) m) refl h
  where
    popped_all : (d : ℕ) → (b : Bool) → nat_lt d m ≡ b → cond b (Some NoLevel) None ≡ None → d - m + m ≡ d + 0
    popped_all d true e i = absurd (cc)
    popped_all d false e i = grind (arith)
levels_by profile before n (Pushes m) h k = omega arith
levels_by profile before n (SetsLogic x) h k = refl
levels_by profile before n (Brings item) h k = refl
levels_by profile before n (Assumes literals) h k = refl
levels_by profile before n (Removing Nothing) h k = refl
levels_by profile before n (SetsGlobal on) h k = refl
levels_by profile before n (Removing AllButOptions) h k = absurd (cc)
levels_by profile before n (Removing Everything) h k = absurd (cc)

summed_from : (profile : Profile) (before cs : List Numbered) → HaveNoFlaw profile before cs → Never is_reset cs
    → depth_in_force (before ++ cs) + popped cs ≡ depth_in_force before + pushed cs
summed_from profile before [] h none = ap (λ (l : List Numbered). depth_in_force l + 0) (append-nil before)
summed_from profile before (c ∷ cs) h none =
    let b = none_of_either (is_reset c.command) (list_any (λ d. is_reset d.command) cs) none in
    let rest = summed_from profile (before ++ c ∷ []) cs h.1 b.1 in
    let here = levels_by profile before c.number (effect_of c.command) h.0 b.0 in
    let push = depth-push before c in
    let same : depth_in_force ((before ++ c ∷ []) ++ cs) ≡ depth_in_force (before ++ c ∷ cs) =
    ap depth_in_force (append_assoc before (c ∷ []) cs) in
    omega arith

faultless_behind : (profile : Profile) (before earlier : List Numbered) (c : Numbered) (later : List Numbered)
    → HaveNoFlaw profile before (earlier ++ c ∷ later) → HaveNoFlaw profile (before ++ (earlier ++ c ∷ [])) later
faultless_behind profile before [] c later h = h.1
faultless_behind profile before (e ∷ earlier) c later h =
    subst (λ (l : List Numbered). HaveNoFlaw profile l later) (append_assoc before (e ∷ []) (earlier ++ c ∷ []))
    (faultless_behind profile (before ++ e ∷ []) earlier c later h.1)

reset_levels : (d : ℕ) (command : Command) → is_reset command ≡ true → depth_after d command ≡ 0
reset_levels d command h = grind (arith)

pub no_levels_behind : (commands : List Numbered) (c : Numbered) → is_reset c.command ≡ true
    → depth_in_force (commands ++ c ∷ []) ≡ 0
no_levels_behind commands c h = depth-push commands c ∙ reset_levels (depth_in_force commands) c.command h

zero_more : (n : ℕ) → 0 + n ≡ n
zero_more n = omega arith

pub levels_since : (profile : Profile) (commands since : List Numbered) → HaveNoFlaw profile [] commands
    → AreSince is_reset commands since → depth_in_force commands + popped since ≡ pushed since
levels_since profile commands since h (Start is none) =
    let sum = summed_from profile [] since (subst (HaveNoFlaw profile []) is h) none in
    ap (λ (l : List Numbered). depth_in_force l + popped since) is ∙ sum ∙ zero_more (pushed since)
levels_since profile commands since h (Behind earlier c is ends none) =
    let sum = summed_from profile (earlier ++ c ∷ []) since
    (faultless_behind profile [] earlier c since (subst (HaveNoFlaw profile []) is h)) none in
    let same : commands ≡ (earlier ++ c ∷ []) ++ since = is ∙ sym (append_assoc earlier (c ∷ []) since) in
    let zero = no_levels_behind earlier c ends in
    ap (λ (l : List Numbered). depth_in_force l + popped since) same ∙ sum
    ∙ ap (λ (d : ℕ). d + pushed since) zero ∙ zero_more (pushed since)

-- ---- `exit`

exit_alone : (command : Command) → is_exit command ≡ true → command ≡ Exit
exit_alone command h = grind (arith)

exit_here_or_later : (c : Numbered) (cs : List Numbered)
    → (has_exited cs ≡ true → (n : ℕ) × IsAmong (record { number = n; command = Exit }) cs)
    → (b : Bool) → is_exit c.command ≡ b → (b || has_exited cs) ≡ true
    → (n : ℕ) × IsAmong (record { number = n; command = Exit }) (c ∷ cs)
exit_here_or_later c cs next true e h = (
  c.number,
  (
    [],
    cs,
    ap (λ (d : Command). record { number = c.number; command = d } ∷ cs)
        (exit_alone c.command e),
  ),
)
exit_here_or_later c cs next false e h = behind (next h)
  where
    behind : (n : ℕ) × IsAmong (record { number = n; command = Exit }) cs
        → (n : ℕ) × IsAmong (record { number = n; command = Exit }) (c ∷ cs)
    behind (n, (first, last, is)) = (n, (c ∷ first, last, ap (λ (l : List Numbered). c ∷ l) is))

pub exit_found : (commands : List Numbered) → has_exited commands ≡ true
    → (n : ℕ) × IsAmong (record { number = n; command = Exit }) commands
exit_found [] h = absurd (cc)
exit_found (c ∷ cs) h = exit_here_or_later c cs (exit_found cs) (is_exit c.command) refl h
