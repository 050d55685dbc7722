-- What is in force is what the commands brought that stand, in their order.
use Rattle.std.proofs.Common.{◌≡◌, ℕ, Bool, true, false, cond, not, List, [], ◌∷◌, ◌++◌, ◌⊎◌, inl, inr, refl, ap}
use Rattle.std.proofs.Common.{sym, ◌∙◌, subst, append_assoc}
use Rattle.std.specs.List.{flat_map, list_all, list_any}
use Rattle.std.proofs.lemmas.List.{append-nil, append_cancel_left}
use Rattle.smt_script.specs.Command.{Command, Assert}
use Rattle.smt_script.specs.Stack.{Assertion, Brought, KeepLevels, LeaveNames, NamesStand, Numbered, Stands}
use Rattle.smt_script.specs.Stack.{assertions_by, brought_by, depth_in_force, global_in_force, history, in_force}
use Rattle.smt_script.specs.Stack.{is_everything, is_reset, name_stands_after, stands_after}
use Rattle.smt_script.specs.Standing.{AreAmong, AreBrought, Brings, IsAmong, IsBrought, Standing}
use Rattle.smt_script.proofs.HistoryLemmas.{assertion_stands_after, history-push, standing}
use Rattle.smt_script.proofs.StandingLemmas.{IsAssertion, Keeps, Yes, No, all_leave, all_stand, depth-push}
use Rattle.smt_script.proofs.StandingLemmas.{keeps, leaves, steps, steps-from}
use Rattle.smt_theory.specs.declared.profile.Profile.{Profile}

-- ---- in order

-- a part of what a command brought behind the earlier ones
abbrev pub part_by : (profile : Profile) → {A : Type 0} → (Brought → List A) → Brings A
part_by profile part earlier c = part (brought_by profile earlier (history profile earlier) c)

-- what later commands brought, behind the earlier ones and one more
abbrev behind : (profile : Profile) → List Numbered → Numbered → List Numbered → List Brought
behind profile before c cs = steps profile (before ++ c ∷ [])
    (history profile before ++ brought_by profile before (history profile before) c ∷ []) cs

-- a rule by which what was brought stands, in the words of commands
pub record InWords (profile : Profile) (after : Brought → Brought → Bool) (S : Standing) : Type 0 where
  pub there : (commands before : List Numbered) (c : Numbered) (cs : List Numbered)
      → commands ≡ before ++ c ∷ cs
      → list_all (after (brought_by profile before (history profile before) c)) (behind profile before c cs) ≡ true
      → S commands before c
  pub not_there : (commands before : List Numbered) (c : Numbered) (cs : List Numbered)
      → commands ≡ before ++ c ∷ cs
      → list_all (after (brought_by profile before (history profile before) c)) (behind profile before c cs) ≡ false
      → S commands before c → ⊥

same_later : (commands before : List Numbered) (c : Numbered) (later cs : List Numbered)
    → commands ≡ before ++ c ∷ later → commands ≡ before ++ c ∷ cs → later ≡ cs
same_later commands before c later cs place is =
    let whole : c ∷ later ≡ c ∷ cs = append_cancel_left before (c ∷ later) (c ∷ cs) (sym place ∙ is) in cc

-- ---- assertions, level by level

at_its_level : (profile : Profile) (before : List Numbered) (c : Numbered) (cs : List Numbered)
    → list_all (stands_after (brought_by profile before (history profile before) c).level) (behind profile before c cs)
    ≡ list_all (stands_after (depth_in_force (before ++ c ∷ []))) (behind profile before c cs)
at_its_level profile before c cs =
    ap (λ (l : ℕ). list_all (stands_after l) (behind profile before c cs)) (sym (depth-push before c))

kept_behind : (profile : Profile) (before : List Numbered) (c : Numbered) (cs : List Numbered)
    → list_all (stands_after (brought_by profile before (history profile before) c).level) (behind profile before c cs)
    ≡ true
    → Keeps (depth_in_force (before ++ c ∷ [])) (before ++ c ∷ []) cs
kept_behind profile before c cs e =
    keeps profile (depth_in_force (before ++ c ∷ [])) (before ++ c ∷ [])
    (history profile before ++ brought_by profile before (history profile before) c ∷ []) cs
    (sym (at_its_level profile before c cs) ∙ e)

all_behind : (profile : Profile) (before : List Numbered) (c : Numbered) (cs : List Numbered)
    → list_any (λ d. is_reset d.command) cs ≡ false
    → KeepLevels (depth_in_force (before ++ c ∷ [])) (before ++ c ∷ []) cs
    → list_all (stands_after (brought_by profile before (history profile before) c).level) (behind profile before c cs)
    ≡ true
all_behind profile before c cs none levels =
    at_its_level profile before c cs
    ∙ all_stand profile (depth_in_force (before ++ c ∷ [])) (before ++ c ∷ [])
    (history profile before ++ brought_by profile before (history profile before) c ∷ []) cs none levels

both_ways : (b : Bool) → b ≡ true → b ≡ false → ⊥
both_ways b h k = absurd (cc)

pub assertions_in_words : (profile : Profile) → InWords profile assertion_stands_after Stands
assertions_in_words profile = record {
  there = λ commands before c cs is e.
      let kept = kept_behind profile before c cs e in
      record { later = cs; place = is; no_reset = kept.no_reset; levels = kept.levels };
  not_there = λ commands before c cs is e s.
      let same = same_later commands before c s.later cs s.place is in
      both_ways (list_all (stands_after (brought_by profile before (history profile before) c).level)
      (behind profile before c cs))
      (all_behind profile before c cs
      (subst (λ (l : List Numbered). list_any (λ d. is_reset d.command) l ≡ false) same s.no_reset)
      (subst (λ (l : List Numbered). KeepLevels (depth_in_force (before ++ c ∷ [])) (before ++ c ∷ []) l) same
      s.levels)) e;
}

-- ---- names, by whether declarations were global

abbrev names_left : (profile : Profile) → Bool → List Numbered → Numbered → List Numbered → Bool
names_left profile global before c cs =
    list_all (λ (l : Brought). cond global (not (is_everything l.removes))
    (stands_after (brought_by profile before (history profile before) c).level l)) (behind profile before c cs)

left_by : (profile : Profile) (global : Bool) (before : List Numbered) (c : Numbered) (cs : List Numbered)
    → names_left profile global before c cs ≡ true → LeaveNames global (before ++ c ∷ []) cs
left_by profile true before c cs e =
    leaves profile (before ++ c ∷ [])
    (history profile before ++ brought_by profile before (history profile before) c ∷ []) cs e
left_by profile false before c cs e = let kept = kept_behind profile before c cs e in (kept.no_reset, kept.levels)

all_left_by : (profile : Profile) (global : Bool) (before : List Numbered) (c : Numbered) (cs : List Numbered)
    → LeaveNames global (before ++ c ∷ []) cs → names_left profile global before c cs ≡ true
all_left_by profile true before c cs h =
    all_leave profile (before ++ c ∷ [])
    (history profile before ++ brought_by profile before (history profile before) c ∷ []) cs h
all_left_by profile false before c cs h = all_behind profile before c cs h.0 h.1

pub names_in_words : (profile : Profile) → InWords profile name_stands_after NamesStand
names_in_words profile = record {
  there = λ commands before c cs is e.
      record { later = cs; place = is; left = left_by profile (global_in_force before) before c cs e };
  not_there = λ commands before c cs is e s.
      let same = same_later commands before c s.later cs s.place is in
      both_ways (names_left profile (global_in_force before) before c cs)
      (all_left_by profile (global_in_force before) before c cs
      (subst (LeaveNames (global_in_force before) (before ++ c ∷ [])) same s.left)) e;
}

module _ (profile : Profile) {A : Type 0} (after : Brought → Brought → Bool) (S : Standing)
    (words : InWords profile after S)
    (part : Brought → List A) where
  one_in_order : (commands before : List Numbered) (c : Numbered)
      (cs : List Numbered) → commands ≡ before ++ c ∷ cs
      → AreBrought S (part_by profile part) commands (before ++ c ∷ []) cs
      (flat_map part (in_force (standing after) (behind profile before c cs)))
      → (t : Bool) → list_all (after (brought_by profile before (history profile before) c))
      (behind profile before c cs) ≡ t
      → AreBrought S (part_by profile part) commands before (c ∷ cs)
      (flat_map part (cond t (brought_by profile before (history profile before) c ∷ []) []
      ++ in_force (standing after) (behind profile before c cs)))
  one_in_order commands before c cs is next true e =
      inl (
        words.there commands before c cs is e,
        flat_map part (in_force (standing after) (behind profile before c cs)),
        refl,
        next,
      )
  one_in_order commands before c cs is next false e = inr (words.not_there commands before c cs is e, next)

  in_order : (commands before cs : List Numbered) → commands ≡ before ++ cs
      → AreBrought S (part_by profile part) commands before cs
      (flat_map part (in_force (standing after) (steps profile before (history profile before) cs)))
  in_order commands before [] is = refl
  in_order commands before (c ∷ cs) is =
      let b = brought_by profile before (history profile before) c in
      let more = before ++ c ∷ [] in
      let next = in_order commands more cs (is ∙ sym (append_assoc before (c ∷ []) cs)) in
      let P : List Brought → Type 0 =
      λ h. AreBrought S (part_by profile part) commands more cs
      (flat_map part (in_force (standing after) (steps profile more h cs))) in
      one_in_order commands before c cs is (subst P (history-push profile before c) next)
      (list_all (after b) (behind profile before c cs)) refl

  pub brought_in_order : (commands : List Numbered)
      → AreBrought S (part_by profile part) commands [] commands
      (flat_map part (in_force (standing after) (history profile commands)))
  brought_in_order commands =
      subst (λ (h : List Brought). AreBrought S (part_by profile part) commands [] commands
      (flat_map part (in_force (standing after) h))) (sym (steps-from profile [] [] commands))
      (in_order commands [] commands refl)

-- ---- what a command brought that stands is in force

module _ {A : Type 0} (S : Standing) (brings : Brings A) (commands : List Numbered) where
  first_stands : (before : List Numbered) (c : Numbered) (later : List Numbered) (xs : List A)
      → AreBrought S brings commands before (c ∷ later) xs → S commands before c
      → AreAmong (brings before c) xs
  first_stands before c later xs (inl h) s = ([], h.1, h.2)
  first_stands before c later xs (inr h) s = absurd (h.0 s)

  later_stands : (before more : List Numbered) (m c : Numbered) (later : List Numbered) (some xs : List A)
      → AreBrought S brings commands before (m ∷ (more ++ c ∷ later)) xs
      → ((rest : List A) → AreBrought S brings commands (before ++ m ∷ []) (more ++ c ∷ later) rest
      → AreAmong some rest) → AreAmong some xs
  later_stands before more m c later some xs (inl h) next =
      let r = next h.1 h.3 in (
        brings before m ++ r.0,
        r.1,
        h.2 ∙ ap (λ (l : List A). brings before m ++ l) r.2
            ∙ sym (append_assoc (brings before m) r.0 (some ++ r.1)),
      )
  later_stands before more m c later some xs (inr h) next = next xs h.1

  pub stands_among : (before more : List Numbered) (c : Numbered) (later : List Numbered) (xs : List A)
      → AreBrought S brings commands before (more ++ c ∷ later) xs → S commands (before ++ more) c
      → AreAmong (brings (before ++ more) c) xs
  stands_among before [] c later xs h s =
      let same = append-nil before in
      subst (λ (l : List Numbered). AreAmong (brings l c) xs) (sym same)
      (first_stands before c later xs h (subst (λ (l : List Numbered). S commands l c) same s))
  stands_among before (m ∷ more) c later xs h s =
      let same = append_assoc before (m ∷ []) more in
      later_stands before more m c later (brings (before ++ m ∷ more) c) xs h
      (λ rest k.
      let there = subst (λ (l : List Numbered). S commands l c) (sym same) s in
      subst (λ (l : List Numbered). AreAmong (brings l c) rest) same
      (stands_among (before ++ m ∷ []) more c later rest k there))

-- ---- what is in force was brought by one that stands

pub none_among : {A : Type 0} (first last : List A) (x : A) → [] ≡ first ++ x ∷ last → ⊥
none_among [] last x h = absurd (cc)
none_among (y ∷ first) last x h = absurd (cc)

one_further : {A : Type 0} (y x : A) (ys zs : List A) → IsAmong x ys ⊎ IsAmong x zs
    → IsAmong x (y ∷ ys) ⊎ IsAmong x zs
one_further {A} y x ys zs (inl h) = inl (y ∷ h.0, h.1, ap (λ (l : List A). y ∷ l) h.2)
one_further y x ys zs (inr h) = inr h

among_either : {A : Type 0} (ys zs : List A) (x : A) (first last : List A) → ys ++ zs ≡ first ++ x ∷ last
    → IsAmong x ys ⊎ IsAmong x zs
among_either [] zs x first last h = inr (first, last, h)
among_either {A} (y ∷ ys) zs x [] last h = let same : y ≡ x = cc in inl ([], ys, ap (λ (a : A). a ∷ ys) same)
among_either (y ∷ ys) zs x (f ∷ first) last h = let rest : ys ++ zs ≡ first ++ x ∷ last =
    cc in one_further y x ys zs (among_either ys zs x first last rest)

module _ {A : Type 0} (S : Standing) (brings : Brings A) (commands : List Numbered) where
  here_or_later : (before : List Numbered) (c : Numbered) (x : A) (rest : List A) → S commands before c
      → (IsAmong x rest → IsBrought S brings commands x) → IsAmong x (brings before c) ⊎ IsAmong x rest
      → IsBrought S brings commands x
  here_or_later before c x rest stands next (inl h) =
      record { earlier = before; command = c; standing = stands; among = h }
  here_or_later before c x rest stands next (inr h) = next h

  found_first : (before : List Numbered) (c : Numbered) (cs : List Numbered) (xs : List A) (x : A)
      → ((rest : List A) → AreBrought S brings commands (before ++ c ∷ []) cs rest → IsAmong x rest
      → IsBrought S brings commands x)
      → AreBrought S brings commands before (c ∷ cs) xs → IsAmong x xs → IsBrought S brings commands x
  found_first before c cs xs x next (inl h) i =
      here_or_later before c x h.1 h.0 (next h.1 h.3)
      (among_either (brings before c) h.1 x i.0 i.1 (sym h.2 ∙ i.2))
  found_first before c cs xs x next (inr h) i = next xs h.1 i

  pub brought_found : (before cs : List Numbered) (xs : List A) (x : A)
      → AreBrought S brings commands before cs xs → IsAmong x xs → IsBrought S brings commands x
  brought_found before [] xs x h i = absurd (none_among i.0 i.1 x (sym h ∙ i.2))
  brought_found before (c ∷ cs) xs x h i =
      found_first before c cs xs x (λ rest. brought_found (before ++ c ∷ []) cs rest x) h i

-- ---- assertions

only_one : {A : Type 0} (x a : A) (first last : List A) → x ∷ [] ≡ first ++ a ∷ last → x ≡ a
only_one x a [] last h = cc
only_one x a (y ∷ first) last h = let rest : [] ≡ first ++ a ∷ last =
    cc in absurd (none_among first last a rest)

-- an assertion that a command brings is its own
pub asserted_itself : (n : ℕ) (command : Command) (a : Assertion) → IsAssertion n command
    → IsAmong a (assertions_by n command) → (command ≡ Assert a.term) × (n ≡ a.command)
asserted_itself n command a (Yes term is) (first, last, h) =
    let made : Assertion = record { command = n; term = term } in
    let same = only_one made a first last (ap (λ (d : Command). assertions_by n d) (sym is) ∙ h) in
    (is ∙ ap (λ (b : Assertion). Assert b.term) same, ap (λ (b : Assertion). b.command) same)
asserted_itself n command a (No none) (first, last, h) = absurd (none_among first last a (sym none ∙ h))

-- ---- the parts of what is in force

module _ (profile : Profile) {A : Type 0} (after : Brought → Brought → Bool) (S : Standing)
    (words : InWords profile after S)
    (part : Brought → List A) where
  abbrev pub part_in_force : List Numbered → List A
  part_in_force commands = flat_map part (in_force (standing after) (history profile commands))

  pub part_stands : (commands earlier : List Numbered) (c : Numbered) → S commands earlier c
      → (later : List Numbered) → commands ≡ earlier ++ c ∷ later
      → AreAmong (part_by profile part earlier c) (part_in_force commands)
  part_stands commands earlier c s later place =
      let xs = part_in_force commands in
      stands_among S (part_by profile part) commands [] earlier c later xs
      (subst (λ (l : List Numbered). AreBrought S (part_by profile part) commands [] l xs) place
      (brought_in_order profile after S words part commands)) s

  pub part_found : (commands : List Numbered) (x : A) → IsAmong x (part_in_force commands)
      → IsBrought S (part_by profile part) commands x
  part_found commands x i =
      brought_found S (part_by profile part) commands [] commands (part_in_force commands) x
      (brought_in_order profile after S words part commands) i
