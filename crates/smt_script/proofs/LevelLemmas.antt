-- What the commands do that change levels.
use Rattle.std.proofs.Common.{◌≡◌, ◌≤◌, ℕ, ◌+◌, ◌-◌, zero, suc, List, [], ◌∷◌, ◌++◌, Bool, true, false, cond, not}
use Rattle.std.proofs.Common.{◌&&◌, ◌||◌, inl, inr, Some, length, slice_get, take, refl, ap, sym, subst, ◌∙◌, arith}
use Rattle.std.specs.Prelude.{nat_le, nat_lt, ◌<◌}
use Rattle.std.specs.List.{All}
use Rattle.std.proofs.lemmas.List.{append-nil, length-append, length-take}
use Rattle.std.proofs.lemmas.List.Elements.{All-cons, All-nil}
use Rattle.smt_theory.specs.Theories.{all_theories}
use Rattle.smt_terms.specs.declared.named_sort.NamedSort.{NamedSort}
use Rattle.smt_terms.specs.Contents.{Contents, IsBelow, IsWithin, contents_of, first_of}
use Rattle.smt_terms.specs.Library as library
use Rattle.smt_terms.specs.Library.{Holds}
use Rattle.smt_terms.specs.Signature.{Entry, Signature, no_names}
use Rattle.smt_terms.specs.declared.library.marks.Mark.{Mark}
use Rattle.smt_script.specs.Command.{Command, Push, Pop, Reset, ResetAssertions}
use Rattle.smt_script.specs.Stack as spec
use Rattle.smt_script.specs.Stack.{Brought, Numbered, abbreviations_by, abbreviations_of}
use Rattle.smt_script.specs.Stack.{assertions_by, assertions_in_force, assertions_of, brought_by, depth_after}
use Rattle.smt_script.specs.Stack.{assertions_stand, depth_in_force, entries_by, entries_of}
use Rattle.smt_script.specs.Stack.{global_after, history, in_force, is_everything, is_exit, is_reset, max_levels}
use Rattle.smt_script.specs.Stack.{name_stands_after, names_stand, print_success_after}
use Rattle.smt_script.specs.Stack.{resets, signature_in_force, signature_of, stands_after, theories_after}
use Rattle.smt_script.specs.Stack.{theories_in_force}
use Rattle.smt_script.specs.StackView.{AreAs, AreAssertions, HasInForce, IsAs, IsLevel, IsOuter, assertions_to_level}
use Rattle.smt_script.specs.StackView.{contents_left, names_level, names_to_level, signature_to_level, to_level}
use Rattle.smt_script.specs.Internal.Effect.{HasEffect, HasNoAssertions, HasNotesOf, IsCut, IsEmpty}
use Rattle.smt_script.specs.Internal.Effect.{TermsHaveNodes}
use Rattle.smt_script.specs.Internal.Runs.{copies}
use Rattle.smt_script.specs.Internal.Effect.{NotesAll, logic_after, with_notes}
use Rattle.smt_script.specs.declared.stack.Assertion.{Assertion}
use Rattle.smt_script.specs.declared.stack.LogicState.{LogicState}
use Rattle.smt_script.specs.declared.stack.Start.{Start}
use Rattle.smt_script.specs.declared.stack.levels.Level.{Level}
use Rattle.smt_script.specs.declared.stack.Stack.{Stack}
use Rattle.smt_script.specs.StackView.{profile_of}
use Rattle.smt_script.proofs.EffectLemmas.{Keeps, assertions-add, assertions_left, no_names_left}
use Rattle.smt_script.proofs.EffectLemmas.{none_more}
use Rattle.smt_script.proofs.EffectLemmas.{nothing_brought, same_signature, signature-add, within}
use Rattle.smt_script.proofs.HistoryLemmas.{all_to_level, assertion_stands_after, assertions-push, assertions_rule}
use Rattle.smt_script.proofs.HistoryLemmas.{exited-push, global-push, history-push, in_force-left, in_force-push}
use Rattle.smt_script.proofs.HistoryLemmas.{level_of, levels_bound, levels_to-push, logic-push, names_rule}
use Rattle.smt_script.proofs.HistoryLemmas.{no_assertions_still, none_still, print-push, still, theories-push}
use Rattle.smt_script.proofs.HistoryLemmas.{to_fewer, to_level-push}
use Rattle.smt_script.proofs.StandingLemmas.{depth-push}
use Rattle.smt_theory.specs.declared.profile.Profile.{Profile}

-- ---- lists

take_all : {A : Type 0} (xs : List A) → take (length xs) xs ≡ xs
take_all [] = refl
take_all (x ∷ xs) = ap (λ (l : List _). x ∷ l) (take_all xs)

take_fewer : {A : Type 0} (m n : ℕ) (xs : List A) → m ≤ n → take m (take n xs) ≡ take m xs
take_fewer zero n xs h = refl
take_fewer (suc m) zero xs h = absurd (omega arith)
take_fewer (suc m) (suc n) [] h = refl
take_fewer (suc m) (suc n) (x ∷ xs) h = ap (λ (l : List _). x ∷ l) (take_fewer m n xs (omega arith))

take_length : {A : Type 0} (n : ℕ) (xs : List A) → n ≤ length xs → length (take n xs) ≡ n
take_length zero xs h = refl
take_length (suc n) [] h = absurd (omega arith)
take_length (suc n) (x ∷ xs) h = ap suc (take_length n xs (omega arith))

-- an element of the first so many
taken : {A : Type 0} (n : ℕ) (xs : List A) (k : ℕ) (x : A) → slice_get (take n xs) k ≡ Some x
    → (slice_get xs k ≡ Some x) × (k + 1 ≤ n)
taken zero xs k x h = cc
taken (suc n) [] k x h = cc
taken (suc n) (y ∷ xs) zero x h = (h, omega arith)
taken (suc n) (y ∷ xs) (suc k) x h = let r = taken n xs k x h in (r.0, (let m = r.1 in omega arith))

pub copies_length : (n : ℕ) (l : Level) → length (copies n l) ≡ n
copies_length zero l = refl
copies_length (suc n) l = ap suc (copies_length n l)

of_copies : (n : ℕ) (l : Level) (k : ℕ) (x : Level) → slice_get (copies n l) k ≡ Some x → x ≡ l
of_copies zero l k x h = cc
of_copies (suc n) l zero x h = cc
of_copies (suc n) l (suc k) x h = of_copies n l k x h

-- an element of a list with copies behind it is one of the list, or such a copy
pub data Behind (xs : List Level) (l : Level) (k : ℕ) (x : Level) : Type 0 where
  Before : (slice_get xs k ≡ Some x) → Behind xs l k x
  Copy : (x ≡ l) → (length xs ≤ k) → Behind xs l k x

one_behind : (xs : List Level) (n : ℕ) (l : Level) (k : ℕ) (x : Level)
    → slice_get (xs ++ copies n l) k ≡ Some x → Behind xs l k x
one_behind [] n l k x h = Copy (of_copies n l k x h) (omega arith)
one_behind (y ∷ xs) n l zero x h = Before h
one_behind (y ∷ xs) n l (suc k) x h = further (one_behind xs n l k x h)
  where
    further : Behind xs l k x → Behind (y ∷ xs) l (suc k) x
    further (Before at) = Before at
    further (Copy is le) = Copy is (omega arith)

-- ---- push

push_keeps : (profile : Profile) (m : ℕ) → Keeps profile (Push m)
push_keeps profile m = record { no_reset = refl; level = λ d. omega arith; theories = λ t. refl }

-- a level that notes all leaves all
left_all : (global : Bool) (l : Level) (c : Contents) → first_of l.mark c ≡ c → contents_left global l.mark c ≡ c
left_all true l c h = refl
left_all false l c h = h

-- the terms of assertions are among the nodes
terms_within : TermsHaveNodes → (c : Contents) (bs : List spec.Assertion) (as' : List Assertion) (n : ℕ)
    → length c.rows ≤ n → AreAssertions c as' bs → All (λ a. a.term < n) as'
terms_within law c [] [] n most h = All-nil (λ a. a.term < n)
terms_within law c (b ∷ bs) [] n most h = absurd h
terms_within law c [] (a ∷ as') n most h = absurd h
terms_within law c (b ∷ bs) (a ∷ as') n most h =
    All-cons (λ x. x.term < n) a as' (let w = law c a.term b.term h.1 in omega arith)
    (terms_within law c bs as' n most h.3)

note_is_level : TermsHaveNodes → (s : Stack) (l : Level) (cs : List Numbered) (k : ℕ) → HasInForce s cs → NotesAll s l
    → depth_in_force cs ≤ k
    → IsLevel s.global (contents_of s.library) s.assertions.items l (signature_to_level (profile_of s) k cs)
    (assertions_to_level (profile_of s) k cs)
note_is_level law s l cs k h notes le =
    let c = contents_of s.library in
    let N = in_force names_stand (history (profile_of s) cs) in
    let A = in_force assertions_stand (history (profile_of s) cs) in
    let names : signature_to_level (profile_of s) k cs ≡ signature_in_force (profile_of s) cs =
    ap (signature_of (theories_in_force (profile_of s) cs))
    (all_to_level name_stands_after names_level names_rule k (depth_in_force cs) N le
    (levels_bound (profile_of s) name_stands_after names_level names_rule cs)) in
    let asserted : assertions_to_level (profile_of s) k cs ≡ assertions_in_force (profile_of s) cs =
    ap assertions_of
    (all_to_level assertion_stands_after level_of assertions_rule k (depth_in_force cs) A le
    (levels_bound (profile_of s) assertion_stands_after level_of assertions_rule cs)) in
    let all = left_all s.global l c notes.all in
    record {
      within = notes.within;
      count = (let e = notes.assertions in omega arith);
      holds = subst (λ (x : Contents). Holds x (signature_to_level (profile_of s) k cs)) (sym all)
          (subst (Holds c) (sym names) h.library);
      assertions_are =
          subst (λ (x : Contents). AreAssertions x (take l.assertions s.assertions.items)
          (assertions_to_level (profile_of s) k cs)) (sym all)
          (subst (AreAssertions c (take l.assertions s.assertions.items)) (sym asserted)
          (subst (λ (xs : List Assertion). AreAssertions c xs (assertions_in_force (profile_of s) cs))
          (sym (ap (λ (n : ℕ). take n s.assertions.items) notes.assertions ∙ take_all s.assertions.items))
          h.assertions));
      terms = subst (All (λ a. a.term < l.mark.nodes))
          (sym (ap (λ (n : ℕ). take n s.assertions.items) notes.assertions ∙ take_all s.assertions.items))
          (terms_within law c (assertions_in_force (profile_of s) cs) s.assertions.items l.mark.nodes
          (let e = ap (λ (x : Contents). length x.rows) notes.all in let m =
          length-take l.mark.nodes c.rows in omega arith) h.assertions);
    }

push_level : TermsHaveNodes → (s : Stack) (l : Level) (cs : List Numbered) (k : ℕ) (x : Level) → HasInForce s cs → NotesAll s l
    → Behind s.levels l k x
    → IsLevel s.global (contents_of s.library) s.assertions.items x (signature_to_level (profile_of s) k cs)
    (assertions_to_level (profile_of s) k cs)
push_level law s l cs k x h notes (Before at) = h.levels k x at
push_level law s l cs k x h notes (Copy is le) =
    subst (λ (y : Level). IsLevel s.global (contents_of s.library) s.assertions.items y
    (signature_to_level (profile_of s) k cs) (assertions_to_level (profile_of s) k cs)) (sym is)
    (note_is_level law s l cs k h notes (let e = h.depth in omega arith))

push_ordered : (s : Stack) (l : Level) (cs : List Numbered) (j k : ℕ) (x y : Level) → HasInForce s cs
    → NotesAll s l → j ≤ k → Behind s.levels l j x → Behind s.levels l k y → IsOuter x y
push_ordered s l cs j k x y h notes le (Before at) (Before there) = h.ordered j k x y le at there
push_ordered s l cs j k x y h notes le (Before at) (Copy is far) =
    let level = h.levels j x at in
    subst (IsOuter x) (sym is)
    (record {
      mark = notes.last x.mark level.within;
      assertions =
          (let e = notes.assertions in let m = level.count in omega arith);
    })
push_ordered s l cs j k x y h notes le (Copy same near) (Before there) = let m =
    within s.levels k y there in absurd (omega arith)
push_ordered s l cs j k x y h notes le (Copy same near) (Copy is far) =
    subst (λ (z : Level). IsOuter z y) (sym same)
    (subst (IsOuter l) (sym is)
    (record { mark = notes.last l.mark notes.within; assertions = omega arith }))

pub push_effect : TermsHaveNodes → (old : Stack) (v : List Level) (l : Level) (m : ℕ) → NotesAll old l
    → v ≡ old.levels ++ copies m l → length old.levels + m ≤ max_levels
    → (n : ℕ) → HasEffect old (record old { levels = v }) n (Push m)
push_effect law old v l m notes pushed fits n = record {
  faultless = λ cs h.
      let few : nat_lt max_levels (depth_in_force cs + m) ≡ false = (let e = h.depth in grind (arith)) in
      rw few refl;
  stands = λ cs h alike.
      let c : Numbered = record { number = n; command = Push m } in
      let b = brought_by (profile_of old) cs (history (profile_of old) cs) c in
      let P : List spec.Assertion → Type 0 =
      λ bs. AreAssertions (contents_of old.library) old.assertions.items bs in
      let deep : length v ≡ depth_in_force cs + m =
      ap length pushed ∙ length-append old.levels (copies m l)
      ∙ ap (λ (x : ℕ). length old.levels + x) (copies_length m l) ∙ ap (λ (x : ℕ). x + m) h.depth in
      record {
        library = subst (λ (s : Signature). library.StandsFor old.library s)
            (sym (signature-add (profile_of old) cs c (push_keeps (profile_of old) m)))
            (nothing_brought old.library (signature_in_force (profile_of old) cs) n (Push m) refl refl h.library);
        assertions = subst P (sym (assertions-add (profile_of old) cs c (push_keeps (profile_of old) m)
            ∙ append-nil (assertions_in_force (profile_of old) cs)))
            h.assertions;
        depth = deep ∙ sym (depth-push cs c);
        levels = λ k x at.
            let behind = one_behind old.levels m l k x
            (ap (λ (xs : List Level). slice_get xs k) (sym pushed) ∙ at) in
            let inside : k + 1 ≤ b.level = (let i = within v k x at in omega arith) in
            subst (λ (y : Signature). IsLevel old.global (contents_of old.library) old.assertions.items x y
            (assertions_to_level (profile_of old) k (cs ++ c ∷ [])))
            (sym (no_names_left (profile_of old) k cs c (push_keeps (profile_of old) m) refl refl))
            (subst (IsLevel old.global (contents_of old.library) old.assertions.items x
            (signature_to_level (profile_of old) k cs))
            (sym (assertions_left (profile_of old) k cs c (push_keeps (profile_of old) m) inside))
            (push_level law old l cs k x h notes behind));
        ordered = λ j k x y le at there.
            push_ordered old l cs j k x y h notes le
            (one_behind old.levels m l j x
            (ap (λ (xs : List Level). slice_get xs j) (sym pushed) ∙ at))
            (one_behind old.levels m l k y
            (ap (λ (xs : List Level). slice_get xs k) (sym pushed) ∙ there));
        logic = ap (λ (x : LogicState). logic_after x (Push m)) h.logic ∙ sym (logic-push cs c);
        global = h.global ∙ sym (global-push cs c);
        print_success = h.print_success ∙ sym (print-push old.start.print_success cs c);
        exited = ap (λ (x : Bool). x || false) h.exited ∙ sym (exited-push cs c);
      };
  start = refl;
}

-- ---- pop

-- what a mark counts is the same in contents that are cut to a later one
pub record CutsAreKept : Type 0 where
  pub first : (mark later : Mark) (c : Contents) → IsBelow mark later
      → first_of mark (first_of later c) ≡ first_of mark c
  pub within : (mark later : Mark) (c : Contents) → IsBelow mark later → IsWithin later c
      → IsWithin mark (first_of later c)

-- what an outer level leaves is what it leaves of what an inner one left
left_of_left : CutsAreKept → (global : Bool) (mark later : Mark) (c : Contents) → IsBelow mark later
    → contents_left global mark (contents_left global later c) ≡ contents_left global mark c
left_of_left law true mark later c h = refl
left_of_left law false mark later c h = law.first mark later c h

within_left : CutsAreKept → (global : Bool) (mark later : Mark) (c : Contents) → IsBelow mark later
    → IsWithin mark c → IsWithin later c → IsWithin mark (contents_left global later c)
within_left law true mark later c h inner outer = inner
within_left law false mark later c h inner outer = law.within mark later c h outer

cut_level : CutsAreKept → (old new : Stack) (d : ℕ) (cs : List Numbered) → HasInForce old cs
    → (cut : IsCut old new d) → (k : ℕ) (x : Level) → slice_get new.levels k ≡ Some x
    → IsLevel old.global (contents_of new.library) new.assertions.items x (signature_to_level (profile_of old) k cs)
    (assertions_to_level (profile_of old) k cs)
cut_level law old new d cs h cut k x at =
    let there = taken d old.levels k x (ap (λ (xs : List Level). slice_get xs k) (sym cut.levels) ∙ at)
    in
    let outer = h.ordered k d x cut.level (let m = there.1 in omega arith) there.0 cut.at in
    let level = h.levels k x there.0 in
    let whole = h.levels d cut.level cut.at in
    let c = contents_of old.library in
    let g = old.global in
    let s = signature_to_level (profile_of old) k cs in
    let B = assertions_to_level (profile_of old) k cs in
    let same = left_of_left law g x.mark cut.level.mark c outer.mark in
    subst (λ (y : Contents). IsLevel g y new.assertions.items x s B) (sym cut.library)
    (subst (λ (xs : List Assertion). IsLevel g (contents_left g cut.level.mark c) xs x s B)
    (sym cut.assertions) (record {
      within = within_left law g x.mark cut.level.mark c outer.mark level.within whole.within;
      count = (let e = take_length cut.level.assertions old.assertions.items whole.count in let o =
          outer.assertions in omega arith);
      holds = subst (λ (y : Contents). Holds y s) (sym same) level.holds;
      assertions_are =
          subst (λ (y : Contents). AreAssertions y
          (take x.assertions (take cut.level.assertions old.assertions.items)) B) (sym same)
          (subst (λ (xs : List Assertion). AreAssertions (contents_left g x.mark c) xs B)
          (sym (take_fewer x.assertions cut.level.assertions old.assertions.items outer.assertions))
          level.assertions_are);
      terms = subst (All (λ a. a.term < x.mark.nodes))
          (sym (take_fewer x.assertions cut.level.assertions old.assertions.items outer.assertions)) level.terms;
    }))

-- the names that levels leave which are no more than a command leaves
names_popped : (profile : Profile) (k : ℕ) (cs : List Numbered) (c : Numbered) → is_reset c.command ≡ false
    → theories_after profile (theories_in_force profile cs) c.command ≡ theories_in_force profile cs
    → entries_by (signature_in_force profile cs) c.number c.command ≡ []
    → abbreviations_by (signature_in_force profile cs) c.number c.command ≡ []
    → k ≤ depth_after (depth_in_force cs) c.command → signature_to_level profile k (cs ++ c ∷ [])
    ≡ signature_to_level profile k cs
names_popped profile k cs c keeps theories entries abbreviations le =
    let b = brought_by profile cs (history profile cs) c in
    let N = in_force names_stand (history profile cs) in
    let some = names_to_level b.level N in
    let fewer = to_fewer names_level k b.level N le in
    let same = ap (names_to_level k) (in_force-left profile name_stands_after names_level names_rule cs c keeps)
    ∙ levels_to-push names_level k some b in
    let none = none_more (names_to_level k some) b (nat_le (names_level b) k) entries abbreviations in
    same_signature (theories_in_force profile (cs ++ c ∷ [])) (theories_in_force profile cs)
    (names_to_level k (in_force names_stand (history profile (cs ++ c ∷ [])))) (names_to_level k N)
    (theories-push profile cs c ∙ theories)
    (ap abbreviations_of same ∙ none.1 ∙ ap abbreviations_of fewer) (ap entries_of same ∙ none.0 ∙ ap entries_of fewer)

-- what is left of all names is what the levels left that a command left
all_popped : (profile : Profile) (cs : List Numbered) (c : Numbered) → is_reset c.command ≡ false
    → theories_after profile (theories_in_force profile cs) c.command ≡ theories_in_force profile cs
    → entries_by (signature_in_force profile cs) c.number c.command ≡ []
    → abbreviations_by (signature_in_force profile cs) c.number c.command ≡ []
    → signature_in_force profile (cs ++ c ∷ [])
    ≡ signature_to_level profile (depth_after (depth_in_force cs) c.command) cs
all_popped profile cs c keeps theories entries abbreviations =
    let b = brought_by profile cs (history profile cs) c in
    let N = in_force names_stand (history profile cs) in
    let same = in_force-left profile name_stands_after names_level names_rule cs c keeps in
    let none = none_more (names_to_level b.level N) b true entries abbreviations in
    same_signature (theories_in_force profile (cs ++ c ∷ [])) (theories_in_force profile cs)
    (in_force names_stand (history profile (cs ++ c ∷ []))) (names_to_level b.level N)
    (theories-push profile cs c ∙ theories) (ap abbreviations_of same ∙ none.1) (ap entries_of same ∙ none.0)

assertions_popped : (profile : Profile) (k : ℕ) (cs : List Numbered) (c : Numbered) → is_reset c.command ≡ false
    → k + 1 ≤ depth_after (depth_in_force cs) c.command
    → assertions_to_level profile k (cs ++ c ∷ []) ≡ assertions_to_level profile k cs
assertions_popped profile k cs c keeps inside =
    let b = brought_by profile cs (history profile cs) c in
    let A = in_force assertions_stand (history profile cs) in
    ap assertions_of (ap (to_level k) (in_force-left profile assertion_stands_after level_of assertions_rule cs c keeps)
    ∙ to_level-push level_of k (to_level b.level A) b inside
    ∙ to_fewer level_of k b.level A (omega arith))

pub pop_effect : CutsAreKept → (old new : Stack) (m d : ℕ) → IsCut old new d → d + m ≡ length old.levels
    → HasNotesOf old new → (n : ℕ) → HasEffect old new n (Pop m)
pop_effect law old new m d cut sum notes n = record {
  faultless = λ cs h. rw (enough cs h) refl;
  stands = λ cs h alike.
      let c : Numbered = record { number = n; command = Pop m } in
      let b = brought_by (profile_of old) cs (history (profile_of old) cs) c in
      let all = cs ++ c ∷ [] in
      let A = in_force assertions_stand (history (profile_of old) cs) in
      let deep : depth_in_force cs - m ≡ d = (let e = h.depth in omega arith) in
      let whole = h.levels d cut.level cut.at in
      let signature : signature_in_force (profile_of old) all ≡ signature_to_level (profile_of old) d cs =
      all_popped (profile_of old) cs c refl refl refl refl
      ∙ ap (λ (k : ℕ). signature_to_level (profile_of old) k cs) deep in
      let asserted : assertions_in_force (profile_of old) all ≡ assertions_to_level (profile_of old) d cs =
      ap assertions_of (in_force-left (profile_of old) assertion_stands_after level_of assertions_rule cs c refl)
      ∙ assertions-push (to_level b.level A) b ∙ append-nil (assertions_of (to_level b.level A))
      ∙ ap (λ (k : ℕ). assertions_to_level (profile_of old) k cs) deep in
      let g = old.global in
      subst (λ (x : Start). HasInForce (with_notes (Pop m) (record new { start = x })) all) (sym notes.start)
      (record {
        library = subst (λ (s : Signature). library.StandsFor new.library s) (sym signature)
            (subst (λ (x : Contents). Holds x (signature_to_level (profile_of old) d cs))
            (sym cut.library) whole.holds);
        assertions =
            subst (λ (bs : List spec.Assertion). AreAssertions (contents_of new.library)
            new.assertions.items bs) (sym asserted)
            (subst (λ (x : Contents). AreAssertions x new.assertions.items (assertions_to_level (profile_of old) d cs))
            (sym cut.library)
            (subst (λ (xs : List Assertion). AreAssertions
            (contents_left g cut.level.mark (contents_of old.library)) xs (assertions_to_level (profile_of old) d cs))
            (sym cut.assertions) whole.assertions_are));
        depth = ap length cut.levels
            ∙ take_length d old.levels
            (let i = within old.levels d cut.level cut.at in omega arith) ∙ sym deep
            ∙ sym (depth-push cs c);
        levels = λ k x at.
            let there = taken d old.levels k x
            (ap (λ (xs : List Level). slice_get xs k) (sym cut.levels) ∙ at) in
            let inside : k + 1 ≤ b.level = (let i = there.1 in let e = deep in omega arith) in
            subst (λ (g : Bool). IsLevel g (contents_of new.library) new.assertions.items x
            (signature_to_level (profile_of old) k all) (assertions_to_level (profile_of old) k all)) (sym notes.global)
            (subst (λ (y : Signature). IsLevel g (contents_of new.library) new.assertions.items x y
            (assertions_to_level (profile_of old) k all))
            (sym (names_popped (profile_of old) k cs c refl refl refl refl (omega arith)))
            (subst (IsLevel g (contents_of new.library) new.assertions.items x
            (signature_to_level (profile_of old) k cs))
            (sym (assertions_popped (profile_of old) k cs c refl inside)) (cut_level law old new d cs h cut k x at)));
        ordered = λ j k x y le at there.
            h.ordered j k x y le (taken d old.levels j x
            (ap (λ (xs : List Level). slice_get xs j) (sym cut.levels) ∙ at)).0
            (taken d old.levels k y
            (ap (λ (xs : List Level). slice_get xs k) (sym cut.levels) ∙ there)).0;
        logic = ap (λ (x : LogicState). logic_after x (Pop m)) (notes.logic ∙ h.logic) ∙ sym (logic-push cs c);
        global = notes.global ∙ h.global ∙ sym (global-push cs c);
        print_success = notes.print_success ∙ h.print_success ∙ sym (print-push old.start.print_success cs c);
        exited = ap (λ (x : Bool). x || false) (notes.exited ∙ h.exited) ∙ sym (exited-push cs c);
      });
  start = notes.start;
}
  where
    enough : (cs : List Numbered) → HasInForce old cs → nat_lt (depth_in_force cs) m ≡ false
    enough cs h = let e = h.depth in grind (arith)

pop_keeps : (profile : Profile) → Keeps profile (Pop 0)
pop_keeps profile = record { no_reset = refl; level = λ d. omega arith; theories = λ t. refl }

-- no level is removed
pub pop_none : (s : Stack) (n : ℕ) → HasEffect s s n (Pop 0)
pop_none s n = record {
  faultless = λ cs h. rw (none_over (depth_in_force cs)) refl;
  stands = λ cs h alike.
      let c : Numbered = record { number = n; command = Pop 0 } in
      let all = cs ++ c ∷ [] in
      let same : depth_in_force cs - 0 ≡ depth_in_force cs = omega arith in
      record {
        library = subst (λ (x : Signature). library.StandsFor s.library x)
            (sym (signature-add (profile_of s) cs c (pop_keeps (profile_of s))))
            (nothing_brought s.library (signature_in_force (profile_of s) cs) n (Pop 0) refl refl h.library);
        assertions = subst (λ (bs : List spec.Assertion). AreAssertions (contents_of s.library)
            s.assertions.items bs) (sym (assertions-add (profile_of s) cs c (pop_keeps (profile_of s))
            ∙ append-nil (assertions_in_force (profile_of s) cs)))
            h.assertions;
        depth = h.depth ∙ sym same ∙ sym (depth-push cs c);
        levels = λ k x at.
            let inside : k + 1 ≤ depth_in_force cs - 0 =
            (let i = within s.levels k x at in let e = h.depth in omega arith) in
            subst (λ (y : Signature). IsLevel s.global (contents_of s.library) s.assertions.items x y
            (assertions_to_level (profile_of s) k all))
            (sym (no_names_left (profile_of s) k cs c (pop_keeps (profile_of s)) refl refl))
            (subst (IsLevel s.global (contents_of s.library) s.assertions.items x
            (signature_to_level (profile_of s) k cs))
            (sym (assertions_left (profile_of s) k cs c (pop_keeps (profile_of s)) inside)) (h.levels k x at));
        ordered = h.ordered;
        logic = ap (λ (x : LogicState). logic_after x (Pop 0)) h.logic ∙ sym (logic-push cs c);
        global = h.global ∙ sym (global-push cs c);
        print_success = h.print_success ∙ sym (print-push s.start.print_success cs c);
        exited = ap (λ (x : Bool). x || false) h.exited ∙ sym (exited-push cs c);
      };
  start = refl;
}
  where
    none_over : (d : ℕ) → nat_lt d 0 ≡ false
    none_over d = grind (arith)

-- ---- reset

nothing_at : (k : ℕ) (x : Level) → slice_get {X = Level} [] k ≡ Some x → ⊥
nothing_at k x at = absurd (cc)

-- what is in force where no level and no assertion is left
without_assertions : (old new : Stack) (cs : List Numbered) (n : ℕ) (command : Command) → HasInForce old cs
    → library.StandsFor new.library
    (signature_in_force (profile_of old) (cs ++ record { number = n; command = command } ∷ []))
    → is_reset command ≡ true → ((d : ℕ) → depth_after d command ≡ 0) → ((n : ℕ) → assertions_by n command ≡ [])
    → new.assertions.items ≡ [] → new.levels ≡ [] → HasNotesOf old new
    → HasInForce (with_notes command new) (cs ++ record { number = n; command = command } ∷ [])
without_assertions old new cs n command h names resets no_depth brings none no_levels notes =
    let c : Numbered = record { number = n; command = command } in
    let b = brought_by (profile_of old) cs (history (profile_of old) cs) c in
    let A = in_force assertions_stand (history (profile_of old) cs) in
    let now : in_force assertions_stand (history (profile_of old) (cs ++ c ∷ [])) ≡ b ∷ [] =
    ap (in_force assertions_stand) (history-push (profile_of old) cs c)
    ∙ in_force-push assertion_stands_after (history (profile_of old) cs) b
    ∙ ap (λ (l : List Brought). l ++ b ∷ []) (no_assertions_still b A resets) in
    let asserted : assertions_in_force (profile_of old) (cs ++ c ∷ []) ≡ [] =
    ap assertions_of now ∙ assertions-push [] b ∙ brings n in
    subst (λ (x : Start). HasInForce (with_notes command (record new { start = x })) (cs ++ c ∷ [])) (sym notes.start)
    (record {
      library = names;
      assertions = subst (λ (bs : List spec.Assertion). AreAssertions (contents_of new.library)
          new.assertions.items bs) (sym asserted)
          (subst (λ (xs : List Assertion). AreAssertions (contents_of new.library) xs []) (sym none) tt);
      depth = ap length no_levels ∙ sym (depth-push cs c ∙ no_depth (depth_in_force cs));
      levels = λ k x at. absurd
          (nothing_at k x (ap (λ (xs : List Level). slice_get xs k) (sym no_levels) ∙ at));
      ordered = λ j k x y le at there. absurd
          (nothing_at j x (ap (λ (xs : List Level). slice_get xs j) (sym no_levels) ∙ at));
      logic = ap (λ (x : LogicState). logic_after x command) (notes.logic ∙ h.logic) ∙ sym (logic-push cs c);
      global = ap (λ (g : Bool). global_after g command) (notes.global ∙ h.global) ∙ sym (global-push cs c);
      print_success =
          ap (λ (x : Bool). print_success_after old.start.print_success x command)
          (notes.print_success ∙ h.print_success)
          ∙ sym (print-push old.start.print_success cs c);
      exited = ap (λ (x : Bool). x || is_exit command) (notes.exited ∙ h.exited) ∙ sym (exited-push cs c);
    })

-- no names are in force behind a reset
reset_names : (profile : Profile) (cs : List Numbered) (n : ℕ)
    → signature_in_force profile (cs ++ record { number = n; command = Reset } ∷ []) ≡ no_names (all_theories profile)
reset_names profile cs n =
    let c : Numbered = record { number = n; command = Reset } in
    let b = brought_by profile cs (history profile cs) c in
    let now : in_force names_stand (history profile (cs ++ c ∷ [])) ≡ b ∷ [] =
    ap (in_force names_stand) (history-push profile cs c) ∙ in_force-push name_stands_after (history profile cs) b
    ∙ ap (λ (l : List Brought). l ++ b ∷ [])
    (none_still name_stands_after names_level names_rule b (in_force names_stand (history profile cs)) refl) in
    same_signature (theories_in_force profile (cs ++ c ∷ [])) (all_theories profile)
    (in_force names_stand (history profile (cs ++ c ∷ []))) []
    (theories-push profile cs c) (ap abbreviations_of now) (ap entries_of now)

pub reset_effect : (old new : Stack) → IsEmpty new (all_theories (profile_of old)) → HasNotesOf old new → (n : ℕ)
    → HasEffect old new n Reset
reset_effect old new empty notes n = record {
  faultless = λ cs h. refl;
  stands = λ cs h alike. without_assertions old new cs n Reset h
      (subst (λ (s : Signature). library.StandsFor new.library s)
      (sym (reset_names (profile_of old) cs n)) empty.library)
      refl (λ d. refl) (λ k. refl) empty.assertions empty.levels notes;
  start = notes.start;
}

-- names that are global stay where a command removes all but options
globals_stay : (b : Brought) (bs : List Brought) → is_everything b.removes ≡ false → AreAs true bs
    → (entries_of (still name_stands_after b bs) ≡ entries_of bs)
    × (abbreviations_of (still name_stands_after b bs) ≡ abbreviations_of bs)
globals_stay b [] some h = (refl, refl)
globals_stay b (x ∷ xs) some h = one h.0 (globals_stay b xs some h.1)
  where
    rest : List Brought
    rest = still name_stands_after b xs

    Goal : Bool → Type 0
    Goal u = (entries_of (cond u (x ∷ rest) rest) ≡ x.entries ++ entries_of xs)
        × (abbreviations_of (cond u (x ∷ rest) rest) ≡ x.abbreviations ++ abbreviations_of xs)

    either : (u : Bool) → x.entries ≡ [] → x.abbreviations ≡ []
        → (entries_of rest ≡ entries_of xs) × (abbreviations_of rest ≡ abbreviations_of xs) → Goal u
    either true e a r = (
      ap (λ (l : List Entry). x.entries ++ l) r.0,
      ap (λ (l : List (List ℕ × NamedSort)). x.abbreviations ++ l) r.1,
    )
    either false e a r = (
      r.0 ∙ ap (λ (l : List Entry). l ++ entries_of xs) (sym e),
      r.1 ∙ ap (λ (l : List (List ℕ × NamedSort)). l ++ abbreviations_of xs) (sym a),
    )

    one : IsAs true x → (entries_of rest ≡ entries_of xs) × (abbreviations_of rest ≡ abbreviations_of xs)
        → Goal (name_stands_after x b)
    one (inl is) r =
        subst Goal (sym (ap (λ (g : Bool). cond g (not (is_everything b.removes)) (stands_after x.level b)) is
        ∙ ap not some)) (
          ap (λ (l : List Entry). x.entries ++ l) r.0,
          ap (λ (l : List (List ℕ × NamedSort)). x.abbreviations ++ l) r.1,
        )
    one (inr none) r = either (name_stands_after x b) none.0 none.1 r

-- and others go
others_go : (b : Brought) (bs : List Brought) → resets b.removes ≡ true → AreAs false bs
    → (entries_of (still name_stands_after b bs) ≡ []) × (abbreviations_of (still name_stands_after b bs) ≡ [])
others_go b [] all h = (refl, refl)
others_go b (x ∷ xs) all h = one h.0 (others_go b xs all h.1)
  where
    rest : List Brought
    rest = still name_stands_after b xs

    Goal : Bool → Type 0
    Goal u = (entries_of (cond u (x ∷ rest) rest) ≡ []) × (abbreviations_of (cond u (x ∷ rest) rest) ≡ [])

    either : (u : Bool) → x.entries ≡ [] → x.abbreviations ≡ []
        → (entries_of rest ≡ []) × (abbreviations_of rest ≡ []) → Goal u
    either true e a r = (
      ap (λ (l : List Entry). l ++ entries_of rest) e ∙ r.0,
      ap (λ (l : List (List ℕ × NamedSort)). l ++ abbreviations_of rest) a ∙ r.1,
    )
    either false e a r = r

    one : IsAs false x → (entries_of rest ≡ []) × (abbreviations_of rest ≡ []) → Goal (name_stands_after x b)
    one (inl is) r =
        subst Goal (sym (ap (λ (g : Bool). cond g (not (is_everything b.removes)) (stands_after x.level b)) is
        ∙ ap (λ (u : Bool). not u && nat_le x.level b.level) all)) r
    one (inr none) r = either (name_stands_after x b) none.0 none.1 r

-- the names in force behind `reset-assertions`
pub names_kept : (profile : Profile) (global : Bool) (cs : List Numbered) (n : ℕ)
    → AreAs global (in_force names_stand (history profile cs))
    → signature_in_force profile (cs ++ record { number = n; command = ResetAssertions } ∷ [])
    ≡ cond global (signature_in_force profile cs) (no_names (theories_in_force profile cs))
names_kept profile global cs n alike = by global alike
  where
    c : Numbered
    c = record { number = n; command = ResetAssertions }

    b : Brought
    b = brought_by profile cs (history profile cs) c

    N : List Brought
    N = in_force names_stand (history profile cs)

    now : in_force names_stand (history profile (cs ++ c ∷ [])) ≡ still name_stands_after b N ++ b ∷ []
    now = ap (in_force names_stand) (history-push profile cs c) ∙ in_force-push name_stands_after (history profile cs) b

    none : (entries_of (still name_stands_after b N ++ b ∷ []) ≡ entries_of (still name_stands_after b N))
        × (abbreviations_of (still name_stands_after b N ++ b ∷ []) ≡ abbreviations_of (still name_stands_after b N))
    none = none_more (still name_stands_after b N) b true refl refl

    by : (g : Bool) → AreAs g N
        → signature_in_force profile (cs ++ c ∷ [])
        ≡ cond g (signature_in_force profile cs) (no_names (theories_in_force profile cs))
    by true h =
        let stay = globals_stay b N refl h in
        same_signature (theories_in_force profile (cs ++ c ∷ [])) (theories_in_force profile cs)
        (in_force names_stand (history profile (cs ++ c ∷ []))) N (theories-push profile cs c)
        (ap abbreviations_of now ∙ none.1 ∙ stay.1) (ap entries_of now ∙ none.0 ∙ stay.0)
    by false h =
        let go = others_go b N refl h in
        same_signature (theories_in_force profile (cs ++ c ∷ [])) (theories_in_force profile cs)
        (in_force names_stand (history profile (cs ++ c ∷ []))) [] (theories-push profile cs c)
        (ap abbreviations_of now ∙ none.1 ∙ go.1) (ap entries_of now ∙ none.0 ∙ go.0)

pub reset_assertions_effect : (old new : Stack) → HasNoAssertions old new → HasNotesOf old new
    → (n : ℕ) → HasEffect old new n ResetAssertions
reset_assertions_effect old new left notes n = record {
  faultless = λ cs h. refl;
  stands = λ cs h alike. without_assertions old new cs n ResetAssertions h
      (subst (λ (s : Signature). library.StandsFor new.library s)
      (sym (names_kept (profile_of old) old.global cs n
      (subst (λ (g : Bool). AreAs g (in_force names_stand (history (profile_of old) cs))) (sym h.global) alike)))
      (left.library (signature_in_force (profile_of old) cs) h.library))
      refl (λ d. refl) (λ k. refl) left.assertions left.levels notes;
  start = notes.start;
}

-- ---- the code

pub copies_push : (n : ℕ) (l : Level) → copies n l ++ l ∷ [] ≡ copies (suc n) l
copies_push zero l = refl
copies_push (suc n) l = ap (λ (xs : List Level). l ∷ xs) (copies_push n l)

pub take_old : (xs : List Level) (n : ℕ) (l : Level) → take (length xs) (xs ++ copies n l) ≡ xs
take_old [] n l = refl
take_old (x ∷ xs) n l = ap (λ (ys : List Level). x ∷ ys) (take_old xs n l)
