-- The names that commands without a fault brought.
use Rattle.std.proofs.Common.{◌≡◌, ◌≤◌, ℕ, ◌+◌, Bool, true, false, cond, List, [], ◌∷◌, ◌++◌, ◌||◌, Option}
use Rattle.std.proofs.Common.{Some, None, is_some, Result, Ok, Err, refl, ap, sym, ◌∙◌, subst, arith}
use Rattle.std.proofs.Common.{append_assoc, append-nil, not, inl, inr}
use Rattle.std.proofs.lemmas.List.Elements.{filter-append}
use Rattle.std.specs.Prelude.{bytes_eq, nat_le}
use Rattle.std.specs.List.{filter}
use Rattle.std.proofs.lemmas.Grind.{flat_map-append}
use Rattle.smt_trees.specs.Sexp.{Sexp, Sexps}
use Rattle.smt_theory.specs.Operators.{is_plain_operator}
use Rattle.smt_theory.specs.Theories.{theories_named}
use Rattle.smt_theory.specs.declared.profile.Profile.{Profile}
use Rattle.smt_theory.specs.Words.{look_up, result_and_then}
use Rattle.smt_theory.specs.Sort.{Sort}
use Rattle.smt_theory.specs.declared.theories.Theories.{Theories}
use Rattle.smt_terms.specs.Elements.{ElementNames}
use Rattle.smt_terms.specs.Assertions.{asserted_in}
use Rattle.smt_terms.specs.Definitions.{defined_in}
use Rattle.smt_terms.specs.Declarations.{declaration, declared_in, rank_named}
use Rattle.smt_terms.specs.Freshness.{is_element, is_taken}
use Rattle.smt_terms.specs.Signature.{Entry, Names, Origin, Declared, Defined, Rank, Signature, entry_named}
use Rattle.smt_terms.specs.Signature.{names_of, no_names, rank_of_entry, ranks_of, sort_names_of, unlabelled_over}
use Rattle.smt_terms.specs.WellSorted.{AreIntroduced, IsIntroduced, IsSortedIfDefined, IsWellSorted}
use Rattle.smt_terms.specs.WellSorted.{IsWellSortedFrom}
use Rattle.smt_faults.specs.declared.term_flaw.TermFlaw.{TermFlaw}
use Rattle.smt_faults.specs.declared.term_flaw.TermFlaw.TheVariants as terms
use Rattle.smt_script.specs.Command.{Command, Effect, Addition, SetLogic, Pop, ResetAssertions, Declaration, Definition}
use Rattle.smt_script.specs.Command.{Abbreviation, Assertion, SortDeclaration, SetsLogic, Brings, Assumes, Pushes, Pops, Removing}
use Rattle.smt_script.specs.Command.{SetsGlobal, Nothing, AllButOptions, Everything, effect_of}
use Rattle.smt_script.specs.Stack.{Brought, HaveNoFlaw, Numbered, all_or_none, brought_by, depth_by}
use Rattle.smt_script.specs.Stack.{entries_by, entries_of_effect, entries_of_addition, flaw_by, flaw_of_addition}
use Rattle.smt_script.specs.Stack.{removed_by, removed_of_effect, resets, theories_by, entries_of, flaw_of}
use Rattle.smt_script.specs.Stack.{flaw_of_effect, flaw_of_logic, global_in_force, history, in_force, is_everything}
use Rattle.smt_script.specs.Stack.{name_stands_after, names_stand, one_or_none, signature_in_force, stands_after}
use Rattle.smt_script.specs.Stack.{theories_after, theories_in_force, is_logic_set, is_too_late}
use Rattle.smt_script.specs.StackView.{AreAs, AreNamesAlike, IsAs, names_level, names_to_level, to_level}
use Rattle.smt_script.proofs.EffectLemmas.{Keeps, adds_keeps, addition_adds, names_grow, no_effect_is_idle}
use Rattle.smt_script.proofs.EffectLemmas.{none_more, signature-add}
use Rattle.smt_script.proofs.HistoryLemmas.{AtMost, Kept, alike_step, assertions_rule, entries-push, filter_alike}
use Rattle.smt_script.proofs.HistoryLemmas.{global_to_level, history-push, in_force-left, in_force-push, kept_by_all}
use Rattle.smt_script.proofs.HistoryLemmas.{level_of, names_rule, none_still, still, theories-push, unfixed_is_empty}
use Rattle.smt_script.proofs.LevelLemmas.{names_kept}

-- ---- what is in force stands in the order of its levels

abbrev AtLeast : ℕ → List Brought → Type 0
AtLeast d [] = Unit {0}
AtLeast d (b ∷ bs) = (d ≤ b.level) × AtLeast d bs

abbrev Sorted : List Brought → Type 0
Sorted [] = Unit {0}
Sorted (b ∷ bs) = AtLeast b.level bs × Sorted bs

some_at_least : (d : ℕ) (b : Brought) (u : Bool) (bs : List Brought) → d ≤ b.level → AtLeast d bs
    → AtLeast d (cond u (b ∷ bs) bs)
some_at_least d b true bs h all = (h, all)
some_at_least d b false bs h all = all

filter_at_least : (f : Brought → Bool) (d : ℕ) (bs : List Brought) → AtLeast d bs → AtLeast d (filter f bs)
filter_at_least f d [] all = tt
filter_at_least f d (b ∷ bs) all = some_at_least d b (f b) (filter f bs) all.0 (filter_at_least f d bs all.1)

some_sorted : (b : Brought) (u : Bool) (bs : List Brought) → AtLeast b.level bs → Sorted bs
    → Sorted (cond u (b ∷ bs) bs)
some_sorted b true bs h all = (h, all)
some_sorted b false bs h all = all

filter_sorted : (f : Brought → Bool) (bs : List Brought) → Sorted bs → Sorted (filter f bs)
filter_sorted f [] all = tt
filter_sorted f (b ∷ bs) all =
    some_sorted b (f b) (filter f bs) (filter_at_least f b.level bs all.0) (filter_sorted f bs all.1)

at_least-push : (d : ℕ) (bs : List Brought) (b : Brought) → AtLeast d bs → d ≤ b.level
    → AtLeast d (bs ++ b ∷ [])
at_least-push d [] b all h = (h, tt)
at_least-push d (x ∷ bs) b all h = (all.0, at_least-push d bs b all.1 h)

sorted-push : (bs : List Brought) (b : Brought) → Sorted bs → AtMost level_of b.level bs → Sorted (bs ++ b ∷ [])
sorted-push [] b all h = (tt, tt)
sorted-push (x ∷ bs) b all h = (at_least-push x.level bs b all.0 h.0, sorted-push bs b all.1 h.1)

-- names that go with their level
abbrev local_names : List Brought → List Brought
local_names bs = filter (λ (b : Brought). not b.global) bs

one_local : (f : Brought → Bool) (b : Brought) (bs : List Brought)
    → local_names (filter f bs) ≡ filter f (local_names bs) → (u v : Bool) → f b ≡ u → not b.global ≡ v
    → local_names (cond u (b ∷ filter f bs) (filter f bs))
    ≡ filter f (cond v (b ∷ local_names bs) (local_names bs))
one_local f b bs rest true true h k = rw (h, k) (ap (λ (l : List Brought). b ∷ l) rest)
one_local f b bs rest true false h k = rw k rest
one_local f b bs rest false true h k = rw h rest
one_local f b bs rest false false h k = rest

-- which of some that hold go with their level
local_filter : (f : Brought → Bool) (bs : List Brought) → local_names (filter f bs) ≡ filter f (local_names bs)
local_filter f [] = refl
local_filter f (b ∷ bs) = one_local f b bs (local_filter f bs) (f b) (not b.global) refl refl

local-push : (bs : List Brought) (b : Brought)
    → local_names (bs ++ b ∷ []) ≡ local_names bs ++ cond (not b.global) (b ∷ []) []
local-push bs b = filter-append (λ (x : Brought). not x.global) bs (b ∷ [])

-- those that stand after one more came at its level or an outer one
abbrev AtMostLocal : ℕ → List Brought → Type 0
AtMostLocal d bs = AtMost level_of d (local_names bs)

local_at_most : (a b : Brought) (bs : List Brought) → AtMostLocal b.level (still name_stands_after b bs)
    → (u v : Bool) → name_stands_after a b ≡ u → not a.global ≡ v
    → AtMostLocal b.level (cond u (a ∷ still name_stands_after b bs) (still name_stands_after b bs))
local_at_most a b bs rest false v h k = rest
local_at_most a b bs rest true false h k = rw k rest
local_at_most a b bs rest true true h k =
    rw k (assertions_rule.within a b (stands_as a.global b a.level k h), rest)
  where
    stands_as : (g : Bool) (b : Brought) (level : ℕ) → not g ≡ true
        → cond g (not (is_everything b.removes)) (stands_after level b) ≡ true → stands_after level b ≡ true
    stands_as true b level k h = absurd (cc)
    stands_as false b level k h = h

still_local : (b : Brought) (bs : List Brought) → AtMostLocal b.level (still name_stands_after b bs)
still_local b [] = tt
still_local b (a ∷ bs) =
    local_at_most a b bs (still_local b bs) (name_stands_after a b) (not a.global) refl refl

one_more_sorted : (bs : List Brought) (b : Brought) (u : Bool) → Sorted bs → AtMost level_of b.level bs
    → Sorted (bs ++ cond u (b ∷ []) [])
one_more_sorted bs b true all h = sorted-push bs b all h
one_more_sorted bs b false all h = subst Sorted (sym (append-nil bs)) all

abbrev Ordered : List Numbered → List Brought → Type 0
Ordered before brought = Sorted (local_names (in_force names_stand brought))

ordered_step : (profile : Profile) → Kept profile Ordered
ordered_step profile before brought c h =
    let b = brought_by profile before brought c in
    let N = in_force names_stand brought in
    let some = still name_stands_after b N in
    subst (λ (l : List Brought). Sorted (local_names l)) (sym (in_force-push name_stands_after brought b))
    (subst Sorted (sym (local-push some b))
    (one_more_sorted (local_names some) b (not b.global)
    (subst Sorted (sym (local_filter (λ (a : Brought). name_stands_after a b) N))
    (filter_sorted (λ (a : Brought). name_stands_after a b) (local_names N) h))
    (still_local b N)))

local_sorted : (profile : Profile) (cs : List Numbered)
    → Sorted (local_names (in_force names_stand (history profile cs)))
local_sorted profile cs = kept_by_all profile Ordered tt (ordered_step profile) cs

above : (m k : ℕ) → nat_le m k ≡ false → k + 1 ≤ m
above m k h = grind (arith)

below : (d m k : ℕ) → k + 1 ≤ d → d ≤ m → nat_le m k ≡ false
below d m k h i = grind (arith)

none_to_level : (k d : ℕ) (bs : List Brought) → k + 1 ≤ d → AtLeast d bs → to_level k bs ≡ []
none_to_level k d [] h all = refl
none_to_level k d (b ∷ bs) h all =
    ap (λ (u : Bool). cond u (b ∷ to_level k bs) (to_level k bs)) (below d b.level k h all.0)
    ∙ none_to_level k d bs h all.1

abbrev IsBeginning : List Brought → List Brought → Type 0
IsBeginning first all = (rest : List Brought) × (all ≡ first ++ rest)

beginning_by : (k : ℕ) (b : Brought) (bs : List Brought) → AtLeast b.level bs → IsBeginning (to_level k bs) bs
    → (u : Bool) → nat_le b.level k ≡ u → IsBeginning (cond u (b ∷ to_level k bs) (to_level k bs)) (b ∷ bs)
beginning_by k b bs all next true is = (next.0, ap (λ (l : List Brought). b ∷ l) next.1)
beginning_by k b bs all next false is = (
  b ∷ bs,
  ap (λ (l : List Brought). l ++ b ∷ bs)
      (sym (none_to_level k b.level bs (above b.level k is) all)),
)

-- what came at some levels is a beginning of it
beginning : (k : ℕ) (bs : List Brought) → Sorted bs → IsBeginning (to_level k bs) bs
beginning k [] all = ([], refl)
beginning k (b ∷ bs) all = beginning_by k b bs all.0 (beginning k bs all.1) (nat_le b.level k) refl

-- where names go with their level, those that do are all
all_local : (bs : List Brought) → AreAs false bs → entries_of (local_names bs) ≡ entries_of bs
all_local [] h = refl
all_local (b ∷ bs) h = one h.0 (all_local bs h.1)
  where
    either : (u : Bool) → b.entries ≡ [] → entries_of (local_names bs) ≡ entries_of bs
        → entries_of (cond u (b ∷ local_names bs) (local_names bs)) ≡ b.entries ++ entries_of bs
    either true e r = ap (λ (l : List Entry). b.entries ++ l) r
    either false e r = r ∙ ap (λ (l : List Entry). l ++ entries_of bs) (sym e)

    one : IsAs false b → entries_of (local_names bs) ≡ entries_of bs
        → entries_of (cond (not b.global) (b ∷ local_names bs) (local_names bs)) ≡ b.entries ++ entries_of bs
    one (inl is) r =
        ap (λ (g : Bool). entries_of (cond (not g) (b ∷ local_names bs) (local_names bs))) is
        ∙ ap (λ (l : List Entry). b.entries ++ l) r
    one (inr none) r = either (not b.global) none.0 r

-- the levels of names that go with their level
one_level : (k : ℕ) (b : Brought) (bs : List Brought) → names_to_level k (local_names bs) ≡ to_level k (local_names bs)
    → (g : Bool) → b.global ≡ g
    → names_to_level k (cond (not g) (b ∷ local_names bs) (local_names bs))
    ≡ to_level k (cond (not g) (b ∷ local_names bs) (local_names bs))
one_level k b bs rest true is = rest
one_level k b bs rest false is =
    ap (λ (g : Bool). cond (nat_le (cond g 0 b.level) k) (b ∷ names_to_level k (local_names bs))
    (names_to_level k (local_names bs))) is
    ∙ ap (λ (l : List Brought). cond (nat_le b.level k) (b ∷ l) l) rest

local_levels : (k : ℕ) (bs : List Brought) → names_to_level k (local_names bs) ≡ to_level k (local_names bs)
local_levels k [] = refl
local_levels k (b ∷ bs) = one_level k b bs (local_levels k bs) b.global refl

-- the entries that some levels leave are a beginning of all, where names go with their level, and all else
abbrev IsFirst : List Entry → List Entry → Type 0
IsFirst first all = (rest : List Entry) × (all ≡ first ++ rest)

first_entries : (profile : Profile) (global : Bool) (k : ℕ) (cs : List Numbered)
    → AreAs global (in_force names_stand (history profile cs))
    → IsFirst (entries_of (names_to_level k (in_force names_stand (history profile cs))))
    (entries_of (in_force names_stand (history profile cs)))
first_entries profile true k cs h =
    let N = in_force names_stand (history profile cs) in
    ([], sym (append-nil (entries_of (names_to_level k N)) ∙ (global_to_level k N h).0))
first_entries profile false k cs h =
    let N = in_force names_stand (history profile cs) in
    let L = local_names N in
    let first = beginning k L (local_sorted profile cs) in
    let some : AreAs false (names_to_level k N) = filter_alike (λ (b : Brought). nat_le (names_level b) k) false N h in
    let kept : entries_of (names_to_level k N) ≡ entries_of (to_level k L) =
    sym (all_local (names_to_level k N) some)
    ∙ ap entries_of (local_filter (λ (b : Brought). nat_le (names_level b) k) N ∙ local_levels k N) in (
      entries_of first.0,
      sym (all_local N h) ∙ ap entries_of first.1
          ∙ flat_map-append (λ (x : Brought). x.entries) (to_level k L) first.0
          ∙ ap (λ (l : List Entry). l ++ entries_of first.0) (sym kept),
    )

-- ---- names

-- a name that has no rank has no entry
no_entry_by : (x : List ℕ) (e : Entry) (es : List Entry)
    → (look_up (ranks_of es) x ≡ None → entry_named es x ≡ None) → (b : Bool)
    → cond b (Some (rank_of_entry e)) (look_up (ranks_of es) x) ≡ None
    → cond b (Some e) (entry_named es x) ≡ None
no_entry_by x e es next true h = absurd (cc)
no_entry_by x e es next false h = next h

no_entry : (es : List Entry) (x : List ℕ) → look_up (ranks_of es) x ≡ None → entry_named es x ≡ None
no_entry [] x h = refl
no_entry (e ∷ es) x h = no_entry_by x e es (no_entry es x) (bytes_eq x e.name) h

-- more names
more_names : (theories : Theories) (elements : Option ElementNames) (earlier es fs : List Entry)
    → AreIntroduced theories elements earlier es → AreIntroduced theories elements (earlier ++ es) fs
    → AreIntroduced theories elements earlier (es ++ fs)
more_names theories elements earlier [] fs h more =
    subst (λ (before : List Entry). AreIntroduced theories elements before fs) (append-nil earlier) more
more_names theories elements earlier (c ∷ es) fs h more = (
  h.0,
  more_names theories elements (earlier ++ c ∷ []) es fs h.1
      (subst (λ (before : List Entry). AreIntroduced theories elements before fs)
      (sym (append_assoc earlier (c ∷ []) es)) more),
)

-- fewer names
fewer_names : (theories : Theories) (elements : Option ElementNames) (earlier es fs : List Entry)
    → AreIntroduced theories elements earlier (es ++ fs) → AreIntroduced theories elements earlier es
fewer_names theories elements earlier [] fs h = tt
fewer_names theories elements earlier (c ∷ es) fs h =
    (h.0, fewer_names theories elements (earlier ++ c ∷ []) es fs h.1)

first_false : (a b : Bool) → a || b ≡ false → (a ≡ false) × (b ≡ false)
first_false true b h = absurd (cc)
first_false false b h = (refl, h)

none_of : {A : Type 0} (o : Option A) → is_some o ≡ false → o ≡ None
none_of None h = refl
none_of (Some a) h = absurd (cc)

-- what a name that is not taken may bring
introduced : (s : Signature) (e : Entry) → is_taken (names_of s) e.name ≡ false
    → IsSortedIfDefined (unlabelled_over s.theories s.elements s.entries) e.parameters e.sort e.origin
    → IsIntroduced s.theories s.elements s.entries e
introduced s e free sorted =
    let both = first_false (is_element (names_of s) e.name || is_some (look_up (ranks_of s.entries) e.name))
    (is_plain_operator s.theories e.name) free in
    let unnamed = first_false (is_element (names_of s) e.name) (is_some (look_up (ranks_of s.entries) e.name)) both.0 in
    record {
      new = no_entry s.entries e.name (none_of (look_up (ranks_of s.entries) e.name) unnamed.1);
      free =
          both.1;
      sorted = sorted;
    }

ok_or_fault : {A : Type 0} (r : Result A TermFlaw) → flaw_of r ≡ None → (x : A) × (r ≡ Ok x)
ok_or_fault (Ok x) h = (x, refl)
ok_or_fault (Err f) h = absurd (cc)

-- a declaration says its name and where it comes from, and the name is not taken
declared_entry : (taken : Bool) (x : List ℕ) (n : ℕ) (rank : Result Rank TermFlaw) (e : Entry)
    → cond taken (Err terms.NotFresh) (result_and_then rank (λ r. Ok (declaration x n r))) ≡ Ok e
    → (taken ≡ false) × (e.name ≡ x) × (e.origin ≡ Declared n)
declared_entry true x n rank e h = absurd (cc)
declared_entry false x n (Err f) e h = absurd (cc)
declared_entry false x n (Ok r) e h = let same : declaration x n r ≡ e =
    cc in (refl, ap (λ (d : Entry). d.name) (sym same), ap (λ (d : Entry). d.origin) (sym same))

sorted_as : (names : Names) (sorts : List Sort) (sort : Sort) (o : Origin)
    → IsWellSortedFrom names sorts sort o → IsSortedIfDefined names sorts sort o
sorted_as names sorts sort (Declared command) h = absurd h
sorted_as names sorts sort (Defined ps body) h = h

-- the laws of definitions and labels
pub record NamesAreIntroduced : Type 0 where
  pub sorted : (s : Signature) (x : List ℕ) (ps : List (List ℕ × Sexp)) (tree body : Sexp) (e : Entry)
      → defined_in s x ps tree body ≡ Ok e → IsWellSorted s.theories s.elements s.entries e
  pub named : (s : Signature) (x : List ℕ) (ps : List (List ℕ × Sexp)) (tree body : Sexp) (e : Entry)
      → defined_in s x ps tree body ≡ Ok e → e.name ≡ x
  pub free : (s : Signature) (x : List ℕ) (ps : List (List ℕ × Sexp)) (tree body : Sexp) (e : Entry)
      → defined_in s x ps tree body ≡ Ok e → is_taken (names_of s) x ≡ false
  pub labels : (s : Signature) (term : Sexp) (es : List Entry) → asserted_in (names_of s) term ≡ Ok es
      → AreIntroduced s.theories s.elements s.entries es

abbrev IsWell : Signature → Type 0
IsWell s = AreIntroduced s.theories s.elements [] s.entries

-- what a command brings is introduced behind the names in force
abbrev BringsWell : Signature → List Entry → Type 0
BringsWell s brought = AreIntroduced s.theories s.elements s.entries brought

logic_alone : (command : Command) (x : List ℕ) → effect_of command ≡ SetsLogic x → command ≡ SetLogic x
logic_alone command x h = grind (arith)

pop_alone : (command : Command) (m : ℕ) → effect_of command ≡ Pops m → command ≡ Pop m
pop_alone command m h = grind (arith)

reset_assertions_alone : (command : Command) → effect_of command ≡ Removing AllButOptions
    → command ≡ ResetAssertions
reset_assertions_alone command h = grind (arith)

module _ (profile : Profile) (law : NamesAreIntroduced) where
  declares : (s : Signature) (n : ℕ) (x : List ℕ) (parameters : Sexps) (sort : Sexp)
      → flaw_of (declared_in s n x parameters sort) ≡ None
      → BringsWell s (one_or_none (declared_in s n x parameters sort))
  declares s n x parameters sort h =
      let made = ok_or_fault (declared_in s n x parameters sort) h in
      let said = declared_entry (is_taken (names_of s) x) x n (rank_named (sort_names_of s) parameters sort)
      made.0 made.1 in
      subst (BringsWell s) (sym (ap one_or_none made.1)) (
        introduced s made.0 (ap (is_taken (names_of s)) said.1 ∙ said.0)
            (subst (IsSortedIfDefined (unlabelled_over s.theories s.elements s.entries) made.0.parameters made.0.sort)
            (sym said.2) tt),
        tt,
      )

  defines : (s : Signature) (x : List ℕ) (ps : List (List ℕ × Sexp)) (sort body : Sexp)
      → flaw_of (defined_in s x ps sort body) ≡ None
      → BringsWell s (one_or_none (defined_in s x ps sort body))
  defines s x ps sort body h =
      let made = ok_or_fault (defined_in s x ps sort body) h in
      subst (BringsWell s) (sym (ap one_or_none made.1)) (
        introduced s made.0 (ap (is_taken (names_of s)) (law.named s x ps sort body made.0 made.1)
            ∙ law.free s x ps sort body made.0 made.1)
            (sorted_as (unlabelled_over s.theories s.elements s.entries) made.0.parameters made.0.sort made.0.origin
            (law.sorted s x ps sort body made.0 made.1)),
        tt,
      )

  asserts : (s : Signature) (term : Sexp) → flaw_of (asserted_in (names_of s) term) ≡ None
      → BringsWell s (all_or_none (asserted_in (names_of s) term))
  asserts s term h =
      let made = ok_or_fault (asserted_in (names_of s) term) h in
      subst (BringsWell s) (sym (ap all_or_none made.1)) (law.labels s term made.0 made.1)

  adds : (cs : List Numbered) (c : Numbered) → Keeps profile c.command → IsWell (signature_in_force profile cs)
      → BringsWell (signature_in_force profile cs) (entries_by (signature_in_force profile cs) c.number c.command)
      → IsWell (signature_in_force profile (cs ++ c ∷ []))
  adds cs c keeps all brought =
      let s = signature_in_force profile cs in
      subst IsWell (sym (signature-add profile cs c keeps))
      (more_names s.theories s.elements [] s.entries (entries_by s c.number c.command) all brought)

  unfixed : (set late : Bool) (theories : Option Theories) → flaw_of_logic set late theories ≡ None
      → late ≡ false
  unfixed true late theories h = absurd (cc)
  unfixed false true theories h = absurd (cc)
  unfixed false false theories h = refl

  -- no names in any theories
  no_entries : (s : Signature) → s.entries ≡ [] → IsWell s
  no_entries s none = subst (λ (es : List Entry). AreIntroduced s.theories s.elements [] es) (sym none) tt

  sets_logic : (cs : List Numbered) (n : ℕ) (x : List ℕ) → flaw_of_effect profile cs n (SetLogic x) ≡ None
      → IsWell (signature_in_force profile (cs ++ record { number = n; command = SetLogic x } ∷ []))
  sets_logic cs n x h =
      let c : Numbered = record { number = n; command = SetLogic x } in
      let b = brought_by profile cs (history profile cs) c in
      let N = in_force names_stand (history profile cs) in
      let empty = unfixed_is_empty profile cs
      (unfixed (is_logic_set cs) (is_too_late cs) (theories_named profile x) h) in
      no_entries (signature_in_force profile (cs ++ c ∷ []))
      (ap entries_of (names_grow profile cs c refl (omega arith)) ∙ entries-push N b ∙ append-nil (entries_of N)
      ∙ empty.0.entries)

  -- some of the first names
  first_well : (cs : List Numbered) (c : Numbered) (first : List Entry)
      → theories_after profile (theories_in_force profile cs) c.command ≡ theories_in_force profile cs
      → (signature_in_force profile (cs ++ c ∷ [])).entries ≡ first
      → IsFirst first (signature_in_force profile cs).entries
      → IsWell (signature_in_force profile cs) → IsWell (signature_in_force profile (cs ++ c ∷ []))
  first_well cs c first theories now rest all =
      subst (λ (t : Theories). AreIntroduced t None [] (signature_in_force profile (cs ++ c ∷ [])).entries)
      (sym (theories-push profile cs c ∙ theories))
      (subst (λ (es : List Entry). AreIntroduced (theories_in_force profile cs) None [] es) (sym now)
      (fewer_names (theories_in_force profile cs) None [] first rest.0
      (subst (λ (es : List Entry). AreIntroduced (theories_in_force profile cs) None [] es) rest.1 all)))

  pops : (cs : List Numbered) (n m : ℕ) → AreNamesAlike profile cs → IsWell (signature_in_force profile cs)
      → IsWell (signature_in_force profile (cs ++ record { number = n; command = Pop m } ∷ []))
  pops cs n m alike all =
      let c : Numbered = record { number = n; command = Pop m } in
      let b = brought_by profile cs (history profile cs) c in
      let some = names_to_level b.level (in_force names_stand (history profile cs)) in
      first_well cs c (entries_of some) refl
      (ap entries_of (in_force-left profile name_stands_after names_level names_rule cs c refl)
      ∙ (none_more some b true refl refl).0)
      (first_entries profile (global_in_force cs) b.level cs alike) all

  -- the names that stay are all or none
  left_first : (global : Bool) (s : Signature) (theories : Theories)
      → IsFirst (cond global s (no_names theories)).entries s.entries
  left_first true s theories = ([], sym (append-nil s.entries))
  left_first false s theories = (s.entries, refl)

  resets_assertions : (cs : List Numbered) (n : ℕ) → AreNamesAlike profile cs → IsWell (signature_in_force profile cs)
      → IsWell (signature_in_force profile (cs ++ record { number = n; command = ResetAssertions } ∷ []))
  resets_assertions cs n alike all =
      let c : Numbered = record { number = n; command = ResetAssertions } in
      let left = cond (global_in_force cs) (signature_in_force profile cs) (no_names (theories_in_force profile cs)) in
      first_well cs c left.entries refl
      (ap (λ (s : Signature). s.entries) (names_kept profile (global_in_force cs) cs n alike))
      (left_first (global_in_force cs) (signature_in_force profile cs) (theories_in_force profile cs)) all

  behind_reset : (cs : List Numbered) (c : Numbered) → is_everything (removed_by c.command) ≡ true
      → ((s : Signature) (n : ℕ) → entries_by s n c.command ≡ []) → IsWell (signature_in_force profile (cs ++ c ∷ []))
  behind_reset cs c all none =
      let b = brought_by profile cs (history profile cs) c in
      let N = in_force names_stand (history profile cs) in
      no_entries (signature_in_force profile (cs ++ c ∷ []))
      (ap (λ (h : List Brought). entries_of (in_force names_stand h)) (history-push profile cs c)
      ∙ ap entries_of (in_force-push name_stands_after (history profile cs) b)
      ∙ entries-push (still name_stands_after b N) b
      ∙ ap (λ (l : List Brought). entries_of l ++ b.entries)
      (none_still name_stands_after names_level names_rule b N all) ∙ none (signature_in_force profile cs) c.number)

  -- one more command, by what it does
  brings : (s : Signature) (n : ℕ) (item : Addition) → flaw_of_addition s n item ≡ None
      → BringsWell s (entries_of_addition s n item)
  brings s n (Declaration x ps sort) h = declares s n x ps sort h
  brings s n (Definition x ps sort body) h = defines s x ps sort body h
  brings s n (SortDeclaration x) h = tt
  brings s n (Abbreviation x sort) h = tt
  brings s n (Assertion term) h = asserts s term h

  abbrev IsWellBehind : List Numbered → ℕ → Command → Type 0
  IsWellBehind cs n command =
      IsWell (signature_in_force profile (cs ++ record { number = n; command = command } ∷ []))

  -- a command that brings no name
  adds_none : (cs : List Numbered) (n : ℕ) (command : Command) → Keeps profile command
      → entries_by (signature_in_force profile cs) n command ≡ [] → IsWell (signature_in_force profile cs)
      → IsWellBehind cs n command
  adds_none cs n command keeps none all =
      adds cs (record { number = n; command = command }) keeps all
      (subst (BringsWell (signature_in_force profile cs)) (sym none) tt)

  step : (cs : List Numbered) (n : ℕ) (command : Command) (e : Effect) → effect_of command ≡ e
      → AreNamesAlike profile cs → IsWell (signature_in_force profile cs)
      → flaw_by profile cs n e ≡ None → IsWellBehind cs n command
  step cs n command (SetsLogic x) is alike all h =
      subst (IsWellBehind cs n) (sym (logic_alone command x is)) (sets_logic cs n x h)
  step cs n command (Brings item) is alike all h =
      let s = signature_in_force profile cs in
      adds cs (record { number = n; command = command })
      (adds_keeps profile command (addition_adds profile command item is)) all
      (subst (BringsWell s) (sym (ap (entries_of_effect s n) is)) (brings s n item h))
  step cs n command (Pushes m) is alike all h =
      adds_none cs n command (record {
        no_reset = ap (λ (e : Effect). resets (removed_of_effect e)) is;
        level = λ d. (let e = ap (depth_by d) is in omega arith);
        theories = λ t. ap (theories_by profile t) is;
      }) (ap (entries_of_effect (signature_in_force profile cs) n) is) all
  step cs n command (Pops m) is alike all h =
      subst (IsWellBehind cs n) (sym (pop_alone command m is)) (pops cs n m alike all)
  step cs n command (Assumes literals) is alike all h =
      adds_none cs n command (record {
        no_reset = ap (λ (e : Effect). resets (removed_of_effect e)) is;
        level = λ d. (let e = ap (depth_by d) is in omega arith);
        theories = λ t. ap (theories_by profile t) is;
      }) (ap (entries_of_effect (signature_in_force profile cs) n) is) all
  step cs n command (SetsGlobal on) is alike all h =
      adds_none cs n command (record {
        no_reset = ap (λ (e : Effect). resets (removed_of_effect e)) is;
        level = λ d. (let e = ap (depth_by d) is in omega arith);
        theories = λ t. ap (theories_by profile t) is;
      }) (ap (entries_of_effect (signature_in_force profile cs) n) is) all
  step cs n command (Removing Nothing) is alike all h =
      adds_none cs n command (adds_keeps profile command (no_effect_is_idle profile command is).adds)
      (ap (entries_of_effect (signature_in_force profile cs) n) is) all
  step cs n command (Removing AllButOptions) is alike all h =
      subst (IsWellBehind cs n) (sym (reset_assertions_alone command is)) (resets_assertions cs n alike all)
  step cs n command (Removing Everything) is alike all h =
      behind_reset cs (record { number = n; command = command })
      (ap (λ (e : Effect). is_everything (removed_of_effect e)) is)
      (λ s k. ap (entries_of_effect s k) is)

  from : (before cs : List Numbered) → AreNamesAlike profile before → IsWell (signature_in_force profile before)
      → HaveNoFlaw profile before cs → IsWell (signature_in_force profile (before ++ cs))
  from before [] alike all h = subst (λ (cs : List Numbered). IsWell (signature_in_force profile cs))
      (sym (append-nil before)) all
  from before (c ∷ cs) alike all h =
      subst (λ (ds : List Numbered). IsWell (signature_in_force profile ds)) (append_assoc before (c ∷ []) cs)
      (from (before ++ c ∷ []) cs (alike_step profile before c h.0 alike)
      (step before c.number c.command (effect_of c.command) refl alike all h.0) h.1)

  pub names_introduced : (cs : List Numbered) → HaveNoFlaw profile [] cs → IsWell (signature_in_force profile cs)
  names_introduced cs h = from [] cs tt tt h

-- ---- global names and others never stand together

alike_from : (profile : Profile) (before cs : List Numbered) → AreNamesAlike profile before
    → HaveNoFlaw profile before cs → AreNamesAlike profile (before ++ cs)
alike_from profile before [] alike h = subst (AreNamesAlike profile) (sym (append-nil before)) alike
alike_from profile before (c ∷ cs) alike h =
    subst (AreNamesAlike profile) (append_assoc before (c ∷ []) cs)
    (alike_from profile (before ++ c ∷ []) cs (alike_step profile before c h.0 alike) h.1)

pub names_alike : (profile : Profile) (cs : List Numbered) → HaveNoFlaw profile [] cs → AreNamesAlike profile cs
names_alike profile cs h = alike_from profile [] cs tt h
