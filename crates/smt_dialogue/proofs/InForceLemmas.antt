-- What is in force behind a command that brings nothing.
use Rattle.std.proofs.Common.{◌≡◌, ◌≤◌, ℕ, Bool, true, false, cond, not, ◌&&◌, List, [], ◌∷◌, ◌++◌, None}
use Rattle.std.proofs.Common.{refl, ap, sym, ◌∙◌, subst, arith, append_assoc, inl, inr, ◌⊎◌, ⊎_elim}
use Rattle.std.specs.Prelude.{nat_le}
use Rattle.std.specs.List.{flat_map, list_all}
use Rattle.std.proofs.lemmas.List.{append-nil}
use Rattle.std.proofs.lemmas.Grind.{flat_map-append}
use Rattle.std.proofs.lemmas.List.Sums.{fold-append}
use Rattle.smt_theory.specs.Theories.{all_theories}
use Rattle.smt_theory.specs.declared.profile.Profile.{Profile}
use Rattle.smt_theory.specs.declared.theories.Theories.{Theories}
use Rattle.smt_terms.specs.declared.named_sort.NamedSort.{NamedSort}
use Rattle.smt_terms.specs.Signature.{Entry, Signature}
use Rattle.smt_trees.specs.Sexp.{Sexp, Sexps}
use Rattle.smt_script.specs.Command.{Command, Effect, AllButOptions, Assumes, Everything, Nothing, Removes, Removing}
use Rattle.smt_script.specs.Command.{SetsGlobal, closes_window, effect_of, is_check}
use Rattle.smt_script.specs.Command.{SetLogic, SetPrintSuccess, SetGlobalDeclarations, SetOption, SetInfo}
use Rattle.smt_script.specs.Command.{DeclareConst, DeclareFun, DefineFun, DeclareSort, DefineSort, Assert, Push, Pop}
use Rattle.smt_script.specs.Command.{Reset}
use Rattle.smt_script.specs.Command.{ResetAssertions, Exit, CheckSat, CheckSatAssuming, GetModel, Echo, Get}
use Rattle.smt_script.specs.Stack.{assumptions_after, assumptions_in_force, literals_of}
use Rattle.smt_script.specs.Stack.{Brought, Numbered, abbreviations_by, abbreviations_of}
use Rattle.smt_script.specs.Stack.{abbreviations_of_effect, assertions_by, assertions_in_force, assertions_of}
use Rattle.smt_script.specs.Stack.{assertions_of_effect, brought_by, brought_from}
use Rattle.smt_script.specs.Stack.{depth_after, depth_by, depth_in_force, entries_by, entries_of}
use Rattle.smt_script.specs.Stack.{assertions_stand, entries_of_effect, history, in_force, is_everything, is_reset}
use Rattle.smt_script.specs.Stack.{name_stands_after, names_stand}
use Rattle.smt_script.specs.Stack.{removed_of_effect, resets, signature_in_force, signature_of, stands_after}
use Rattle.smt_script.specs.Stack.{theories_after, theories_by, theories_in_force}
use Rattle.smt_script.specs.StackView.{names_level}

-- a command that changes no level and no theories, and brings nothing
pub record IsQuiet (c : Command) : Type 0 where
  pub level : (d : ℕ) → depth_after d c ≡ d
  pub resets : is_reset c ≡ false
  pub theories : (profile : Profile) (t : Theories) → theories_after profile t c ≡ t
  pub entries : (s : Signature) (n : ℕ) → entries_by s n c ≡ []
  pub abbreviations : (s : Signature) (n : ℕ) → abbreviations_by s n c ≡ []
  pub assertions : (n : ℕ) → assertions_by n c ≡ []

-- a command that changes nothing that is in force has one of these effects
leaves_force : (c : Command) → closes_window c ≡ false
    → (effect_of c ≡ Removing Nothing)
    ⊎ (((literals : Sexps) × (effect_of c ≡ Assumes literals)) ⊎ ((on : Bool) × (effect_of c ≡ SetsGlobal on)))
leaves_force (SetLogic name) h = cc
leaves_force (SetPrintSuccess on) h = inl refl
leaves_force (SetGlobalDeclarations on) h = inr (inr (on, refl))
leaves_force (SetOption keyword value) h = inl refl
leaves_force (SetInfo keyword value) h = inl refl
leaves_force (DeclareConst x sort) h = cc
leaves_force (DeclareFun x parameters sort) h = cc
leaves_force (DefineFun x parameters sort body) h = cc
leaves_force (DeclareSort x) h = cc
leaves_force (DefineSort x sort) h = cc
leaves_force (Assert term) h = cc
leaves_force (Push levels) h = cc
leaves_force (Pop levels) h = cc
leaves_force Reset h = cc
leaves_force ResetAssertions h = cc
leaves_force Exit h = inl refl
leaves_force CheckSat h = inl refl
leaves_force (CheckSatAssuming literals) h = inr (inl (literals, refl))
leaves_force GetModel h = inl refl
leaves_force (Echo text) h = inl refl
leaves_force (Get query) h = inl refl

-- and each of these is quiet
quiet_by : (c : Command) → effect_of c ≡ Removing Nothing → IsQuiet c
quiet_by c is = record {
  level = λ d. ap (depth_by d) is;
  resets = ap (λ (e : Effect). resets (removed_of_effect e)) is;
  theories = λ profile t. ap (theories_by profile t) is;
  entries = λ s n. ap (entries_of_effect s n) is;
  abbreviations = λ s n. ap (abbreviations_of_effect s n) is;
  assertions = λ n. ap (assertions_of_effect n) is;
}

assumes_quiet : (c : Command) (literals : Sexps) → effect_of c ≡ Assumes literals → IsQuiet c
assumes_quiet c literals is = record {
  level = λ d. ap (depth_by d) is;
  resets = ap (λ (e : Effect). resets (removed_of_effect e)) is;
  theories = λ profile t. ap (theories_by profile t) is;
  entries = λ s n. ap (entries_of_effect s n) is;
  abbreviations = λ s n. ap (abbreviations_of_effect s n) is;
  assertions = λ n. ap (assertions_of_effect n) is;
}

sets_global_quiet : (c : Command) (on : Bool) → effect_of c ≡ SetsGlobal on → IsQuiet c
sets_global_quiet c on is = record {
  level = λ d. ap (depth_by d) is;
  resets = ap (λ (e : Effect). resets (removed_of_effect e)) is;
  theories = λ profile t. ap (theories_by profile t) is;
  entries = λ s n. ap (entries_of_effect s n) is;
  abbreviations = λ s n. ap (abbreviations_of_effect s n) is;
  assertions = λ n. ap (assertions_of_effect n) is;
}

-- so a command is quiet that changes nothing that is in force
pub quiet : (c : Command) → closes_window c ≡ false → IsQuiet c
quiet c h =
    ⊎_elim (quiet_by c) (⊎_elim (λ it. assumes_quiet c it.0 it.1) (λ it. sets_global_quiet c it.0 it.1))
    (leaves_force c h)

-- ## Assumptions

assumptions-push : (cs : List Numbered) (c : Numbered)
    → assumptions_in_force (cs ++ c ∷ []) ≡ assumptions_after (assumptions_in_force cs) c.command
assumptions-push cs c =
    fold-append (λ (before : List Sexp) (x : Numbered). assumptions_after before x.command) [] cs (c ∷ [])

-- those of a check stay where no other check comes, and nothing that is in force changes
pub assumptions-passed : (cs : List Numbered) (c : Numbered) → is_check c.command ≡ false
    → closes_window c.command ≡ false → assumptions_in_force (cs ++ c ∷ []) ≡ assumptions_in_force cs
assumptions-passed cs c check closes = assumptions-push cs c ∙ rw (check, closes) refl

pub assumptions-check : (cs : List Numbered) (c : Numbered) → is_check c.command ≡ true
    → assumptions_in_force (cs ++ c ∷ []) ≡ literals_of c.command
assumptions-check cs c check = assumptions-push cs c ∙ rw check refl

-- ## What stands at the end goes with a level that there still is

-- how names stand, or assertions: after which later ones, and the level with which they go
record IsRule (after : Brought → Brought → Bool) (level : Brought → ℕ) : Type 0 where
  kept : (a b : Brought) → resets b.removes ≡ false → level a ≤ b.level → after a b ≡ true
  within : (a b : Brought) → after a b ≡ true → level a ≤ b.level
  inner : (b : Brought) → level b ≤ b.level

and_true : (a b : Bool) → a && b ≡ true → (a ≡ true) × (b ≡ true)
and_true true b h = (refl, h)
and_true false b h = cc

le_of : (m n : ℕ) → nat_le m n ≡ true → m ≤ n
le_of m n h = grind (arith)

le_true : (m n : ℕ) → m ≤ n → nat_le m n ≡ true
le_true m n h = grind (arith)

both : (a b : Bool) → a ≡ false → b ≡ true → not a && b ≡ true
both a b h k = rw (h, k) refl

abbrev assertion_stands_after : Brought → Brought → Bool
assertion_stands_after a b = stands_after a.level b

abbrev level_of : Brought → ℕ
level_of b = b.level

kept_at : (level : ℕ) (b : Brought) → resets b.removes ≡ false → level ≤ b.level → stands_after level b ≡ true
kept_at level b keeps le = both (resets b.removes) (nat_le level b.level) keeps (le_true level b.level le)

within_at : (level : ℕ) (b : Brought) → stands_after level b ≡ true → level ≤ b.level
within_at level b is = le_of level b.level (and_true (not (resets b.removes)) (nat_le level b.level) is).1

assertions_rule : IsRule assertion_stands_after level_of
assertions_rule = record {
  kept = λ a b keeps le. kept_at a.level b keeps le;
  within = λ a b is. within_at a.level b is;
  inner = λ b. omega arith;
}

not_everything : (what : Removes) → resets what ≡ false → is_everything what ≡ false
not_everything Nothing h = refl
not_everything AllButOptions h = refl
not_everything Everything h = absurd (cc)

kept_by : (global : Bool) (level : ℕ) (b : Brought) → resets b.removes ≡ false → cond global 0 level ≤ b.level
    → cond global (not (is_everything b.removes)) (stands_after level b) ≡ true
kept_by true level b keeps le = ap not (not_everything b.removes keeps)
kept_by false level b keeps le = kept_at level b keeps le

within_by : (global : Bool) (level : ℕ) (b : Brought)
    → cond global (not (is_everything b.removes)) (stands_after level b) ≡ true → cond global 0 level ≤ b.level
within_by true level b is = omega arith
within_by false level b is = within_at level b is

inner_by : (global : Bool) (level : ℕ) → cond global 0 level ≤ level
inner_by true level = omega arith
inner_by false level = omega arith

names_rule : IsRule name_stands_after names_level
names_rule = record {
  kept = λ a b keeps le. kept_by a.global a.level b keeps le;
  within = λ a b is. within_by a.global a.level b is;
  inner = λ b. inner_by b.global b.level;
}

all-append : (p : Brought → Bool) (xs : List Brought) (b : Brought)
    → list_all p (xs ++ b ∷ []) ≡ list_all p xs && p b
all-append p [] b = and_last (p b)
  where
    and_last : (t : Bool) → t && true ≡ t
    and_last true = refl
    and_last false = refl
all-append p (x ∷ xs) b =
    ap (λ (t : Bool). p x && t) (all-append p xs b) ∙ and_assoc (p x) (list_all p xs) (p b)
  where
    and_assoc : (r s t : Bool) → r && (s && t) ≡ (r && s) && t
    and_assoc true s t = refl
    and_assoc false s t = refl

depth-push : (cs : List Numbered) (c : Numbered)
    → depth_in_force (cs ++ c ∷ []) ≡ depth_after (depth_in_force cs) c.command
depth-push cs c = fold-append (λ (d : ℕ) (x : Numbered). depth_after d x.command) 0 cs (c ∷ [])

brought-append : (profile : Profile) (before : List Numbered) (brought : List Brought) (xs ys : List Numbered)
    → brought_from profile before brought (xs ++ ys)
    ≡ brought_from profile (before ++ xs) (brought_from profile before brought xs) ys
brought-append profile before brought [] ys =
    ap (λ (b : List Numbered). brought_from profile b brought ys) (sym (append-nil before))
brought-append profile before brought (x ∷ xs) ys =
    let b = brought_by profile before brought x in
    let all = brought_from profile (before ++ x ∷ []) (brought ++ b ∷ []) xs in
    brought-append profile (before ++ x ∷ []) (brought ++ b ∷ []) xs ys
    ∙ ap (λ (l : List Numbered). brought_from profile l all ys) (append_assoc before (x ∷ []) xs)

absorbs : (t s : Bool) → (t ≡ true → s ≡ true) → t && s ≡ t
absorbs true s f = f refl
absorbs false s f = refl

abbrev standing : (Brought → Brought → Bool) → Brought → List Brought → Bool
standing after b later = list_all (after b) later

module _ (profile : Profile) (after : Brought → Brought → Bool) (level : Brought → ℕ) (rule : IsRule after level) where
  -- all that stands goes with a level that there still is
  abbrev IsWithin : ℕ → List Brought → Type 0
  IsWithin depth [] = Unit {0}
  IsWithin depth (b ∷ later) = (list_all (after b) later ≡ true → level b ≤ depth) × IsWithin depth later

  within_last : (xs : List Brought) (b : Brought) → IsWithin b.level (xs ++ b ∷ [])
  within_last [] b = (λ h. rule.inner b, tt)
  within_last (x ∷ xs) b = (
    λ h. rule.within x b (and_true (list_all (after x) xs) (after x b) (sym (all-append (after x) xs b) ∙ h)).1,
    within_last xs b,
  )

  within_from : (before : List Numbered) (brought : List Brought) (cs : List Numbered)
      → IsWithin (depth_in_force before) brought
      → IsWithin (depth_in_force (before ++ cs)) (brought_from profile before brought cs)
  within_from before brought [] h =
      subst (λ (b : List Numbered). IsWithin (depth_in_force b) brought) (sym (append-nil before)) h
  within_from before brought (c ∷ cs) h =
      let b = brought_by profile before brought c in
      let here : IsWithin (depth_in_force (before ++ c ∷ [])) (brought ++ b ∷ []) =
      subst (λ (d : ℕ). IsWithin d (brought ++ b ∷ [])) (sym (depth-push before c)) (within_last brought b)
      in
      subst (λ (l : List Numbered). IsWithin (depth_in_force l)
      (brought_from profile (before ++ c ∷ []) (brought ++ b ∷ []) cs)) (append_assoc before (c ∷ []) cs)
      (within_from (before ++ c ∷ []) (brought ++ b ∷ []) cs here)

  -- all that stands does so behind what resets nothing and leaves as many levels
  stands-push : (xs : List Brought) (b : Brought) → resets b.removes ≡ false → IsWithin b.level xs
      → in_force (standing after) (xs ++ b ∷ []) ≡ in_force (standing after) xs ++ b ∷ []
  stands-push [] b keeps within = refl
  stands-push (x ∷ xs) b keeps within =
      let all = list_all (after x) xs in
      let same : list_all (after x) (xs ++ b ∷ []) ≡ all =
      all-append (after x) xs b ∙ absorbs all (after x b) (λ h. rule.kept x b keeps (within.0 h)) in
      ap (λ (t : Bool). cond t (x ∷ []) [] ++ in_force (standing after) (xs ++ b ∷ [])) same
      ∙ ap (λ (l : List Brought). cond all (x ∷ []) [] ++ l) (stands-push xs b keeps within.1)
      ∙ sym (append_assoc (cond all (x ∷ []) []) (in_force (standing after) xs) (b ∷ []))

  -- one more command
  in_force-push : (cs : List Numbered) (c : Numbered) → IsQuiet c.command
      → in_force (standing after) (history profile (cs ++ c ∷ []))
      ≡ in_force (standing after) (history profile cs) ++ brought_by profile cs (history profile cs) c ∷ []
  in_force-push cs c quiet =
      let b = brought_by profile cs (history profile cs) c in
      let within : IsWithin b.level (history profile cs) =
      subst (λ (d : ℕ). IsWithin d (history profile cs)) (sym (quiet.level (depth_in_force cs)))
      (within_from [] [] cs tt) in
      ap (in_force (standing after)) (brought-append profile [] [] cs (c ∷ []))
      ∙ stands-push (history profile cs) b quiet.resets within

-- what brings nothing adds nothing
brings_none : {A : Type 0} (f : Brought → List A) (xs : List Brought) (b : Brought) → f b ≡ []
    → flat_map f (xs ++ b ∷ []) ≡ flat_map f xs
brings_none {A} f xs b none =
    flat_map-append f xs (b ∷ []) ∙ ap (λ (l : List A). flat_map f xs ++ (l ++ [])) none
    ∙ append-nil (flat_map f xs)

pub assertions-quiet : (profile : Profile) (cs : List Numbered) (c : Numbered) → IsQuiet c.command
    → assertions_in_force profile (cs ++ c ∷ []) ≡ assertions_in_force profile cs
assertions-quiet profile cs c quiet =
    ap assertions_of (in_force-push profile assertion_stands_after level_of assertions_rule cs c quiet)
    ∙ brings_none (λ (b : Brought). b.assertions) ((in_force assertions_stand) (history profile cs))
    (brought_by profile cs (history profile cs) c) (quiet.assertions c.number)

pub signature-quiet : (profile : Profile) (cs : List Numbered) (c : Numbered) → IsQuiet c.command
    → signature_in_force profile (cs ++ c ∷ []) ≡ signature_in_force profile cs
signature-quiet profile cs c quiet =
    let old = (in_force names_stand) (history profile cs) in
    let b = brought_by profile cs (history profile cs) c in
    let s = signature_of (theories_in_force profile cs) old in
    let theories : theories_in_force profile (cs ++ c ∷ []) ≡ theories_in_force profile cs =
    fold-append (λ (t : Theories) (x : Numbered). theories_after profile t x.command) (all_theories profile) cs (c ∷ [])
    ∙ quiet.theories profile (theories_in_force profile cs) in
    let entries : entries_of (old ++ b ∷ []) ≡ entries_of old =
    brings_none (λ (x : Brought). x.entries) old b (quiet.entries s c.number) in
    let abbreviations : abbreviations_of (old ++ b ∷ []) ≡ abbreviations_of old =
    brings_none (λ (x : Brought). x.abbreviations) old b (quiet.abbreviations s c.number) in
    ap (λ (t : Theories). signature_of t ((in_force names_stand) (history profile (cs ++ c ∷ [])))) theories
    ∙ ap (λ (l : List Brought). signature_of (theories_in_force profile cs) l)
    (in_force-push profile name_stands_after names_level names_rule cs c quiet)
    ∙ ap (λ (es : List Entry).
    record {
      theories = theories_in_force profile cs;
      elements = None;
      abbreviations = abbreviations_of (old ++ b ∷ []);
      entries =
          es;
    }) entries
    ∙ ap (λ (as' : List (List ℕ × NamedSort)).
    record { theories = theories_in_force profile cs; elements = None; abbreviations = as'; entries = entries_of old })
    abbreviations
