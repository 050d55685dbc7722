-- What stands behind later commands.
use Rattle.std.proofs.Common.{◌≡◌, ◌≤◌, ℕ, Bool, true, false, not, ◌&&◌, ◌||◌, List, [], ◌∷◌, ◌++◌, refl, ap}
use Rattle.std.proofs.Common.{sym, ◌∙◌, subst, arith, append_assoc}
use Rattle.std.specs.Prelude.{nat_le}
use Rattle.std.specs.List.{list_all, list_any}
use Rattle.std.proofs.lemmas.List.{append-nil}
use Rattle.std.proofs.lemmas.List.Sums.{fold-append}
use Rattle.smt_trees.specs.Sexp.{Sexp}
use Rattle.smt_script.specs.Command.{Command, Effect, Assert, SetsLogic, Brings, Pushes, Pops, Removing}
use Rattle.smt_script.specs.Command.{Assumes, SetsGlobal, effect_of}
use Rattle.smt_script.specs.Command as items
use Rattle.smt_script.specs.Stack.{Brought, KeepLevels, Numbered, assertions_by, assertions_of_effect}
use Rattle.smt_script.specs.Stack.{brought_by, brought_from, depth_after, depth_in_force, is_reset}
use Rattle.smt_script.specs.Stack.{is_everything, removes_everything, stands_after}
use Rattle.smt_theory.specs.declared.profile.Profile.{Profile}

-- what commands bring, behind those before them
abbrev pub steps : (profile : Profile) → List Numbered → List Brought → List Numbered → List Brought
steps profile before brought [] = []
steps profile before brought (c ∷ cs) =
    brought_by profile before brought c ∷ steps profile (before ++ c ∷ [])
    (brought ++ brought_by profile before brought c ∷ []) cs

pub steps-from : (profile : Profile) (before : List Numbered) (brought : List Brought) (cs : List Numbered)
    → brought_from profile before brought cs ≡ brought ++ steps profile before brought cs
steps-from profile before brought [] = sym (append-nil brought)
steps-from profile before brought (c ∷ cs) =
    let b = brought_by profile before brought c in
    steps-from profile (before ++ c ∷ []) (brought ++ b ∷ []) cs
    ∙ append_assoc brought (b ∷ []) (steps profile (before ++ c ∷ []) (brought ++ b ∷ []) cs)

pub steps-append : (profile : Profile) (before : List Numbered) (brought : List Brought) (xs ys : List Numbered)
    → steps profile before brought (xs ++ ys)
    ≡ steps profile before brought xs ++ steps profile (before ++ xs) (brought ++ steps profile before brought xs) ys
steps-append profile before brought [] ys =
    ap (λ (b : List Numbered). steps profile b brought ys) (sym (append-nil before))
    ∙ ap (λ (b : List Brought). steps profile (before ++ []) b ys) (sym (append-nil brought))
steps-append profile before brought (x ∷ xs) ys =
    let b = brought_by profile before brought x in
    let rest = steps profile (before ++ x ∷ []) (brought ++ b ∷ []) xs in
    ap (λ (l : List Brought). b ∷ l) (steps-append profile (before ++ x ∷ []) (brought ++ b ∷ []) xs ys)
    ∙ ap (λ (p : List Numbered). b ∷ (rest ++ steps profile p ((brought ++ b ∷ []) ++ rest) ys))
    (append_assoc before (x ∷ []) xs)
    ∙ ap (λ (p : List Brought). b ∷ (rest ++ steps profile (before ++ x ∷ xs) p ys))
    (append_assoc brought (b ∷ []) rest)

pub depth-push : (cs : List Numbered) (c : Numbered)
    → depth_in_force (cs ++ c ∷ []) ≡ depth_after (depth_in_force cs) c.command
depth-push cs c = fold-append (λ (d : ℕ) (x : Numbered). depth_after d x.command) 0 cs (c ∷ [])

-- ---- what stands behind what

both : (a b : Bool) → a ≡ false → b ≡ true → not a && b ≡ true
both a b h k = rw (h, k) refl

pub le_true : (m n : ℕ) → m ≤ n → nat_le m n ≡ true
le_true m n h = grind (arith)

pub le_of : (m n : ℕ) → nat_le m n ≡ true → m ≤ n
le_of m n h = grind (arith)

or_false : (a b : Bool) → a || b ≡ false → (a ≡ false) × (b ≡ false)
or_false true b h = cc
or_false false b h = (refl, h)

pub and_true : (a b : Bool) → a && b ≡ true → (a ≡ true) × (b ≡ true)
and_true true b h = (refl, h)
and_true false b h = cc

not_true : (a : Bool) → not a ≡ true → a ≡ false
not_true true h = cc
not_true false h = refl

-- a level stands behind commands none of which resets and that keep as many levels
pub all_stand : (profile : Profile) (level : ℕ) (before : List Numbered) (brought : List Brought) (cs : List Numbered)
    → list_any (λ d. is_reset d.command) cs ≡ false → KeepLevels level before cs
    → list_all (stands_after level) (steps profile before brought cs) ≡ true
all_stand profile level before brought [] none keep = refl
all_stand profile level before brought (c ∷ cs) none keep =
    let b = brought_by profile before brought c in
    let split = or_false (is_reset c.command) (list_any (λ d. is_reset d.command) cs) none in
    let fits : nat_le level (depth_after (depth_in_force before) c.command) ≡ true =
    le_true level (depth_after (depth_in_force before) c.command)
    (subst (λ (d : ℕ). level ≤ d) (depth-push before c) keep.0) in
    let here : stands_after level b ≡ true =
    both (is_reset c.command) (nat_le level (depth_after (depth_in_force before) c.command))
    split.0 fits in
    let there = all_stand profile level (before ++ c ∷ []) (brought ++ b ∷ []) cs split.1 keep.1 in
    rw (here, there) refl

-- and where it stands, none resets and they keep as many levels
pub record Keeps (level : ℕ) (before cs : List Numbered) : Type 0 where
  pub no_reset : list_any (λ (d : Numbered). is_reset d.command) cs ≡ false
  pub levels : KeepLevels level before cs

pub keeps : (profile : Profile) (level : ℕ) (before : List Numbered) (brought : List Brought) (cs : List Numbered)
    → list_all (stands_after level) (steps profile before brought cs) ≡ true → Keeps level before cs
keeps profile level before brought [] h = record { no_reset = refl; levels = tt }
keeps profile level before brought (c ∷ cs) h =
    let b = brought_by profile before brought c in
    let split = and_true (stands_after level b)
    (list_all (stands_after level) (steps profile (before ++ c ∷ []) (brought ++ b ∷ []) cs)) h in
    let here = and_true (not (is_reset c.command))
    (nat_le level (depth_after (depth_in_force before) c.command)) split.0 in
    let rest = keeps profile level (before ++ c ∷ []) (brought ++ b ∷ []) cs split.1 in
    let first : is_reset c.command ≡ false = not_true (is_reset c.command) here.0 in
    record {
      no_reset = rw (first, rest.no_reset) refl;
      levels = (
        subst (λ (d : ℕ). level ≤ d) (sym (depth-push before c))
            (le_of level (depth_after (depth_in_force before) c.command) here.1),
        rest.levels,
      );
    }

-- nothing is removed by commands none of which removes everything
pub all_leave : (profile : Profile) (before : List Numbered) (brought : List Brought) (cs : List Numbered)
    → list_any (λ d. removes_everything d.command) cs ≡ false
    → list_all (λ (l : Brought). not (is_everything l.removes)) (steps profile before brought cs) ≡ true
all_leave profile before brought [] none = refl
all_leave profile before brought (c ∷ cs) none =
    let b = brought_by profile before brought c in
    let split = or_false (removes_everything c.command) (list_any (λ d. removes_everything d.command) cs) none in
    let here : not (removes_everything c.command) ≡ true = ap not split.0 in
    let there = all_leave profile (before ++ c ∷ []) (brought ++ b ∷ []) cs split.1 in
    rw (here, there) refl

-- and where nothing is, none does
pub leaves : (profile : Profile) (before : List Numbered) (brought : List Brought) (cs : List Numbered)
    → list_all (λ (l : Brought). not (is_everything l.removes)) (steps profile before brought cs) ≡ true
    → list_any (λ d. removes_everything d.command) cs ≡ false
leaves profile before brought [] h = refl
leaves profile before brought (c ∷ cs) h =
    let b = brought_by profile before brought c in
    let split = and_true (not (removes_everything c.command))
    (list_all (λ (l : Brought). not (is_everything l.removes))
    (steps profile (before ++ c ∷ []) (brought ++ b ∷ []) cs))
    h in
    let first : removes_everything c.command ≡ false = not_true (removes_everything c.command) split.0 in
    let rest = leaves profile (before ++ c ∷ []) (brought ++ b ∷ []) cs split.1 in
    rw (first, rest) refl

-- ---- which commands bring an assertion

pub data IsAssertion (n : ℕ) (command : Command) : Type 0 where
  Yes : (term : Sexp) → (command ≡ Assert term) → IsAssertion n command
  No : assertions_by n command ≡ [] → IsAssertion n command

assertion_alone : (command : Command) (term : Sexp) → effect_of command ≡ Brings (items.Assertion term)
    → command ≡ Assert term
assertion_alone command term h = grind (arith)

-- by what it does
brings_or_not : (n : ℕ) (command : Command) (e : Effect) → effect_of command ≡ e → IsAssertion n command
brings_or_not n command (Brings (items.Assertion term)) is = Yes term (assertion_alone command term is)
brings_or_not n command (Brings (items.Declaration x ps sort)) is = No (ap (assertions_of_effect n) is)
brings_or_not n command (Brings (items.Definition x ps sort t)) is = No (ap (assertions_of_effect n) is)
brings_or_not n command (Brings (items.SortDeclaration x)) is = No (ap (assertions_of_effect n) is)
brings_or_not n command (Brings (items.Abbreviation x sort)) is = No (ap (assertions_of_effect n) is)
brings_or_not n command (SetsLogic x) is = No (ap (assertions_of_effect n) is)
brings_or_not n command (Pushes m) is = No (ap (assertions_of_effect n) is)
brings_or_not n command (Pops m) is = No (ap (assertions_of_effect n) is)
brings_or_not n command (Removing what) is = No (ap (assertions_of_effect n) is)
brings_or_not n command (SetsGlobal on) is = No (ap (assertions_of_effect n) is)
brings_or_not n command (Assumes literals) is = No (ap (assertions_of_effect n) is)

pub assertion_or_not : (n : ℕ) (command : Command) → IsAssertion n command
assertion_or_not n command = brings_or_not n command (effect_of command) refl
