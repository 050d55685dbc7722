-- Why results are known or open: which argument decides, and which keeps a result open.
use Rattle.std.proofs.Common.{◌≡◌, ℕ, zero, suc, ◌+◌, ◌-◌, ◌<◌, ◌≤◌, Bool, true, false, cond, not, ◌||◌, List, [], ◌∷◌, ◌++◌}
use Rattle.std.proofs.Common.{Option, Some, None, is_some, length, map, take, get_or, nat_lt, slice_get, refl, ap, sym, ◌∙◌}
use Rattle.std.proofs.Common.{arith, length-append}
use Rattle.std.proofs.lemmas.List.{length-map, map-append}
use Rattle.std.proofs.lemmas.List.Quantifiers.{position-Some}
use Rattle.std.proofs.lemmas.Option.{slice_get-get_or}
use Rattle.std.specs.List.{list_all, list_any, position_or_len}
use Rattle.std.specs.Option.{option_or}
use Rattle.std.specs.Prelude.{IsSome, is_none, option_map, position, unwrap_or}
use Rattle.smt_theory.specs.Operators.{is_on_arrays}
use Rattle.smt_theory.specs.Ranks.{HasRank}
use Rattle.smt_theory.specs.declared.op.CoreOp.{CoreOp}
use Rattle.smt_theory.specs.declared.op.CoreOp.TheVariants.{True, False, Not, Implies, And, Or, Xor, Equal, Distinct, Ite}
use Rattle.smt_theory.specs.declared.op.Op.{Op}
use Rattle.smt_theory.specs.declared.op.Op.TheVariants.{Core, Ints, Reals, Bits, Arrays}
use Rattle.smt_theory.specs.Sort.{Sort, is_number}
use Rattle.smt_values.proofs.AllKnownLemmas.{result_known}
use Rattle.smt_values.specs.Element.{AreOfSorts, Element, Truth, element_of, known_element, known_elements}
use Rattle.smt_values.specs.KnownOperations.{as_disjunction, decided, is_known, known_choice, known_core, known_step}
use Rattle.smt_values.specs.KnownOperations.{known_truth}
use Rattle.smt_values.specs.Lists.{all_known, are_distinct}
use Rattle.smt_values.specs.Operations.{is_same}
use Rattle.smt_values.specs.Reasons.{conclusion, deciding, deciding_core, divides_by_zero, implying, known_by}
use Rattle.smt_values.specs.Reasons.{lacking, open_by, open_reason, premises, reason, taken, taken_core}
use Rattle.smt_values.specs.declared.value.Value.{Value}
use Rattle.smt_values.specs.declared.reasons.OpenReason.{OpenReason}
use Rattle.smt_values.specs.declared.reasons.OpenReason.TheVariants.{Argument, DivisionByZero, Range}
use Rattle.smt_values.specs.declared.reasons.Reason.{Reason}
use Rattle.smt_values.specs.declared.reasons.Reason.TheVariants.{Branch, Decided, Open}

-- ---- the first place at which a test passes

or_len-map : {A B : Type 0} (p : B → Bool) (f : A → B) (xs : List A)
    → position_or_len p (map f xs) ≡ position_or_len (λ x. p (f x)) xs
or_len-map p f [] = refl
or_len-map p f (x ∷ xs) = ap (λ n. cond (not (p (f x))) (1 + n) 0) (or_len-map p f xs)

pub position-map : {A B : Type 0} (p : B → Bool) (f : A → B) (xs : List A)
    → position p (map f xs) ≡ position (λ x. p (f x)) xs
position-map p f xs =
    ap (λ n. cond (nat_lt n (length (map f xs))) (Some n) None) (or_len-map p f xs)
    ∙ ap (λ l. cond (nat_lt (position_or_len (λ x. p (f x)) xs) l) (Some (position_or_len (λ x. p (f x)) xs)) None)
    (length-map xs f)

-- what stands there passes
pub record Passes {A : Type 0} (p : A → Bool) (xs : List A) (i : ℕ) : Type 0 where
  pub item : A
  pub within : i < length xs
  pub at : slice_get xs i ≡ Some item
  pub passes : p item ≡ true

pub found_at : {A : Type 0} (p : A → Bool) (xs : List A) (i : ℕ) (d : A) → position p xs ≡ Some i → Passes p xs i
found_at p xs i d is =
    let found = position-Some p xs i d is in
    record {
      item = get_or xs i d;
      within = found.0;
      at = slice_get-get_or xs i d found.0;
      passes = found.1;
    }

-- ---- conjunctions and disjunctions

pub any_at : {A : Type 0} (p : A → Bool) (xs : List A) (i : ℕ) (x : A) → slice_get xs i ≡ Some x → p x ≡ true
    → list_any p xs ≡ true
any_at p [] i x at h = cc
any_at p (y ∷ xs) zero x at h = let is : y ≡ x = cc in let same = ap p is in by (p y) (same ∙ h)
  where
    by : (b : Bool) → b ≡ true → (b || list_any p xs) ≡ true
    by true e = refl
    by false e = cc
any_at p (y ∷ xs) (suc i) x at h = by (p y) (any_at p xs i x at h)
  where
    by : (b : Bool) → list_any p xs ≡ true → (b || list_any p xs) ≡ true
    by true e = refl
    by false e = e

pub decided_by : (b : Bool) (args : List (Option Element)) → list_any (is_known b) args ≡ true
    → decided b args ≡ Some (Truth b)
decided_by b args h = rw h refl

-- an argument that decides one list of arguments decides another that has it at the same place
pub decided_alike : (b : Bool) (args others : List (Option Element)) (i : ℕ)
    → position (is_known b) args ≡ Some i → slice_get others i ≡ slice_get args i
    → decided b others ≡ decided b args
decided_alike b args others i is same =
    let found = found_at (is_known b) args i None is in
    decided_by b others (any_at (is_known b) others i found.item (same ∙ found.at) found.passes)
    ∙ sym (decided_by b args (any_at (is_known b) args i found.item found.at found.passes))

-- ---- implications

either : (x y : Bool) → y ≡ true → (x || y) ≡ true
either true y h = refl
either false y h = h

conclusion_true : (args : List (Option Element)) → is_known true (conclusion args) ≡ true
    → list_any (is_known true) (as_disjunction args) ≡ true
conclusion_true [] h = cc
conclusion_true (a ∷ []) h = by (is_known true a) h
  where
    by : (b : Bool) → b ≡ true → (b || false) ≡ true
    by true e = refl
    by false e = cc
conclusion_true (a ∷ b ∷ args) h =
    let here : suc (length args) - 1 ≡ length args = omega arith in
    let there : suc (suc (length args)) - 1 ≡ suc (length args) = omega arith in
    either _ _ (conclusion_true (b ∷ args)
    (ap (λ k. is_known true (unwrap_or (slice_get (b ∷ args) k) None)) here
    ∙ sym (ap (λ k. is_known true (unwrap_or (slice_get (a ∷ b ∷ args) k) None)) there) ∙ h))

negated : (a : Option Element) → is_known false a ≡ true
    → is_known true (option_map (λ c. Truth (not c)) (known_truth a)) ≡ true
negated None h = cc
negated (Some (Truth true)) h = cc
negated (Some (Truth false)) h = refl
negated (Some _) h = cc

premise_false : (args : List (Option Element)) (i : ℕ) (x : Option Element) → slice_get args i ≡ Some x
    → i + 1 < length args → is_known false x ≡ true → list_any (is_known true) (as_disjunction args) ≡ true
premise_false [] i x at h is = cc
premise_false (a ∷ []) i x at h is = absurd (omega (arith, h))
premise_false (a ∷ b ∷ args) zero x at h is =
    let same : a ≡ x = cc in
    by (is_known true (option_map (λ c. Truth (not c)) (known_truth a))) (negated a (ap (is_known false) same ∙ is))
  where
    by : (c : Bool) → c ≡ true → (c || list_any (is_known true) (as_disjunction (b ∷ args))) ≡ true
    by true e = refl
    by false e = cc
premise_false (a ∷ b ∷ args) (suc i) x at h is =
    either _ _ (premise_false (b ∷ args) i x at (omega (arith, h)) is)

get_take : {A : Type 0} (n i : ℕ) (xs : List A) → i < n → slice_get (take n xs) i ≡ slice_get xs i
get_take zero i xs h = absurd (omega (arith, h))
get_take (suc n) i [] h = refl
get_take (suc n) zero (x ∷ xs) h = refl
get_take (suc n) (suc i) (x ∷ xs) h = get_take n i xs (omega (arith, h))

length_take : {A : Type 0} (n : ℕ) (xs : List A) → length (take n xs) ≤ n
length_take zero xs = omega arith
length_take (suc n) [] = omega arith
length_take (suc n) (x ∷ xs) = let h = length_take n xs in omega (arith, h)

-- what decides an implication is its conclusion or a premise
implied : (args : List (Option Element)) (i : ℕ) → implying args ≡ Some i
    → (others : List (Option Element)) → length others ≡ length args → slice_get others i ≡ slice_get args i
    → list_any (is_known true) (as_disjunction others) ≡ true
implied args i is others counted same = by (is_known true (conclusion args)) refl is
  where
    by : (b : Bool) → is_known true (conclusion args) ≡ b
        → cond b (Some (length args - 1)) (position (is_known false) (premises args)) ≡ Some i
        → list_any (is_known true) (as_disjunction others) ≡ true
    by true known at =
        let here : length args - 1 ≡ i = cc in
        let there : length others - 1 ≡ i = ap (λ n. n - 1) counted ∙ here in
        conclusion_true others
        (ap (λ k. is_known true (unwrap_or (slice_get others k) None)) there
        ∙ ap (λ o. is_known true (unwrap_or o None)) same
        ∙ ap (λ k. is_known true (unwrap_or (slice_get args k) None)) (sym here)
        ∙ known)
    by false known at =
        let found = found_at (is_known false) (premises args) i None at in
        let within = found.within in
        let short = length_take (length args - 1) args in
        premise_false others i found.item
        (same ∙ sym (get_take (length args - 1) i args (omega (arith, within, short))) ∙ found.at)
        (omega (arith, within, short, counted)) found.passes

pub implied_alike : (args others : List (Option Element)) (i : ℕ) → implying args ≡ Some i
    → length others ≡ length args → slice_get others i ≡ slice_get args i
    → decided true (as_disjunction others) ≡ decided true (as_disjunction args)
implied_alike args others i is counted same =
    decided_by true (as_disjunction others) (implied args i is others counted same)
    ∙ sym (decided_by true (as_disjunction args) (implied args i is args refl refl))

core_alike : (op : CoreOp) (args others : List (Option Element)) (i : ℕ) → deciding_core op args ≡ Some i
    → length others ≡ length args → slice_get others i ≡ slice_get args i
    → known_core op others ≡ known_core op args
core_alike And args others i is counted same = decided_alike false args others i is same
core_alike Or args others i is counted same = decided_alike true args others i is same
core_alike Implies args others i is counted same = implied_alike args others i is counted same
core_alike True args others i is counted same = cc
core_alike False args others i is counted same = cc
core_alike Not args others i is counted same = cc
core_alike Xor args others i is counted same = cc
core_alike Equal args others i is counted same = cc
core_alike Distinct args others i is counted same = cc
core_alike Ite args others i is counted same = cc

pub deciding_alike : (op : Op) (args others : List (Option Element)) (i : ℕ) → deciding op args ≡ Some i
    → length others ≡ length args → slice_get others i ≡ slice_get args i
    → known_step op others ≡ known_step op args
deciding_alike (Core op) args others i is counted same = core_alike op args others i is counted same
deciding_alike (Ints op) args others i is counted same = cc
deciding_alike (Reals op) args others i is counted same = cc
deciding_alike (Bits op) args others i is counted same = cc
deciding_alike (Arrays op) args others i is counted same = cc

-- ---- branches

branch_of : (condition a b : Option Element) (i : ℕ) (o : Option Bool) → known_truth condition ≡ o
    → option_map (λ c. cond c 1 2) o ≡ Some i
    → slice_get (condition ∷ a ∷ b ∷ []) i ≡ Some (known_choice (condition ∷ a ∷ b ∷ []))
branch_of condition a b i None known is = cc
branch_of condition a b i (Some true) known is =
    let e : 1 ≡ i = cc in ap (slice_get (condition ∷ a ∷ b ∷ [])) (sym e) ∙ rw known refl
branch_of condition a b i (Some false) known is =
    let e : 2 ≡ i = cc in ap (slice_get (condition ∷ a ∷ b ∷ [])) (sym e) ∙ rw known refl

core_branch : (op : CoreOp) (args : List (Option Element)) (i : ℕ) → taken_core op args ≡ Some i
    → slice_get args i ≡ Some (known_core op args)
core_branch Ite (condition ∷ a ∷ b ∷ []) i is = branch_of condition a b i (known_truth condition) refl is
core_branch Ite [] i is = cc
core_branch Ite (a ∷ []) i is = cc
core_branch Ite (a ∷ b ∷ []) i is = cc
core_branch Ite (a ∷ b ∷ c ∷ d ∷ rest) i is = cc
core_branch True args i is = cc
core_branch False args i is = cc
core_branch Not args i is = cc
core_branch Implies args i is = cc
core_branch And args i is = cc
core_branch Or args i is = cc
core_branch Xor args i is = cc
core_branch Equal args i is = cc
core_branch Distinct args i is = cc

pub branch_at : (op : Op) (args : List (Option Element)) (i : ℕ) → taken op args ≡ Some i
    → slice_get args i ≡ Some (known_step op args)
branch_at (Core op) args i is = core_branch op args i is
branch_at (Ints op) args i is = cc
branch_at (Reals op) args i is = cc
branch_at (Bits op) args i is = cc
branch_at (Arrays op) args i is = cc

-- ---- what the code looks at

last_at : {A : Type 0} (xs : List A) (x : A) → slice_get (xs ++ x ∷ []) (length xs) ≡ Some x
last_at [] x = refl
last_at (y ∷ xs) x = last_at xs x

front_of : {A : Type 0} (xs : List A) (x : A) → take (length xs) (xs ++ x ∷ []) ≡ xs
front_of [] x = refl
front_of (y ∷ xs) x = ap (λ ys. y ∷ ys) (front_of xs x)

implying_last : (ps : List (Option Element)) (c : Option Element)
    → implying (ps ++ c ∷ []) ≡ cond (is_known true c) (Some (length ps)) (position (is_known false) ps)
implying_last ps c =
    let counted = length-append ps (c ∷ []) in
    let n : length (ps ++ c ∷ []) - 1 ≡ length ps = omega (arith, counted) in
    ap (λ k. cond (is_known true (unwrap_or (slice_get (ps ++ c ∷ []) k) None)) (Some k)
    (position (is_known false) (take k (ps ++ c ∷ [])))) n
    ∙ ap (λ o. cond (is_known true (unwrap_or o None)) (Some (length ps))
    (position (is_known false) (take (length ps) (ps ++ c ∷ [])))) (last_at ps c)
    ∙ ap (λ xs. cond (is_known true c) (Some (length ps)) (position (is_known false) xs)) (front_of ps c)

pub implying_is : (args ps : List (Option Value)) (c : Option Value) (b : Bool) → args ≡ ps ++ c ∷ []
    → is_known true (known_element c) ≡ b
    → cond b (Some (length ps)) (position (is_known false) (known_elements ps)) ≡ implying (known_elements args)
implying_is args ps c b split known =
    sym (ap (λ xs. implying (known_elements xs)) split
    ∙ ap implying (map-append known_element ps (c ∷ []))
    ∙ implying_last (known_elements ps) (known_element c)
    ∙ ap (λ k. cond k (Some (length (known_elements ps))) (position (is_known false) (known_elements ps))) known
    ∙ ap (λ l. cond b (Some l) (position (is_known false) (known_elements ps))) (length-map ps known_element))

some_of_map : {A B : Type 0} (f : A → B) (o : Option A) → is_some (option_map f o) ≡ is_some o
some_of_map f None = refl
some_of_map f (Some x) = refl

pub all_some : (xs : List (Option Value)) → list_all is_some xs ≡ is_some (all_known (known_elements xs))
all_some [] = refl
all_some (None ∷ xs) = refl
all_some (Some v ∷ xs) = all_some xs ∙ sym (some_of_map (λ ys. element_of v ∷ ys) (all_known (known_elements xs)))

pub distinct_known : (op : Op) (xs : List (Option Value)) → op ≡ Core Distinct
    → list_all is_some xs ≡ is_some (known_step op (known_elements xs))
distinct_known op xs is =
    all_some xs ∙ sym (some_of_map (λ es. Truth (are_distinct is_same es)) (all_known (known_elements xs)))
    ∙ ap (λ o. is_some (known_step o (known_elements xs))) (sym is)

-- ---- reasons, by what is known

abbrev pub known_reason : (known : Option Element) (d b : Option ℕ) (o : OpenReason) → Reason
known_reason known d b o = cond (is_some known) (known_by d b) (Open o)

open_is : (known : Option Element) (d b : Option ℕ) (o r : OpenReason) → known_reason known d b o ≡ Open r
    → (known ≡ None) × (o ≡ r)
open_is None d b o r is = (refl, cc)
open_is (Some e) (Some i) b o r is = (cc, cc)
open_is (Some e) None (Some i) o r is = (cc, cc)
open_is (Some e) None None o r is = (cc, cc)

decided_is : (known : Option Element) (d b : Option ℕ) (o : OpenReason) (i : ℕ)
    → known_reason known d b o ≡ Decided i → d ≡ Some i
decided_is None d b o i is = cc
decided_is (Some e) (Some j) b o i is = cc
decided_is (Some e) None (Some j) o i is = cc
decided_is (Some e) None None o i is = cc

branch_is : (known : Option Element) (d b : Option ℕ) (o : OpenReason) (i : ℕ)
    → known_reason known d b o ≡ Branch i → b ≡ Some i
branch_is None d b o i is = cc
branch_is (Some e) (Some j) b o i is = cc
branch_is (Some e) None (Some j) o i is = cc
branch_is (Some e) None None o i is = cc

-- ---- the laws

pub reason_open : (op : Op) (args : List (Option Element)) (r : OpenReason) → reason op args ≡ Open r
    → known_step op args ≡ None
reason_open op args r is =
    (open_is (known_step op args) (deciding op args) (taken op args) (open_reason op args) r is).0

pub reason_told : (op : Op) (args : List (Option Element)) → known_step op args ≡ None
    → reason op args ≡ Open (open_reason op args)
reason_told op args is =
    ap (λ k. known_reason k (deciding op args) (taken op args) (open_reason op args)) is

pub reason_decided : (op : Op) (args others : List (Option Element)) (i : ℕ) → reason op args ≡ Decided i
    → length others ≡ length args → slice_get others i ≡ slice_get args i
    → known_step op others ≡ known_step op args
reason_decided op args others i is counted same =
    deciding_alike op args others i
    (decided_is (known_step op args) (deciding op args) (taken op args) (open_reason op args) i is) counted same

pub reason_branch : (op : Op) (args : List (Option Element)) (i : ℕ) → reason op args ≡ Branch i
    → slice_get args i ≡ Some (known_step op args)
reason_branch op args i is =
    branch_at op args i
    (branch_is (known_step op args) (deciding op args) (taken op args) (open_reason op args) i is)

open_item : (x : Option Element) → is_none x ≡ true → x ≡ None
open_item None h = refl
open_item (Some e) h = cc

lacking_open : (op : Op) (args : List (Option Element)) (i : ℕ) (branch : Option ℕ) → taken op args ≡ branch
    → known_step op args ≡ None
    → option_or branch (position is_none args) ≡ Some i → slice_get args i ≡ Some None
lacking_open op args i (Some j) branch unknown is =
    let e : j ≡ i = cc in
    branch_at op args i (branch ∙ ap Some e) ∙ ap Some unknown
lacking_open op args i None branch unknown is =
    let found = found_at is_none args i None is in found.at ∙ ap Some (open_item found.item found.passes)

argument_is : (l : Option ℕ) (z : Bool) (i : ℕ) → open_by l z ≡ Argument i → l ≡ Some i
argument_is (Some j) z i is = cc
argument_is None true i is = cc
argument_is None false i is = cc

zero_is : (l : Option ℕ) (z : Bool) → open_by l z ≡ DivisionByZero → z ≡ true
zero_is (Some j) z is = cc
zero_is None true is = refl
zero_is None false is = cc

pub reason_argument : (op : Op) (args : List (Option Element)) (i : ℕ) → reason op args ≡ Open (Argument i)
    → slice_get args i ≡ Some None
reason_argument op args i is =
    let both = open_is (known_step op args) (deciding op args) (taken op args) (open_reason op args) (Argument i) is in
    lacking_open op args i (taken op args) refl both.0
    (argument_is (lacking op args) (divides_by_zero op args) i both.1)

pub reason_zero : (op : Op) (args : List (Option Element)) → reason op args ≡ Open DivisionByZero
    → divides_by_zero op args ≡ true
reason_zero op args is =
    zero_is (lacking op args) (divides_by_zero op args)
    (open_is (known_step op args) (deciding op args) (taken op args) (open_reason op args) DivisionByZero is).1

none_known : (o : Option Element) → o ≡ None → IsSome o → ⊥
none_known None e h = cc
none_known (Some x) e h = cc

pub reason_range : (op : Op) (sorts : List Sort) (s : Sort) (args : List Element) → is_on_arrays op ≡ false
    → HasRank op sorts s → AreOfSorts sorts args → reason op (map Some args) ≡ Open Range → is_number s ≡ true
reason_range op sorts s args plain ranked are is = by (is_number s) refl
  where
    by : (b : Bool) → is_number s ≡ b → b ≡ true
    by true other = refl
    by false other = absurd (none_known _ (reason_open op (map Some args) Range is)
        (result_known op sorts s args plain ranked are other))
