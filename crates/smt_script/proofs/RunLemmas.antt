-- Levels that stand as runs.
use Rattle.std.proofs.Common.{◌≡◌, ◌≤◌, ◌<◌, ℕ, ◌+◌, ◌-◌, zero, suc, List, [], ◌∷◌, ◌++◌, Some, append_assoc}
use Rattle.std.proofs.Common.{arith, length}
use Rattle.std.proofs.Common.{slice_get, take, refl, ap, sym, ◌∙◌}
use Rattle.std.proofs.lemmas.List.{append-nil, length-append}
use Rattle.smt_script.specs.Internal.Runs.{copies, levels_in}
use Rattle.smt_script.specs.declared.stack.levels.Level.{Level}
use Rattle.smt_script.specs.declared.stack.level_runs.Run.{Run}

-- one more run
pub levels-push : (rs : List Run) (r : Run) → levels_in (rs ++ r ∷ []) ≡ levels_in rs ++ copies r.count r.level
levels-push [] r = append-nil (copies r.count r.level)
levels-push (x ∷ rs) r =
    ap (λ (l : List Level). copies x.count x.level ++ l) (levels-push rs r)
    ∙ sym (append_assoc (copies x.count x.level) (levels_in rs) (copies r.count r.level))

-- what stands before others
pub get_front : {A : Type 0} (xs ys : List A) (n : ℕ) → n < length xs → slice_get (xs ++ ys) n ≡ slice_get xs n
get_front [] ys n h = absurd (omega arith)
get_front (x ∷ xs) ys zero h = refl
get_front (x ∷ xs) ys (suc n) h = get_front xs ys n (omega arith)

pub take_front : {A : Type 0} (xs ys : List A) (n : ℕ) → n ≤ length xs → take n (xs ++ ys) ≡ take n xs
take_front xs ys zero h = refl
take_front [] ys (suc n) h = absurd (omega arith)
take_front (x ∷ xs) ys (suc n) h = ap (λ (l : List _). x ∷ l) (take_front xs ys n (omega arith))

copy_at : (m : ℕ) (l : Level) (k : ℕ) → k < m → slice_get (copies m l) k ≡ Some l
copy_at zero l k h = absurd (omega arith)
copy_at (suc m) l zero h = refl
copy_at (suc m) l (suc k) h = copy_at m l k (omega arith)

first_copies : (m : ℕ) (l : Level) (k : ℕ) → k ≤ m → take k (copies m l) ≡ copies k l
first_copies m l zero h = refl
first_copies zero l (suc k) h = absurd (omega arith)
first_copies (suc m) l (suc k) h = ap (λ (xs : List Level). l ∷ xs) (first_copies m l k (omega arith))

-- among copies behind other levels
pub get_copy : (xs : List Level) (m : ℕ) (l : Level) (n k : ℕ) → n ≡ length xs + k → k < m
    → slice_get (xs ++ copies m l) n ≡ Some l
get_copy [] m l n k is h = copy_at m l n (omega arith)
get_copy (x ∷ xs) m l zero k is h = absurd (omega arith)
get_copy (x ∷ xs) m l (suc n) k is h = get_copy xs m l n k (omega arith) h

pub take_copies : (xs : List Level) (m : ℕ) (l : Level) (n k : ℕ) → n ≡ length xs + k → k ≤ m
    → take n (xs ++ copies m l) ≡ xs ++ copies k l
take_copies [] m l n k is h =
    let same : n ≡ k = omega arith in
    ap (λ (j : ℕ). take j (copies m l)) same ∙ first_copies m l k h
take_copies (x ∷ xs) m l zero k is h = absurd (omega arith)
take_copies (x ∷ xs) m l (suc n) k is h =
    ap (λ (ys : List Level). x ∷ ys) (take_copies xs m l n k (omega arith) h)

pub copies_length : (n : ℕ) (l : Level) → length (copies n l) ≡ n
copies_length zero l = refl
copies_length (suc n) l = ap suc (copies_length n l)

-- the levels of runs, and of these with one more
pub whole_is : (rs all : List Run) (r : Run) → all ≡ rs ++ r ∷ []
    → levels_in all ≡ levels_in rs ++ copies r.count r.level
whole_is rs all r is = ap levels_in is ∙ levels-push rs r

pub length_is : (rs all : List Run) (r : Run) → all ≡ rs ++ r ∷ []
    → length (levels_in all) ≡ length (levels_in rs) + r.count
length_is rs all r is =
    ap length (whole_is rs all r is) ∙ length-append (levels_in rs) (copies r.count r.level)
    ∙ ap (λ (n : ℕ). length (levels_in rs) + n) (copies_length r.count r.level)

-- the level behind those that stay, where it is one of the last run
pub level_there : (rs all : List Run) (r : Run) (d : ℕ) → all ≡ rs ++ r ∷ [] → length (levels_in rs) ≤ d
    → d < length (levels_in all) → slice_get (levels_in all) d ≡ Some r.level
level_there rs all r d is out below =
    let k : ℕ = d - length (levels_in rs) in
    let long = length_is rs all r is in
    ap (λ (ls : List Level). slice_get ls d) (whole_is rs all r is)
    ∙ get_copy (levels_in rs) r.count r.level d k (omega arith) (omega arith)

-- what is left of all, where so many of the last run stay
pub left_there : (rs all : List Run) (r : Run) (d k : ℕ) → all ≡ rs ++ r ∷ [] → d ≡ length (levels_in rs) + k
    → k ≤ r.count → take d (levels_in all) ≡ levels_in rs ++ copies k r.level
left_there rs all r d k is at most =
    ap (λ (ls : List Level). take d ls) (whole_is rs all r is)
    ∙ take_copies (levels_in rs) r.count r.level d k at most

-- levels before the last run
pub before_last : (rs all : List Run) (r : Run) (d : ℕ) → all ≡ rs ++ r ∷ [] → d < length (levels_in rs)
    → (take d (levels_in rs) ≡ take d (levels_in all))
    × (slice_get (levels_in rs) d ≡ slice_get (levels_in all) d)
before_last rs all r d is below =
    let whole = whole_is rs all r is in (
      sym (ap (λ (ls : List Level). take d ls) whole
          ∙ take_front (levels_in rs) (copies r.count r.level) d (omega arith)),
      sym (ap (λ (ls : List Level). slice_get ls d) whole
          ∙ get_front (levels_in rs) (copies r.count r.level) d below),
    )
