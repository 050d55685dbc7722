-- Where the transient nodes of a script stand: behind those of the model and its others.
use Rattle.std.proofs.Common.{◌≡◌, ◌≤◌, ◌-◌, ℕ, zero, suc, List, [], ◌∷◌, ◌++◌, length, map, option_map, slice_get}
use Rattle.std.proofs.Common.{ap, ◌∙◌, arith}
use Rattle.std.proofs.lemmas.List.{length-map}
use Rattle.std.proofs.lemmas.Option.{slice_get-map}

-- what stands in the second of two lists
get_behind : {A : Type 0} (xs ys : List A) (i : ℕ) → length xs ≤ i
    → slice_get (xs ++ ys) i ≡ slice_get ys (i - length xs)
get_behind [] ys i past = let same : i ≡ i - 0 = omega arith in ap (λ (k : ℕ). slice_get ys k) same
get_behind (x ∷ xs) ys zero past = absurd (omega (arith, past))
get_behind (x ∷ xs) ys (suc i) past =
    let same : i - length xs ≡ suc i - suc (length xs) = omega arith in
    get_behind xs ys i (omega (arith, past)) ∙ ap (λ (k : ℕ). slice_get ys k) same

-- what stands behind two lists, of which the second is seen by a function
pub at_transient : {A B C : Type 0} (ms : List A) (m : A → B) (xs ys : List C) (f : C → B) (n k : ℕ)
    → length ms ≤ n → length xs ≤ n - length ms → k ≡ (n - length ms) - length xs
    → slice_get (map m ms ++ map f (xs ++ ys)) n ≡ option_map f (slice_get ys k)
at_transient ms m xs ys f n k behind past is =
    let counted = length-map ms m in
    let same : n - length (map m ms) ≡ n - length ms = omega (arith, counted) in
    get_behind (map m ms) (map f (xs ++ ys)) n (omega (arith, counted, behind))
    ∙ ap (λ (i : ℕ). slice_get (map f (xs ++ ys)) i) same
    ∙ slice_get-map f (xs ++ ys) (n - length ms)
    ∙ ap (option_map f)
    (get_behind xs ys (n - length ms) past
    ∙ ap (λ (i : ℕ). slice_get ys i) (omega (arith, is)))
