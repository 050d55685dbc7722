-- What is known of sameness is so.
use Rattle.std.proofs.Common.{◌≡◌, Bool, true, false, cond, ◌&&◌, ◌||◌, List, [], ◌∷◌, Option, Some, None}
use Rattle.std.proofs.Common.{map, refl, ap, ◌∙◌}
use Rattle.std.specs.List.{list_all, list_any}
use Rattle.smt_arrays.specs.Element.{Element, is_array}
use Rattle.smt_arrays.specs.Known.{are_all_so, are_named, is_known_to_be, known_alike, known_default, known_same}
use Rattle.smt_arrays.specs.Known.{known_same_by, unless_different}
use Rattle.smt_arrays.specs.Reading.{are_alike, are_all, both_indexes, default_of, is_same, is_same_by, is_same_plain}
use Rattle.smt_arrays.specs.Reading.{read}

-- a test that is known to have an answer has it
abbrev pub IsTold : {X : Type 0} → (X → Option Bool) → (X → Bool) → Type 0
IsTold {X} known test = (x : X) (r : Bool) → known x ≡ Some r → test x ≡ r

to_be_true : (o : Option Bool) → is_known_to_be true o ≡ true → o ≡ Some true
to_be_true (Some true) h = refl
to_be_true (Some false) h = cc
to_be_true None h = cc

pub to_be_false : (o : Option Bool) → is_known_to_be false o ≡ true → o ≡ Some false
to_be_false (Some false) h = refl
to_be_false (Some true) h = cc
to_be_false None h = cc

both : (a b : Bool) → (a && b) ≡ true → (a ≡ true) × (b ≡ true)
both true b h = (refl, h)
both false b h = cc

pub all_true : {X : Type 0} (known : X → Option Bool) (test : X → Bool) (xs : List X) → IsTold known test
    → list_all (is_known_to_be true) (map known xs) ≡ true → list_all test xs ≡ true
all_true known test [] told h = refl
all_true known test (x ∷ xs) told h =
    let parts = both (is_known_to_be true (known x)) (list_all (is_known_to_be true) (map known xs)) h in
    ap (λ b. b && list_all test xs) (told x true (to_be_true (known x) parts.0)) ∙ all_true known test xs told parts.1

pub one_false : {X : Type 0} (known : X → Option Bool) (test : X → Bool) (xs : List X) → IsTold known test
    → list_any (is_known_to_be false) (map known xs) ≡ true → list_all test xs ≡ false
one_false known test [] told h = cc
one_false known test (x ∷ xs) told h =
    by (is_known_to_be false (known x)) (λ e. told x false (to_be_false (known x) e)) (one_false known test xs told) h
  where
    last : (b : Bool) → list_all test xs ≡ false → (b && list_all test xs) ≡ false
    last true e = e
    last false e = refl

    by : (b : Bool) → (b ≡ true → test x ≡ false)
        → (list_any (is_known_to_be false) (map known xs) ≡ true → list_all test xs ≡ false)
        → (b || list_any (is_known_to_be false) (map known xs)) ≡ true
        → (test x && list_all test xs) ≡ false
    by true here rest h = ap (λ c. c && list_all test xs) (here refl)
    by false here rest h = last (test x) (rest h)

so_true : (found : List (Option Bool)) → are_all_so found ≡ Some true → list_all (is_known_to_be true) found ≡ true
so_true found = by (list_any (is_known_to_be false) found) (list_all (is_known_to_be true) found)
  where
    by : (b c : Bool) → cond b (Some false) (cond c (Some true) None) ≡ Some true → c ≡ true
    by true c h = cc
    by false true h = refl
    by false false h = cc

pub so_false : (found : List (Option Bool)) → are_all_so found ≡ Some false → list_any (is_known_to_be false) found
    ≡ true
so_false found = by (list_any (is_known_to_be false) found) (list_all (is_known_to_be true) found)
  where
    by : (b c : Bool) → cond b (Some false) (cond c (Some true) None) ≡ Some false → b ≡ true
    by true c h = refl
    by false true h = cc
    by false false h = cc

-- where all are known to be so, or not to be, they are so or not
pub all_so : {X : Type 0} (known : X → Option Bool) (test : X → Bool) (xs : List X) → IsTold known test
    → (r : Bool) → are_all_so (map known xs) ≡ Some r → list_all test xs ≡ r
all_so known test xs told true h = all_true known test xs told (so_true (map known xs) h)
all_so known test xs told false h = one_false known test xs told (so_false (map known xs) h)

-- ---- arrays

-- of the defaults, where they count
default_told : (known : Element → Element → Option Bool) (same : Element → Element → Bool) (a b : Element)
    → ((r : Bool) → known (default_of a) (default_of b) ≡ Some r → same (default_of a) (default_of b) ≡ r)
    → (r : Bool) → known_default known a b ≡ Some r
    → (are_all (both_indexes a b) || same (default_of a) (default_of b)) ≡ r
default_told known same a b told r =
    by (are_all (both_indexes a b)) (are_named (both_indexes a b)) (known (default_of a) (default_of b)) told
  where
    by : (all named : Bool) (o : Option Bool) → ((r : Bool) → o ≡ Some r → same (default_of a) (default_of b) ≡ r)
        → cond all (Some true) (cond named (unless_different o) o) ≡ Some r
        → (all || same (default_of a) (default_of b)) ≡ r
    by true named o told h = cc
    by false false o told h = told r h
    by false true (Some true) told h = told r h
    by false true (Some false) told h = cc
    by false true None told h = cc

alike_told : (known : Element → Element → Option Bool) (same : Element → Element → Bool)
    → ((a b : Element) (r : Bool) → known a b ≡ Some r → same a b ≡ r)
    → (a b : Element) (r : Bool) → known_alike known a b ≡ Some r → are_alike same a b ≡ r
alike_told known same told a b true h =
    let parts = both _ _ (so_true (known_default known a b ∷ map (λ i. known (read a i) (read b i)) (both_indexes a b))
    h) in
    let here = default_told known same a b (told (default_of a) (default_of b)) true
    (to_be_true (known_default known a b) parts.0) in
    let rest = all_true (λ i. known (read a i) (read b i)) (λ i. same (read a i) (read b i)) (both_indexes a b)
    (λ i. told (read a i) (read b i)) parts.1 in
    ap (λ c. c && (are_all (both_indexes a b) || same (default_of a) (default_of b))) rest ∙ here
alike_told known same told a b false h =
    by (is_known_to_be false (known_default known a b))
    (λ e. default_told known same a b (told (default_of a) (default_of b)) false
    (to_be_false (known_default known a b) e))
    (so_false (known_default known a b ∷ map (λ i. known (read a i) (read b i)) (both_indexes a b)) h)
  where
    last : (b c : Bool) → c ≡ false → (b && c) ≡ false
    last true c e = e
    last false c e = refl

    by : (d : Bool) → (d ≡ true → (are_all (both_indexes a b) || same (default_of a) (default_of b)) ≡ false)
        → (d || list_any (is_known_to_be false) (map (λ i. known (read a i) (read b i)) (both_indexes a b))) ≡ true
        → are_alike same a b ≡ false
    by true f h = last _ _ (f refl)
    by false f h =
        ap (λ c. c && (are_all (both_indexes a b) || same (default_of a) (default_of b)))
        (one_false (λ i. known (read a i) (read b i)) (λ i. same (read a i) (read b i)) (both_indexes a b)
        (λ i. told (read a i) (read b i)) h)

same_told_by : (known : Element → Element → Option Bool) (same : Element → Element → Bool)
    → ((a b : Element) (r : Bool) → known a b ≡ Some r → same a b ≡ r)
    → (a b : Element) (r : Bool) → known_same_by known a b ≡ Some r → is_same_by same a b ≡ r
same_told_by known same told a b r = by (is_array a && is_array b)
  where
    by : (arrays : Bool) → cond arrays (known_alike known a b) (Some (is_same_plain a b)) ≡ Some r
        → cond arrays (are_alike same a b) (is_same_plain a b) ≡ r
    by true h = alike_told known same told a b r h
    by false h = cc

-- what is known of sameness is so
pub same_told : (a b : Element) (r : Bool) → known_same a b ≡ Some r → is_same a b ≡ r
same_told a b r h =
    same_told_by (known_same_by (λ c d. Some (is_same_plain c d))) (is_same_by is_same_plain)
    (same_told_by (λ c d. Some (is_same_plain c d)) is_same_plain (λ c d s e. cc)) a b r h
