-- Two arrays are the same exactly where they have the same at each index.
use Rattle.std.proofs.Common.{◌≡◌, ◌≢◌, ◌↔◌, ◌⊎◌, inl, inr, ℕ, zero, suc, ◌+◌, ◌<◌, ◌≤◌, ◌^◌, ◌==◌, ℤ, pos, Bool, true}
use Rattle.std.proofs.Common.{false, cond, ◌&&◌, ◌||◌}
use Rattle.std.proofs.Common.{List, [], ◌∷◌, ◌++◌, None, length, refl, sym, ap, ◌∙◌, subst, arith, true≢false}
use Rattle.std.proofs.Common.{unsigned_abs}
use Rattle.std.proofs.lemmas.Bool.{eqb-true}
use Rattle.std.proofs.lemmas.Bool.Decides.{Decides-int_eq, eqb_tells}
use Rattle.std.proofs.lemmas.Nat.{pow_pos}
use Rattle.std.proofs.lemmas.Slice.Eq.{bytes_eq-Decides}
use Rattle.std.specs.Bool.{beq}
use Rattle.std.specs.List.{list_all, list_any}
use Rattle.std.specs.Ordering.{int_eq}
use Rattle.std.specs.Prelude.{bytes_eq}
use Rattle.smt_bits.specs.BitVector.{BitVector, vector}
use Rattle.smt_theory.specs.Sort.{Sort, Boolean, Int, Real, Bits, Free, Array, array_of_sort}
use Rattle.smt_values.specs.Element as plain
use Rattle.smt_values.specs.Operations as plain_operations
use Rattle.smt_arrays.specs.Element.{Element, Plain, Filled, Written, IsOfSort, depth, is_array}
use Rattle.smt_arrays.specs.Reading.{are_alike, are_all, both_indexes, default_of, has_vectors, indexes, is_among}
use Rattle.smt_arrays.specs.Reading.{is_same}
use Rattle.smt_arrays.specs.Reading.{is_same_by, is_same_plain, read}
use Rattle.smt_arrays.proofs.SortLemmas.{read_sort}

-- ---- elements that are no arrays

pub both : (a b : Bool) → (a && b) ≡ true → (a ≡ true) × (b ≡ true)
both true b h = (refl, h)
both false b h = cc

same_truth : (x y : Bool) → beq x y ≡ true → x ≡ y
same_truth true true h = refl
same_truth true false h = cc
same_truth false true h = cc
same_truth false false h = refl

same_true : (a b : plain.Element) → plain_operations.is_same a b ≡ true → a ≡ b
same_true (plain.Truth x) (plain.Truth y) h = ap plain.Truth (same_truth x y h)
same_true (plain.Integer x) (plain.Integer y) h = ap plain.Integer ((Decides-int_eq x y).0 h)
same_true (plain.Fraction x xd) (plain.Fraction y yd) h =
    let parts = both (int_eq x y) (xd == yd) h in
    ap (λ n. plain.Fraction n xd) ((Decides-int_eq x y).0 parts.0) ∙ ap (plain.Fraction y) (eqb-true xd yd parts.1)
same_true (plain.Vector x) (plain.Vector y) h =
    let parts = both (x.width == y.width) (x.number == y.number) h in
    let width = eqb-true x.width y.width parts.0 in
    let number = eqb-true x.number y.number parts.1 in
    ap plain.Vector (λ i. record { width = width i; number = number i })
same_true (plain.Abstract x) (plain.Abstract y) h = ap plain.Abstract ((bytes_eq-Decides x y).0 h)
same_true (plain.Truth x) (plain.Integer y) h = cc
same_true (plain.Truth x) (plain.Fraction y yd) h = cc
same_true (plain.Truth x) (plain.Vector y) h = cc
same_true (plain.Truth x) (plain.Abstract y) h = cc
same_true (plain.Integer x) (plain.Truth y) h = cc
same_true (plain.Integer x) (plain.Fraction y yd) h = cc
same_true (plain.Integer x) (plain.Vector y) h = cc
same_true (plain.Integer x) (plain.Abstract y) h = cc
same_true (plain.Fraction x xd) (plain.Truth y) h = cc
same_true (plain.Fraction x xd) (plain.Integer y) h = cc
same_true (plain.Fraction x xd) (plain.Vector y) h = cc
same_true (plain.Fraction x xd) (plain.Abstract y) h = cc
same_true (plain.Vector x) (plain.Truth y) h = cc
same_true (plain.Vector x) (plain.Integer y) h = cc
same_true (plain.Vector x) (plain.Fraction y yd) h = cc
same_true (plain.Vector x) (plain.Abstract y) h = cc
same_true (plain.Abstract x) (plain.Truth y) h = cc
same_true (plain.Abstract x) (plain.Integer y) h = cc
same_true (plain.Abstract x) (plain.Fraction y yd) h = cc
same_true (plain.Abstract x) (plain.Vector y) h = cc

pub plain_same : (i j : Element) → is_same_plain i j ≡ true → i ≡ j
plain_same (Plain a) (Plain b) h = ap Plain (same_true a b h)
plain_same (Plain a) (Filled e) h = cc
plain_same (Plain a) (Written d k e) h = cc
plain_same (Filled e) j h = cc
plain_same (Written d k e) j h = cc

-- ---- indexes of an array

-- each of these is of the sort
abbrev pub AreAll : Sort → List Element → Type 0
AreAll s [] = Unit {0}
AreAll s (j ∷ js) = IsOfSort s j × AreAll s js

indexes_are : (s t : Sort) (a : Element) → IsOfSort (Array s t) a → AreAll s (indexes a)
indexes_are s t (Plain e) h = tt
indexes_are s t (Filled e) h = tt
indexes_are s t (Written a i e) h = (h.1, indexes_are s t a h.0)

are_both : (s : Sort) (is js : List Element) → AreAll s is → AreAll s js → AreAll s (is ++ js)
are_both s [] js h k = k
are_both s (i ∷ is) js h k = (h.0, are_both s is js h.1 k)

-- where nothing is written, an array has its default
read_default : (a i : Element) → is_among i (indexes a) ≡ false → read a i ≡ default_of a
read_default (Plain e) i h = refl
read_default (Filled e) i h = refl
read_default (Written a j e) i h = by (is_same_plain i j) (read_default a i) h
  where
    by : (b : Bool) → (is_among i (indexes a) ≡ false → read a i ≡ default_of a) → (b || is_among i (indexes a)) ≡ false
        → cond b e (read a i) ≡ default_of a
    by true rest h = cc
    by false rest h = rest h

any_append : (p : Element → Bool) (xs ys : List Element) → list_any p (xs ++ ys) ≡ (list_any p xs || list_any p ys)
any_append p [] ys = refl
any_append p (x ∷ xs) ys = ap (λ b. p x || b) (any_append p xs ys) ∙ by (p x)
  where
    by : (b : Bool) → (b || (list_any p xs || list_any p ys)) ≡ ((b || list_any p xs) || list_any p ys)
    by true = refl
    by false = refl

neither : (a b : Bool) → (a || b) ≡ false → (a ≡ false) × (b ≡ false)
neither false b h = (refl, h)
neither true b h = cc

-- what holds of all of these holds of one that is among them
pub of_one : (f : Element → Bool) (i : Element) (js : List Element) → list_all f js ≡ true → is_among i js ≡ true → f i
    ≡ true
of_one f i [] h k = cc
of_one f i (j ∷ js) h k =
    let parts = both (f j) (list_all f js) h in
    by (is_same_plain i j) (λ e. ap f (plain_same i j e) ∙ parts.0) (of_one f i js parts.1) k
  where
    by : (b : Bool) → (b ≡ true → f i ≡ true) → (is_among i js ≡ true → f i ≡ true) → (b || is_among i js) ≡ true → f i
        ≡ true
    by true here rest k = here refl
    by false here rest k = rest k

all_of : (f : Element → Bool) (s : Sort) (js : List Element) → AreAll s js → ((i : Element) → IsOfSort s i → f i ≡ true)
    → list_all f js ≡ true
all_of f s [] h k = refl
all_of f s (j ∷ js) h k = ap (λ b. b && list_all f js) (k j h.0) ∙ all_of f s js h.1 k

-- ---- an index that is not among these

-- above the integers among these
above : List Element → ℕ
above [] = 0
above (Plain (plain.Integer z) ∷ js) = suc (unsigned_abs z + above js)
above (j ∷ js) = above js

not_itself : (z : ℤ) (n : ℕ) → unsigned_abs z < n → int_eq (pos n) z ≡ false
not_itself z n less = by (int_eq (pos n) z) (Decides-int_eq (pos n) z).0
  where
    by : (b : Bool) → (b ≡ true → pos n ≡ z) → b ≡ false
    by false f = refl
    by true f = absurd (let e : unsigned_abs (pos n) ≡ unsigned_abs z =
        ap unsigned_abs (f refl) in omega (arith, e, less))

none_above : (js : List Element) (n : ℕ) → above js ≤ n → is_among (Plain (plain.Integer (pos n))) js ≡ false
unfolding above
none_above [] n h = refl
none_above (Filled e ∷ js) n h = none_above js n h
none_above (Written a i e ∷ js) n h = none_above js n h
none_above (Plain (plain.Truth b) ∷ js) n h = none_above js n h
none_above (Plain (plain.Fraction m d) ∷ js) n h = none_above js n h
none_above (Plain (plain.Vector v) ∷ js) n h = none_above js n h
none_above (Plain (plain.Abstract x) ∷ js) n h = none_above js n h
none_above (Plain (plain.Integer z) ∷ js) n h =
    ap (λ b. b || is_among (Plain (plain.Integer (pos n))) js) (not_itself z n (omega (arith, h)))
    ∙ none_above js n (omega (arith, h))

-- longer than the names among these
longer : List Element → ℕ
longer [] = 0
longer (Plain (plain.Abstract x) ∷ js) = suc (length x + longer js)
longer (j ∷ js) = longer js

zeros : ℕ → List ℕ
zeros zero = []
zeros (suc n) = 0 ∷ zeros n

zeros_length : (n : ℕ) → length (zeros n) ≡ n
unfolding zeros
zeros_length zero = refl
zeros_length (suc n) = ap suc (zeros_length n)

not_that_name : (x : List ℕ) (n : ℕ) → length x < n → bytes_eq (zeros n) x ≡ false
not_that_name x n less = by (bytes_eq (zeros n) x) (bytes_eq-Decides (zeros n) x).0
  where
    by : (b : Bool) → (b ≡ true → zeros n ≡ x) → b ≡ false
    by false f = refl
    by true f = absurd (let e : length (zeros n) ≡ length x = ap length (f refl) in
        let l : length (zeros n) ≡ n = zeros_length n in omega (arith, e, l, less))

none_longer : (js : List Element) (n : ℕ) → longer js ≤ n → is_among (Plain (plain.Abstract (zeros n))) js ≡ false
unfolding longer
none_longer [] n h = refl
none_longer (Filled e ∷ js) n h = none_longer js n h
none_longer (Written a i e ∷ js) n h = none_longer js n h
none_longer (Plain (plain.Truth b) ∷ js) n h = none_longer js n h
none_longer (Plain (plain.Integer z) ∷ js) n h = none_longer js n h
none_longer (Plain (plain.Fraction m d) ∷ js) n h = none_longer js n h
none_longer (Plain (plain.Vector v) ∷ js) n h = none_longer js n h
none_longer (Plain (plain.Abstract x) ∷ js) n h =
    ap (λ b. b || is_among (Plain (plain.Abstract (zeros n))) js) (not_that_name x n (omega (arith, h)))
    ∙ none_longer js n (omega (arith, h))

pub vector_missing : (m n : ℕ) (js : List Element) → has_vectors m n js ≡ false
    → (k : ℕ) × (k < n) × (is_among (Plain (plain.Vector (vector m k))) js ≡ false)
vector_missing m zero js h = cc
vector_missing m (suc n) js h = by (is_among (Plain (plain.Vector (vector m n))) js) refl h (vector_missing m n js)
  where
    by : (b : Bool) → is_among (Plain (plain.Vector (vector m n))) js ≡ b → (b && has_vectors m n js) ≡ false
        → (has_vectors m n js ≡ false → (k : ℕ) × (k < n) × (is_among (Plain (plain.Vector (vector m k))) js ≡ false))
        → (k : ℕ) × (k < suc n) × (is_among (Plain (plain.Vector (vector m k))) js ≡ false)
    by false e h rest = (n, omega arith, e)
    by true e h rest = let r = rest h in (r.0, omega (arith, r.1), r.2)

abbrev pub Fresh : Sort → List Element → Type 0
Fresh s js = (i : Element) × IsOfSort s i × (is_among i js ≡ false)

truth_missing : (js : List Element)
    → (is_among (Plain (plain.Truth true)) js && is_among (Plain (plain.Truth false)) js) ≡ false → Fresh Boolean js
truth_missing js h = by (is_among (Plain (plain.Truth true)) js) refl h
  where
    by : (b : Bool) → is_among (Plain (plain.Truth true)) js ≡ b → (b && is_among (Plain (plain.Truth false)) js)
        ≡ false
        → Fresh Boolean js
    by false e h = (Plain (plain.Truth true), tt, e)
    by true e h = (Plain (plain.Truth false), tt, h)

pub fresh : (s : Sort) (js : List Element) → (array_of_sort s ≡ None) → ((m : ℕ) → s ≡ Bits m → 1 ≤ m) → AreAll s js
    → are_all js ≡ false → Fresh s js
fresh Int js p w h gap = (Plain (plain.Integer (pos (above js))), tt, none_above js (above js) (omega arith))
fresh Real js p w h gap = (Plain (plain.Integer (pos (above js))), tt, none_above js (above js) (omega arith))
fresh (Free n) js p w h gap = (Plain (plain.Abstract (zeros (longer js))), tt, none_longer js (longer js) (omega arith))
fresh (Array s t) js p w h gap = cc
fresh Boolean [] p w h gap = (Plain (plain.Truth true), tt, refl)
fresh Boolean (Filled e ∷ js) p w h gap = absurd h.0
fresh Boolean (Written a i e ∷ js) p w h gap = absurd h.0
fresh Boolean (Plain (plain.Integer z) ∷ js) p w h gap = absurd h.0
fresh Boolean (Plain (plain.Fraction n d) ∷ js) p w h gap = absurd h.0
fresh Boolean (Plain (plain.Vector v) ∷ js) p w h gap = absurd h.0
fresh Boolean (Plain (plain.Abstract x) ∷ js) p w h gap = absurd h.0
fresh Boolean (Plain (plain.Truth b) ∷ js) p w h gap = truth_missing (Plain (plain.Truth b) ∷ js) gap
fresh (Bits m) [] p w h gap = (Plain (plain.Vector (vector m 0)), (refl, (w m refl, pow_pos m)), refl)
fresh (Bits m) (Filled e ∷ js) p w h gap = absurd h.0
fresh (Bits m) (Written a i e ∷ js) p w h gap = absurd h.0
fresh (Bits m) (Plain (plain.Truth b) ∷ js) p w h gap = absurd h.0
fresh (Bits m) (Plain (plain.Integer z) ∷ js) p w h gap = absurd h.0
fresh (Bits m) (Plain (plain.Fraction n d) ∷ js) p w h gap = absurd h.0
fresh (Bits m) (Plain (plain.Abstract x) ∷ js) p w h gap = absurd h.0
fresh (Bits m) (Plain (plain.Vector v) ∷ js) p w h gap =
    let r = vector_missing v.width (2 ^ v.width) (Plain (plain.Vector v) ∷ js) gap in
    (Plain (plain.Vector (vector v.width r.0)), (h.0.0, (h.0.1.0, r.1)), r.2)

-- ---- all of a sort are among these, where they are all

pub every_vector : (m n k : ℕ) (js : List Element) → has_vectors m n js ≡ true → k < n
    → is_among (Plain (plain.Vector (vector m k))) js ≡ true
every_vector m zero k js h less = absurd (omega (arith, less))
every_vector m (suc n) k js h less =
    let parts = both (is_among (Plain (plain.Vector (vector m n))) js) (has_vectors m n js) h in
    by (eqb_tells k n) (every_vector m n k js parts.1) parts.0
  where
    by : ((k == n ≡ true) × (k ≡ n)) ⊎ ((k == n ≡ false) × (k ≢ n))
        → (k < n → is_among (Plain (plain.Vector (vector m k))) js ≡ true)
        → is_among (Plain (plain.Vector (vector m n))) js ≡ true
        → is_among (Plain (plain.Vector (vector m k))) js ≡ true
    by (inl e) rest last = subst (λ l. is_among (Plain (plain.Vector (vector m l))) js ≡ true) (sym e.1) last
    by (inr e) rest last = rest (omega (arith, less, e.1))

every_one : (s : Sort) (i : Element) (js : List Element) → IsOfSort s i → AreAll s js → are_all js ≡ true
    → is_among i js ≡ true
every_one s i [] p h all = cc
every_one s i (Filled e ∷ js) p h all = cc
every_one s i (Written a j e ∷ js) p h all = cc
every_one s i (Plain (plain.Integer z) ∷ js) p h all = cc
every_one s i (Plain (plain.Fraction n d) ∷ js) p h all = cc
every_one s i (Plain (plain.Abstract x) ∷ js) p h all = cc
every_one Int i (Plain (plain.Truth b) ∷ js) p h all = absurd h.0
every_one Real i (Plain (plain.Truth b) ∷ js) p h all = absurd h.0
every_one (Bits m) i (Plain (plain.Truth b) ∷ js) p h all = absurd h.0
every_one (Free n) i (Plain (plain.Truth b) ∷ js) p h all = absurd h.0
every_one (Array s t) i (Plain (plain.Truth b) ∷ js) p h all = absurd h.0
every_one Boolean (Filled e) (Plain (plain.Truth b) ∷ js) p h all = absurd p
every_one Boolean (Written a j e) (Plain (plain.Truth b) ∷ js) p h all = absurd p
every_one Boolean (Plain (plain.Integer z)) (Plain (plain.Truth b) ∷ js) p h all = absurd p
every_one Boolean (Plain (plain.Fraction n d)) (Plain (plain.Truth b) ∷ js) p h all = absurd p
every_one Boolean (Plain (plain.Vector v)) (Plain (plain.Truth b) ∷ js) p h all = absurd p
every_one Boolean (Plain (plain.Abstract x)) (Plain (plain.Truth b) ∷ js) p h all = absurd p
every_one Boolean (Plain (plain.Truth true)) (Plain (plain.Truth b) ∷ js) p h all = (both _ _ all).0
every_one Boolean (Plain (plain.Truth false)) (Plain (plain.Truth b) ∷ js) p h all = (both _ _ all).1
every_one Boolean i (Plain (plain.Vector v) ∷ js) p h all = absurd h.0
every_one Int i (Plain (plain.Vector v) ∷ js) p h all = absurd h.0
every_one Real i (Plain (plain.Vector v) ∷ js) p h all = absurd h.0
every_one (Free n) i (Plain (plain.Vector v) ∷ js) p h all = absurd h.0
every_one (Array s t) i (Plain (plain.Vector v) ∷ js) p h all = absurd h.0
every_one (Bits m) (Filled e) (Plain (plain.Vector v) ∷ js) p h all = absurd p
every_one (Bits m) (Written a j e) (Plain (plain.Vector v) ∷ js) p h all = absurd p
every_one (Bits m) (Plain (plain.Truth b)) (Plain (plain.Vector v) ∷ js) p h all = absurd p
every_one (Bits m) (Plain (plain.Integer z)) (Plain (plain.Vector v) ∷ js) p h all = absurd p
every_one (Bits m) (Plain (plain.Fraction n d)) (Plain (plain.Vector v) ∷ js) p h all = absurd p
every_one (Bits m) (Plain (plain.Abstract x)) (Plain (plain.Vector v) ∷ js) p h all = absurd p
every_one (Bits m) (Plain (plain.Vector u)) (Plain (plain.Vector v) ∷ js) p h all =
    let same : v.width ≡ u.width = h.0.0 ∙ sym p.0 in
    let found = every_vector v.width (2 ^ v.width) u.number (Plain (plain.Vector v) ∷ js) all
    (subst (λ m. u.number < 2 ^ m) (sym same) p.1.1) in
    subst (λ m. is_among (Plain (plain.Vector (vector m u.number))) (Plain (plain.Vector v) ∷ js) ≡ true) same found

-- ---- extensionality

pub both_are : (s t : Sort) (a b : Element) → IsOfSort (Array s t) a → IsOfSort (Array s t) b → AreAll s
    (both_indexes a b)
both_are s t a b h k = are_both s (indexes a) (indexes b) (indexes_are s t a h) (indexes_are s t b k)

-- where neither is written, both have their defaults
pub both_default : (same : Element → Element → Bool) (a b i : Element) → is_among i (both_indexes a b) ≡ false
    → same (read a i) (read b i) ≡ same (default_of a) (default_of b)
both_default same a b i h =
    let parts = neither (is_among i (indexes a)) (is_among i (indexes b))
    (sym (any_append (is_same_plain i) (indexes a) (indexes b)) ∙ h) in
    ap (λ e. same e (read b i)) (read_default a i parts.0) ∙ ap (same (default_of a)) (read_default b i parts.1)

alike_at : (same : Element → Element → Bool) (s t : Sort) (a b i : Element)
    → IsOfSort (Array s t) a → IsOfSort (Array s t) b → IsOfSort s i → are_alike same a b ≡ true
    → same (read a i) (read b i) ≡ true
alike_at same s t a b i p q r h = by (is_among i (both_indexes a b)) refl
  where
    parts : (list_all (λ i. same (read a i) (read b i)) (both_indexes a b) ≡ true)
        × ((are_all (both_indexes a b) || same (default_of a) (default_of b)) ≡ true)
    parts = both _ _ h

    left : (c : Bool) → are_all (both_indexes a b) ≡ c → (c || same (default_of a) (default_of b)) ≡ true
        → is_among i (both_indexes a b) ≡ false → same (default_of a) (default_of b) ≡ true
    left false e k m = k
    left true e k m = absurd (true≢false (sym (every_one s i (both_indexes a b) r (both_are s t a b p q) e) ∙ m))

    by : (c : Bool) → is_among i (both_indexes a b) ≡ c → same (read a i) (read b i) ≡ true
    by true e = of_one (λ i. same (read a i) (read b i)) i (both_indexes a b) parts.0 e
    by false e = both_default same a b i e ∙ left (are_all (both_indexes a b)) refl parts.1 e

at_all : (same : Element → Element → Bool) (s t : Sort) (a b : Element)
    → array_of_sort s ≡ None → ((m : ℕ) → s ≡ Bits m → 1 ≤ m) → IsOfSort (Array s t) a → IsOfSort (Array s t) b
    → ((i : Element) → IsOfSort s i → same (read a i) (read b i) ≡ true) → are_alike same a b ≡ true
at_all same s t a b n w p q h =
    ap (λ c. c && (are_all (both_indexes a b) || same (default_of a) (default_of b)))
    (all_of (λ i. same (read a i) (read b i)) s (both_indexes a b) (both_are s t a b p q) h)
    ∙ by (are_all (both_indexes a b)) refl
  where
    by : (c : Bool) → are_all (both_indexes a b) ≡ c → (c || same (default_of a) (default_of b)) ≡ true
    by true e = refl
    by false e =
        let f = fresh s (both_indexes a b) n w (both_are s t a b p q) e in
        sym (both_default same a b f.0 f.2) ∙ h f.0 f.1

pub flat : (s : Sort) → depth s ≡ 0 → array_of_sort s ≡ None
flat Boolean h = refl
flat Int h = refl
flat Real h = refl
flat (Bits m) h = refl
flat (Free n) h = refl
flat (Array s t) h = cc

-- the elements of a sort that is none of arrays are none
pub flat_element : (s : Sort) (e : Element) → depth s ≡ 0 → IsOfSort s e → is_array e ≡ false
flat_element s (Plain e) h k = refl
flat_element Boolean (Filled e) h k = absurd k
flat_element Int (Filled e) h k = absurd k
flat_element Real (Filled e) h k = absurd k
flat_element (Bits m) (Filled e) h k = absurd k
flat_element (Free n) (Filled e) h k = absurd k
flat_element (Array s t) (Filled e) h k = cc
flat_element Boolean (Written a i e) h k = absurd k
flat_element Int (Written a i e) h k = absurd k
flat_element Real (Written a i e) h k = absurd k
flat_element (Bits m) (Written a i e) h k = absurd k
flat_element (Free n) (Written a i e) h k = absurd k
flat_element (Array s t) (Written a i e) h k = cc

-- of elements that are no arrays all three are one
pub flat_same : (same : Element → Element → Bool) (a b : Element) → is_array a ≡ false → is_same_by same a b
    ≡ is_same_plain a b
flat_same same (Plain a) b h = refl
flat_same same (Filled e) b h = cc
flat_same same (Written a i e) b h = cc

all_alike : (f g : Element → Bool) (s : Sort) (js : List Element) → AreAll s js
    → ((i : Element) → IsOfSort s i → f i ≡ g i) → list_all f js ≡ list_all g js
all_alike f g s [] h k = refl
all_alike f g s (j ∷ js) h k = ap (λ b. b && list_all f js) (k j h.0) ∙ ap (λ b. g j && b) (all_alike f g s js h.1 k)

pub default_sort : (s t : Sort) (a : Element) → IsOfSort (Array s t) a → IsOfSort t (default_of a)
default_sort s t (Plain e) h = absurd h
default_sort s t (Filled e) h = h
default_sort s t (Written a i e) h = default_sort s t a h.0

-- arrays of elements that are none are compared one deep
one_deep : (s t : Sort) (a b : Element) → depth t ≡ 0 → IsOfSort (Array s t) a → IsOfSort (Array s t) b
    → are_alike (is_same_by is_same_plain) a b ≡ are_alike is_same_plain a b
one_deep s t a b d p q =
    ap (λ c. c && (are_all (both_indexes a b) || is_same_by is_same_plain (default_of a) (default_of b)))
    (all_alike (λ i. is_same_by is_same_plain (read a i) (read b i)) (λ i. is_same_plain (read a i) (read b i)) s
    (both_indexes a b) (both_are s t a b p q)
    (λ i r. flat_same is_same_plain (read a i) (read b i) (flat_element t (read a i) d (read_sort s t a i p))))
    ∙ ap (λ c. list_all (λ i. is_same_plain (read a i) (read b i)) (both_indexes a b) &&
    (are_all (both_indexes a b) || c))
    (flat_same is_same_plain (default_of a) (default_of b) (flat_element t (default_of a) d (default_sort s t a p)))

plain_sort : (t : Sort) (a b : Element) → depth t ≡ 0 → IsOfSort t a → is_same_by is_same_plain a b ≡ is_same a b
plain_sort t a b d p =
    let n = flat_element t a d p in
    flat_same is_same_plain a b n ∙ sym (flat_same (is_same_by is_same_plain) a b n)

abbrev width_or_zero : Sort → ℕ
width_or_zero (Bits m) = m
width_or_zero _ = 0

-- two arrays are compared by their elements
pub of_arrays : (same : Element → Element → Bool) (a b : Element) → is_array a ≡ true → is_array b ≡ true
    → is_same_by same a b ≡ are_alike same a b
of_arrays same a b p q = by (is_array a) (is_array b) p q
  where
    by : (x y : Bool) → x ≡ true → y ≡ true → cond (x && y) (are_alike same a b) (is_same_plain a b)
        ≡ are_alike same a b
    by true true p q = refl
    by false y p q = cc
    by true false p q = cc

pub is_one : (s t : Sort) (a : Element) → IsOfSort (Array s t) a → is_array a ≡ true
is_one s t (Plain e) h = absurd h
is_one s t (Filled e) h = refl
is_one s t (Written a i e) h = refl

-- elements of which arrays are made are compared one deep
element_same : (t : Sort) (a b : Element) → depth t ≤ 1 → IsOfSort t a → IsOfSort t b
    → is_same_by is_same_plain a b ≡ is_same a b
element_same Boolean a b d p q = plain_sort Boolean a b refl p
element_same Int a b d p q = plain_sort Int a b refl p
element_same Real a b d p q = plain_sort Real a b refl p
element_same (Bits m) a b d p q = plain_sort (Bits m) a b refl p
element_same (Free n) a b d p q = plain_sort (Free n) a b refl p
element_same (Array s t) a b d p q =
    of_arrays is_same_plain a b (is_one s t a p) (is_one s t b q)
    ∙ sym (one_deep s t a b (omega (arith, d)) p q)
    ∙ sym (of_arrays (is_same_by is_same_plain) a b (is_one s t a p) (is_one s t b q))

-- ---- the law

-- a sort that has an element has a width, if it is one of vectors
pub wide : (s : Sort) (i : Element) → IsOfSort s i → (m : ℕ) → s ≡ Bits m → 1 ≤ m
wide Boolean i p m e = cc
wide Int i p m e = cc
wide Real i p m e = cc
wide (Free n) i p m e = cc
wide (Array s t) i p m e = cc
wide (Bits n) (Filled a) p m e = absurd p
wide (Bits n) (Written a j f) p m e = absurd p
wide (Bits n) (Plain (plain.Truth b)) p m e = absurd p
wide (Bits n) (Plain (plain.Integer z)) p m e = absurd p
wide (Bits n) (Plain (plain.Fraction z d)) p m e = absurd p
wide (Bits n) (Plain (plain.Abstract x)) p m e = absurd p
wide (Bits n) (Plain (plain.Vector v)) p m e = of_width n m v p e
  where
    of_width : (n m : ℕ) (v : BitVector) → plain.IsOfSort (Bits n) (plain.Vector v) → Bits n ≡ Bits m → 1 ≤ m
    of_width n m v p e =
        let w : n ≡ m = ap width_or_zero e in
        let u : v.width ≡ n = p.0 in
        let l : 1 ≤ v.width = p.1.0 in
        omega (arith, w, u, l)

pub extensional : (s t : Sort) (a b some : Element) → depth s ≡ 0 → depth t ≤ 1 → IsOfSort s some
    → IsOfSort (Array s t) a → IsOfSort (Array s t) b
    → (is_same a b ≡ true) ↔ ((i : Element) → IsOfSort s i → is_same (read a i) (read b i) ≡ true)
extensional s t a b some ds dt h p q = (there, back)
  where
    arrays : is_same a b ≡ are_alike (is_same_by is_same_plain) a b
    arrays = of_arrays (is_same_by is_same_plain) a b (is_one s t a p) (is_one s t b q)

    elements : (i : Element) → is_same_by is_same_plain (read a i) (read b i) ≡ is_same (read a i) (read b i)
    elements i = element_same t (read a i) (read b i) dt (read_sort s t a i p) (read_sort s t b i q)

    there : is_same a b ≡ true → (i : Element) → IsOfSort s i → is_same (read a i) (read b i) ≡ true
    there e i r = sym (elements i) ∙ alike_at (is_same_by is_same_plain) s t a b i p q r (sym arrays ∙ e)

    back : ((i : Element) → IsOfSort s i → is_same (read a i) (read b i) ≡ true) → is_same a b ≡ true
    back e = arrays ∙ at_all (is_same_by is_same_plain) s t a b (flat s ds) (wide s some h) p q
        (λ i r. elements i ∙ e i r)
