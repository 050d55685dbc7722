-- Stores that come to the same.
use Rattle.std.proofs.Common.{◌≡◌, ◌≤◌, Bool, true, false, cond, ◌&&◌, ◌||◌, List, [], ◌∷◌, refl, sym, ap, ◌∙◌}
use Rattle.std.proofs.Common.{subst, arith, true≢false, eq-eqb}
use Rattle.std.proofs.lemmas.Bool.Decides.{Decides-int_eq}
use Rattle.std.proofs.lemmas.Slice.Eq.{bytes_eq-Decides}
use Rattle.std.specs.Bool.{beq}
use Rattle.std.specs.List.{list_all}
use Rattle.smt_theory.specs.Sort.{Sort, Boolean, Int, Real, Bits, Free, Array}
use Rattle.smt_values.specs.Element as plain
use Rattle.smt_values.specs.Operations as plain_operations
use Rattle.smt_arrays.specs.Element.{Element, Plain, Filled, Written, IsOfSort, depth, is_array}
use Rattle.smt_arrays.specs.Reading.{are_alike, are_all, both_indexes, default_of, is_same, is_same_by, is_same_plain}
use Rattle.smt_arrays.specs.Reading.{read}
use Rattle.smt_arrays.proofs.ExtensionLemmas.{default_sort, extensional, flat_element, flat_same, is_one, of_arrays}
use Rattle.smt_arrays.proofs.ExtensionLemmas.{plain_same}
use Rattle.smt_arrays.proofs.SortLemmas.{read_sort}

-- ---- an element is the same as itself

two : (a b : Bool) → a ≡ true → b ≡ true → (a && b) ≡ true
two a b p q = ap (λ c. c && b) p ∙ q

truth_itself : (b : Bool) → beq b b ≡ true
truth_itself true = refl
truth_itself false = refl

plain_itself : (e : plain.Element) → plain_operations.is_same e e ≡ true
plain_itself (plain.Truth b) = truth_itself b
plain_itself (plain.Integer z) = (Decides-int_eq z z).1 refl
plain_itself (plain.Fraction n d) = two _ _ ((Decides-int_eq n n).1 refl) (eq-eqb d d refl)
plain_itself (plain.Vector v) = two _ _ (eq-eqb v.width v.width refl) (eq-eqb v.number v.number refl)
plain_itself (plain.Abstract x) = (bytes_eq-Decides x x).1 refl

pub same_itself : (e : Element) → is_array e ≡ false → is_same_plain e e ≡ true
same_itself (Plain e) h = plain_itself e
same_itself (Filled e) h = cc
same_itself (Written a i e) h = cc

each : (f : Element → Bool) (js : List Element) → ((i : Element) → f i ≡ true) → list_all f js ≡ true
each f [] h = refl
each f (j ∷ js) h = ap (λ b. b && list_all f js) (h j) ∙ each f js h

alike_itself : (same : Element → Element → Bool) (a : Element) → ((i : Element) → same (read a i) (read a i) ≡ true)
    → same (default_of a) (default_of a) ≡ true → are_alike same a a ≡ true
alike_itself same a h k =
    two (list_all (λ i. same (read a i) (read a i)) (both_indexes a a))
    (are_all (both_indexes a a) || same (default_of a) (default_of a))
    (each (λ i. same (read a i) (read a i)) (both_indexes a a) h) (by (are_all (both_indexes a a)))
  where
    by : (c : Bool) → (c || same (default_of a) (default_of a)) ≡ true
    by true = refl
    by false = k

flat_itself : (t : Sort) (e : Element) → depth t ≡ 0 → IsOfSort t e → is_same e e ≡ true
flat_itself t e d p =
    let n = flat_element t e d p in
    flat_same (is_same_by is_same_plain) e e n ∙ same_itself e n

inner_itself : (t : Sort) (e : Element) → depth t ≡ 0 → IsOfSort t e → is_same_by is_same_plain e e ≡ true
inner_itself t e d p = let n = flat_element t e d p in flat_same is_same_plain e e n ∙ same_itself e n

pub itself : (t : Sort) (e : Element) → depth t ≤ 1 → IsOfSort t e → is_same e e ≡ true
itself Boolean e d p = flat_itself Boolean e refl p
itself Int e d p = flat_itself Int e refl p
itself Real e d p = flat_itself Real e refl p
itself (Bits m) e d p = flat_itself (Bits m) e refl p
itself (Free n) e d p = flat_itself (Free n) e refl p
itself (Array s t) e d p =
    let none : depth t ≡ 0 = omega (arith, d) in
    of_arrays (is_same_by is_same_plain) e e (is_one s t e p) (is_one s t e p)
    ∙ alike_itself (is_same_by is_same_plain) e (λ i. inner_itself t (read e i) none (read_sort s t e i p))
    (inner_itself t (default_of e) none (default_sort s t e p))

-- ---- arrays that are read alike

read_alike : (s t : Sort) (a b some : Element) → depth s ≡ 0 → depth t ≤ 1 → IsOfSort s some → IsOfSort (Array s t) a
    → IsOfSort (Array s t) b → ((i : Element) → read a i ≡ read b i) → is_same a b ≡ true
read_alike s t a b some ds dt h p q k = (extensional s t a b some ds dt h p q).1
    (λ i r. subst (λ e. is_same (read a i) e ≡ true) (k i) (itself t (read a i) dt (read_sort s t a i p)))

pub what_is_there : (s t : Sort) (a i : Element) → depth s ≡ 0 → depth t ≤ 1 → IsOfSort (Array s t) a → IsOfSort s i
    → is_same (Written a i (read a i)) a ≡ true
what_is_there s t a i ds dt p h =
    read_alike s t (Written a i (read a i)) a i ds dt h (p, h, read_sort s t a i p) p
    (λ k. by k (is_same_plain k i) (plain_same k i))
  where
    by : (k : Element) (b : Bool) → (b ≡ true → k ≡ i) → cond b (read a i) (read a k) ≡ read a k
    by k true same = ap (read a) (sym (same refl))
    by k false same = refl

pub later_counts : (s t : Sort) (a i e f : Element) → depth s ≡ 0 → depth t ≤ 1 → IsOfSort (Array s t) a → IsOfSort s i
    → IsOfSort t e → IsOfSort t f → is_same (Written (Written a i e) i f) (Written a i f) ≡ true
later_counts s t a i e f ds dt p h q r =
    read_alike s t (Written (Written a i e) i f) (Written a i f) i ds dt h ((p, h, q), h, r) (p, h, r)
    (λ k. by k (is_same_plain k i))
  where
    by : (k : Element) (b : Bool) → cond b f (cond b e (read a k)) ≡ cond b f (read a k)
    by k true = refl
    by k false = refl

pub stores_commute : (s t : Sort) (a i j e f : Element) → depth s ≡ 0 → depth t ≤ 1 → IsOfSort (Array s t) a
    → IsOfSort s i → IsOfSort s j → IsOfSort t e → IsOfSort t f → is_same i j ≡ false
    → is_same (Written (Written a i e) j f) (Written (Written a j f) i e) ≡ true
stores_commute s t a i j e f ds dt p h k q r differ =
    read_alike s t (Written (Written a i e) j f) (Written (Written a j f) i e) i ds dt h ((p, h, q), k, r)
    ((p, k, r), h, q)
    (λ l. by l (is_same_plain l i) (is_same_plain l j) (plain_same l i) (plain_same l j))
  where
    none : i ≡ j → ⊥
    none e = true≢false (sym (subst (λ x. is_same i x ≡ true) e (flat_itself s i ds h)) ∙ differ)

    by : (l : Element) (b c : Bool) → (b ≡ true → l ≡ i) → (c ≡ true → l ≡ j)
        → cond c f (cond b e (read a l)) ≡ cond b e (cond c f (read a l))
    by l true true same other = absurd (none (sym (same refl) ∙ other refl))
    by l true false same other = refl
    by l false true same other = refl
    by l false false same other = refl

-- ---- what is read where something is written

pub written_is_read : (a i e j : Element) → is_array i ≡ false → (read (Written a i e) i ≡ e)
    × (is_same j i ≡ false → read (Written a i e) j ≡ read a j)
written_is_read a i e j n = (here (is_same_plain i i) (same_itself i n), elsewhere)
  where
    here : (b : Bool) → b ≡ true → cond b e (read a i) ≡ e
    here true h = refl
    here false h = cc

    by : (b : Bool) → b ≡ false → cond b e (read a j) ≡ read a j
    by false h = refl
    by true h = cc

    off : (b c : Bool) → c ≡ false → (b && c) ≡ false
    off true c h = h
    off false c h = refl

    elsewhere : is_same j i ≡ false → read (Written a i e) j ≡ read a j
    elsewhere h = by (is_same_plain j i)
        (sym (ap (λ c. cond c (are_alike (is_same_by is_same_plain) j i) (is_same_plain j i))
        (off (is_array j) (is_array i) n)) ∙ h)
