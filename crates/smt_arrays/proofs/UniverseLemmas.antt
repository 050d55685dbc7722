-- What is known of the sameness of two arrays holds in each universe of their indexes.
use Rattle.std.proofs.Common.{◌≡◌, ◌↔◌, Bool, true, false, cond, ◌&&◌, ◌||◌, List, [], ◌∷◌, Option, Some, None}
use Rattle.std.proofs.Common.{map, refl, sym, ap, ◌∙◌, subst, arith, true≢false}
use Rattle.std.specs.List.{list_any}
use Rattle.smt_theory.specs.Sort.{Sort, Boolean, Int, Real, Bits, Free, Array, command_of_sort}
use Rattle.smt_values.specs.Element as plain
use Rattle.smt_arrays.specs.Element.{Element, Plain, Filled, Written, IsOfSort, IsUniverse, depth, is_array}
use Rattle.smt_arrays.specs.Known.{are_named, is_known_to_be, known_alike, known_default, known_same, known_same_by}
use Rattle.smt_arrays.specs.Known.{unless_different}
use Rattle.smt_arrays.specs.Reading.{are_all, both_indexes, default_of, is_among, is_same, is_same_by, is_same_plain}
use Rattle.smt_arrays.specs.Reading.{read}
use Rattle.smt_arrays.proofs.ExtensionLemmas.{AreAll, both_are, both_default, default_sort, extensional, flat}
use Rattle.smt_arrays.proofs.ExtensionLemmas.{flat_element}
use Rattle.smt_arrays.proofs.ExtensionLemmas.{flat_same, fresh, is_one, wide}
use Rattle.smt_arrays.proofs.SamenessLemmas.{same_told, so_false, to_be_false}
use Rattle.smt_arrays.proofs.SortLemmas.{read_sort}
use Rattle.smt_arrays.proofs.StoreLemmas.{same_itself}

pub of_plain : (same : Element → Element → Option Bool) (c d : Element) → is_array c ≡ false
    → known_same_by same c d ≡ Some (is_same_plain c d)
of_plain same (Plain c) d h = refl
of_plain same (Filled e) d h = cc
of_plain same (Written a i e) d h = cc

some_same : (x y : Bool) → Some x ≡ Some y → x ≡ y
some_same true true h = refl
some_same false false h = refl
some_same true false h = cc
some_same false true h = cc

-- one of these indexes is where two arrays are known to differ
one_of : (known : Element → Option Bool) (s : Sort) (js : List Element) → depth s ≡ 0 → AreAll s js
    → list_any (is_known_to_be false) (map known js) ≡ true
    → (i : Element) × IsOfSort s i × (is_among i js ≡ true) × (known i ≡ Some false)
one_of known s [] d h k = cc
one_of known s (j ∷ js) d h k =
    by (is_known_to_be false (known j)) refl k (λ k. one_of known s js d h.1 k)
  where
    last : (b c : Bool) → c ≡ true → (b || c) ≡ true
    last true c e = refl
    last false c e = e

    by : (b : Bool) → is_known_to_be false (known j) ≡ b
        → (b || list_any (is_known_to_be false) (map known js)) ≡ true
        → (list_any (is_known_to_be false) (map known js) ≡ true
        → (i : Element) × IsOfSort s i × (is_among i js ≡ true) × (known i ≡ Some false))
        → (i : Element) × IsOfSort s i × (is_among i (j ∷ js) ≡ true) × (known i ≡ Some false)
    by true e k rest =
        (j, h.0, ap (λ b. b || is_among j js) (same_itself j (flat_element s j d h.0)), to_be_false (known j) e)
    by false e k rest =
        let r = rest k in (r.0, r.1, last (is_same_plain r.0 j) (is_among r.0 js) r.2, r.3)

-- indexes that are no names are all elements of the sort
not_named : (s : Sort) (j : Element) (js : List Element) → depth s ≡ 0 → AreAll s (j ∷ js) → are_named (j ∷ js) ≡ false
    → command_of_sort s ≡ None
not_named Boolean j js d h n = refl
not_named Int j js d h n = refl
not_named Real j js d h n = refl
not_named (Bits m) j js d h n = refl
not_named (Array s t) j js d h n = refl
not_named (Free c) (Filled e) js d h n = absurd h.0
not_named (Free c) (Written a i e) js d h n = absurd h.0
not_named (Free c) (Plain (plain.Truth b)) js d h n = absurd h.0
not_named (Free c) (Plain (plain.Integer z)) js d h n = absurd h.0
not_named (Free c) (Plain (plain.Fraction z e)) js d h n = absurd h.0
not_named (Free c) (Plain (plain.Vector v)) js d h n = absurd h.0
not_named (Free c) (Plain (plain.Abstract x)) js d h n = cc

-- where the defaults are known to differ, a universe has an index that is not written
unwritten : (s : Sort) (js : List Element) (universe : Element → Bool) (some : Element) → depth s ≡ 0 → AreAll s js
    → IsUniverse s universe → universe some ≡ true → are_all js ≡ false → are_named js ≡ false
    → (i : Element) × (universe i ≡ true) × (is_among i js ≡ false)
unwritten s [] universe some d h u p a n = (some, p, refl)
unwritten s (j ∷ js) universe some d h u p a n =
    let f = fresh s (j ∷ js) (flat s d) (wide s some (u.0 some p)) h a in
    (f.0, u.1 (not_named s j js d h n) f.0 f.1, f.2)

-- the defaults are known to differ only where neither all indexes are written nor they are names
defaults_differ : (all named : Bool) (x : Bool) → cond all (Some true) (cond named (unless_different (Some x)) (Some x))
    ≡ Some false
    → (all ≡ false) × (named ≡ false) × (x ≡ false)
defaults_differ true named x h = cc
defaults_differ false true true h = cc
defaults_differ false true false h = cc
defaults_differ false false true h = cc
defaults_differ false false false h = (refl, refl, refl)

known_arrays : (same : Element → Element → Option Bool) (a b : Element) → is_array a ≡ true → is_array b ≡ true
    → known_same_by same a b ≡ known_alike same a b
known_arrays same a b p q = by (is_array a) (is_array b) p q
  where
    by : (x y : Bool) → x ≡ true → y ≡ true
        → cond (x && y) (known_alike same a b) (Some (is_same_plain a b)) ≡ known_alike same a b
    by true true p q = refl
    by false y p q = cc
    by true false p q = cc

-- where arrays are known to differ, they do so at an index of each universe that has those that are written
difference : (s t : Sort) (a b some : Element) (universe : Element → Bool) → depth s ≡ 0 → depth t ≡ 0
    → IsOfSort (Array s t) a → IsOfSort (Array s t) b → IsUniverse s universe → universe some ≡ true
    → ((i : Element) → IsOfSort s i → is_among i (both_indexes a b) ≡ true → universe i ≡ true) → known_same a b
    ≡ Some false
    → (i : Element) × (universe i ≡ true) × (is_same_plain (read a i) (read b i) ≡ false)
difference s t a b some universe ds dt p q u here written h =
    by (is_known_to_be false (known_default same a b)) refl
    (so_false found (sym (known_arrays same a b (is_one s t a p) (is_one s t b q)) ∙ h))
  where
    same : Element → Element → Option Bool
    same = known_same_by (λ c d. Some (is_same_plain c d))

    found : List (Option Bool)
    found = known_default same a b ∷ map (λ i. same (read a i) (read b i)) (both_indexes a b)

    indexes_of : AreAll s (both_indexes a b)
    indexes_of = both_are s t a b p q

    defaults : same (default_of a) (default_of b) ≡ Some (is_same_plain (default_of a) (default_of b))
    defaults = of_plain (λ c d. Some (is_same_plain c d)) (default_of a) (default_of b)
        (flat_element t (default_of a) dt (default_sort s t a p))

    of_default : known_default same a b ≡ Some false
        → (i : Element) × (universe i ≡ true) × (is_same_plain (read a i) (read b i) ≡ false)
    of_default e =
        let told = defaults_differ (are_all (both_indexes a b)) (are_named (both_indexes a b))
        (is_same_plain (default_of a) (default_of b))
        (subst (λ o. cond (are_all (both_indexes a b)) (Some true)
        (cond (are_named (both_indexes a b)) (unless_different o) o) ≡ Some false)
        defaults e) in
        let r = unwritten s (both_indexes a b) universe some ds indexes_of u here told.0 told.1 in
        (r.0, r.1, both_default is_same_plain a b r.0 r.2 ∙ told.2)

    of_written : list_any (is_known_to_be false) (map (λ i. same (read a i) (read b i)) (both_indexes a b)) ≡ true
        → (i : Element) × (universe i ≡ true) × (is_same_plain (read a i) (read b i) ≡ false)
    of_written e =
        let r = one_of (λ i. same (read a i) (read b i)) s (both_indexes a b) ds indexes_of e in
        let plain_one : same (read a r.0) (read b r.0) ≡ Some (is_same_plain (read a r.0) (read b r.0)) =
        of_plain (λ c d. Some (is_same_plain c d)) (read a r.0) (read b r.0)
        (flat_element t (read a r.0) dt (read_sort s t a r.0 p)) in
        (r.0, written r.0 r.1 r.2, some_same _ _ (sym plain_one ∙ r.3))

    by : (c : Bool) → is_known_to_be false (known_default same a b) ≡ c
        → (c || list_any (is_known_to_be false) (map (λ i. same (read a i) (read b i)) (both_indexes a b))) ≡ true
        → (i : Element) × (universe i ≡ true) × (is_same_plain (read a i) (read b i) ≡ false)
    by true e k = of_default (to_be_false (known_default same a b) e)
    by false e k = of_written k

pub in_each_universe : (s t : Sort) (a b some : Element) (universe : Element → Bool) (known : Bool) → depth s ≡ 0
    → depth t ≡ 0
    → IsOfSort (Array s t) a → IsOfSort (Array s t) b → IsUniverse s universe → universe some ≡ true
    → ((i : Element) → IsOfSort s i → is_among i (both_indexes a b) ≡ true → universe i ≡ true) → known_same a b
    ≡ Some known
    → (known ≡ true) ↔ ((i : Element) → universe i ≡ true → is_same (read a i) (read b i) ≡ true)
in_each_universe s t a b some universe known ds dt p q u here written h = (there, back known h)
  where
    there : known ≡ true → (i : Element) → universe i ≡ true → is_same (read a i) (read b i) ≡ true
    there e i r = (extensional s t a b some ds (omega (arith, dt)) (u.0 some here) p q).0 (same_told a b known h ∙ e) i
        (u.0 i r)

    back : (known : Bool) → known_same a b ≡ Some known →
        ((i : Element) → universe i ≡ true → is_same (read a i) (read b i) ≡ true)
        → known ≡ true
    back true h all = refl
    back false h all =
        let r = difference s t a b some universe ds dt p q u here written h in
        absurd (true≢false (sym (all r.0 r.1)
        ∙ flat_same (is_same_by is_same_plain) (read a r.0) (read b r.0)
        (flat_element t (read a r.0) dt (read_sort s t a r.0 p))
        ∙ r.2))
