-- What is known of `=` and `distinct`, where no argument is an array; and of several tests of which some may be open.
use Rattle.std.proofs.Common.{◌≡◌, Bool, true, false, cond, not, ◌&&◌, ◌||◌, List, [], ◌∷◌, ◌++◌, Option, Some, None}
use Rattle.std.proofs.Common.{map, option_map, refl, sym, ap, ◌∙◌}
use Rattle.std.specs.List.{list_all, list_any, sum}
use Rattle.std.specs.Prelude.{nat_lt}
use Rattle.smt_values.specs.Element as plain
use Rattle.smt_values.specs.Lists.{are_chained, are_distinct}
use Rattle.smt_values.specs.Operations.{is_same}
use Rattle.smt_arrays.specs.Element.{Element, Plain}
use Rattle.smt_arrays.specs.Internal.{both}
use Rattle.smt_arrays.specs.Known.{are_all_so, is_known_to_be, is_slow, is_too_much, known_distinct, known_equal}
use Rattle.smt_arrays.specs.Known.{known_same}
use Rattle.smt_arrays.specs.Known.{neighbours_same, pairs_different, size}
use Rattle.smt_arrays.specs.Operations.{truth}

-- ---- several tests

pub so_more : (x : Option Bool) (xs : List (Option Bool)) → are_all_so (x ∷ xs) ≡ both x (are_all_so xs)
so_more (Some true) xs = refl
so_more (Some false) xs = refl
so_more None xs = by (list_any (is_known_to_be false) xs) (list_all (is_known_to_be true) xs)
  where
    by : (b c : Bool) → cond b (Some false) None ≡ both None (cond b (Some false) (cond c (Some true) None))
    by true c = refl
    by false true = refl
    by false false = refl

pub both_more : (x y z : Option Bool) → both (both x y) z ≡ both x (both y z)
both_more (Some true) y z = refl
both_more (Some false) y z = refl
both_more None (Some true) z = refl
both_more None (Some false) z = refl
both_more None None None = refl
both_more None None (Some true) = refl
both_more None None (Some false) = refl

pub so_both : (xs ys : List (Option Bool)) → are_all_so (xs ++ ys) ≡ both (are_all_so xs) (are_all_so ys)
so_both [] ys = refl
so_both (x ∷ xs) ys =
    so_more x (xs ++ ys) ∙ ap (both x) (so_both xs ys) ∙ sym (both_more x (are_all_so xs) (are_all_so ys))
    ∙ ap (λ o. both o (are_all_so ys)) (sym (so_more x xs))

-- ---- no argument is an array

none_slow : (es : List plain.Element) → list_any is_slow (map Plain es) ≡ false
none_slow [] = refl
none_slow (e ∷ es) = none_slow es

not_too_much : (es : List plain.Element) (o : Option Element) → cond (is_too_much (map Plain es)) None o ≡ o
not_too_much es o =
    ap (λ b. cond (b && nat_lt 256 (sum (map size (map Plain es)))) None o) (none_slow es)

plain_neighbours : (es : List plain.Element)
    → are_all_so (neighbours_same (map Plain es)) ≡ Some (are_chained is_same es)
plain_neighbours [] = refl
plain_neighbours (a ∷ []) = refl
plain_neighbours (a ∷ b ∷ rest) =
    so_more (Some (is_same a b)) (neighbours_same (map Plain (b ∷ rest)))
    ∙ ap (both (Some (is_same a b))) (plain_neighbours (b ∷ rest)) ∙ by (is_same a b)
  where
    by : (c : Bool) → both (Some c) (Some (are_chained is_same (b ∷ rest))) ≡ Some (c && are_chained is_same (b ∷ rest))
    by true = refl
    by false = refl

plain_others : (a : plain.Element) (es : List plain.Element)
    → are_all_so (map (λ b. option_map not (known_same (Plain a) b)) (map Plain es)) ≡ Some
    (not (list_any (is_same a) es))
plain_others a [] = refl
plain_others a (b ∷ rest) =
    so_more (Some (not (is_same a b))) (map (λ b. option_map not (known_same (Plain a) b)) (map Plain rest))
    ∙ ap (both (Some (not (is_same a b)))) (plain_others a rest) ∙ by (is_same a b)
  where
    by : (c : Bool) → both (Some (not c)) (Some (not (list_any (is_same a) rest))) ≡ Some
        (not (c || list_any (is_same a) rest))
    by true = refl
    by false = refl

plain_pairs : (es : List plain.Element)
    → are_all_so (pairs_different (map Plain es)) ≡ Some (are_distinct is_same es)
plain_pairs [] = refl
plain_pairs (a ∷ rest) =
    so_both (map (λ b. option_map not (known_same (Plain a) b)) (map Plain rest)) (pairs_different (map Plain rest))
    ∙ ap (λ o. both o (are_all_so (pairs_different (map Plain rest)))) (plain_others a rest)
    ∙ ap (both (Some (not (list_any (is_same a) rest)))) (plain_pairs rest) ∙ by (not (list_any (is_same a) rest))
  where
    by : (c : Bool) → both (Some c) (Some (are_distinct is_same rest)) ≡ Some (c && are_distinct is_same rest)
    by true = refl
    by false = refl

pub equal_plain : (es : List plain.Element) → known_equal (map Plain es) ≡ Some
    (Plain (plain.Truth (are_chained is_same es)))
equal_plain es =
    not_too_much es (option_map truth (are_all_so (neighbours_same (map Plain es))))
    ∙ ap (option_map truth) (plain_neighbours es)

pub distinct_plain : (es : List plain.Element)
    → known_distinct (map Plain es) ≡ Some (Plain (plain.Truth (are_distinct is_same es)))
distinct_plain es =
    not_too_much es (option_map truth (are_all_so (pairs_different (map Plain es))))
    ∙ ap (option_map truth) (plain_pairs es)
