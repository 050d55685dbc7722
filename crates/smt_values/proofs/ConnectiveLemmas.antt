-- Chains of equals, and the implications that one argument decides.
use Rattle.std.proofs.Common.{◌≡◌, Bool, true, false, ◌||◌, ◌&&◌, List, [], ◌∷◌, ◌++◌, Option, Some, refl}
use Rattle.std.specs.List.{list_any}
use Rattle.smt_values.specs.Element.{Element, Truth}
use Rattle.smt_values.specs.KnownOperations.{as_disjunction, decided, is_known}
use Rattle.smt_values.specs.Lists.{are_chained}
use Rattle.smt_values.specs.Operations.{is_same}

pub two_parts : (x y : Bool) → Truth (x && y) ≡ Truth ((x && true) && (y && true))
two_parts true true = refl
two_parts true false = refl
two_parts false y = refl

pub equal_chain : (a b c : Element) (rest : List Element)
    → Truth (are_chained is_same (a ∷ b ∷ c ∷ rest))
    ≡ Truth ((is_same a b && true) && (are_chained is_same (b ∷ c ∷ rest) && true))
equal_chain a b c rest = two_parts (is_same a b) (are_chained is_same (b ∷ c ∷ rest))

second : (x y : Bool) → y ≡ true → x || y ≡ true
second true y h = refl
second false y h = h

decides : (args : List (Option Element)) → list_any (is_known true) args ≡ true
    → decided true args ≡ Some (Truth true)
decides args h = rw h refl

some_false : (before after : List (Option Element)) (next : Option Element)
    → list_any (is_known true) (as_disjunction (before ++ Some (Truth false) ∷ next ∷ after)) ≡ true
some_false [] after next = refl
some_false (a ∷ []) after next = second _ _ (some_false [] after next)
some_false (a ∷ b ∷ before) after next = second _ _ (some_false (b ∷ before) after next)

pub false_premise : (before after : List (Option Element)) (next : Option Element)
    → decided true (as_disjunction (before ++ Some (Truth false) ∷ next ∷ after)) ≡ Some (Truth true)
false_premise before after next =
    decides (as_disjunction (before ++ Some (Truth false) ∷ next ∷ after)) (some_false before after next)

last_true : (before : List (Option Element))
    → list_any (is_known true) (as_disjunction (before ++ Some (Truth true) ∷ [])) ≡ true
last_true [] = refl
last_true (a ∷ []) = second _ _ (last_true [])
last_true (a ∷ b ∷ before) = second _ _ (last_true (b ∷ before))

pub true_conclusion : (before : List (Option Element))
    → decided true (as_disjunction (before ++ Some (Truth true) ∷ [])) ≡ Some (Truth true)
true_conclusion before = decides (as_disjunction (before ++ Some (Truth true) ∷ [])) (last_true before)
