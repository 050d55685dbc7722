-- Names that are new, and no element's.
use Rattle.std.proofs.Common.{◌≡◌, ℕ, zero, suc, Bool, true, false, cond, List, [], ◌∷◌, ◌++◌, take, Option}
use Rattle.std.proofs.Common.{Some, None, refl, ap, sym, ◌∙◌}
use Rattle.std.specs.Prelude.{bytes_eq}
use Rattle.smt_theory.specs.Words.{look_up}
use Rattle.smt_terms.specs.Denotes.{AreApart, Head}
use Rattle.smt_terms.specs.Elements.{ElementNames, element_among}
use Rattle.smt_terms.proofs.NameLemmas.{none_step, same_name}

-- what is found is not missed
pub missed : {A B : Type 0} (o : Option A) (a : A) → o ≡ None → o ≡ Some a → B
missed None a none some = cc
missed (Some b) a none some = cc

-- what is not in a list is looked up behind it
look_up-behind : {A : Type 0} (xs ys : List (List ℕ × A)) (x : List ℕ) → look_up xs x ≡ None
    → look_up (xs ++ ys) x ≡ look_up ys x
look_up-behind [] ys x h = refl
look_up-behind (p ∷ xs) ys x h =
    let n = none_step (bytes_eq x p.0) p.1 (look_up xs x) h in
    ap (λ b. cond b (Some p.1) (look_up (xs ++ ys) x)) n.0 ∙ look_up-behind xs ys x n.1

-- what is among the first so many is among all
look_up-taken : {A : Type 0} (n : ℕ) (xs : List (List ℕ × A)) (x : List ℕ) (a : A)
    → look_up (take n xs) x ≡ Some a → look_up xs x ≡ Some a
look_up-taken zero xs x a h = cc
look_up-taken (suc n) [] x a h = cc
look_up-taken (suc n) (p ∷ xs) x a h = by (bytes_eq x p.0) h (look_up-taken n xs x a)
  where
    by : (b : Bool) → cond b (Some p.1) (look_up (take n xs) x) ≡ Some a
        → (look_up (take n xs) x ≡ Some a → look_up xs x ≡ Some a)
        → cond b (Some p.1) (look_up xs x) ≡ Some a
    by true h next = h
    by false h next = next h

-- where no name comes, none is an element's
pub apart_same : (elements : Option ElementNames) (heads more : List (List ℕ × Head)) → more ≡ heads
    → AreApart elements heads more
apart_same elements heads more same x head none some =
    missed (look_up heads x) head none (ap (λ hs. look_up hs x) (sym same) ∙ some)

-- where one comes, it is that one
pub apart_one : (elements : Option ElementNames) (heads more : List (List ℕ × Head)) (name : List ℕ) (new : Head)
    → more ≡ heads ++ (name, new) ∷ [] → element_among elements name ≡ None → AreApart elements heads more
apart_one elements heads more name new is free x head none some =
    by (bytes_eq x name) refl
    (sym (look_up-behind heads ((name, new) ∷ []) x none) ∙ ap (λ hs. look_up hs x) (sym is) ∙ some)
  where
    by : (b : Bool) → bytes_eq x name ≡ b → cond b (Some new) None ≡ Some head → element_among elements x ≡ None
    by true same g = ap (element_among elements) (same_name x name same) ∙ free
    by false same g = cc

-- names that come one after another
pub apart_on : (elements : Option ElementNames) (heads more most : List (List ℕ × Head))
    → AreApart elements heads more → AreApart elements more most → AreApart elements heads most
apart_on elements heads more most first second x head none some = by (look_up more x) refl
  where
    by : (o : Option Head) → look_up more x ≡ o → element_among elements x ≡ None
    by None is = second x head is some
    by (Some found) is = first x found none is

-- a name that comes among the first so many comes among all
first_apart : {G : Type 0} (more : List (List ℕ × Head)) (x : List ℕ) (head : Head) (n : ℕ)
    (heads : List (List ℕ × Head)) → (look_up heads x ≡ None → look_up (heads ++ more) x ≡ Some head → G)
    → look_up (take n heads) x ≡ None → look_up (take n (heads ++ more)) x ≡ Some head → G
first_apart more x head zero heads is none some = cc
first_apart more x head (suc n) [] is none some = is refl (look_up-taken (suc n) more x head some)
first_apart {G} more x head (suc n) (p ∷ heads) is none some =
    by (bytes_eq x p.0) is none some (first_apart more x head n heads)
  where
    by : (b : Bool)
        → (cond b (Some p.1) (look_up heads x) ≡ None → cond b (Some p.1) (look_up (heads ++ more) x) ≡ Some head → G)
        → cond b (Some p.1) (look_up (take n heads) x) ≡ None
        → cond b (Some p.1) (look_up (take n (heads ++ more)) x) ≡ Some head
        → ((look_up heads x ≡ None → look_up (heads ++ more) x ≡ Some head → G) → look_up (take n heads) x ≡ None
        → look_up (take n (heads ++ more)) x ≡ Some head → G) → G
    by true is none some rest = cc
    by false is none some rest = rest is none some

pub apart_first : (elements : Option ElementNames) (n : ℕ) (heads more : List (List ℕ × Head))
    → AreApart elements heads (heads ++ more) → AreApart elements (take n heads) (take n (heads ++ more))
apart_first elements n heads more apart x head none some = first_apart more x head n heads (apart x head) none some
