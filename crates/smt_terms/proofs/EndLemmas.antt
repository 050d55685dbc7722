-- How many nodes the bodies of definitions need.
use Rattle.std.proofs.Common.{◌≡◌, ◌<◌, ◌≤◌, ◌+◌, ◌-◌, ℕ, zero, suc, List, [], ◌∷◌, ◌++◌, length, max, slice_get, take}
use Rattle.std.proofs.Common.{Some, None, refl, ap, sym, ◌∙◌, subst, arith}
use Rattle.std.specs.List.{All}
use Rattle.std.proofs.lemmas.List.Elements.{All-cons, All-nil}
use Rattle.smt_terms.specs.Ends.{end_of, ends_from}

pub ends-take : (k n : ℕ) (js : List ℕ) → take k (ends_from n js) ≡ ends_from n (take k js)
ends-take zero n js = refl
ends-take (suc k) n [] = refl
ends-take (suc k) n (j ∷ js) =
    ap (λ (es : List ℕ). max n (j + 1) ∷ es) (ends-take k (max n (j + 1)) js)

pub ends-push : (n : ℕ) (js : List ℕ) (j : ℕ)
    → ends_from n (js ++ j ∷ []) ≡ ends_from n js ++ max (max n (end_of js)) (j + 1) ∷ []
ends-push n [] j =
    let same : max n (j + 1) ≡ max (max n 0) (j + 1) = omega arith in ap (λ (e : ℕ). e ∷ []) same
ends-push n (i ∷ js) j =
    let m : ℕ = max n (i + 1) in
    let same : max (max m (end_of js)) (j + 1) ≡ max (max n (max (i + 1) (end_of js))) (j + 1) = omega arith in
    ap (λ (es : List ℕ). m ∷ es) (ends-push m js j ∙ ap (λ (e : ℕ). ends_from m js ++ e ∷ []) same)

-- the last of these, or else n
abbrev last_or : ℕ → List ℕ → ℕ
last_or n [] = n
last_or n (e ∷ es) = last_or e es

at_last : (e : ℕ) (es : List ℕ) → slice_get (e ∷ es) (length es) ≡ Some (last_or e es)
at_last e [] = refl
at_last e (f ∷ es) = at_last f es

last_end : (n : ℕ) (js : List ℕ) → last_or n (ends_from n js) ≡ max n (end_of js)
last_end n [] = omega arith
last_end n (j ∷ js) =
    let same : max (max n (j + 1)) (end_of js) ≡ max n (max (j + 1) (end_of js)) = omega arith in
    last_end (max n (j + 1)) js ∙ same

-- the last of all ends is the end of all
pub end_is : (ends js : List ℕ) (end : ℕ) → ends ≡ ends_from 0 js → slice_get ends (length ends - 1) ≡ Some end
    → end ≡ end_of js
end_is ends js end is h = by js (subst (λ (es : List ℕ). slice_get es (length es - 1) ≡ Some end) is h)
  where
    by : (ks : List ℕ) → slice_get (ends_from 0 ks) (length (ends_from 0 ks) - 1) ≡ Some end → end ≡ end_of ks
    by [] g = cc
    by (k ∷ ks) g =
        let m : ℕ = max 0 (k + 1) in
        let es : List ℕ = ends_from m ks in
        let at : length (m ∷ es) - 1 ≡ length es = omega arith in
        let found : Some end ≡ Some (last_or m es) =
        sym g ∙ ap (λ (i : ℕ). slice_get (m ∷ es) i) at ∙ at_last m es in
        let same : end ≡ last_or m es = cc in
        let all : max m (end_of ks) ≡ max (k + 1) (end_of ks) = omega arith in
        same ∙ last_end m ks ∙ all

pub no_end_is : (ends js : List ℕ) → ends ≡ ends_from 0 js → slice_get ends (length ends - 1) ≡ None
    → 0 ≡ end_of js
no_end_is ends js is h = by js (subst (λ (es : List ℕ). slice_get es (length es - 1) ≡ None) is h)
  where
    by : (ks : List ℕ) → slice_get (ends_from 0 ks) (length (ends_from 0 ks) - 1) ≡ None → 0 ≡ end_of ks
    by [] g = refl
    by (k ∷ ks) g =
        let m : ℕ = max 0 (k + 1) in
        let es : List ℕ = ends_from m ks in
        let at : length (m ∷ es) - 1 ≡ length es = omega arith in
        let found : None ≡ Some (last_or m es) =
        sym g ∙ ap (λ (i : ℕ). slice_get (m ∷ es) i) at ∙ at_last m es in cc

-- one more body, and its end
pub ends_pushed : (ends bodies more_ends more : List ℕ) (node end : ℕ) → ends ≡ ends_from 0 bodies
    → more ≡ bodies ++ node ∷ [] → more_ends ≡ ends ++ end ∷ [] → end ≡ max (end_of bodies) (node + 1)
    → more_ends ≡ ends_from 0 more
ends_pushed ends bodies more_ends more node end ended pushed pushed_end is =
    let same : end ≡ max (max 0 (end_of bodies)) (node + 1) = omega (arith, is) in
    pushed_end ∙ ap (λ (es : List ℕ). es ++ end ∷ []) ended
    ∙ ap (λ (e : ℕ). ends_from 0 bodies ++ e ∷ []) same
    ∙ sym (ends-push 0 bodies node) ∙ ap (ends_from 0) (sym pushed)

-- as many ends as bodies
pub length-ends : (n : ℕ) (js : List ℕ) → length (ends_from n js) ≡ length js
length-ends n [] = refl
length-ends n (j ∷ js) = ap suc (length-ends (max n (j + 1)) js)

-- fewer bodies, and as many ends
pub ends_taken : (ends bodies : List ℕ) (m n : ℕ) → ends ≡ ends_from 0 bodies → m ≡ n
    → take m ends ≡ ends_from 0 (take n bodies)
ends_taken ends bodies m n ended same =
    ap (λ (es : List ℕ). take m es) ended ∙ ap (λ (k : ℕ). take k (ends_from 0 bodies)) same ∙ ends-take n 0 bodies

-- each number is below the end
pub are_below_end : (js : List ℕ) (n : ℕ) → end_of js ≤ n → All (λ j. j < n) js
are_below_end [] n most = All-nil (λ j. j < n)
are_below_end (j ∷ js) n most =
    All-cons (λ i. i < n) j js (omega (arith, most)) (are_below_end js n (omega (arith, most)))
