-- Parameters beside arguments, one by one.
use Rattle.std.proofs.Common.{◌≡◌, ◌≤◌, ◌<◌, ℕ, zero, suc, ◌+◌, List, [], ◌∷◌, drop, get_or, length, map, min}
use Rattle.std.proofs.Common.{refl, ap, sym, ◌∙◌, arith}
use Rattle.std.proofs.lemmas.List.{drop_more}
use Rattle.std.specs.List.{zip}

-- the next of both
pub zip_on : {P V A B : Type 0} (f : P → A) (g : V → B) (ps : List P) (vs : List V) (n : ℕ) (p : P) (v : V)
    → n < length ps → n < length vs → p ≡ get_or ps n p → v ≡ get_or vs n v
    → zip (map f (drop n ps)) (map g (drop n vs))
    ≡ (f p, g v) ∷ zip (map f (drop (n + 1) ps)) (map g (drop (n + 1) vs))
zip_on f g ps vs n p v h i is at =
    ap (λ xs. zip (map f xs) (map g (drop n vs)))
    (drop_more ps n p h ∙ ap (λ x. x ∷ drop (n + 1) ps) (sym is))
    ∙ ap (λ ys. zip (f p ∷ map f (drop (n + 1) ps)) (map g ys))
    (drop_more vs n v i ∙ ap (λ y. y ∷ drop (n + 1) vs) (sym at))

zip_nil : {A B : Type 0} (xs : List A) → zip {K = A} {X = B} xs [] ≡ []
zip_nil [] = refl
zip_nil (x ∷ xs) = refl

-- where one is at its end
pub zip_done : {P V A B : Type 0} (f : P → A) (g : V → B) (ps : List P) (vs : List V) (n : ℕ)
    → min (length ps) (length vs) ≤ n → zip (map f (drop n ps)) (map g (drop n vs)) ≡ []
zip_done f g [] vs zero h = refl
zip_done f g [] vs (suc n) h = refl
zip_done f g (p ∷ ps) [] zero h = refl
zip_done f g (p ∷ ps) [] (suc n) h = zip_nil (map f (drop n ps))
zip_done f g (p ∷ ps) (v ∷ vs) zero h = absurd (omega (arith, h))
zip_done f g (p ∷ ps) (v ∷ vs) (suc n) h = zip_done f g ps vs n (omega (arith, h))
