-- Names that pass the test are the same. A crate cites no lemma of another, so `smt_terms` proves some of
-- these for itself.
use Rattle.std.proofs.Common.{◌≡◌, ℕ, Bool, true, false, cond, List, Option, Some, None, refl, ap, sym, ◌∙◌}
use Rattle.std.specs.Str.{bytes_eq}
use Rattle.std.specs.Cmp.Lexicographic.{same_text}
use Rattle.std.proofs.lemmas.Cmp.{nat_list_eq_equiv}

pub same_name : (x y : List ℕ) → bytes_eq x y ≡ true → x ≡ y
same_name x y h = same_text x y (sym h)

-- and a name passes it with itself
pub same_self : (x : List ℕ) → bytes_eq x x ≡ true
same_self x = nat_list_eq_equiv.refl x

-- names that differ do so either way round
pub same_flip : (x y : List ℕ) → bytes_eq x y ≡ false → bytes_eq y x ≡ false
same_flip x y h = by (bytes_eq y x) refl
  where
    by : (b : Bool) → bytes_eq y x ≡ b → b ≡ false
    by false e = refl
    by true e = let s : y ≡ x = same_name y x e
        in let t : bytes_eq x y ≡ true = ap (λ z. bytes_eq x z) s ∙ same_self x in cc

-- a test that picks nothing has failed
pub none_step : {A : Type 0} (b : Bool) (a : A) (r : Option A) → cond b (Some a) r ≡ None
    → (b ≡ false) × (r ≡ None)
none_step true a r h = cc
none_step false a r h = (refl, h)
