-- What a look-up that answers with something has found.
use Rattle.std.proofs.Common.{◌≡◌, ◌⊎◌, inl, inr, ℕ, Bool, true, false, cond, List, [], ◌∷◌, Option, Some}
use Rattle.std.proofs.Common.{None, Ok, refl, ap, ◌∙◌, subst}
use Rattle.std.specs.Prelude.{IsTrue, bytes_eq, find, option_map, ok_or}
use Rattle.std.specs.Bool.{then_some}
use Rattle.std.specs.Option.{option_or}
use Rattle.smt_theory.specs.Words.{if_passes}
use Rattle.std.proofs.lemmas.Slice.Eq.{bytes_eq-Decides}

-- each element has the property
abbrev pub Each : {A : Type 0} → (A → Type 0) → List A → Type 0
Each P [] = Unit {0}
Each P (x ∷ xs) = P x × Each P xs

-- what is found by its name has that name, and what each element has
pub find_named : {O : Type 0} (name : O → List ℕ) (P : O → Type 0) (symbol : List ℕ) (ops : List O) (op : O)
    → Each P ops → find (λ o. bytes_eq symbol (name o)) ops ≡ Some op → (symbol ≡ name op) × P op
find_named name P symbol [] op each h = cc
find_named {O} name P symbol (o ∷ ops) op each h = by (bytes_eq symbol (name o))
    (bytes_eq-Decides symbol (name o)).0 (find_named name P symbol ops op each.1) h
  where
    by : (b : Bool) → (b ≡ true → symbol ≡ name o)
        → (find (λ o. bytes_eq symbol (name o)) ops ≡ Some op → (symbol ≡ name op) × P op)
        → cond b (Some o) (find (λ o. bytes_eq symbol (name o)) ops) ≡ Some op → (symbol ≡ name op) × P op
    by true is rest h = let e : o ≡ op = cc in (is refl ∙ ap name e, subst P e each.0)
    by false is rest h = rest h

pub map-some : {A B : Type 0} (f : A → B) (o : Option A) (y : B) → option_map f o ≡ Some y
    → (x : A) × (o ≡ Some x) × (f x ≡ y)
map-some f None y h = cc
map-some f (Some x) y h = (x, refl, cc)

pub option_or-some : {A : Type 0} (a b : Option A) (x : A) → option_or a b ≡ Some x
    → (a ≡ Some x) ⊎ (b ≡ Some x)
option_or-some None b x h = inr h
option_or-some (Some y) b x h = inl h

pub when-some : {A : Type 0} (b : Bool) (o : Option A) (x : A) → cond b o None ≡ Some x
    → IsTrue b × (o ≡ Some x)
when-some true o x h = (refl, h)
when-some false o x h = cc

pub passes-some : {A : Type 0} (test : A → Bool) (o : Option A) (x : A) → if_passes test o ≡ Some x
    → IsTrue (test x) × (o ≡ Some x)
passes-some test None x h = cc
passes-some test (Some y) x h = by (test y) (λ e. e) h
  where
    by : (b : Bool) → (b ≡ true → test y ≡ true) → then_some b y ≡ Some x → IsTrue (test x) × (Some y ≡ Some x)
    by true e h = (let is : y ≡ x = cc in subst (λ z. IsTrue (test z)) is (e refl), h)
    by false e h = cc

pub ok_or-Ok : {A F : Type 0} (o : Option A) (fault : F) (x : A) → ok_or o fault ≡ Ok x → o ≡ Some x
ok_or-Ok None fault x h = cc
ok_or-Ok (Some y) fault x h = cc
