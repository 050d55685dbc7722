-- Whether a name is known.
use Rattle.std.proofs.Common.{◌≡◌, Bool, true, false, ◌&&◌, ◌||◌, Option, Some, None, is_some, option_map}
use Rattle.std.proofs.Common.{refl, ap, sym, ◌∙◌}

-- whether something is found does not hang on what is seen of it
pub some_map : {A B : Type 0} (f : A → B) (o : Option A) → is_some (option_map f o) ≡ is_some o
some_map f None = refl
some_map f (Some a) = refl

-- a name that is not taken is no element's, and stands for nothing
pub free_name : {B : Type 0} (e : Bool) (p : Option B) (b : Bool) → (e || is_some p) || b ≡ false
    → (e ≡ false) × (p ≡ None)
free_name false None b h = (refl, refl)
free_name false (Some a) b h = cc
free_name true p b h = cc

-- something is found for the one where it is for the other
pub same_some : {A B C : Type 0} (f : A → C) (g : B → C) (o : Option A) (r : Option B)
    → option_map f o ≡ option_map g r → is_some o ≡ is_some r
same_some f g o r h = sym (some_map f o) ∙ ap is_some h ∙ some_map g r

-- a conjunction that goes on is its second part
pub and_then : (a b c d : Bool) → a ≡ true → a ≡ b → c ≡ d → c ≡ (b && d)
and_then a true c d h i j = j
and_then a false c d h i j = cc

-- and one that ends is false
pub and_else : (a b d : Bool) → a ≡ false → a ≡ b → a ≡ (b && d)
and_else a true d h i = cc
and_else a false d h i = i

-- a disjunction that ends is true
pub or_then : (a b d : Bool) → a ≡ true → a ≡ b → a ≡ (b || d)
or_then true b d h i = ap (λ c. c || d) i
or_then false b d h i = cc

-- and one that goes on is its second part
pub or_else : (a b c d : Bool) → a ≡ false → a ≡ b → c ≡ d → c ≡ (b || d)
or_else true b c d h i j = cc
or_else false b c d h i j = j ∙ ap (λ e. e || d) i

-- what is true is not false
pub never_then : {B : Type 0} (a : Bool) → a ≡ true → a ≡ false → B
never_then true h i = cc
never_then false h i = cc

-- where a search for something fails, there is nothing
pub none_found : {A : Type 0} (a : Bool) (o : Option A) → a ≡ false → a ≡ is_some o → o ≡ None
none_found a None h i = refl
none_found true (Some x) h i = cc
none_found false (Some x) h i = cc
