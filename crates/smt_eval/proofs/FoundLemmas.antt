-- What a look-up says.
use Rattle.std.proofs.Common.{◌≡◌, ℕ, List, [], ◌∷◌, length, slice_get, Some}
use Rattle.std.proofs.Common.{sym, ◌∙◌}
use Rattle.smt_terms.specs.Signature.{Entry}

-- a place has one entry
pub same_entry : (es : List Entry) (n : ℕ) (a b : Entry) → slice_get es n ≡ Some a → slice_get es n ≡ Some b
    → a ≡ b
same_entry es n a b h i = let both : Some a ≡ Some b = sym h ∙ i in cc

-- a list of length 0
pub empty_of : {A : Type 0} (xs : List A) → length xs ≡ 0 → xs ≡ []
empty_of [] h = cc
empty_of (x ∷ xs) h = cc
