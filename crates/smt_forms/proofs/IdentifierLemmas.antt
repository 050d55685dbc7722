-- Indexes, one at a time.
use Rattle.std.proofs.Common.{◌≡◌, List, [], ◌∷◌, ◌++◌, Option, Some, None, is_some, option_map, refl, ap}
use Rattle.std.proofs.Common.{sym, ◌∙◌, append_assoc}
use Rattle.smt_trees.specs.Sexp.{Sexp, Sexps, Cons}
use Rattle.smt_theory.specs.Index.{IndexView}
use Rattle.smt_forms.specs.Identifier.{all_indexes, index_of_tree}

-- the indexes of all are those that are done, and then those of the trees that are left
abbrev pub indexes_behind : List IndexView → Sexps → Option (List IndexView)
indexes_behind before left = option_map (λ is. before ++ is) (all_indexes left)

pub index_next : (parts rest : Sexps) (x : Sexp) (i : IndexView) → parts ≡ Cons x rest
    → index_of_tree x ≡ Some i → all_indexes parts ≡ option_map (λ is. i ∷ is) (all_indexes rest)
index_next parts rest x i split is = rw (split, is) refl

pub index_none : (parts rest : Sexps) (x : Sexp) → parts ≡ Cons x rest → index_of_tree x ≡ None
    → all_indexes parts ≡ None
index_none parts rest x split is = rw (split, is) refl

some_map : {A B : Type 0} (f : A → B) (o : Option A) → is_some (option_map f o) ≡ is_some o
some_map f None = refl
some_map f (Some a) = refl

-- one more index changes nothing
pub some_next : (parts rest : Sexps) (x : Sexp) (i : IndexView) → parts ≡ Cons x rest
    → index_of_tree x ≡ Some i → is_some (all_indexes parts) ≡ is_some (all_indexes rest)
some_next parts rest x i split is =
    ap is_some (index_next parts rest x i split is) ∙ some_map (λ is. i ∷ is) (all_indexes rest)

map_twice : (before : List IndexView) (i : IndexView) (o : Option (List IndexView))
    → option_map (λ is. before ++ is) (option_map (λ is. i ∷ is) o)
    ≡ option_map (λ is. (before ++ i ∷ []) ++ is) o
map_twice before i None = refl
map_twice before i (Some is) = ap (λ (xs : List IndexView). Some xs) (sym (append_assoc before (i ∷ []) is))

pub behind_next : (before : List IndexView) (parts rest : Sexps) (x : Sexp) (i : IndexView)
    → parts ≡ Cons x rest → index_of_tree x ≡ Some i
    → indexes_behind before parts ≡ indexes_behind (before ++ i ∷ []) rest
behind_next before parts rest x i split is = ap (option_map (λ is. before ++ is))
    (index_next parts rest x i split is) ∙ map_twice before i (all_indexes rest)
