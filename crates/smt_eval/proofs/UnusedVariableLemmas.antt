-- What is known of a term is the same whatever the variables that it does not use.
use Rattle.std.proofs.Common.{◌≡◌, ℕ, Bool, true, false, cond, not, ◌&&◌, ◌||◌, List, [], ◌++◌, map}
use Rattle.std.proofs.Common.{Option, Some, is_some, refl, ap}
use Rattle.std.specs.Prelude.{bytes_eq, unwrap_or}
use Rattle.smt_trees.specs.Sexp as sexp
use Rattle.smt_trees.specs.Sexp.{Sexp, Sexps, Atom, Reserved, Items, Nil, Cons, Symbol, Keyword, Numeral}
use Rattle.smt_trees.specs.Sexp.{Hexadecimal, Binary}
use Rattle.smt_trees.specs.declared.reserved.Word.TheVariants.{As, Bang, Let, Underscore}
use Rattle.smt_theory.specs.Words.{look_up}
use Rattle.smt_theory.specs.Sort.{Sort}
use Rattle.smt_arrays.specs.Element.{Element}
use Rattle.smt_forms.specs.Bindings.{named_trees}
use Rattle.smt_forms.specs.Identifier.{Plain, applied}
use Rattle.smt_forms.specs.Variables.{any_uses_outer, bindings_use_outer, is_among, uses_outer}
use Rattle.smt_eval.specs.Known.{KnownMeaning, known_by, known_of, knowns_bound, knowns_of}

neither : (a b : Bool) → a || b ≡ false → (a ≡ false) × (b ≡ false)
neither true b h = cc
neither false b h = (refl, h)

-- variables with what is known of each
abbrev pub Knowns : Type 0
Knowns = List (List ℕ × Option Element)

-- both have the same of each variable, unless it is an outer one that no inner one hides
abbrev pub SayTheSame : List (List ℕ) → List (List ℕ × Sort) → Knowns → Knowns → Type 0
SayTheSame inner outer r s = (x : List ℕ) → not (is_among inner x) && is_some (look_up outer x) ≡ false
    → look_up r x ≡ look_up s x

-- and so have both with one more
same_by_name : (b : Bool) (inner : List (List ℕ)) (outer : List (List ℕ × Sort)) (x : List ℕ)
    (k l : Option Element) (o p : Option (Option Element)) → k ≡ l
    → (not (is_among inner x) && is_some (look_up outer x) ≡ false → o ≡ p)
    → not (b || is_among inner x) && is_some (look_up outer x) ≡ false
    → cond b (Some k) o ≡ cond b (Some l) p
same_by_name true inner outer x k l o p here rest h = ap Some here
same_by_name false inner outer x k l o p here rest h = rest h

module _ (m : KnownMeaning) where
  mutual
    pub known_same : (inner : List (List ℕ)) (outer : List (List ℕ × Sort)) (r s : Knowns)
        → SayTheSame inner outer r s → (t : Sexp) → uses_outer inner outer t ≡ false
        → known_of m r t ≡ known_of m s t
    known_same inner outer r s same (Atom Symbol x) unused =
        ap (λ o. unwrap_or o (m.gives (Plain x) [])) (same x unused)
    known_same inner outer r s same (Atom Numeral x) unused = refl
    known_same inner outer r s same (Atom Hexadecimal x) unused = refl
    known_same inner outer r s same (Atom Binary x) unused = refl
    known_same inner outer r s same (Atom sexp.Decimal x) unused = refl
    known_same inner outer r s same (Atom sexp.Text x) unused = refl
    known_same inner outer r s same (Atom Keyword x) unused = refl
    known_same inner outer r s same (Reserved word) unused = refl
    known_same inner outer r s same (Items Nil) unused = refl
    known_same inner outer r s same (Items (Cons (Reserved Underscore) parts)) unused = refl
    known_same inner outer r s same (Items (Cons (Reserved As) parts)) unused = refl
    known_same inner outer r s same
        (Items (Cons (Reserved Let) (Cons (Items bindings) (Cons body Nil)))) unused =
        let names = map (λ b. b.0) (named_trees bindings) ++ inner in
        let n = neither (bindings_use_outer inner outer bindings) (uses_outer names outer body) unused in
        known_same names outer (knowns_bound m r bindings ++ r) (knowns_bound m s bindings ++ s)
        (bound_same inner outer r s same bindings n.0) body n.1
    known_same inner outer r s same (Items (Cons (Reserved Bang) (Cons term attributes))) unused =
        known_same inner outer r s same term unused
    known_same inner outer r s same (Items (Cons head args)) unused =
        ap (λ vs. known_by (applied head args) (λ f. m.gives f vs)) (all_same inner outer r s same args unused)

    all_same : (inner : List (List ℕ)) (outer : List (List ℕ × Sort)) (r s : Knowns)
        → SayTheSame inner outer r s → (ts : Sexps) → any_uses_outer inner outer ts ≡ false
        → knowns_of m r ts ≡ knowns_of m s ts
    all_same inner outer r s same Nil unused = refl
    all_same inner outer r s same (Cons x xs) unused =
        let n = neither (uses_outer inner outer x) (any_uses_outer inner outer xs) unused in
        let first = known_same inner outer r s same x n.0 in
        let rest = all_same inner outer r s same xs n.1 in
        cc

    bound_same : (inner : List (List ℕ)) (outer : List (List ℕ × Sort)) (r s : Knowns)
        → SayTheSame inner outer r s → (bs : Sexps) → bindings_use_outer inner outer bs ≡ false
        → SayTheSame (map (λ b. b.0) (named_trees bs) ++ inner) outer (knowns_bound m r bs ++ r)
        (knowns_bound m s bs ++ s)
    bound_same inner outer r s same (Cons (Items (Cons (Atom Symbol y) (Cons t Nil))) rest) unused x =
        let n = neither (uses_outer inner outer t) (bindings_use_outer inner outer rest) unused in
        same_by_name (bytes_eq x y) (map (λ b. b.0) (named_trees rest) ++ inner) outer x (known_of m r t)
        (known_of m s t) (look_up (knowns_bound m r rest ++ r) x) (look_up (knowns_bound m s rest ++ s) x)
        (known_same inner outer r s same t n.0) (bound_same inner outer r s same rest n.1 x)
    bound_same inner outer r s same _ unused x = same x
