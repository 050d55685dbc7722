-- The tokens that the trees so far have come from, and how deep these trees nest.
use Rattle.std.proofs.Common.{◌≡◌, ◌≤◌, ◌+◌, ℕ, suc, List, [], ◌∷◌, length, Option, Some}
use Rattle.std.proofs.Common.{None, Bool, true, false, ltb, cond, refl, ap, ◌∙◌, arith, subst}
use Rattle.std.proofs.Common.{max}
use Rattle.std.proofs.lemmas.Bool.{ltb-true}
use Rattle.smt_text.proofs.ReaderCompleteness.{act_next, acts}
use Rattle.smt_text.specs.Grammar.{Token, OpenParenthesis, CloseParenthesis, AtomToken, WordToken}
use Rattle.smt_text.specs.Grammar.{tokens_of, tokens_of_all}
use Rattle.smt_text.specs.Internal.LexerStates.{Levels, On, add}
use Rattle.smt_text.specs.Internal.LexerStates.{act}
use Rattle.smt_trees.specs.Sexp.{Sexp, Sexps, Atom, Reserved, Items, Nil, Cons, append, depth, depth_all}

-- the tokens that trees so far have come from, before later ones
abbrev pub spent : List Sexps → Sexps → List Token → List Token
spent [] top later = tokens_of_all top later
spent (parts ∷ lists) top later = spent lists top (OpenParenthesis ∷ tokens_of_all parts later)

abbrev pub spent_of : Levels → List Token → List Token
spent_of (On lists top) later = spent lists top later

pub tokens-append : (xs ys : Sexps) (later : List Token)
    → tokens_of_all (append xs ys) later ≡ tokens_of_all xs (tokens_of_all ys later)
tokens-append Nil ys later = refl
tokens-append (Cons x xs) ys later = ap (tokens_of x) (tokens-append xs ys later)

pub spent-add : (x : Sexp) (levels : Levels) (later : List Token)
    → spent_of (add x levels) later ≡ spent_of levels (tokens_of x later)
spent-add x (On [] top) later = tokens-append top (Cons x Nil) later
spent-add x (On (parts ∷ lists) top) later =
    ap (λ z. spent lists top (OpenParenthesis ∷ z)) (tokens-append parts (Cons x Nil) later)

pub spent-is : (levels next : Levels) (later : List Token) → Some levels ≡ Some next
    → spent_of next later ≡ spent_of levels later
spent-is levels next later e = let same : next ≡ levels = cc in ap (λ x. spent_of x later) same

pub spent-open : (t : Bool) (lists : List Sexps) (top : Sexps) (next : Levels) (later : List Token)
    → cond t (Some (On (Nil ∷ lists) top)) None ≡ Some next
    → spent_of next later ≡ spent lists top (OpenParenthesis ∷ later)
spent-open true lists top next later e = spent-is (On (Nil ∷ lists) top) next later e
spent-open false lists top next later e = absurd (cc)

pub spent-act : (max_depth : ℕ) (token : Token) (levels next : Levels) (later : List Token)
    → act max_depth token levels ≡ Some next → spent_of next later ≡ spent_of levels (token ∷ later)
spent-act max_depth OpenParenthesis (On lists top) next later e =
    spent-open (ltb (length lists) max_depth) lists top next later e
spent-act max_depth CloseParenthesis (On [] top) next later e = absurd (cc)
spent-act max_depth CloseParenthesis (On (parts ∷ lists) top) next later e =
    spent-is (add (Items parts) (On lists top)) next later e ∙ spent-add (Items parts) (On lists top) later
spent-act max_depth (AtomToken kind bytes) levels next later e =
    spent-is (add (Atom kind bytes) levels) next later e ∙ spent-add (Atom kind bytes) levels later
spent-act max_depth (WordToken word) levels next later e =
    spent-is (add (Reserved word) levels) next later e ∙ spent-add (Reserved word) levels later

pub spent-acts : (max_depth : ℕ) (tokens : List Token) (levels next : Levels) → acts max_depth tokens levels ≡ Some next
    → spent_of next [] ≡ spent_of levels tokens
spent-acts max_depth [] levels next e = spent-is levels next [] e
spent-acts max_depth (token ∷ tokens) levels next e =
    by_act (act max_depth token levels) refl e (λ nearer. spent-acts max_depth tokens nearer next)
  where
    by_act : (o : Option Levels) → act max_depth token levels ≡ o
        → act_next o (λ x. acts max_depth tokens x) ≡ Some next
        → ((nearer : Levels) → acts max_depth tokens nearer ≡ Some next
        → spent_of next [] ≡ spent_of nearer tokens) → spent_of next [] ≡ spent_of levels (token ∷ tokens)
    by_act None a h later = absurd (cc)
    by_act (Some nearer) a h later = later nearer h ∙ spent-act max_depth token levels nearer tokens a

-- no list nests deeper than the max_depth
abbrev pub IsShallowIn : ℕ → List Sexps → Type 0
IsShallowIn max_depth [] = Unit {0}
IsShallowIn max_depth (parts ∷ lists) = (length lists + suc (depth_all parts) ≤ max_depth) × IsShallowIn max_depth lists

abbrev pub IsShallow : ℕ → Levels → Type 0
IsShallow max_depth (On lists top) = (depth_all top ≤ max_depth) × IsShallowIn max_depth lists

pub depth_all-push : (xs : Sexps) (x : Sexp) → depth_all (append xs (Cons x Nil)) ≡ max (depth_all xs) (depth x)
depth_all-push Nil x = omega arith
depth_all-push (Cons y xs) x = omega (arith, depth_all-push xs x)

pub shallow-add : (max_depth : ℕ) (x : Sexp) (lists : List Sexps) (top : Sexps) → length lists + depth x ≤ max_depth
    → IsShallow max_depth (On lists top) → IsShallow max_depth (add x (On lists top))
shallow-add max_depth x [] top d h = let e = depth_all-push top x in (omega (arith, h.0), tt)
shallow-add max_depth x (parts ∷ lists) top d h =
    let e = depth_all-push parts x in (h.0, (omega (arith, h.1.0), h.1.1))

-- an atom has no depth
pub shallow-atom : (max_depth : ℕ) (x : Sexp) (levels : Levels) → depth x ≡ 0 → IsShallow max_depth levels
    → IsShallow max_depth (add x levels)
shallow-atom max_depth x (On [] top) d h = let e = depth_all-push top x in (omega (arith, h.0), tt)
shallow-atom max_depth x (On (parts ∷ lists) top) d h =
    let e = depth_all-push parts x in (h.0, (omega (arith, h.1.0), h.1.1))

pub shallow-is : (max_depth : ℕ) (levels next : Levels) → Some levels ≡ Some next → IsShallow max_depth levels
    → IsShallow max_depth next
shallow-is max_depth levels next e h = let same : levels ≡ next = cc in subst (IsShallow max_depth) same h

pub shallow-open : (max_depth : ℕ) (t : Bool) (lists : List Sexps) (top : Sexps) (next : Levels)
    → ltb (length lists) max_depth ≡ t → cond t (Some (On (Nil ∷ lists) top)) None ≡ Some next
    → IsShallow max_depth (On lists top) → IsShallow max_depth next
shallow-open max_depth true lists top next k e h =
    let below = ltb-true (length lists) max_depth k in
    shallow-is max_depth (On (Nil ∷ lists) top) next e (h.0, (omega arith, h.1))
shallow-open max_depth false lists top next k e h = absurd (cc)

pub shallow-act : (max_depth : ℕ) (token : Token) (levels next : Levels) → act max_depth token levels ≡ Some next
    → IsShallow max_depth levels → IsShallow max_depth next
shallow-act max_depth OpenParenthesis (On lists top) next e h =
    shallow-open max_depth (ltb (length lists) max_depth) lists top next refl e h
shallow-act max_depth CloseParenthesis (On [] top) next e h = absurd (cc)
shallow-act max_depth CloseParenthesis (On (parts ∷ lists) top) next e h =
    shallow-is max_depth (add (Items parts) (On lists top)) next e
    (shallow-add max_depth (Items parts) lists top h.1.0 (h.0, h.1.1))
shallow-act max_depth (AtomToken kind bytes) levels next e h = shallow-is max_depth
    (add (Atom kind bytes) levels) next e (shallow-atom max_depth (Atom kind bytes) levels refl h)
shallow-act max_depth (WordToken word) levels next e h =
    shallow-is max_depth (add (Reserved word) levels) next e (shallow-atom max_depth (Reserved word) levels refl h)

pub shallow-acts : (max_depth : ℕ) (tokens : List Token) (levels next : Levels) → acts max_depth tokens levels ≡ Some next
    → IsShallow max_depth levels → IsShallow max_depth next
shallow-acts max_depth [] levels next e h = shallow-is max_depth levels next e h
shallow-acts max_depth (token ∷ tokens) levels next e h =
    by_act (act max_depth token levels) refl e (λ nearer. shallow-acts max_depth tokens nearer next)
  where
    by_act : (o : Option Levels) → act max_depth token levels ≡ o
        → act_next o (λ x. acts max_depth tokens x) ≡ Some next
        → ((nearer : Levels) → acts max_depth tokens nearer ≡ Some next → IsShallow max_depth nearer
        → IsShallow max_depth next) → IsShallow max_depth next
    by_act None a k later = absurd (cc)
    by_act (Some nearer) a k later = later nearer k (shallow-act max_depth token levels nearer a h)
