-- The trees that a builder holds.
use Rattle.std.proofs.Common.{◌≡◌, ℕ, ◌<◌, ◌≤◌, List, [], ◌∷◌, ◌++◌, length, cond}
use Rattle.std.proofs.Common.{Option, Some, None, Result, Ok, Err, IfOk, refl, ap, sym, ◌∙◌, arith}
use Rattle.std.proofs.lemmas.Bool.{lt-ltb, le-ltb}
use Rattle.smt_trees.specs.Owned.{sexp_of, sexps_of}
use Rattle.smt_trees.specs.OwnedJoins.{sexps_of-append}
use Rattle.smt_trees.specs.Sexp.{Sexp, Sexps, Items, Cons, Nil, append}
use Rattle.smt_trees.specs.Tape.{added, closed}
use Rattle.smt_trees.specs.declared.owned.OwnedTree.{OwnedTree}
use Rattle.smt_text.specs.Grammar.{OpenParenthesis, CloseParenthesis}
use Rattle.smt_text.specs.Internal.LexerStates.{Levels, On, State, At, add, add_if, atom_of, flush, begun, ended}
use Rattle.smt_text.specs.Internal.LexerStates.{depth_of, depth_in, act, settle}
use Rattle.smt_text.specs.declared.lexer.AtomState.TheVariants.{Nothing}

pub if_ok : {T E : Type 0} {P Q : Type 0} (r : Result T E) → (P → Q) → IfOk r (λ _. P) → IfOk r (λ _. Q)
if_ok (Ok x) f h = f h
if_ok (Err e) f h = h

pub no_lists : (lists : List Sexps) → length lists ≡ 0 → lists ≡ []
no_lists [] none = refl
no_lists (parts ∷ lists) none = absurd (omega arith)

-- a tree at the top, where there is no list
pub add_top : (lists : List Sexps) (ready more : List OwnedTree) (tree : OwnedTree) (x : Sexp) → length lists ≡ 0
    → more ≡ ready ++ tree ∷ [] → sexp_of tree ≡ x
    → On lists (sexps_of more) ≡ add x (On lists (sexps_of ready))
add_top [] ready more tree x none is same =
    ap (λ y. On [] (sexps_of y)) is ∙ ap (λ y. On [] y) (sexps_of-append ready (tree ∷ []))
    ∙ ap (λ y. On [] (append (sexps_of ready) (Cons y Nil))) same
add_top (parts ∷ lists) ready more tree x none is same = absurd (omega (arith, none))

-- a tree in the innermost list
pub add_inside : (lists next : List Sexps) (top : Sexps) (x : Sexp) → (length lists ≡ 0 → ⊥)
    → next ≡ added lists x → On next top ≡ add x (On lists top)
add_inside [] next top x some is = absurd (some refl)
add_inside (parts ∷ lists) next top x some is = ap (λ y. On y top) is

-- the outermost list becomes a tree
pub end_top : (lists next : List Sexps) (ready more : List OwnedTree) (tree : OwnedTree) → length lists ≡ 1
    → next ≡ [] → more ≡ ready ++ tree ∷ []
    → ((parts : Sexps) → lists ≡ parts ∷ [] → sexp_of tree ≡ Items parts)
    → ended (On lists (sexps_of ready)) ≡ On next (sexps_of more)
end_top [] next ready more tree one none is taken = absurd (omega (arith, one))
end_top (parts ∷ []) next ready more tree one none is taken =
    sym (add_top next ready more tree (Items parts) (ap length none) is (taken parts refl)
    ∙ ap (λ ls. add (Items parts) (On ls (sexps_of ready))) none)
end_top (parts ∷ around ∷ lists) next ready more tree one none is taken = absurd (omega (arith, one))

-- another list becomes a tree of the list around it
pub end_inside : (lists next : List Sexps) (top : Sexps) → 1 < length lists → next ≡ closed lists
    → ended (On lists top) ≡ On next top
end_inside [] next top some is = absurd (omega (arith, some))
end_inside (parts ∷ []) next top some is = absurd (omega (arith, some))
end_inside (parts ∷ around ∷ lists) next top some is = ap (λ y. On y top) (sym is)

-- an atom is at the depth of the lists around it
pub depth_of-add_if : (o : Option Sexp) (levels : Levels) → depth_of (add_if o levels) ≡ depth_of levels
depth_of-add_if None levels = refl
depth_of-add_if (Some x) (On [] top) = refl
depth_of-add_if (Some x) (On (parts ∷ lists) top) = refl

pub depth_of-flush : (s : State) → depth_of (flush s) ≡ depth_in s
depth_of-flush (At token bytes levels) = depth_of-add_if (atom_of token bytes) levels

open_none : (max_depth : ℕ) (levels : Levels) → max_depth ≤ depth_of levels
    → settle (act max_depth OpenParenthesis levels) ≡ None
open_none max_depth (On lists top) h =
    ap (λ t. settle (cond t (Some (begun (On lists top))) None)) (le-ltb (length lists) max_depth h)

open_some : (max_depth : ℕ) (levels : Levels) → depth_of levels < max_depth
    → settle (act max_depth OpenParenthesis levels) ≡ Some (At Nothing [] (begun levels))
open_some max_depth (On lists top) h =
    ap (λ t. settle (cond t (Some (begun (On lists top))) None)) (lt-ltb (length lists) max_depth h)

close_none : (max_depth : ℕ) (levels : Levels) → depth_of levels ≡ 0
    → settle (act max_depth CloseParenthesis levels) ≡ None
close_none max_depth (On [] top) h = refl
close_none max_depth (On (parts ∷ lists) top) h = absurd (omega arith)

close_some : (max_depth : ℕ) (levels : Levels) → 0 < depth_of levels
    → settle (act max_depth CloseParenthesis levels) ≡ Some (At Nothing [] (ended levels))
close_some max_depth (On [] top) h = absurd (omega arith)
close_some max_depth (On (parts ∷ lists) top) h = refl

-- a list begins where it may, and nowhere else
pub begin_refused : (max_depth : ℕ) (s : State) → max_depth ≤ depth_in s
    → settle (act max_depth OpenParenthesis (flush s)) ≡ None
begin_refused max_depth s h = open_none max_depth (flush s) (omega (arith, depth_of-flush s))

pub begin_taken : (max_depth : ℕ) (s : State) (levels : Levels) → depth_in s < max_depth → begun (flush s) ≡ levels
    → settle (act max_depth OpenParenthesis (flush s)) ≡ Some (At Nothing [] levels)
begin_taken max_depth s levels h e =
    open_some max_depth (flush s) (omega (arith, depth_of-flush s)) ∙ ap (λ x. Some (At Nothing [] x)) e

pub end_refused : (max_depth : ℕ) (s : State) → depth_in s ≡ 0
    → settle (act max_depth CloseParenthesis (flush s)) ≡ None
end_refused max_depth s h = close_none max_depth (flush s) (depth_of-flush s ∙ h)

pub end_taken : (max_depth : ℕ) (s : State) (levels : Levels) → 0 < depth_in s → ended (flush s) ≡ levels
    → settle (act max_depth CloseParenthesis (flush s)) ≡ Some (At Nothing [] levels)
end_taken max_depth s levels h e =
    close_some max_depth (flush s) (omega (arith, depth_of-flush s)) ∙ ap (λ x. Some (At Nothing [] x)) e
