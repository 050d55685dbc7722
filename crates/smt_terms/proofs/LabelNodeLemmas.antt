-- The nodes of labels that are given.
use Rattle.std.proofs.Common.{◌≡◌, ℕ, List, [], ◌∷◌, ◌++◌, map, append-nil, append_assoc, ap, sym, ◌∙◌, subst}
use Rattle.std.proofs.lemmas.List.{map-append}
use Rattle.smt_trees.specs.Sexp.{Sexp}
use Rattle.smt_trees.specs.View.{sexp_of}
use Rattle.smt_terms.specs.Denotes.{Denotes, Table}
use Rattle.smt_terms.specs.Internal.TableView.{AreNamed}
use Rattle.smt_terms.specs.declared.labels.Label.{Label}
use Rattle.smt_terms.specs.declared.labels.Labels.{Labels}

-- ## One label more

named-push : (t : Table) (ls : List Label) (l : Label) → AreNamed t ls
    → Denotes t [] 0 0 l.node (sexp_of l.body) → AreNamed t (ls ++ l ∷ [])
named-push t [] l h d = (d, tt)
named-push t (k ∷ ls) l h d = (h.0, named-push t ls l h.1 d)

pub named_pushed : (old new : Labels) (l : Label) (n : ℕ) (term : Sexp) → new.given.items ≡ old.given.items ++ l ∷ []
    → l.node ≡ n → sexp_of l.body ≡ term → (t : Table) → AreNamed t old.given.items
    → Denotes t [] 0 0 n term → AreNamed t new.given.items
named_pushed old new l n term more is same t h d =
    subst (λ (ls : List Label). AreNamed t ls) (sym more)
    (named-push t old.given.items l h
    (subst (λ (m : ℕ). Denotes t [] 0 0 m (sexp_of l.body)) (sym is)
    (subst (λ (s : Sexp). Denotes t [] 0 0 n s) (sym same) d)))

-- ## Labels of one term

-- some of them are given, and the others are left
pub nodes_next : (n : ℕ) (all mid new : List ℕ) (left xs ys : List (List ℕ)) → all ≡ mid ++ map (λ x. n) left
    → left ≡ xs ++ ys → new ≡ mid ++ map (λ x. n) xs → all ≡ new ++ map (λ x. n) ys
nodes_next n all mid new left xs ys first split more =
    first ∙ ap (λ (zs : List (List ℕ)). mid ++ map (λ x. n) zs) split
    ∙ ap (λ (ns : List ℕ). mid ++ ns) (map-append (λ (x : List ℕ). n) xs ys)
    ∙ sym (append_assoc mid (map (λ x. n) xs) (map (λ x. n) ys))
    ∙ ap (λ (ns : List ℕ). ns ++ map (λ (x : List ℕ). n) ys) (sym more)

pub nodes_all : (n : ℕ) (all new : List ℕ) (left : List (List ℕ)) → all ≡ new ++ map (λ x. n) left
    → left ≡ [] → new ≡ all
nodes_all n all new left h none =
    sym (h ∙ ap (λ (zs : List (List ℕ)). new ++ map (λ x. n) zs) none ∙ append-nil new)
