-- Nodes of several terms, one after another.
use Rattle.std.proofs.Common.{◌≡◌, ◌<◌, ℕ, Bool, true, false, ◌||◌, List, [], ◌∷◌, ◌++◌, append-nil, append_assoc}
use Rattle.std.proofs.Common.{length, None, refl, ap, sym, ◌∙◌, subst}
use Rattle.smt_trees.specs.Sexp.{Sexp, Sexps, Items, Nil, Cons, Atom, Symbol}
use Rattle.smt_forms.specs.Bindings.{are_named_trees, first_named}
use Rattle.smt_terms.specs.Internal.SoFar.{SoFar, binding}
use Rattle.smt_terms.specs.Denotes.{AreBound, AreDenoted, Denotes, Slots, Table}
use Rattle.smt_terms.specs.Internal.Calls.{SeesTheSame}
use Rattle.smt_terms.specs.Internal.NodesView.{Denoting, GrowsTo, PartsStand, Stands}
use Rattle.smt_terms.specs.Internal.TableView.{places_seen, slots_seen, table_in}
use Rattle.smt_terms.specs.declared.library.Library.{Library}
use Rattle.smt_terms.specs.declared.library.draft.CheckedTerm.{CheckedTerm}
use Rattle.smt_terms.specs.declared.library.draft.Draft.{Draft}
use Rattle.smt_terms.proofs.ClosedLemmas.{neither}
use Rattle.smt_terms.proofs.DenotesLemmas.{denotes_kept}
use Rattle.smt_terms.proofs.TableLemmas.{below_longer, grows_itself, grows_on, keeps_itself, keeps_on, longer_itself}
use Rattle.smt_terms.proofs.TableLemmas.{longer_on, places_kept, ready_kept, slots_kept}

-- how one more part stands before the others
abbrev pub StandsFirst : Denoting → Sexp → (left rest : Sexps) → Type 0
StandsFirst Are term left rest = (u : Table) (slots : Slots) (next i j : ℕ) (js : List ℕ) → j < i
    → Denotes u slots next 0 j term → Are u slots next i js rest → Are u slots next i (j ∷ js) left

pub term_first : (term : Sexp) (left rest : Sexps) → left ≡ Cons term rest → StandsFirst AreDenoted term left rest
term_first term left rest split u slots next i j js below d all =
    subst (λ (ts : Sexps). AreDenoted u slots next i (j ∷ js) ts) (sym split) (below, d, all)

pub binding_first : (x : List ℕ) (term : Sexp) (left rest : Sexps) → left ≡ Cons (binding x term) rest
    → StandsFirst AreBound term left rest
binding_first x term left rest split u slots next i j js below d all =
    subst (λ (ts : Sexps). AreBound u slots next i (j ∷ js) ts) (sym split) (below, d, all)

-- at first none
pub so_far-none : (Are : Denoting) (library : Library) (d : Draft) (all : Sexps) (done : List ℕ) → done ≡ []
    → SoFar Are library d d all all done false
so_far-none Are library d all done none = record {
  longer = grows_itself d;
  named = keeps_itself library d;
  before = λ ready closed u js longer h.
      subst (λ (ns : List ℕ). Are u (slots_seen d) (places_seen d) (length u.rows) (ns ++ js) all) (sym none) h;
}

-- one more
pub so_far-next : (Are : Denoting) (library : Library) (old mid new : Draft) (all left rest : Sexps)
    (done after : List ℕ) (is_open : Bool) (term : Sexp) (c : CheckedTerm)
    → SoFar Are library old mid all left done is_open → SeesTheSame old mid → StandsFirst Are term left rest
    → GrowsTo mid new → Stands library mid new 0 term c → after ≡ done ++ c.node ∷ []
    → SoFar Are library old new all rest after (is_open || c.is_open)
so_far-next Are library old mid new all left rest done after is_open term c first kept cons second stands more =
    record {
      longer = grows_on old mid new first.longer second;
      named = keeps_on library old mid new first.longer first.named stands.named;
      before = λ ready closed u js longer h.
          let each = neither is_open c.is_open closed in
          let slots = slots_seen old in
          let next = places_seen old in
          let d : Denotes (table_in library new) slots next 0 c.node term =
          subst (λ (n : ℕ). Denotes (table_in library new) slots n 0 c.node term) (places_kept old mid kept)
          (subst (λ (ss : Slots). Denotes (table_in library new) ss (places_seen mid) 0 c.node term)
          (slots_kept old mid kept) (stands.denotes (ready_kept library old mid first.longer ready) each.1)) in
          subst (λ (ns : List ℕ). Are u slots next (length u.rows) ns all)
          (sym (ap (λ (ns : List ℕ). ns ++ js) more ∙ append_assoc done (c.node ∷ []) js))
          (first.before ready each.0 u (c.node ∷ js)
          (longer_on (table_in library mid) (table_in library new) u (second library) longer)
          (cons u slots next (length u.rows) c.node js
          (below_longer (table_in library new) u c.node longer stands.number)
          (denotes_kept (table_in library new) u longer slots next 0 c.node term d) h));
    }

-- and at last all
pub so_far-all : (Are : Denoting) (library : Library) (old new : Draft) (all left : Sexps) (done : List ℕ)
    (is_open : Bool) → ((u : Table) (slots : Slots) (next i : ℕ) → Are u slots next i [] left)
    → SoFar Are library old new all left done is_open
    → PartsStand Are library old new all done is_open
so_far-all Are library old new all left done is_open none so = record {
  denote = λ ready closed.
      let t = table_in library new in
      subst (λ (ns : List ℕ). Are t (slots_seen old) (places_seen old) (length t.rows) ns all) (append-nil done)
      (so.before ready closed t [] (longer_itself t) (none t (slots_seen old) (places_seen old) (length t.rows)));
  named = so.named;
}

pub no_term : (left : Sexps) → left ≡ Nil → (u : Table) (slots : Slots) (next i : ℕ)
    → AreDenoted u slots next i [] left
no_term left none u slots next i = subst (λ (ts : Sexps). AreDenoted u slots next i [] ts) (sym none) tt

pub no_binding : (left : Sexps) → left ≡ Nil → (u : Table) (slots : Slots) (next i : ℕ)
    → AreBound u slots next i [] left
no_binding left none u slots next i = subst (λ (ts : Sexps). AreBound u slots next i [] ts) (sym none) tt

-- where bindings are left, there is a first one
pub none_left : (left : Sexps) → are_named_trees left ≡ true → first_named left ≡ None → left ≡ Nil
none_left Nil named h = refl
none_left (Cons (Items (Cons (Atom Symbol x) (Cons term Nil))) rest) named h = cc
none_left _ named h = cc
