-- Which node a name makes with its arguments.
use Rattle.std.proofs.Common.{◌≡◌, ℕ, suc, Bool, true, false, cond, ◌&&◌, List, [], ◌∷◌, length, Option, Some, None}
use Rattle.std.proofs.Common.{option_map, ok_or, is_some, refl, ap, sym, ◌∙◌}
use Rattle.std.proofs.lemmas.Bool.{eq-eqb}
use Rattle.smt_forms.specs.Identifier.{Plain}
use Rattle.smt_nodes.specs.Node as node
use Rattle.smt_theory.specs.Operators.{op_by, plain_op}
use Rattle.smt_theory.specs.Shapes.{are_exactly}
use Rattle.smt_theory.specs.Sort.{is_same_sort}
use Rattle.smt_theory.specs.Words.{look_up}
use Rattle.smt_theory.specs.declared.op.Op.{Op}
use Rattle.smt_theory.specs.declared.op.OpFault.TheVariants.{Unknown}
use Rattle.smt_theory.specs.Sort.{Sort}
use Rattle.smt_names.specs.Entries.{entries_of}
use Rattle.smt_terms.proofs.LibraryLemmas.{found}
use Rattle.smt_terms.specs.Denotes.{Head, applied_node, named_node, node_at}
use Rattle.smt_terms.specs.Internal.LibraryView.{names_of_library, places_of_library, rank_of}
use Rattle.smt_terms.specs.Internal.NodesView.{AddsApplied, AddsNode}
use Rattle.smt_terms.specs.Internal.TableView.{head_of, heads_of_library}
use Rattle.smt_terms.specs.declared.library.Entry.{Entry}
use Rattle.smt_terms.specs.declared.library.Found.{Found}
use Rattle.smt_terms.specs.declared.library.Library.{Library}
use Rattle.smt_terms.specs.declared.library.draft.CheckedTerm.{CheckedTerm}
use Rattle.smt_terms.specs.declared.library.draft.Draft.{Draft}

both_true : (a b : Bool) → (a && b) ≡ true → (a ≡ true) × (b ≡ true)
both_true true b h = (refl, h)
both_true false b h = cc

-- the head of an entry that is found by its rank and its place
head_found : (library : Library) (x : List ℕ) (e : Entry)
    → Some (rank_of e) ≡ look_up (names_of_library library).ranks x
    → Some e.place ≡ look_up (places_of_library library) x
    → look_up (heads_of_library library) x ≡ Some (head_of e)
head_found library x e ranked placed =
    sym (found head_of (entries_of library.names) x)
    ∙ by (look_up (entries_of library.names) x)
    (ranked ∙ sym (found rank_of (entries_of library.names) x))
    (placed ∙ sym (found (λ d. d.place) (entries_of library.names) x))
  where
    by : (o : Option Entry) → Some (rank_of e) ≡ option_map rank_of o
        → Some e.place ≡ option_map (λ d. d.place) o → option_map head_of o ≡ Some (head_of e)
    by None r p = cc
    by (Some d) r p =
        let rank : rank_of e ≡ rank_of d = cc in
        let place : e.place ≡ d.place = cc in
        ap (λ n. Some (record { place = d.place; arity = n })) (sym (ap (λ k. length k.parameters) rank))
        ∙ ap (λ q. Some (record { place = q; arity = length e.parameters.items })) (sym place)

-- a name makes its node where there are as many arguments as it has parameters
named_with : (place : Found) (args : List ℕ) (arity : ℕ) → length args ≡ arity
    → named_node (Some (record { place = place; arity = arity })) args ≡ Some (node_at place args)
named_with place args arity same =
    ap (λ b. cond b (Some (node_at place args)) None) (eq-eqb (length args) arity same)

exact_counted : (parameters sorts : List Sort) → are_exactly parameters sorts ≡ true
    → length sorts ≡ length parameters
exact_counted [] [] h = refl
exact_counted [] (s ∷ ss) h = cc
exact_counted (p ∷ ps) [] h = cc
exact_counted (p ∷ ps) (s ∷ ss) h = ap suc (exact_counted ps ss (both_true (is_same_sort s p) _ h).1)

-- a name that is no plain operator's makes the node of what it names
named_alone : (o : Option Op) (head : Option Head) (args : List ℕ) (n : node.Node) → is_some o ≡ false
    → named_node head args ≡ Some n → applied_node (ok_or o Unknown) head args ≡ Some n
named_alone None head args n free h = h
named_alone (Some op) head args n free h = cc

-- the node of a name in force is that of the identifier
pub some_head : (library : Library) (old new : Draft) (around : ℕ) (x : List ℕ) (sorts : List Sort)
    (args : List ℕ) (e : Entry) (c : CheckedTerm) → Some (rank_of e) ≡ look_up (names_of_library library).ranks x
    → Some e.place ≡ look_up (places_of_library library) x → are_exactly e.parameters.items sorts ≡ true
    → AddsNode library.nodes old new around (node_at e.place args) c
    → AddsApplied library old new around (Plain x) sorts args c
some_head library old new around x sorts args e c ranked placed same adds = record {
  node = node_at e.place args;
  added = adds;
  is = λ free counted.
      let found = head_found library x e ranked placed in
      let arity : length args ≡ length e.parameters.items =
      counted ∙ exact_counted e.parameters.items sorts same in
      ap (λ o. applied_node (op_by library.sorts.theories x []) o args) found
      ∙ named_alone (plain_op library.sorts.theories x) (Some (head_of e)) args (node_at e.place args)
      (free x (head_of e) found) (named_with e.place args (length e.parameters.items) arity);
}
