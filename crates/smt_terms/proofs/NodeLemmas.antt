-- Nodes that are added stand for their terms.
use Rattle.std.proofs.Common.{◌≡◌, ◌<◌, ◌-◌, ℕ, Bool, true, false, List, [], ◌∷◌, ◌++◌, length, map, nat_lt}
use Rattle.std.proofs.Common.{slice_get, Option, Some, None, Result, Ok, Err, refl, ap, sym, ◌∙◌, subst}
use Rattle.std.proofs.Common.{arith, cond, ◌==◌, IfOk}
use Rattle.std.proofs.lemmas.List.{length-append}
use Rattle.smt_trees.specs.Sexp.{Sexp, Sexps, Atom, Reserved, Items, Cons, Symbol}
use Rattle.smt_trees.specs.declared.reserved.Word.TheVariants.{As, Bang, Let, Underscore}
use Rattle.smt_theory.specs.Operators.{op_by}
use Rattle.smt_theory.specs.Words.{look_up}
use Rattle.smt_theory.specs.declared.op.Op.{Op}
use Rattle.smt_theory.specs.declared.op.OpFault.{OpFault}
use Rattle.smt_theory.specs.Sort.{Sort}
use Rattle.smt_forms.specs.Heads.{begins_annotated, begins_indexed, begins_let, begins_qualified}
use Rattle.smt_forms.specs.Identifier.{Identifier, Plain, Indexed, Qualified, applied, indexed}
use Rattle.smt_nodes.specs.Node as node
use Rattle.smt_nodes.specs.Node.{Node, Row}
use Rattle.smt_nodes.specs.Nodes.{rows_of}
use Rattle.smt_terms.specs.Internal.SoFar.{IsPlainHead}
use Rattle.smt_terms.specs.Denotes.{AreDenoted, Denotes, HasBodyBelow, Head, IsNode, IsRow, Slots, Table}
use Rattle.smt_terms.specs.Denotes.{applied_node, constant_node, element_node, named_node, node_alone, node_at, node_of}
use Rattle.smt_terms.specs.Denotes.{symbol_node}
use Rattle.smt_faults.specs.declared.term_flaw.TermFlaw.{TermFlaw}
use Rattle.smt_terms.specs.Elements.{constant_op, element_among}
use Rattle.smt_terms.specs.Internal.DraftView.{IsPlaced, seen_by}
use Rattle.smt_terms.specs.Internal.NodesView.{AddsAlone, AddsApplied, AddsNode, GrowsTo, KeepsNamed, Stands}
use Rattle.smt_terms.specs.Internal.NodesView.{TermsStand, row_with}
use Rattle.smt_terms.specs.Internal.TableView.{HasBody, IsReady, places_seen, rows_in, slots_seen}
use Rattle.smt_terms.specs.Internal.TableView.{table_in, table_of}
use Rattle.smt_terms.specs.declared.library.Found.{Found}
use Rattle.smt_terms.specs.declared.library.Found.TheVariants as place
use Rattle.smt_terms.specs.declared.library.Library.{Library}
use Rattle.smt_terms.specs.declared.library.draft.Bound.{Bound}
use Rattle.smt_terms.specs.declared.library.draft.CheckedTerm.{CheckedTerm}
use Rattle.smt_terms.specs.declared.library.draft.Draft.{Draft}
use Rattle.smt_terms.proofs.CheckerLemmas.{underscore_head}
use Rattle.smt_terms.proofs.DenotesLemmas.{all_kept}
use Rattle.smt_terms.proofs.DraftLemmas.{slot_inside, slot_none}
use Rattle.smt_terms.proofs.TableLemmas.{grows_itself, keeps_itself, keeps_labels, keeps_on, ready_kept}

-- ## Rows

-- what is added at the end has the next number
pub added : {A : Type 0} (xs : List A) (x : A) → slice_get (xs ++ x ∷ []) (length xs) ≡ Some x
added [] x = refl
added (y ∷ xs) x = added xs x

-- what is found is this row
pub is_row : (o : Option Row) (r : Row) → o ≡ Some r → IsRow o r.around (Some r.node)
is_row o r h = subst (λ (p : Option Row). IsRow p r.around (Some r.node)) (sym h) (refl, refl)

-- the node that is added is found by its number
pub row_added : (library : Library) (old new : Draft) (around : ℕ) (n : Node) (c : CheckedTerm)
    → AddsNode library.nodes old new around n c
    → IsRow (slice_get (rows_in library new) (length (rows_in library old))) around (Some n)
row_added library old new around n c adds =
    is_row (slice_get (rows_in library new) (length (rows_in library old))) (row_with around n)
    (ap (λ (rs : List Row). slice_get rs (length (rows_in library old))) adds.rows
    ∙ added (rows_in library old) (row_with around n))

pub number_added : (library : Library) (old new : Draft) (around : ℕ) (n : Node) (c : CheckedTerm)
    → AddsNode library.nodes old new around n c → c.node < length (rows_in library new)
number_added library old new around n c adds =
    omega (arith, adds.number, ap length adds.rows, length-append (rows_in library old) (row_with around n ∷ []))

-- ## What is named has a body

placed_body : (t : Table) (p : Found) (args : List ℕ) → HasBody t p
    → HasBodyBelow t.bodies (length t.rows) (Some (node_at p args))
placed_body t (place.Declared n) args h = tt
placed_body t (place.Defined n) args h = h

named_body : (t : Table) (o : Option Head) (args : List ℕ) (n : Node)
    → ((head : Head) → o ≡ Some head → HasBody t head.place) → named_node o args ≡ Some n
    → HasBodyBelow t.bodies (length t.rows) (Some n)
named_body t None args n bodied h = cc
named_body t (Some head) args n bodied h = by (length args == head.arity) h
  where
    by : (b : Bool) → cond b (Some (node_at head.place args)) None ≡ Some n
        → HasBodyBelow t.bodies (length t.rows) (Some n)
    by true g = subst (λ (o : Option Node). HasBodyBelow t.bodies (length t.rows) o) g
        (placed_body t head.place args (bodied head refl))
    by false g = cc

applied_body : (t : Table) (r : Result Op OpFault) (o : Option Head) (args : List ℕ) (n : Node)
    → ((head : Head) → o ≡ Some head → HasBody t head.place) → applied_node r o args ≡ Some n
    → HasBodyBelow t.bodies (length t.rows) (Some n)
applied_body t (Ok op) o args n bodied h =
    subst (λ (p : Option Node). HasBodyBelow t.bodies (length t.rows) p) h tt
applied_body t (Err e) o args n bodied h = named_body t o args n bodied h

alone_body : (t : Table) (x : List ℕ) (r : Result Op OpFault) (o : Option Head) (n : Node)
    → ((head : Head) → o ≡ Some head → HasBody t head.place) → node_alone t x r o ≡ Some n
    → HasBodyBelow t.bodies (length t.rows) (Some n)
alone_body t x (Ok op) o n bodied h =
    subst (λ (p : Option Node). HasBodyBelow t.bodies (length t.rows) p) h tt
alone_body t x (Err fault) (Some head) n bodied h = named_body t (Some head) [] n bodied h
alone_body t x (Err fault) None n bodied h = by (element_among t.elements x) h
  where
    by : (o : Option Sort) → element_node x o ≡ Some n → HasBodyBelow t.bodies (length t.rows) (Some n)
    by None g = cc
    by (Some sort) g = subst (λ (p : Option Node). HasBodyBelow t.bodies (length t.rows) p) g tt

pub has_body : (t : Table) (f : Identifier) (args : List ℕ) (n : Node) → IsReady t → node_of t f args ≡ Some n
    → HasBodyBelow t.bodies (length t.rows) (Some n)
has_body t (Plain f) args n ready h =
    applied_body t (op_by t.theories f []) (look_up t.heads f) args n (ready.bodied f) h
has_body t (Indexed f is) args n ready h =
    applied_body t (op_by t.theories f is) None args n (λ head g. cc) h
has_body t (Qualified sort) args n ready h = by (constant_op t.theories t.elements sort) h
  where
    by : (r : Result Op TermFlaw) → constant_node r args ≡ Some n → HasBodyBelow t.bodies (length t.rows) (Some n)
    by (Ok op) g = subst (λ (p : Option Node). HasBodyBelow t.bodies (length t.rows) p) g tt
    by (Err fault) g = cc

-- ## One node more

-- a node that is added behind others stands for a term where it does so by its number
pub made_stands : (library : Library) (old mid new : Draft) (around : ℕ) (term : Sexp) (n : Node)
    (c : CheckedTerm) → GrowsTo old mid → KeepsNamed library old mid → GrowsTo mid new
    → AddsNode library.nodes mid new around n c
    → (IsReady (table_in library old) → c.is_open ≡ false
    → HasBodyBelow (table_in library mid).bodies (length (rows_in library mid)) (Some n)
    × (IsNode (table_in library new) around (length (rows_in library mid)) (Some n)
    → Denotes (table_in library new) (slots_seen old) (places_seen old) around (length (rows_in library mid)) term))
    → Stands library old new around term c
made_stands library old mid new around term n c first named second adds made = record {
  own = omega (arith, adds.number, length-append (rows_of library.nodes) (rows_of mid.nodes));
  number = number_added library mid new around n c adds;
  denotes = λ ready closed.
      let m = made ready closed in
      subst (λ (i : ℕ). Denotes (table_in library new) (slots_seen old) (places_seen old) around i term)
      (sym adds.number)
      (m.1 (
        row_added library mid new around n c adds,
        subst (λ ls. HasBodyBelow (library.bodies.items ++ map (λ l. l.node) ls.given.items)
            (length (rows_in library mid)) (Some n)) (sym adds.labels) m.0,
      ));
  named = keeps_on library old mid new first named (keeps_labels library mid new second adds.labels);
}

-- ## Leaves

-- a literal
pub literal_stands : (library : Library) (old new : Draft) (around : ℕ) (term : Sexp) (n : Node) (c : CheckedTerm)
    → GrowsTo old new → AddsNode library.nodes old new around n c
    → HasBodyBelow (table_in library old).bodies (length (rows_in library old)) (Some n)
    → ((t : Table) (slots : Slots) (next i : ℕ) → IsNode t around i (Some n) → Denotes t slots next around i term)
    → Stands library old new around term c
literal_stands library old new around term n c longer adds body made =
    made_stands library old old new around term n c (grows_itself old) (keeps_itself library old) longer adds
    (λ ready closed. (
      body,
      λ is. made (table_in library new) (slots_seen old) (places_seen old) (length (rows_in library old)) is,
    ))

-- a variable
pub variable_stands : (library : Library) (old new : Draft) (around : ℕ) (x : List ℕ) (b : Bound) (c : CheckedTerm)
    → IsPlaced (seen_by old) old.base → look_up (seen_by old) x ≡ Some b
    → c.is_open ≡ nat_lt b.place old.base → GrowsTo old new
    → AddsNode library.nodes old new around (node.Slot (b.place - old.base)) c
    → Stands library old new around (Atom Symbol x) c
variable_stands library old new around x b c placed found is longer adds =
    made_stands library old old new around (Atom Symbol x) (node.Slot (b.place - old.base)) c (grows_itself old)
    (keeps_itself library old) longer adds
    (λ ready closed. (
      tt,
      λ made. subst (λ (o : Option ℕ). IsNode (table_in library new) around (length (rows_in library old))
          (symbol_node (table_in library new) x o))
          (sym (slot_inside (seen_by old) old.base x b placed found (sym is ∙ closed))) made,
    ))

-- an application whose node is as the table of names has it
applied_stands : (library : Library) (old mid new : Draft) (around : ℕ) (term : Sexp) (f : Identifier)
    (sorts : List Sort) (args : List ℕ) (c : CheckedTerm) → GrowsTo old mid → KeepsNamed library old mid
    → GrowsTo mid new
    → AddsApplied library mid new around f sorts args c → length args ≡ length sorts
    → (IsReady (table_in library old) → c.is_open ≡ false
    → IsNode (table_in library new) around (length (rows_in library mid)) (node_of (table_in library new) f args)
    → Denotes (table_in library new) (slots_seen old) (places_seen old) around (length (rows_in library mid)) term)
    → Stands library old new around term c
applied_stands library old mid new around term f sorts args c first named second adds counted made =
    made_stands library old mid new around term adds.node c first named second adds.added
    (λ ready closed.
    let at : node_of (table_in library mid) f args ≡ Some adds.node =
    same mid ∙ adds.is ready.free counted in (
      has_body (table_in library mid) f args adds.node (ready_kept library old mid first ready) at,
      λ is. made ready closed
          (subst (λ (o : Option Node). IsNode (table_in library new) around (length (rows_in library mid)) o)
          (sym (same new ∙ adds.is ready.free counted)) is),
    ))
  where
    same : (d : Draft) → node_of (table_in library d) f args ≡ node_of (table_of library) f args
    same d = by f
      where
        by : (g : Identifier) → node_of (table_in library d) g args ≡ node_of (table_of library) g args
        by (Plain x) = refl
        by (Indexed x is) = refl
        by (Qualified sort) = refl

-- a symbol that is no variable
pub symbol_stands : (library : Library) (old new : Draft) (around : ℕ) (x : List ℕ) (c : CheckedTerm)
    → look_up (seen_by old) x ≡ None → GrowsTo old new → AddsAlone library old new around x c
    → Stands library old new around (Atom Symbol x) c
symbol_stands library old new around x c none longer adds =
    made_stands library old old new around (Atom Symbol x) adds.node c (grows_itself old) (keeps_itself library old)
    longer adds.added
    (λ ready closed.
    let at : alone (table_of library) ≡ Some adds.node = adds.is ready.free in (
      alone_body (table_in library old) x (op_by library.sorts.theories x []) (look_up (table_of library).heads x)
          adds.node (ready.bodied x)
          (same old (op_by library.sorts.theories x []) (look_up (table_of library).heads x) ∙ at),
      λ is. subst (λ (o : Option ℕ). IsNode (table_in library new) around (length (rows_in library old))
          (symbol_node (table_in library new) x o)) (sym (slot_none (seen_by old) old.base x none))
          (subst (λ (o : Option Node). IsNode (table_in library new) around (length (rows_in library old)) o)
          (sym (same new (op_by library.sorts.theories x []) (look_up (table_of library).heads x) ∙ at)) is),
    ))
  where
    alone : Table → Option Node
    alone t = node_alone t x (op_by library.sorts.theories x []) (look_up (table_of library).heads x)

    same : (d : Draft) (r : Result Op OpFault) (o : Option Head)
        → node_alone (table_in library d) x r o ≡ node_alone (table_of library) x r o
    same d (Ok op) o = refl
    same d (Err fault) (Some head) = refl
    same d (Err fault) None = refl

-- an identifier with indexes alone
pub indexed_stands : (library : Library) (old new : Draft) (around : ℕ) (head : Sexp) (args parts : Sexps)
    (f : Identifier) (c : CheckedTerm) → parts ≡ Cons head args → begins_indexed head ≡ true → indexed args ≡ Ok f
    → GrowsTo old new → AddsApplied library old new around f [] [] c → Stands library old new around (Items parts) c
indexed_stands library old new around head args parts f c split is_head is longer adds =
    subst (λ (ps : Sexps). Stands library old new around (Items ps) c)
    (sym (split ∙ ap (λ (h : Sexp). Cons h args) (underscore_head head is_head)))
    (applied_stands library old old new around (Items (Cons (Reserved Underscore) args)) f [] [] c (grows_itself old)
    (keeps_itself library old) longer adds refl (λ ready closed made. (f, is, made)))

-- ## Applications

-- what a list with another head stands for
other_denotes : (t : Table) (slots : Slots) (next around i : ℕ) (head : Sexp) (args : Sexps) → IsPlainHead head
    → (f : Identifier) (js : List ℕ) → applied head args ≡ Ok f → IsNode t around i (node_of t f js)
    → AreDenoted t slots next i js args → Denotes t slots next around i (Items (Cons head args))
other_denotes t slots next around i head args other f js is made all =
    by head other.no_index other.no_let other.no_bang other.no_as is
  where
    by : (h : Sexp) → begins_indexed h ≡ false → begins_let h ≡ false → begins_annotated h ≡ false
        → begins_qualified h ≡ false → applied h args ≡ Ok f → Denotes t slots next around i (Items (Cons h args))
    by (Reserved Underscore) k l m n g = cc
    by (Reserved As) k l m n g = cc
    by (Reserved Let) k l m n g = cc
    by (Reserved Bang) k l m n g = cc
    by _ k l m n g = (f, js, g, made, all)

-- an application to arguments that stand for theirs
pub call_stands : (library : Library) (old mid new : Draft) (around : ℕ) (head : Sexp) (args parts : Sexps)
    (f : Identifier) (sorts : List Sort) (js : List ℕ) (is_open : Bool) (c : CheckedTerm)
    → parts ≡ Cons head args → IsPlainHead head → applied head args ≡ Ok f → c.is_open ≡ is_open → GrowsTo old mid
    → TermsStand library old mid args js is_open → length js ≡ length sorts → GrowsTo mid new
    → AddsApplied library mid new around f sorts js c → Stands library old new around (Items parts) c
call_stands library old mid new around head args parts f sorts js is_open c split other is same first all counted
    second adds =
    subst (λ (ps : Sexps). Stands library old new around (Items ps) c) (sym split)
    (applied_stands library old mid new around (Items (Cons head args)) f sorts js c first all.named second adds counted
    (λ ready closed made. other_denotes (table_in library new) (slots_seen old) (places_seen old) around
    (length (rows_in library mid)) head args other f js is made
    (all_kept (table_in library mid) (table_in library new) (second library) (slots_seen old) (places_seen old)
    (length (rows_in library mid)) js args (all.denote ready (sym same ∙ closed)))))

-- what follows of an answer
pub if_answered : {T E : Type 0} (r : Result T E) (P Q : T → Type 0) → ((v : T) → P v → Q v) → IfOk r P → IfOk r Q
if_answered (Ok v) P Q f h = f v h
if_answered (Err e) P Q f h = h

pub if_both : {T E : Type 0} (r : Result T E) (P Q S : T → Type 0) → ((v : T) → P v → Q v → S v) → IfOk r P
    → IfOk r Q → IfOk r S
if_both (Ok v) P Q S f h g = f v h g
if_both (Err e) P Q S f h g = h
