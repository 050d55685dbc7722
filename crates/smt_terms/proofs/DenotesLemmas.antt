-- Nodes stand for their terms in longer tables too.
use Rattle.std.proofs.Common.{◌≡◌, ℕ, zero, suc, ◌+◌, Bool, true, false, cond, List, [], ◌∷◌, ◌++◌}
use Rattle.std.proofs.Common.{length, slice_get, Option, Some, None, Result, Ok, Err, refl, ap, sym, ◌∙◌}
use Rattle.std.proofs.Common.{subst, ◌≤◌, arith}
use Rattle.std.specs.Prelude.{bytes_eq}
use Rattle.smt_trees.specs.Sexp.{Sexp, Sexps, Atom, Reserved, Items, Nil, Cons, Numeral, Decimal, Hexadecimal}
use Rattle.smt_trees.specs.Sexp.{Binary, Symbol}
use Rattle.smt_trees.specs.declared.reserved.Word.TheVariants.{As, Bang, Let, Underscore}
use Rattle.smt_theory.specs.Operators.{op_by}
use Rattle.smt_theory.specs.Words.{look_up}
use Rattle.smt_theory.specs.declared.op.Op.{Op}
use Rattle.smt_theory.specs.declared.op.OpFault.{OpFault}
use Rattle.smt_theory.specs.Sort.{Sort}
use Rattle.smt_forms.specs.ElementNames.{qualified_symbol}
use Rattle.smt_terms.specs.Elements.{constant_op, element_among}
use Rattle.smt_forms.specs.Identifier.{Identifier, Plain, Indexed, Qualified}
use Rattle.smt_forms.specs.Labels.{labels_among}
use Rattle.smt_theory.specs.declared.literal.LiteralKind.TheVariants as literal
use Rattle.smt_nodes.specs.Node as node
use Rattle.smt_nodes.specs.Node.{Node, Row}
use Rattle.smt_terms.specs.Denotes.{AreBound, AreDenoted, Denotes, HasBodyBelow, Head, IsLonger, IsNameOf}
use Rattle.smt_terms.specs.Denotes.{IsNode, IsRow, Slots, Table, UsesNone, applied_node, constant_node, element_node}
use Rattle.smt_terms.specs.Denotes.{named_node, node_alone, node_of, qualified_node}
use Rattle.smt_terms.specs.Denotes.{slots_bound, symbol_node, unless_labelled}

-- ---- longer lists

pub look_up-append : {A : Type 0} (xs ys : List (List ℕ × A)) (f : List ℕ) (a : A) → look_up xs f ≡ Some a
    → look_up (xs ++ ys) f ≡ Some a
look_up-append [] ys f a h = cc
look_up-append (x ∷ xs) ys f a h = by (bytes_eq f x.0) h (look_up-append xs ys f a)
  where
    by : (b : Bool) → cond b (Some x.1) (look_up xs f) ≡ Some a
        → (look_up xs f ≡ Some a → look_up (xs ++ ys) f ≡ Some a)
        → cond b (Some x.1) (look_up (xs ++ ys) f) ≡ Some a
    by true h next = h
    by false h next = next h

pub slice_get-append : {A : Type 0} (xs ys : List A) (i : ℕ) (a : A) → slice_get xs i ≡ Some a
    → slice_get (xs ++ ys) i ≡ Some a
slice_get-append [] ys i a h = cc
slice_get-append (x ∷ xs) ys zero a h = h
slice_get-append (x ∷ xs) ys (suc i) a h = slice_get-append xs ys i a h

-- ---- no node

pub no_row : (r : Option Row) (around : ℕ) → IsRow r around None → ⊥
no_row None around h = h
no_row (Some row) around h = h

-- what is no element's has no node of one
no_element : {B : Type 0} (x : List ℕ) (o : Option Sort) (n : Node) → o ≡ None → element_node x o ≡ Some n → B
no_element x None n none some = cc
no_element x (Some sort) n none some = cc

-- ---- from a table to a longer one

module _ (t u : Table) (longer : IsLonger t u) where
  row_kept : (i around : ℕ) (n : Option Node) → IsRow (slice_get t.rows i) around n
      → IsRow (slice_get u.rows i) around n
  row_kept i around n h = by (slice_get t.rows i) refl h
    where
      by : (r : Option Row) → slice_get t.rows i ≡ r → IsRow r around n → IsRow (slice_get u.rows i) around n
      by None is h = absurd h
      by (Some row) is h = subst (λ r. IsRow r around n)
          (sym (ap (λ rows. slice_get rows i) longer.rows.1
          ∙ slice_get-append t.rows longer.rows.0 i row is)) h

  name_kept : (p : ℕ) (label : List ℕ) → slice_get t.names p ≡ Some label → slice_get u.names p ≡ Some label
  name_kept p label h =
      ap (λ names. slice_get names p) longer.names.1 ∙ slice_get-append t.names longer.names.0 p label h

  pub body_kept : (p j : ℕ) → slice_get t.bodies p ≡ Some j → slice_get u.bodies p ≡ Some j
  body_kept p j h =
      ap (λ bodies. slice_get bodies p) longer.bodies.1 ∙ slice_get-append t.bodies longer.bodies.0 p j h

  below_kept : (i : ℕ) (n : Option Node) → HasBodyBelow t.bodies i n → HasBodyBelow u.bodies i n
  below_kept i (Some (node.Defined p args)) h = (h.0, body_kept p h.0 h.1, h.2)
  below_kept i _ h = tt

  head_kept : (f : List ℕ) (h : Head) → look_up t.heads f ≡ Some h → look_up u.heads f ≡ Some h
  head_kept f h at =
      ap (λ heads. look_up heads f) longer.heads.1 ∙ look_up-append t.heads longer.heads.0 f h at

  named_kept : (f : List ℕ) (args : List ℕ) (n : Node) → named_node (look_up t.heads f) args ≡ Some n
      → named_node (look_up u.heads f) args ≡ Some n
  named_kept f args n h = by (look_up t.heads f) refl h
    where
      by : (o : Option Head) → look_up t.heads f ≡ o → named_node o args ≡ Some n
          → named_node (look_up u.heads f) args ≡ Some n
      by None is h = cc
      by (Some head) is h = ap (λ o. named_node o args) (head_kept f head is) ∙ h

  applied_kept : (o : Result Op OpFault) (f : List ℕ) (args : List ℕ) (n : Node)
      → applied_node o (look_up t.heads f) args ≡ Some n → applied_node o (look_up u.heads f) args ≡ Some n
  applied_kept (Ok op) f args n h = h
  applied_kept (Err fault) f args n h = named_kept f args n h

  node_kept : (f : Identifier) (args : List ℕ) (n : Node) → node_of t f args ≡ Some n
      → node_of u f args ≡ Some n
  node_kept (Plain f) args n h =
      ap (λ ts. applied_node (op_by ts f []) (look_up u.heads f) args) longer.theories
      ∙ applied_kept (op_by t.theories f []) f args n h
  node_kept (Indexed f indexes) args n h =
      ap (λ ts. applied_node (op_by ts f indexes) None args) longer.theories ∙ h
  node_kept (Qualified sort) args n h =
      ap (λ ts. constant_node (constant_op ts u.elements sort) args) longer.theories
      ∙ ap (λ es. constant_node (constant_op t.theories es sort) args) longer.elements ∙ h

  is_kept : (i around : ℕ) (n : Option Node) → IsNode t around i n → IsNode u around i n
  is_kept i around n h = (row_kept i around n h.0, below_kept i n h.1)

  made_kept : (i around : ℕ) (n m : Option Node) → ((k : Node) → n ≡ Some k → m ≡ Some k)
      → IsNode t around i n → IsNode u around i m
  made_kept i around None m same h = absurd (no_row (slice_get t.rows i) around h.0)
  made_kept i around (Some k) m same h =
      subst (λ o. IsNode u around i o) (sym (same k refl)) (is_kept i around (Some k) h)

  alone_kept : (x : List ℕ) (r : Result Op OpFault) (n : Node) → node_alone t x r (look_up t.heads x) ≡ Some n
      → node_alone u x r (look_up u.heads x) ≡ Some n
  alone_kept x (Ok op) n h = h
  alone_kept x (Err fault) n h = by (look_up t.heads x) (look_up u.heads x) refl refl h
    where
      by : (o p : Option Head) → look_up t.heads x ≡ o → look_up u.heads x ≡ p
          → node_alone t x (Err fault) o ≡ Some n → node_alone u x (Err fault) p ≡ Some n
      by (Some head) p is now h =
          ap (λ q. node_alone u x (Err fault) q) (sym now ∙ head_kept x head is) ∙ h
      by None None is now h = ap (λ es. element_node x (element_among es x)) longer.elements ∙ h
      by None (Some head) is now h =
          no_element x (element_among t.elements x) n (longer.apart x head is now) h

  symbol_kept : (x : List ℕ) (o : Option ℕ) (n : Node) → symbol_node t x o ≡ Some n
      → symbol_node u x o ≡ Some n
  symbol_kept x (Some slot) n h = h
  symbol_kept x None n h =
      ap (λ ts. node_alone u x (op_by ts x []) (look_up u.heads x)) longer.theories
      ∙ alone_kept x (op_by t.theories x []) n h

  annotated_kept : (slots : Slots) (next around i : ℕ) (term : Sexp) (labels : List (List ℕ))
      → (Denotes t slots next (around + 1) i term → Denotes u slots next (around + 1) i term)
      → ((j : ℕ) → Denotes t [] 0 0 j term → Denotes u [] 0 0 j term)
      → unless_labelled labels (Denotes t slots next (around + 1) i term)
      (λ label. UsesNone slots term × IsNameOf t label around i (λ j. Denotes t [] 0 0 j term))
      → unless_labelled labels (Denotes u slots next (around + 1) i term)
      (λ label. UsesNone slots term × IsNameOf u label around i (λ j. Denotes u [] 0 0 j term))
  annotated_kept slots next around i term [] bare labelled h = bare h
  annotated_kept slots next around i term (label ∷ labels) bare labelled h =
      let n = h.1 in (
        h.0,
        (
          n.0,
          n.1,
          name_kept n.0 label n.2,
          row_kept i around (Some (node.Defined n.0 [])) n.3,
          body_kept n.0 n.1 n.4,
          n.5,
          labelled n.1 n.6,
        ),
      )

  mutual
    pub denotes_kept : (slots : Slots) (next around i : ℕ) (term : Sexp) → Denotes t slots next around i term
        → Denotes u slots next around i term
    denotes_kept slots next around i (Atom Symbol x) d =
        made_kept i around (symbol_node t x (look_up slots x)) (symbol_node u x (look_up slots x))
        (symbol_kept x (look_up slots x)) d
    denotes_kept slots next around i (Atom Numeral digits) d =
        is_kept i around (Some (node.Literal literal.Numeral digits)) d
    denotes_kept slots next around i (Atom Decimal digits) d =
        is_kept i around (Some (node.Literal literal.Decimal digits)) d
    denotes_kept slots next around i (Atom Hexadecimal digits) d =
        is_kept i around (Some (node.Literal literal.Hexadecimal digits)) d
    denotes_kept slots next around i (Atom Binary digits) d =
        is_kept i around (Some (node.Literal literal.Binary digits)) d
    denotes_kept slots next around i (Items (Cons (Reserved Underscore) parts)) d =
        (d.0, d.1, made_kept i around (node_of t d.0 []) (node_of u d.0 []) (node_kept d.0 []) d.2)
    denotes_kept slots next around i (Items (Cons (Reserved As) parts)) d =
        made_kept i around (qualified_node t.elements (qualified_symbol parts))
        (qualified_node u.elements (qualified_symbol parts))
        (λ k is. ap (λ e. qualified_node e (qualified_symbol parts)) longer.elements ∙ is) d
    denotes_kept slots next around i
        (Items (Cons (Reserved Let) (Cons (Items bindings) (Cons body Nil)))) d = (
          d.0,
          d.1,
          is_kept i around (Some (node.Let d.0 d.1)) d.2,
          bound_kept slots next i d.0 bindings d.3,
          d.4,
          denotes_kept (slots_bound next bindings ++ slots) (next + length d.0) 0 d.1 body d.5,
        )
    denotes_kept slots next around i (Items (Cons (Reserved Bang) (Cons term attributes))) d =
        annotated_kept slots next around i term (labels_among attributes)
        (denotes_kept slots next (around + 1) i term) (λ j. denotes_kept [] 0 0 j term) d
    denotes_kept slots next around i (Items (Cons head args)) d = (
      d.0,
      d.1,
      d.2,
      made_kept i around (node_of t d.0 d.1) (node_of u d.0 d.1) (node_kept d.0 d.1) d.3,
      all_kept slots next i d.1 args d.4,
    )
    denotes_kept slots next around i _ d = absurd d

    pub all_kept : (slots : Slots) (next i : ℕ) (js : List ℕ) (terms : Sexps)
        → AreDenoted t slots next i js terms → AreDenoted u slots next i js terms
    all_kept slots next i [] Nil d = tt
    all_kept slots next i (j ∷ js) (Cons x xs) d =
        (d.0, denotes_kept slots next 0 j x d.1, all_kept slots next i js xs d.2)
    all_kept slots next i _ _ d = absurd d

    pub bound_kept : (slots : Slots) (next i : ℕ) (js : List ℕ) (bindings : Sexps)
        → AreBound t slots next i js bindings → AreBound u slots next i js bindings
    bound_kept slots next i [] Nil d = tt
    bound_kept slots next i (j ∷ js) (Cons (Items (Cons (Atom Symbol x) (Cons term Nil))) rest) d =
        (d.0, denotes_kept slots next 0 j term d.1, bound_kept slots next i js rest d.2)
    bound_kept slots next i _ _ d = absurd d

-- nodes below a row are below a later one
pub bound_later : (t : Table) (slots : Slots) (next i later : ℕ) (js : List ℕ) (bindings : Sexps) → i ≤ later
    → AreBound t slots next i js bindings → AreBound t slots next later js bindings
bound_later t slots next i later [] Nil h d = tt
bound_later t slots next i later (j ∷ js) (Cons (Items (Cons (Atom Symbol x) (Cons term Nil))) rest) h d =
    (omega (arith, d.0, h), d.1, bound_later t slots next i later js rest h d.2)
bound_later t slots next i later _ _ h d = absurd d
