-- The value of a node is what is known of the term that it stands for, where the identifiers of the term mean
-- what their nodes give.
use Rattle.std.proofs.Common.{◌≡◌, ◌≤◌, ◌<◌, ℕ, ◌+◌, cond, List, [], ◌∷◌, ◌++◌, length, map}
use Rattle.std.proofs.Common.{slice_get, Option, Some, None, option_map, refl, ap, sym, ◌∙◌, subst, arith}
use Rattle.std.proofs.Common.{Result, Ok, Err, suc, length-append}
use Rattle.std.proofs.lemmas.Bool.{lt-ltb}
use Rattle.std.proofs.lemmas.List.{length-map}
use Rattle.std.specs.List.{zip}
use Rattle.std.specs.Prelude.{option_and_then, unwrap_or}
use Rattle.smt_trees.specs.Sexp.{Sexp, Sexps, Atom, Reserved, Items, Nil, Cons, Numeral, Decimal, Hexadecimal}
use Rattle.smt_trees.specs.Sexp.{Binary}
use Rattle.smt_trees.specs.Sexp.{Symbol}
use Rattle.smt_trees.specs.declared.reserved.Word.TheVariants.{As, Bang, Let, Underscore}
use Rattle.smt_theory.specs.Words.{look_up}
use Rattle.smt_theory.specs.Operators.{op_by}
use Rattle.smt_theory.specs.declared.op.Op.{Op}
use Rattle.smt_theory.specs.declared.op.OpFault.{OpFault}
use Rattle.smt_theory.specs.Sort.{Sort}
use Rattle.smt_theory.specs.Sort.{Boolean}
use Rattle.smt_faults.specs.declared.term_flaw.TermFlaw.{TermFlaw}
use Rattle.smt_arrays.specs.Element.{Element, Plain as NoArray}
use Rattle.smt_forms.specs.ElementNames.{qualified_symbol}
use Rattle.smt_forms.specs.Bindings.{named_trees}
use Rattle.smt_forms.specs.Identifier.{Identifier, Plain, applied, indexed}
use Rattle.smt_forms.specs.Labels.{labels_among}
use Rattle.smt_theory.specs.declared.literal.LiteralKind.TheVariants as literal
use Rattle.smt_nodes.specs.Node as node
use Rattle.smt_nodes.specs.Node.{Node, Row}
use Rattle.smt_machine.specs.Nodes.{Frame, Giving, at_place, node_value, part, parts}
use Rattle.smt_values.specs.Element.{Naming}
use Rattle.smt_machine.specs.Tables.{call, resolved, shifted}
use Rattle.smt_terms.specs.Denotes.{AreBound, AreDenoted, Denotes, HasBodyBelow, IsNameOf, IsNode, IsRow}
use Rattle.smt_terms.specs.Denotes.{Head, Slots, Table, UsesNone, applied_node, element_node, node_alone, node_of}
use Rattle.smt_terms.specs.Denotes.{qualified_node, slots_bound, symbol_node, unless_labelled}
use Rattle.smt_terms.specs.Elements.{ElementNames, element_among}
use Rattle.smt_eval.proofs.FrameLemmas.{StandIn, stands_behind, stands_both, stands_found, stands_hidden}
use Rattle.smt_eval.proofs.FrameLemmas.{stands_more}
use Rattle.smt_eval.proofs.UnusedVariableLemmas.{Knowns, known_same}
use Rattle.smt_eval.specs.Known.{KnownMeaning, known_by, known_of, knowns_bound, knowns_of}

-- ---- rows and parts

-- a row that is a node
row_of : (o : Option Row) (around : ℕ) (n : Node) → IsRow o around (Some n)
    → (row : Row) × (o ≡ Some row) × (row.node ≡ n)
row_of None around n h = absurd h
row_of (Some row) around n h = (row, refl, h.0)

no_row : (o : Option Row) (around : ℕ) → IsRow o around None → ⊥
no_row None around h = h
no_row (Some row) around h = h

-- a part with a lower number
pub part_below : (off i j : ℕ) (g : Giving) (frame : Frame) → j < i
    → part (off + i) g frame (off + j) ≡ g (off + j) frame
part_below off i j g frame h =
    ap (λ b. cond b (g (off + j) frame) None) (lt-ltb (off + j) (off + i) (omega arith))

pub parts_counted : (off i : ℕ) (g : Giving) (frame : Frame) (js : List ℕ)
    → length (parts i g frame (shifted off js)) ≡ length js
parts_counted off i g frame js =
    length-map (shifted off js) (part i g frame) ∙ length-map js (λ j. off + j)

-- ---- bindings

-- bindings bring their names with these values
abbrev pub IsBoundTo : KnownMeaning → Knowns → Sexps → List (Option Element) → Type 0
IsBoundTo m r bindings values =
    (knowns_bound m r bindings ≡ zip (map (λ b. b.0) (named_trees bindings)) values)
    × (length (map (λ b. b.0) (named_trees bindings)) ≡ length values)

bound_more : (m : KnownMeaning) (r : Knowns) (x : List ℕ) (term : Sexp) (rest : Sexps)
    (values : List (Option Element)) (v : Option Element) → v ≡ known_of m r term → IsBoundTo m r rest values
    → IsBoundTo m r (Cons (Items (Cons (Atom Symbol x) (Cons term Nil))) rest) (v ∷ values)
bound_more m r x term rest values v here later = (
  ap (λ k. (x, k) ∷ knowns_bound m r rest) (sym here) ∙ ap (λ ks. (x, v) ∷ ks) later.0,
  ap suc later.1,
)

-- they stand behind the frame
bound_stand : (m : KnownMeaning) (frame : Frame) (next : ℕ) (bindings : Sexps)
    (values : List (Option Element)) (r : Knowns) → next ≡ length frame → IsBoundTo m r bindings values
    → StandIn (frame ++ values) (slots_bound next bindings) (knowns_bound m r bindings)
bound_stand m frame next bindings values r counted bound =
    subst (λ ks. StandIn (frame ++ values) (slots_bound next bindings) ks) (sym bound.0)
    (stands_behind frame values (map (λ b. b.0) (named_trees bindings)) next counted bound.1)

bound_counted : (frame values : Frame) (next : ℕ) (js : List ℕ) → next ≡ length frame
    → length values ≡ length js → next + length js ≡ length (frame ++ values)
bound_counted frame values next js counted same =
    let both = length-append frame values in omega (arith, counted, same, both)

-- ---- what rows give

-- at each row of the table, behind so many others, stands the value of its node
abbrev pub HasRows : Giving → Naming → ℕ → List ℕ → Table → Type 0
HasRows g held off declared t = (k : ℕ) (row : Row) → slice_get t.rows k ≡ Some row → (frame : Frame)
    → g (off + k) frame ≡ node_value (off + k) g frame (Some (resolved held off t.bodies declared row.node))

-- the node of an identifier with arguments, up to this number, gives what the identifier means
abbrev pub MeansItsNodes : Giving → Naming → ℕ → List ℕ → Table → KnownMeaning → ℕ → Type 0
MeansItsNodes g held off declared t m last = (i : ℕ) (frame : Frame) (f : Identifier) (js : List ℕ) (n : Node)
    → i ≤ last → node_of t f js ≡ Some n → HasBodyBelow t.bodies i (Some n)
    → node_value (off + i) g frame (Some (resolved held off t.bodies declared n))
    ≡ m.gives f (parts (off + i) g frame (shifted off js))

-- a symbol that is no operator and not in force, but an element, means this element
abbrev pub MeansElements : Naming → Table → KnownMeaning → Type 0
MeansElements held t m = (x : List ℕ) (sort : Sort) (fault : OpFault) → op_by t.theories x [] ≡ Err fault
    → look_up t.heads x ≡ None → element_among t.elements x ≡ Some sort → m.gives (Plain x) [] ≡ option_map NoArray (held x)

-- where terms may name elements, their names mean what rows hold of them
abbrev pub NamesElements : Naming → Table → KnownMeaning → Type 0
NamesElements held t m = (elements : ElementNames) → t.elements ≡ Some elements → (x : List ℕ) → held x ≡ m.element x

module _ (g : Giving) (held : Naming) (off : ℕ) (declared : List ℕ) (t : Table) (m : KnownMeaning) (last : ℕ)
    (rows : HasRows g held off declared t) (means : MeansItsNodes g held off declared t m last)
    (elements : MeansElements held t m) (named : NamesElements held t m) where
  node_given : (i around : ℕ) (n : Node) (frame : Frame) → IsRow (slice_get t.rows i) around (Some n)
      → g (off + i) frame ≡ node_value (off + i) g frame (Some (resolved held off t.bodies declared n))
  node_given i around n frame h =
      let r = row_of (slice_get t.rows i) around n h in
      rows i r.0 r.1 frame
      ∙ ap (λ k. node_value (off + i) g frame (Some (resolved held off t.bodies declared k))) r.2

  -- an identifier with arguments
  applied_given : (i around : ℕ) (frame : Frame) (f : Identifier) (js : List ℕ) → i ≤ last
      → IsNode t around i (node_of t f js) → g (off + i) frame ≡ m.gives f (parts (off + i) g frame (shifted off js))
  applied_given i around frame f js h is = by (node_of t f js) refl is
    where
      by : (o : Option Node) → node_of t f js ≡ o → IsNode t around i o
          → g (off + i) frame ≡ m.gives f (parts (off + i) g frame (shifted off js))
      by None at d = absurd (no_row (slice_get t.rows i) around d.0)
      by (Some n) at d = node_given i around n frame d.0 ∙ means i frame f js n h at d.1

  -- a symbol alone that is no variable
  element_given : (i around : ℕ) (frame : Frame) (x : List ℕ) (fault : OpFault) (o : Option Sort)
      → op_by t.theories x [] ≡ Err fault → look_up t.heads x ≡ None → element_among t.elements x ≡ o
      → IsNode t around i (element_node x o) → g (off + i) frame ≡ m.gives (Plain x) []
  element_given i around frame x fault None is at among d = absurd (no_row (slice_get t.rows i) around d.0)
  element_given i around frame x fault (Some sort) is at among d =
      node_given i around (node.Element x) frame d.0 ∙ sym (elements x sort fault is at among)

  alone_given : (i around : ℕ) (frame : Frame) (x : List ℕ) → i ≤ last
      → IsNode t around i (symbol_node t x None) → g (off + i) frame ≡ m.gives (Plain x) []
  alone_given i around frame x h d = by (op_by t.theories x []) refl (look_up t.heads x) refl d
    where
      by : (o : Result Op OpFault) → op_by t.theories x [] ≡ o → (head : Option Head)
          → look_up t.heads x ≡ head → IsNode t around i (node_alone t x o head)
          → g (off + i) frame ≡ m.gives (Plain x) []
      by (Ok op) is head at d = applied_given i around frame (Plain x) [] h
          (subst (λ o. IsNode t around i (applied_node o (look_up t.heads x) [])) (sym is) d)
      by (Err fault) is (Some head) at d = applied_given i around frame (Plain x) [] h
          (subst (λ o. IsNode t around i (applied_node o (look_up t.heads x) [])) (sym is)
          (subst (λ a. IsNode t around i (applied_node (Err fault) a [])) (sym at) d))
      by (Err fault) is None at d =
          element_given i around frame x fault (element_among t.elements x) is at refl d

  -- the element behind an `as`
  qualified_given : (i around : ℕ) (frame : Frame) (names : Option ElementNames) (o : Option (List ℕ))
      → t.elements ≡ names → IsNode t around i (qualified_node names o) → g (off + i) frame ≡ option_map NoArray (option_and_then m.element o)
  qualified_given i around frame None o is d = absurd (no_row (slice_get t.rows i) around d.0)
  qualified_given i around frame (Some names) None is d = absurd (no_row (slice_get t.rows i) around d.0)
  qualified_given i around frame (Some names) (Some x) is d =
      node_given i around (node.Element x) frame d.0 ∙ ap (option_map NoArray) (named names is x)

  -- a variable, or a name without arguments
  symbol_given : (i around : ℕ) (frame : Frame) (x : List ℕ) (o : Option ℕ) → i ≤ last
      → IsNode t around i (symbol_node t x o)
      → g (off + i) frame ≡ unwrap_or (option_map (at_place frame) o) (m.gives (Plain x) [])
  symbol_given i around frame x (Some slot) h d = node_given i around (node.Slot slot) frame d.0
  symbol_given i around frame x None h d = alone_given i around frame x h d

  -- an identifier that a tree is, with arguments of which this is known
  list_given : (i around : ℕ) (frame : Frame) (o : Result Identifier TermFlaw) (f : Identifier) (js : List ℕ)
      (vs : List (Option Element)) → i ≤ last → o ≡ Ok f → IsNode t around i (node_of t f js)
      → parts (off + i) g frame (shifted off js) ≡ vs → g (off + i) frame ≡ known_by o (λ k. m.gives k vs)
  list_given i around frame o f js vs h is d args =
      applied_given i around frame f js h d ∙ ap (m.gives f) args ∙ sym (ap (λ q. known_by q (λ k. m.gives k vs)) is)

  -- the name that a label gives to a term, which uses no variable
  label_given : (slots : Slots) (label : List ℕ) (i around : ℕ) (frame : Frame) (r : Knowns) (term : Sexp)
      → StandIn frame slots r → UsesNone slots term
      → (name : IsNameOf t label around i (λ j. Denotes t [] 0 0 j term))
      → g (off + name.1) [] ≡ known_of m [] term → g (off + i) frame ≡ known_of m r term
  label_given slots label i around frame r term stand unused name here =
      node_given i around (node.Defined name.0 []) frame name.3
      ∙ ap (λ o. node_value (off + i) g frame (Some (call (option_map (λ j. off + j) o) []))) name.4
      ∙ part_below off i name.1 g [] name.5 ∙ here
      ∙ known_same m [] (map (λ s. (s.0, Boolean)) slots) [] r
      (λ x none. sym (stands_hidden frame slots r x stand none)) term unused

  annotated_given : (slots : Slots) (next around i : ℕ) (frame : Frame) (r : Knowns) (term : Sexp)
      (labels : List (List ℕ)) → StandIn frame slots r
      → (Denotes t slots next (around + 1) i term → g (off + i) frame ≡ known_of m r term)
      → ((j : ℕ) → j < i → Denotes t [] 0 0 j term → g (off + j) [] ≡ known_of m [] term)
      → unless_labelled labels (Denotes t slots next (around + 1) i term)
      (λ label. UsesNone slots term × IsNameOf t label around i (λ j. Denotes t [] 0 0 j term))
      → g (off + i) frame ≡ known_of m r term
  annotated_given slots next around i frame r term [] stand bare labelled d = bare d
  annotated_given slots next around i frame r term (label ∷ labels) stand bare labelled d =
      label_given slots label i around frame r term stand d.0 d.1 (labelled d.1.1 d.1.5 d.1.6)

  mutual
    pub term_given : (slots : Slots) (next around i : ℕ) (term : Sexp) → Denotes t slots next around i term
        → i ≤ last → (frame : Frame) (r : Knowns) → next ≡ length frame → StandIn frame slots r
        → g (off + i) frame ≡ known_of m r term
    term_given slots next around i (Atom Symbol x) d h frame r counted stand =
        symbol_given i around frame x (look_up slots x) h d
        ∙ ap (λ o. unwrap_or o (m.gives (Plain x) [])) (sym (stands_found frame slots r x stand))
    term_given slots next around i (Atom Numeral digits) d h frame r counted stand =
        node_given i around (node.Literal literal.Numeral digits) frame d.0
    term_given slots next around i (Atom Decimal digits) d h frame r counted stand =
        node_given i around (node.Literal literal.Decimal digits) frame d.0
    term_given slots next around i (Atom Hexadecimal digits) d h frame r counted stand =
        node_given i around (node.Literal literal.Hexadecimal digits) frame d.0
    term_given slots next around i (Atom Binary digits) d h frame r counted stand =
        node_given i around (node.Literal literal.Binary digits) frame d.0
    term_given slots next around i (Items (Cons (Reserved Underscore) trees)) d h frame r counted stand =
        list_given i around frame (indexed trees) d.0 [] [] h d.1 d.2 refl
    term_given slots next around i (Items (Cons (Reserved As) trees)) d h frame r counted stand =
        qualified_given i around frame t.elements (qualified_symbol trees) refl d
    term_given slots next around i
        (Items (Cons (Reserved Let) (Cons (Items bindings) (Cons body Nil)))) d h frame r counted stand =
        let values = parts (off + i) g frame (shifted off d.0) in
        let bound = bound_given slots next i d.0 bindings d.3 h frame r counted stand in
        node_given i around (node.Let d.0 d.1) frame d.2.0
        ∙ part_below off i d.1 g (frame ++ values) d.4
        ∙ term_given (slots_bound next bindings ++ slots) (next + length d.0) 0 d.1 body d.5
        (omega (arith, h, d.4)) (frame ++ values) (knowns_bound m r bindings ++ r)
        (bound_counted frame values next d.0 counted (parts_counted off (off + i) g frame d.0))
        (stands_both (frame ++ values) (slots_bound next bindings) slots (knowns_bound m r bindings) r
        (bound_stand m frame next bindings values r counted bound)
        (stands_more frame values slots r stand))
    term_given slots next around i (Items (Cons (Reserved Bang) (Cons term attributes))) d h frame r counted
        stand =
        annotated_given slots next around i frame r term (labels_among attributes) stand
        (λ e. term_given slots next (around + 1) i term e h frame r counted stand)
        (λ j below e. term_given [] 0 0 j term e (omega (arith, h, below)) [] [] refl tt) d
    term_given slots next around i (Items (Cons head args)) d h frame r counted stand =
        list_given i around frame (applied head args) d.0 d.1 (knowns_of m r args) h d.2 d.3
        (all_given slots next i d.1 args d.4 h frame r counted stand)
    term_given slots next around i _ d h frame r counted stand = absurd d

    pub all_given : (slots : Slots) (next i : ℕ) (js : List ℕ) (terms : Sexps)
        → AreDenoted t slots next i js terms → i ≤ last → (frame : Frame) (r : Knowns)
        → next ≡ length frame → StandIn frame slots r
        → parts (off + i) g frame (shifted off js) ≡ knowns_of m r terms
    all_given slots next i [] Nil d h frame r counted stand = refl
    all_given slots next i (j ∷ js) (Cons x xs) d h frame r counted stand =
        let first = part_below off i j g frame d.0
        ∙ term_given slots next 0 j x d.1 (omega (arith, h, d.0)) frame r counted stand in
        let rest = all_given slots next i js xs d.2 h frame r counted stand in
        cc
    all_given slots next i _ _ d h frame r counted stand = absurd d

    pub bound_given : (slots : Slots) (next i : ℕ) (js : List ℕ) (bindings : Sexps)
        → AreBound t slots next i js bindings → i ≤ last → (frame : Frame) (r : Knowns)
        → next ≡ length frame → StandIn frame slots r
        → IsBoundTo m r bindings (parts (off + i) g frame (shifted off js))
    bound_given slots next i [] Nil d h frame r counted stand = (refl, refl)
    bound_given slots next i (j ∷ js) (Cons (Items (Cons (Atom Symbol x) (Cons term Nil))) rest) d h frame r
        counted stand =
        let first = part_below off i j g frame d.0
        ∙ term_given slots next 0 j term d.1 (omega (arith, h, d.0)) frame r counted stand in
        bound_more m r x term rest (parts (off + i) g frame (shifted off js))
        (part (off + i) g frame (off + j)) first
        (bound_given slots next i js rest d.2 h frame r counted stand)
    bound_given slots next i _ _ d h frame r counted stand = absurd d
