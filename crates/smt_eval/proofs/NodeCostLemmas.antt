-- The cost of a node is that of the term that it stands for, where the bodies that the identifiers of the term
-- name cost what their nodes do.
use Rattle.std.proofs.Common.{◌≡◌, ◌≤◌, ◌<◌, ℕ, ◌+◌, cond, List, [], ◌∷◌, ◌++◌, length, map}
use Rattle.std.proofs.Common.{slice_get, Option, Some, None, is_some, option_map, refl, ap, sym, ◌∙◌, subst, arith}
use Rattle.std.proofs.Common.{Result, Ok, Err}
use Rattle.std.proofs.lemmas.Bool.{lt-ltb}
use Rattle.std.proofs.lemmas.List.{map-append}
use Rattle.smt_trees.specs.Sexp.{Sexp, Sexps, Atom, Reserved, Items, Nil, Cons, Numeral, Decimal, Hexadecimal}
use Rattle.smt_trees.specs.Sexp.{Binary}
use Rattle.smt_trees.specs.Sexp.{Symbol}
use Rattle.smt_trees.specs.declared.reserved.Word.TheVariants.{As, Bang, Let, Underscore}
use Rattle.smt_theory.specs.Operators.{op_by}
use Rattle.smt_theory.specs.Words.{look_up}
use Rattle.smt_theory.specs.declared.op.Op.{Op}
use Rattle.smt_theory.specs.declared.op.OpFault.{OpFault}
use Rattle.smt_theory.specs.Sort.{Sort}
use Rattle.smt_faults.specs.declared.term_flaw.TermFlaw.{TermFlaw}
use Rattle.smt_forms.specs.Bindings.{named_trees}
use Rattle.smt_forms.specs.ElementNames.{qualified_symbol}
use Rattle.smt_forms.specs.Identifier.{Identifier, Plain, applied, indexed}
use Rattle.smt_forms.specs.Labels.{labels_among}
use Rattle.smt_forms.specs.Variables.{is_among}
use Rattle.smt_theory.specs.declared.literal.LiteralKind.TheVariants as literal
use Rattle.smt_nodes.specs.Node as node
use Rattle.smt_nodes.specs.Node.{Node, Row}
use Rattle.smt_machine.specs.Costs.{first_cost, last_cost, node_cost, part_cost, parts_cost}
use Rattle.smt_machine.specs.Nodes as machine
use Rattle.smt_values.specs.Element.{Naming}
use Rattle.smt_machine.specs.Tables.{call, resolved, shifted}
use Rattle.smt_terms.specs.Denotes.{AreBound, AreDenoted, Denotes, HasBodyBelow, IsNameOf, IsNode, IsRow}
use Rattle.smt_terms.specs.Denotes.{Head, Slots, Table, UsesNone, applied_node, element_node, node_alone, node_of}
use Rattle.smt_terms.specs.Denotes.{qualified_node, slots_bound, symbol_node, unless_labelled}
use Rattle.smt_terms.specs.Elements.{ElementNames, element_among}
use Rattle.smt_eval.proofs.CostLemmas.{among_names, cost_closed, names_from, names_in}
use Rattle.smt_eval.specs.Cost.{BodyCosts, cost_of, costs_bound, costs_of, head_cost}

-- ---- rows and parts

-- a row that is a node
pub row_of : (o : Option Row) (around : ℕ) (n : Node) → IsRow o around (Some n)
    → (row : Row) × (o ≡ Some row) × (row.node ≡ n) × (row.around ≡ around)
row_of None around n h = absurd h
row_of (Some row) around n h = (row, refl, h.0, h.1)

pub no_row : (o : Option Row) (around : ℕ) → IsRow o around None → ⊥
no_row None around h = h
no_row (Some row) around h = h

-- a part with a lower number
pub cost_below : (off i j : ℕ) (c : ℕ → ℕ) → j < i → part_cost (off + i) c (off + j) ≡ c (off + j)
cost_below off i j c h = ap (λ b. cond b (c (off + j)) 1) (lt-ltb (off + j) (off + i) (omega arith))

-- the variables of a `let`
names_more : (next : ℕ) (bindings : Sexps) (slots : Slots) (variables : List (List ℕ))
    → variables ≡ names_in slots
    → map (λ binding. binding.0) (named_trees bindings) ++ variables
    ≡ names_in (slots_bound next bindings ++ slots)
names_more next bindings slots variables is =
    let names = map (λ binding. binding.0) (named_trees bindings) in
    ap (λ vs. names ++ vs) is
    ∙ ap (λ (vs : List (List ℕ)). vs ++ names_in slots) (sym (names_from next names))
    ∙ sym (map-append (λ s. s.0) (slots_bound next bindings) slots)

-- ---- what rows cost

-- what is in a node costs this besides the node itself
abbrev pub inner_cost : ℕ → (ℕ → ℕ) → machine.Node → ℕ
inner_cost i c n = first_cost i c (Some n) + last_cost i c (Some n)

-- at each row of the table, behind so many others, stands the cost of its node
abbrev pub HasRowCosts : (ℕ → ℕ) → Naming → ℕ → List ℕ → Table → Type 0
HasRowCosts c held off declared t = (k : ℕ) (row : Row) → slice_get t.rows k ≡ Some row
    → c (off + k) ≡ node_cost (off + k) c row.around (Some (resolved held off t.bodies declared row.node))

-- the node of an identifier with arguments, up to this number, costs these and the body that it names
abbrev pub CostsItsNodes : (ℕ → ℕ) → Naming → ℕ → List ℕ → Table → BodyCosts → ℕ → Type 0
CostsItsNodes c held off declared t b last = (i : ℕ) (f : Identifier) (js : List ℕ) (n : Node)
    → i ≤ last → node_of t f js ≡ Some n → HasBodyBelow t.bodies i (Some n)
    → inner_cost (off + i) c (resolved held off t.bodies declared n)
    ≡ head_cost b (Ok f) + parts_cost (off + i) c (shifted off js)

-- a symbol that is no operator and not in force, but an element, names no body
abbrev pub FreesElements : Table → BodyCosts → Type 0
FreesElements t b = (x : List ℕ) (sort : Sort) → look_up t.heads x ≡ None
    → element_among t.elements x ≡ Some sort → b x ≡ 0

module _ (c : ℕ → ℕ) (held : Naming) (off : ℕ) (declared : List ℕ) (t : Table) (b : BodyCosts) (last : ℕ)
    (rows : HasRowCosts c held off declared t) (means : CostsItsNodes c held off declared t b last)
    (elements : FreesElements t b) where
  node_costs : (i around : ℕ) (n : Node) → IsRow (slice_get t.rows i) around (Some n)
      → c (off + i) ≡ around + (1 + inner_cost (off + i) c (resolved held off t.bodies declared n))
  node_costs i around n h =
      let r = row_of (slice_get t.rows i) around n h in
      let at = rows i r.0 r.1
      ∙ ap (λ k. node_cost (off + i) c r.0.around (Some (resolved held off t.bodies declared k))) r.2 in
      omega (arith, at, r.3)

  -- an identifier with arguments
  applied_costs : (i around : ℕ) (f : Identifier) (js : List ℕ) → i ≤ last
      → IsNode t around i (node_of t f js)
      → c (off + i) ≡ around + (1 + head_cost b (Ok f) + parts_cost (off + i) c (shifted off js))
  applied_costs i around f js h is = by (node_of t f js) refl is
    where
      by : (o : Option Node) → node_of t f js ≡ o → IsNode t around i o
          → c (off + i) ≡ around + (1 + head_cost b (Ok f) + parts_cost (off + i) c (shifted off js))
      by None at d = absurd (no_row (slice_get t.rows i) around d.0)
      by (Some n) at d =
          let here = node_costs i around n d.0 in
          let inner = means i f js n h at d.1 in
          omega (arith, here, inner)

  -- a symbol alone that is no variable
  element_costs : (i around : ℕ) (x : List ℕ) (o : Option Sort) → look_up t.heads x ≡ None
      → element_among t.elements x ≡ o → IsNode t around i (element_node x o)
      → c (off + i) ≡ around + (1 + b x)
  element_costs i around x None at among d = absurd (no_row (slice_get t.rows i) around d.0)
  element_costs i around x (Some sort) at among d =
      let here = node_costs i around (node.Element x) d.0 in
      let free = elements x sort at among in
      omega (arith, here, free)

  alone_costs : (i around : ℕ) (x : List ℕ) → i ≤ last → IsNode t around i (symbol_node t x None)
      → c (off + i) ≡ around + (1 + b x)
  alone_costs i around x h d = by (op_by t.theories x []) refl (look_up t.heads x) refl d
    where
      by_identifier : IsNode t around i (node_of t (Plain x) []) → c (off + i) ≡ around + (1 + b x)
      by_identifier d = let here = applied_costs i around (Plain x) [] h d in omega (arith, here)

      by : (o : Result Op OpFault) → op_by t.theories x [] ≡ o → (head : Option Head)
          → look_up t.heads x ≡ head → IsNode t around i (node_alone t x o head)
          → c (off + i) ≡ around + (1 + b x)
      by (Ok op) is head at d =
          by_identifier (subst (λ o. IsNode t around i (applied_node o (look_up t.heads x) [])) (sym is) d)
      by (Err fault) is (Some head) at d =
          by_identifier (subst (λ o. IsNode t around i (applied_node o (look_up t.heads x) [])) (sym is)
          (subst (λ a. IsNode t around i (applied_node (Err fault) a [])) (sym at) d))
      by (Err fault) is None at d = element_costs i around x (element_among t.elements x) at refl d

  -- the element behind an `as`
  qualified_costs : (i around : ℕ) (names : Option ElementNames) (o : Option (List ℕ))
      → IsNode t around i (qualified_node names o) → c (off + i) ≡ around + 1
  qualified_costs i around None o d = absurd (no_row (slice_get t.rows i) around d.0)
  qualified_costs i around (Some names) None d = absurd (no_row (slice_get t.rows i) around d.0)
  qualified_costs i around (Some names) (Some x) d =
      let here = node_costs i around (node.Element x) d.0 in omega (arith, here)

  -- a variable, or a name without arguments
  symbol_costs : (i around : ℕ) (x : List ℕ) (o : Option ℕ) → i ≤ last
      → IsNode t around i (symbol_node t x o)
      → c (off + i) ≡ around + (1 + cond (is_some o) 0 (b x))
  symbol_costs i around x (Some slot) h d = node_costs i around (node.Slot slot) d.0
  symbol_costs i around x None h d = alone_costs i around x h d

  -- an identifier that a tree is, with arguments that cost this
  list_costs : (i around : ℕ) (o : Result Identifier TermFlaw) (f : Identifier) (js : List ℕ) (n : ℕ)
      → i ≤ last → o ≡ Ok f → IsNode t around i (node_of t f js)
      → parts_cost (off + i) c (shifted off js) ≡ n → c (off + i) ≡ around + (1 + head_cost b o + n)
  list_costs i around o f js n h is d args =
      let here = applied_costs i around f js h d in
      let head = ap (head_cost b) is in
      omega (arith, here, head, args)

  -- the name that a label gives to a term, which uses no variable
  label_costs : (slots : Slots) (label : List ℕ) (i around : ℕ) (term : Sexp) → UsesNone slots term
      → (name : IsNameOf t label around i (λ j. Denotes t [] 0 0 j term))
      → c (off + name.1) ≡ cost_of b [] term → c (off + i) ≡ around + (1 + cost_of b (names_in slots) term)
  label_costs slots label i around term unused name here =
      let node = node_costs i around (node.Defined name.0 []) name.3 in
      let body = ap (λ o. inner_cost (off + i) c (call (option_map (λ j. off + j) o) [])) name.4 in
      let below = cost_below off i name.1 c name.5 in
      let closed = cost_closed b slots term unused in
      omega (arith, node, body, below, here, closed)

  annotated_costs : (slots : Slots) (next around i : ℕ) (term : Sexp) (labels : List (List ℕ))
      → (Denotes t slots next (around + 1) i term
      → c (off + i) ≡ around + 1 + cost_of b (names_in slots) term)
      → ((j : ℕ) → j < i → Denotes t [] 0 0 j term → c (off + j) ≡ 0 + cost_of b [] term)
      → unless_labelled labels (Denotes t slots next (around + 1) i term)
      (λ label. UsesNone slots term × IsNameOf t label around i (λ j. Denotes t [] 0 0 j term))
      → c (off + i) ≡ around + (1 + cost_of b (names_in slots) term)
  annotated_costs slots next around i term [] bare labelled d = let here = bare d in omega (arith, here)
  annotated_costs slots next around i term (label ∷ labels) bare labelled d =
      let body = labelled d.1.1 d.1.5 d.1.6 in
      label_costs slots label i around term d.0 d.1 (omega (arith, body))

  mutual
    pub term_costs : (slots : Slots) (next around i : ℕ) (term : Sexp) → Denotes t slots next around i term
        → i ≤ last → (variables : List (List ℕ)) → variables ≡ names_in slots
        → c (off + i) ≡ around + cost_of b variables term
    term_costs slots next around i (Atom Symbol x) d h variables named =
        symbol_costs i around x (look_up slots x) h d
        ∙ ap (λ k. around + (1 + cond k 0 (b x)))
        (sym (ap (λ vs. is_among vs x) named ∙ among_names slots x))
    term_costs slots next around i (Atom Numeral digits) d h variables named =
        node_costs i around (node.Literal literal.Numeral digits) d.0
    term_costs slots next around i (Atom Decimal digits) d h variables named =
        node_costs i around (node.Literal literal.Decimal digits) d.0
    term_costs slots next around i (Atom Hexadecimal digits) d h variables named =
        node_costs i around (node.Literal literal.Hexadecimal digits) d.0
    term_costs slots next around i (Atom Binary digits) d h variables named =
        node_costs i around (node.Literal literal.Binary digits) d.0
    term_costs slots next around i (Items (Cons (Reserved Underscore) trees)) d h variables named =
        let here = list_costs i around (indexed trees) d.0 [] 0 h d.1 d.2 refl in omega (arith, here)
    term_costs slots next around i (Items (Cons (Reserved As) trees)) d h variables named =
        qualified_costs i around t.elements (qualified_symbol trees) d
    term_costs slots next around i
        (Items (Cons (Reserved Let) (Cons (Items bindings) (Cons body Nil)))) d h variables named =
        let names = map (λ binding. binding.0) (named_trees bindings) in
        let here = node_costs i around (node.Let d.0 d.1) d.2.0 in
        let below = cost_below off i d.1 c d.4 in
        let bound = bound_costs slots next i d.0 bindings d.3 h variables named in
        let inner = term_costs (slots_bound next bindings ++ slots) (next + length d.0) 0 d.1 body d.5
        (omega (arith, h, d.4)) (names ++ variables) (names_more next bindings slots variables named) in
        omega (arith, here, below, bound, inner)
    term_costs slots next around i (Items (Cons (Reserved Bang) (Cons term attributes))) d h variables named =
        annotated_costs slots next around i term (labels_among attributes)
        (λ e. term_costs slots next (around + 1) i term e h (names_in slots) refl)
        (λ j below e. term_costs [] 0 0 j term e (omega (arith, h, below)) [] refl) d
        ∙ ap (λ vs. around + (1 + cost_of b vs term)) (sym named)
    term_costs slots next around i (Items (Cons head args)) d h variables named =
        list_costs i around (applied head args) d.0 d.1 (costs_of b variables args) h d.2 d.3
        (all_costs slots next i d.1 args d.4 h variables named)
    term_costs slots next around i _ d h variables named = absurd d

    all_costs : (slots : Slots) (next i : ℕ) (js : List ℕ) (terms : Sexps)
        → AreDenoted t slots next i js terms → i ≤ last → (variables : List (List ℕ))
        → variables ≡ names_in slots
        → parts_cost (off + i) c (shifted off js) ≡ costs_of b variables terms
    all_costs slots next i [] Nil d h variables named = refl
    all_costs slots next i (j ∷ js) (Cons x xs) d h variables named =
        let below = cost_below off i j c d.0 in
        let front = term_costs slots next 0 j x d.1 (omega (arith, h, d.0)) variables named in
        let rest = all_costs slots next i js xs d.2 h variables named in
        omega (arith, below, front, rest)
    all_costs slots next i _ _ d h variables named = absurd d

    bound_costs : (slots : Slots) (next i : ℕ) (js : List ℕ) (bindings : Sexps)
        → AreBound t slots next i js bindings → i ≤ last → (variables : List (List ℕ))
        → variables ≡ names_in slots
        → parts_cost (off + i) c (shifted off js) ≡ costs_bound b variables bindings
    bound_costs slots next i [] Nil d h variables named = refl
    bound_costs slots next i (j ∷ js) (Cons (Items (Cons (Atom Symbol x) (Cons term Nil))) rest) d h variables
        named =
        let below = cost_below off i j c d.0 in
        let front = term_costs slots next 0 j term d.1 (omega (arith, h, d.0)) variables named in
        let later = bound_costs slots next i js rest d.2 h variables named in
        omega (arith, below, front, later)
    bound_costs slots next i _ _ d h variables named = absurd d
