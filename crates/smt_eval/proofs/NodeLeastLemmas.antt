-- The evaluation of a node takes at least as many steps as that of the term that it stands for.
use Rattle.std.proofs.Common.{◌≡◌, ◌≤◌, ◌<◌, ℕ, ◌+◌, Bool, true, false, cond, List, [], ◌∷◌, ◌++◌, length}
use Rattle.std.proofs.Common.{slice_get, Option, Some, None, refl, ap, sym, ◌∙◌, subst, arith}
use Rattle.std.proofs.Common.{nat_lt}
use Rattle.std.proofs.Common.{Result, Ok, Err}
use Rattle.std.proofs.lemmas.Bool.{lt-ltb}
use Rattle.smt_trees.specs.Sexp.{Sexp, Sexps, Atom, Reserved, Items, Nil, Cons, Numeral, Decimal, Hexadecimal}
use Rattle.smt_trees.specs.Sexp.{Binary}
use Rattle.smt_trees.specs.Sexp.{Symbol}
use Rattle.smt_trees.specs.declared.reserved.Word.TheVariants.{As, Bang, Let, Underscore}
use Rattle.smt_theory.specs.Operators.{op_by}
use Rattle.smt_theory.specs.Words.{look_up, result_and_then}
use Rattle.smt_theory.specs.declared.op.Op.{Op}
use Rattle.smt_theory.specs.declared.op.ArraysOp.TheVariants.{Const}
use Rattle.smt_theory.specs.declared.op.Op.TheVariants.{Arrays}
use Rattle.smt_theory.specs.declared.op.OpFault.{OpFault}
use Rattle.smt_theory.specs.Sort.{Sort}
use Rattle.smt_theory.specs.Sort.{Boolean}
use Rattle.smt_faults.specs.declared.term_flaw.TermFlaw.{TermFlaw}
use Rattle.smt_forms.specs.ElementNames.{qualified_symbol}
use Rattle.smt_forms.specs.Identifier.{Identifier, Plain, Indexed, Qualified, applied, operator_of}
use Rattle.smt_forms.specs.Labels.{labels_among}
use Rattle.smt_theory.specs.declared.literal.LiteralKind.TheVariants as literal
use Rattle.smt_nodes.specs.Node as node
use Rattle.smt_nodes.specs.Node.{Node, Row}
use Rattle.smt_machine.specs.Costs.{part_cost, parts_cost}
use Rattle.smt_machine.specs.Least as machine
use Rattle.smt_machine.specs.Least.{arguments_least, inner_least, node_least, part_least, parts_least}
use Rattle.smt_values.specs.Element.{Naming}
use Rattle.smt_machine.specs.Tables.{call, resolved, shifted}
use Rattle.smt_terms.specs.Denotes.{AreBound, AreDenoted, Denotes, HasBodyBelow, Head, IsNameOf, IsNode, IsRow}
use Rattle.smt_terms.specs.Denotes.{Slots, Table, UsesNone, applied_node, element_node, named_node, node_alone, node_at}
use Rattle.smt_terms.specs.SortTrees.{sort_named}
use Rattle.smt_terms.specs.Denotes.{constant_node, node_of, qualified_node, slots_bound, symbol_node, unless_labelled}
use Rattle.smt_terms.specs.Elements.{ElementNames, constant_sorts, element_among}
use Rattle.smt_terms.specs.declared.library.Found.{Found}
use Rattle.smt_terms.specs.declared.library.Found.TheVariants as place
use Rattle.smt_eval.proofs.NodeCostLemmas.{CostsItsNodes, inner_cost, no_row, row_of}
use Rattle.smt_eval.proofs.NodeNameLemmas.{node_of_head}
use Rattle.smt_eval.specs.Cost.{BodyCosts, head_cost}
use Rattle.smt_eval.specs.Least.{chooses, first_least, head_chooses, least_of, leasts_bound, leasts_of}
use Rattle.smt_eval.specs.Least.{unless_kept}

-- at each row of the table, behind so many others, stands what its node takes at least
abbrev pub HasRowLeasts : (ℕ → ℕ) → Naming → ℕ → List ℕ → Table → Type 0
HasRowLeasts k held off declared t = (i : ℕ) (row : Row) → slice_get t.rows i ≡ Some row
    → k (off + i) ≡ node_least (off + i) k row.around (Some (resolved held off t.bodies declared row.node))

-- a part with a lower number
least_below : (off i j : ℕ) (k : ℕ → ℕ) → j < i → part_least (off + i) k (off + j) ≡ k (off + j)
least_below off i j k h = ap (λ b. cond b (k (off + j)) 0) (lt-ltb (off + j) (off + i) (omega arith))

-- no part costs nothing
part_some : (c : ℕ → ℕ) → ((j : ℕ) → 1 ≤ c j) → (i j : ℕ) → 1 ≤ part_cost i c j
part_some c some i j = by (nat_lt j i)
  where
    by : (b : Bool) → 1 ≤ cond b (c j) 1
    by true = some j
    by false = omega arith

-- a body that is not there has no arguments either, where the arguments are counted with it
call_least : (c k : ℕ → ℕ) → ((j : ℕ) → 1 ≤ c j) → (i n : ℕ) (body : Option ℕ) (js : List ℕ)
    → inner_cost i c (call body js) ≡ n + parts_cost i c js
    → parts_least i k js ≤ inner_least i k (Some (call body js))
call_least c k some i n (Some body) js is = omega arith
call_least c k some i n None [] is = omega arith
call_least c k some i n None (j ∷ js) is = absurd (let one = part_some c some i j in omega (arith, is, one))

-- less of a part where the rest is the same
chosen_less : (b : Bool) (x y z w : ℕ) → x ≤ y → z ≤ w → cond b x z ≤ cond b y w
chosen_less true x y z w h g = h
chosen_less false x y z w h g = g

module _ (c k : ℕ → ℕ) (held : Naming) (off : ℕ) (declared : List ℕ) (t : Table) (b : BodyCosts) (last : ℕ)
    (some : (j : ℕ) → 1 ≤ c j) (rows : HasRowLeasts k held off declared t)
    (means : CostsItsNodes c held off declared t b last) where
  node_counts : (i around : ℕ) (n : Node) → IsRow (slice_get t.rows i) around (Some n)
      → k (off + i) ≡ around + (1 + inner_least (off + i) k (Some (resolved held off t.bodies declared n)))
  node_counts i around n h =
      let r = row_of (slice_get t.rows i) around n h in
      let at = rows i r.0 r.1
      ∙ ap (λ m. node_least (off + i) k r.0.around (Some (resolved held off t.bodies declared m))) r.2 in
      omega (arith, at, r.3)

  -- the node of a name with arguments
  name_counts : (i : ℕ) (f : Identifier) (js : List ℕ) (head : Head) (m : Node) → i ≤ last
      → node_of t f js ≡ Some m → named_node (Some head) js ≡ Some m → HasBodyBelow t.bodies i (Some m)
      → parts_least (off + i) k (shifted off js)
      ≤ inner_least (off + i) k (Some (resolved held off t.bodies declared m))
  name_counts i f js head m h at made body =
      by head.place (node_of_head head js m made).is
    where
      by : (place : Found) → m ≡ node_at place js
          → parts_least (off + i) k (shifted off js)
          ≤ inner_least (off + i) k (Some (resolved held off t.bodies declared m))
      by (place.Declared p) is =
          let inner = ap (λ a. inner_cost (off + i) c (resolved held off t.bodies declared a)) (sym is)
          ∙ means i f js m h at body in
          let here = call_least c k some (off + i) (head_cost b (Ok f)) (slice_get declared p) (shifted off js)
          inner in
          let same = ap (λ a. inner_least (off + i) k (Some (resolved held off t.bodies declared a))) is in
          omega (arith, here, same)
      by (place.Defined p) is =
          let inner = ap (λ a. inner_cost (off + i) c (resolved held off t.bodies declared a)) (sym is)
          ∙ means i f js m h at body in
          let here = call_least c k some (off + i) (head_cost b (Ok f)) _ (shifted off js) inner in
          let same = ap (λ a. inner_least (off + i) k (Some (resolved held off t.bodies declared a))) is in
          omega (arith, here, same)

  -- the node of an identifier with arguments
  identifier_counts : (i : ℕ) (f : Identifier) (js : List ℕ) (m : Node) → i ≤ last
      → node_of t f js ≡ Some m → HasBodyBelow t.bodies i (Some m)
      → arguments_least (off + i) k (chooses (operator_of t.theories f)) (shifted off js)
      ≤ inner_least (off + i) k (Some (resolved held off t.bodies declared m))
  identifier_counts i (Plain x) js m h at body = by (op_by t.theories x []) (look_up t.heads x) at
    where
      by : (o : Result Op OpFault) → (head : Option Head) → applied_node o head js ≡ Some m
          → arguments_least (off + i) k (chooses o) (shifted off js)
          ≤ inner_least (off + i) k (Some (resolved held off t.bodies declared m))
      by (Ok op) head made =
          let is : node.Apply op js ≡ m = cc in
          let same = ap (λ a. inner_least (off + i) k (Some (resolved held off t.bodies declared a))) is in
          omega (arith, same)
      by (Err fault) None made = cc
      by (Err fault) (Some head) made = name_counts i (Plain x) js head m h at made body
  identifier_counts i (Indexed x indexes) js m h at body = by (op_by t.theories x indexes) at
    where
      by : (o : Result Op OpFault) → applied_node o None js ≡ Some m
          → arguments_least (off + i) k (chooses o) (shifted off js)
          ≤ inner_least (off + i) k (Some (resolved held off t.bodies declared m))
      by (Ok op) made =
          let is : node.Apply op js ≡ m = cc in
          let same = ap (λ a. inner_least (off + i) k (Some (resolved held off t.bodies declared a))) is in
          omega (arith, same)
      by (Err fault) made = cc
  identifier_counts i (Qualified sort) js m h at body =
      by (sort_named (constant_sorts t.theories t.elements) sort) at
    where
      by : (r : Result Sort TermFlaw)
          → constant_node (result_and_then r (λ s. Ok (Arrays (Const s)))) js ≡ Some m
          → arguments_least (off + i) k false (shifted off js)
          ≤ inner_least (off + i) k (Some (resolved held off t.bodies declared m))
      by (Err fault) made = cc
      by (Ok s) made =
          let is : node.Apply (Arrays (Const s)) js ≡ m = cc in
          let same = ap (λ a. inner_least (off + i) k (Some (resolved held off t.bodies declared a))) is in
          omega (arith, same)

  applied_counts : (i around : ℕ) (f : Identifier) (js : List ℕ) → i ≤ last
      → IsNode t around i (node_of t f js)
      → around + (1 + arguments_least (off + i) k (chooses (operator_of t.theories f)) (shifted off js))
      ≤ k (off + i)
  applied_counts i around f js h is = by (node_of t f js) refl is
    where
      by : (o : Option Node) → node_of t f js ≡ o → IsNode t around i o
          → around + (1 + arguments_least (off + i) k (chooses (operator_of t.theories f)) (shifted off js))
          ≤ k (off + i)
      by None at d = absurd (no_row (slice_get t.rows i) around d.0)
      by (Some n) at d =
          let here = node_counts i around n d.0 in
          let inner = identifier_counts i f js n h at d.1 in
          omega (arith, here, inner)

  -- a symbol alone that is no variable
  element_counts : (i around : ℕ) (x : List ℕ) (o : Option Sort) → IsNode t around i (element_node x o)
      → around + 1 ≤ k (off + i)
  element_counts i around x None d = absurd (no_row (slice_get t.rows i) around d.0)
  element_counts i around x (Some sort) d =
      let here = node_counts i around (node.Element x) d.0 in omega (arith, here)

  alone_counts : (i around : ℕ) (x : List ℕ) → i ≤ last → IsNode t around i (symbol_node t x None)
      → around + 1 ≤ k (off + i)
  alone_counts i around x h d = by (op_by t.theories x []) refl (look_up t.heads x) refl d
    where
      by_identifier : IsNode t around i (node_of t (Plain x) []) → around + 1 ≤ k (off + i)
      by_identifier d = let here = applied_counts i around (Plain x) [] h d in omega (arith, here)

      by : (o : Result Op OpFault) → op_by t.theories x [] ≡ o → (head : Option Head)
          → look_up t.heads x ≡ head → IsNode t around i (node_alone t x o head) → around + 1 ≤ k (off + i)
      by (Ok op) is head at d =
          by_identifier (subst (λ o. IsNode t around i (applied_node o (look_up t.heads x) [])) (sym is) d)
      by (Err fault) is (Some head) at d =
          by_identifier (subst (λ o. IsNode t around i (applied_node o (look_up t.heads x) [])) (sym is)
          (subst (λ a. IsNode t around i (applied_node (Err fault) a [])) (sym at) d))
      by (Err fault) is None at d = element_counts i around x (element_among t.elements x) d

  -- the element behind an `as`
  qualified_counts : (i around : ℕ) (names : Option ElementNames) (o : Option (List ℕ))
      → IsNode t around i (qualified_node names o) → around + 1 ≤ k (off + i)
  qualified_counts i around None o d = absurd (no_row (slice_get t.rows i) around d.0)
  qualified_counts i around (Some names) None d = absurd (no_row (slice_get t.rows i) around d.0)
  qualified_counts i around (Some names) (Some x) d = element_counts i around x (Some Boolean) d

  -- a variable, or a name without arguments
  symbol_counts : (i around : ℕ) (x : List ℕ) (o : Option ℕ) → i ≤ last
      → IsNode t around i (symbol_node t x o) → around + 1 ≤ k (off + i)
  symbol_counts i around x (Some slot) h d =
      let here = node_counts i around (node.Slot slot) d.0 in omega (arith, here)
  symbol_counts i around x None h d = alone_counts i around x h d

  -- an identifier that a tree is, with arguments that count these
  list_counts : (i around : ℕ) (o : Result Identifier TermFlaw) (f : Identifier) (js : List ℕ) (first all : ℕ)
      → i ≤ last → o ≡ Ok f → IsNode t around i (node_of t f js)
      → first ≤ machine.first_least (off + i) k (shifted off js) → all ≤ parts_least (off + i) k (shifted off js)
      → around + (1 + cond (head_chooses t.theories o) first all) ≤ k (off + i)
  list_counts i around o f js first all h is d one more =
      let here = applied_counts i around f js h d in
      let head = ap (λ x. cond (head_chooses t.theories x) first all) is in
      let less = chosen_less (chooses (operator_of t.theories f)) first
      (machine.first_least (off + i) k (shifted off js)) all (parts_least (off + i) k (shifted off js)) one more in
      omega (arith, here, head, less)

  annotated_counts : (slots : Slots) (next around i n : ℕ) (term : Sexp) (labels : List (List ℕ))
      → (Denotes t slots next (around + 1) i term → around + 1 + n ≤ k (off + i))
      → unless_labelled labels (Denotes t slots next (around + 1) i term)
      (λ label. UsesNone slots term × IsNameOf t label around i (λ j. Denotes t [] 0 0 j term))
      → around + (1 + unless_kept labels n) ≤ k (off + i)
  annotated_counts slots next around i n term [] bare d = let here = bare d in omega (arith, here)
  annotated_counts slots next around i n term (label ∷ labels) bare d =
      let here = node_counts i around (node.Defined d.1.0 []) d.1.3 in omega (arith, here)

  mutual
    pub term_counts : (slots : Slots) (next around i : ℕ) (term : Sexp) → Denotes t slots next around i term
        → i ≤ last → around + least_of t.theories term ≤ k (off + i)
    term_counts slots next around i (Atom Symbol x) d h = symbol_counts i around x (look_up slots x) h d
    term_counts slots next around i (Atom Numeral digits) d h =
        let here = node_counts i around (node.Literal literal.Numeral digits) d.0 in omega (arith, here)
    term_counts slots next around i (Atom Decimal digits) d h =
        let here = node_counts i around (node.Literal literal.Decimal digits) d.0 in omega (arith, here)
    term_counts slots next around i (Atom Hexadecimal digits) d h =
        let here = node_counts i around (node.Literal literal.Hexadecimal digits) d.0 in omega (arith, here)
    term_counts slots next around i (Atom Binary digits) d h =
        let here = node_counts i around (node.Literal literal.Binary digits) d.0 in omega (arith, here)
    term_counts slots next around i (Items (Cons (Reserved Underscore) trees)) d h =
        let here = applied_counts i around d.0 [] h d.2 in omega (arith, here)
    term_counts slots next around i (Items (Cons (Reserved As) trees)) d h =
        qualified_counts i around t.elements (qualified_symbol trees) d
    term_counts slots next around i (Items (Cons (Reserved Let) (Cons (Items bindings) (Cons body Nil)))) d h =
        let here = node_counts i around (node.Let d.0 d.1) d.2.0 in
        let below = least_below off i d.1 k d.4 in
        let bound = bound_counts slots next i d.0 bindings d.3 h in
        let inner = term_counts (slots_bound next bindings ++ slots) (next + length d.0) 0 d.1 body d.5
        (omega (arith, h, d.4)) in
        omega (arith, here, below, bound, inner)
    term_counts slots next around i (Items (Cons (Reserved Bang) (Cons term attributes))) d h =
        annotated_counts slots next around i (least_of t.theories term) term (labels_among attributes)
        (λ e. term_counts slots next (around + 1) i term e h) d
    term_counts slots next around i (Items (Cons head args)) d h =
        list_counts i around (applied head args) d.0 d.1 (first_least t.theories args)
        (leasts_of t.theories args) h d.2 d.3 (first_counts slots next i d.1 args d.4 h)
        (all_count slots next i d.1 args d.4 h)
    term_counts slots next around i _ d h = absurd d

    first_counts : (slots : Slots) (next i : ℕ) (js : List ℕ) (terms : Sexps)
        → AreDenoted t slots next i js terms → i ≤ last
        → first_least t.theories terms ≤ machine.first_least (off + i) k (shifted off js)
    first_counts slots next i [] Nil d h = omega arith
    first_counts slots next i (j ∷ js) (Cons x xs) d h =
        let below = least_below off i j k d.0 in
        let front = term_counts slots next 0 j x d.1 (omega (arith, h, d.0)) in
        omega (arith, below, front)
    first_counts slots next i _ _ d h = absurd d

    all_count : (slots : Slots) (next i : ℕ) (js : List ℕ) (terms : Sexps)
        → AreDenoted t slots next i js terms → i ≤ last
        → leasts_of t.theories terms ≤ parts_least (off + i) k (shifted off js)
    all_count slots next i [] Nil d h = omega arith
    all_count slots next i (j ∷ js) (Cons x xs) d h =
        let below = least_below off i j k d.0 in
        let front = term_counts slots next 0 j x d.1 (omega (arith, h, d.0)) in
        let rest = all_count slots next i js xs d.2 h in
        omega (arith, below, front, rest)
    all_count slots next i _ _ d h = absurd d

    bound_counts : (slots : Slots) (next i : ℕ) (js : List ℕ) (bindings : Sexps)
        → AreBound t slots next i js bindings → i ≤ last
        → leasts_bound t.theories bindings ≤ parts_least (off + i) k (shifted off js)
    bound_counts slots next i [] Nil d h = omega arith
    bound_counts slots next i (j ∷ js) (Cons (Items (Cons (Atom Symbol x) (Cons term Nil))) rest) d h =
        let below = least_below off i j k d.0 in
        let front = term_counts slots next 0 j term d.1 (omega (arith, h, d.0)) in
        let later = bound_counts slots next i js rest d.2 h in
        omega (arith, below, front, later)
    bound_counts slots next i _ _ d h = absurd d
