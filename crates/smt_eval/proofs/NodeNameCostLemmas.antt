-- The nodes of names cost what the bodies of the names do where the definitions before them are seen.
use Rattle.std.proofs.Common.{◌≡◌, ◌≤◌, ◌<◌, ℕ, zero, suc, ◌+◌, cond, List, [], length, take}
use Rattle.std.proofs.Common.{slice_get, Option, Some, None, option_map, refl, ap, sym, ◌∙◌, subst}
use Rattle.std.proofs.Common.{Result, Ok, Err, arith}
use Rattle.std.proofs.lemmas.Bool.{lt-ltb}
use Rattle.smt_trees.specs.Sexp.{Sexp}
use Rattle.smt_theory.specs.Operators.{is_plain_operator, op_by, plain_op}
use Rattle.smt_theory.specs.Words.{look_up}
use Rattle.smt_theory.specs.declared.op.Op.{Op}
use Rattle.smt_theory.specs.declared.op.OpFault.{OpFault}
use Rattle.smt_forms.specs.Identifier.{Identifier, Plain, Indexed, Qualified, operator_of}
use Rattle.smt_nodes.specs.Node as node
use Rattle.smt_nodes.specs.Node.{Node}
use Rattle.smt_machine.specs.Costs.{parts_cost}
use Rattle.smt_machine.specs.Nodes.{Giving}
use Rattle.smt_values.specs.Element.{Naming}
use Rattle.smt_machine.specs.Tables.{call, resolved, shifted}
use Rattle.smt_terms.specs.Denotes.{Denotes, HasBodyBelow, Head, Table, applied_node, named_node, node_at}
use Rattle.smt_faults.specs.declared.term_flaw.TermFlaw.{TermFlaw}
use Rattle.smt_terms.specs.Denotes.{constant_node, slots_from}
use Rattle.smt_terms.specs.Elements.{constant_op}
use Rattle.smt_terms.specs.Library.{declared_among}
use Rattle.smt_terms.specs.Signature.{Entry, Origin, Signature}
use Rattle.smt_terms.specs.TermsOf.{IsBody, first_heads}
use Rattle.smt_terms.specs.declared.library.Found.{Found}
use Rattle.smt_terms.specs.declared.library.Found.TheVariants as place
use Rattle.smt_eval.proofs.CostLemmas.{cost_absent, defined_costs, names_from}
use Rattle.smt_eval.proofs.EntryLemmas.{entry_named-take}
use Rattle.smt_eval.proofs.HeadLemmas.{IsBodyOf, IsHeadAt}
use Rattle.smt_eval.proofs.NodeCostLemmas.{CostsItsNodes, FreesElements, HasRowCosts, cost_below, inner_cost}
use Rattle.smt_eval.proofs.NodeCostLemmas.{term_costs}
use Rattle.smt_eval.proofs.NodeNameLemmas.{HasNames, named_at, node_of_head, some_op}
use Rattle.smt_eval.proofs.PlaceLemmas.{within as within_list}
use Rattle.smt_eval.specs.Cost.{BodyCosts, body_cost, cost_of, costs_in, head_cost, no_costs}
use Rattle.smt_eval.specs.Internal.DefinitionValues.{IsDefined, first}

-- the k-th of these nodes costs what the body of the entry's name does, however many definitions are seen
abbrev pub IsCostAt : (ℕ → ℕ) → (off : ℕ) → List ℕ → Signature → (ℕ → ℕ) → ℕ → Entry → Type 0
IsCostAt c off declared d seen k e = (j : ℕ) × (slice_get declared k ≡ Some j) × (j < off)
    × ((n : ℕ) → c j ≡ costs_in (first (seen n) d) e.name)

module _ (naming held : Naming) (g : Giving) (off : ℕ) (declared : List ℕ) (t : Table) (es : List Entry)
    (d : Signature) (seen : ℕ → ℕ) (names : HasNames naming held g off declared t es d seen) (c : ℕ → ℕ)
    (rows : HasRowCosts c held off declared t)
    (given : (k : ℕ) (e : Entry) → slice_get (declared_among es) k ≡ Some e
    → IsCostAt c off declared d seen k e) where
  -- what bodies cost where the first n names are in force
  abbrev pub costing : ℕ → BodyCosts
  costing n = costs_in (first (seen n) d)

  -- bodies below this number cost what those of the names of their definitions do
  abbrev pub CallsCost : ℕ → Type 0
  CallsCost last = (n : ℕ) (x : List ℕ) (head : Head) (p j : ℕ)
      → look_up (take n t.heads) x ≡ Some head → head.place ≡ place.Defined p
      → slice_get t.bodies p ≡ Some j → j < last → c (off + j) ≡ costing n x

  -- ---- operators

  -- an operator has no body
  operator_free : (n : ℕ) (f : Identifier) (op : Op) → operator_of t.theories f ≡ Ok op
      → head_cost (costing n) (Ok f) ≡ 0
  operator_free n (Indexed x indexes) op is = refl
  operator_free n (Qualified sort) op is = refl
  operator_free n (Plain x) op is =
      let plain = ap (λ ts. is_plain_operator ts x) (sym names.theories)
      ∙ some_op (plain_op t.theories x) op is in
      cost_absent no_costs (take (seen n) d.entries) x
      (entry_named-take d.entries x (seen n) (names.free x plain))

  -- an element has none either
  frees_elements : (n : ℕ) → n ≤ length es → FreesElements (first_heads n t) (costing n)
  frees_elements n within x sort at among =
      cost_absent no_costs (take (seen n) d.entries) x (names.apart n x sort within at among)

  -- ---- names

  module _ (last : ℕ) (calls : CallsCost last) (n i : ℕ) (x : List ℕ) (js : List ℕ)
      (head : Head) (below : i ≤ last) (at : look_up (take n t.heads) x ≡ Some head) where
    abbrev costs_that : Node → Type 0
    costs_that m = inner_cost (off + i) c (resolved held off t.bodies declared m)
        ≡ costing n x + parts_cost (off + i) c (shifted off js)

    declared_costs : (p : ℕ) → head.place ≡ place.Declared p → costs_that (node.Declared p js)
    declared_costs p is =
        let f = named_at naming held g off declared t es d seen names n x head at in
        let h : IsHeadAt t (declared_among es) 0 0 0 t.bodies f.place f.entry (place.Declared p) =
        subst (IsHeadAt t (declared_among es) 0 0 0 t.bodies f.place f.entry) is f.stands in
        let one = given h.0 f.entry h.2 in
        let same : p ≡ h.0 = omega (arith, h.1) in
        let listed : slice_get declared p ≡ Some one.0 = ap (slice_get declared) same ∙ one.1 in
        let above : one.0 < off + i = omega (arith, one.2) in
        let inner = ap (λ o. inner_cost (off + i) c (call o (shifted off js))) listed in
        let part = ap (λ k. cond k (c one.0) 1) (lt-ltb one.0 (off + i) above) in
        let body = one.3 n ∙ ap (λ y. costing n y) f.name in
        omega (arith, inner, part, body)

    defined_body : (p : ℕ) → head.place ≡ place.Defined p
        → HasBodyBelow t.bodies i (Some (node.Defined p js)) → costs_that (node.Defined p js)
    defined_body p is body =
        let inner =
        ap (λ o. inner_cost (off + i) c (call (option_map (λ j. off + j) o) (shifted off js))) body.1 in
        let part = cost_below off i body.0 c body.2 in
        let one = calls n x head p body.0 at is body.1 (omega (arith, below, body.2)) in
        omega (arith, inner, part, one)

    named_costs : (m : Node) → named_node (Some head) js ≡ Some m → HasBodyBelow t.bodies i (Some m)
        → costs_that m
    named_costs m made body =
        let k = node_of_head head js m made in
        subst costs_that (sym k.is)
        (by head.place refl (subst (λ a. HasBodyBelow t.bodies i (Some a)) k.is body))
      where
        by : (f : Found) → head.place ≡ f → HasBodyBelow t.bodies i (Some (node_at f js))
            → costs_that (node_at f js)
        by (place.Declared p) is b = declared_costs p is
        by (place.Defined p) is b = defined_body p is b

  -- ---- identifiers

  module _ (last : ℕ) (calls : CallsCost last) (n : ℕ) where
    operator_costs : (i : ℕ) (f : Identifier) (js : List ℕ) (op : Op) (m : Node)
        → operator_of t.theories f ≡ Ok op → Some (node.Apply op js) ≡ Some m
        → inner_cost (off + i) c (resolved held off t.bodies declared m)
        ≡ head_cost (costing n) (Ok f) + parts_cost (off + i) c (shifted off js)
    operator_costs i f js op m is made =
        let same : node.Apply op js ≡ m = cc in
        let inner = ap (λ a. inner_cost (off + i) c (resolved held off t.bodies declared a)) (sym same) in
        let none = operator_free n f op is in
        omega (arith, inner, none)

    pub costs_its_nodes : CostsItsNodes c held off declared (first_heads n t) (costing n) last
    costs_its_nodes i (Plain x) js m below made body =
        by (op_by t.theories x []) refl (look_up (take n t.heads) x) refl made
      where
        by : (o : Result Op OpFault) → op_by t.theories x [] ≡ o → (h : Option Head)
            → look_up (take n t.heads) x ≡ h → applied_node o h js ≡ Some m
            → inner_cost (off + i) c (resolved held off t.bodies declared m)
            ≡ costing n x + parts_cost (off + i) c (shifted off js)
        by (Ok op) is h at here = operator_costs i (Plain x) js op m is here
        by (Err fault) is None at here = cc
        by (Err fault) is (Some head) at here =
            named_costs last calls n i x js head below at m here body
    costs_its_nodes i (Indexed x indexes) js m below made body =
        by (op_by t.theories x indexes) refl made
      where
        by : (o : Result Op OpFault) → op_by t.theories x indexes ≡ o → applied_node o None js ≡ Some m
            → inner_cost (off + i) c (resolved held off t.bodies declared m)
            ≡ 0 + parts_cost (off + i) c (shifted off js)
        by (Ok op) is here = operator_costs i (Indexed x indexes) js op m is here
        by (Err fault) is here = cc
    costs_its_nodes i (Qualified sort) js m below made body = by (constant_op t.theories t.elements sort) made
      where
        by : (o : Result Op TermFlaw) → constant_node o js ≡ Some m
            → inner_cost (off + i) c (resolved held off t.bodies declared m)
            ≡ 0 + parts_cost (off + i) c (shifted off js)
        by (Err fault) here = cc
        by (Ok op) here =
            let same : node.Apply op js ≡ m = cc in
            let inner = ap (λ a. inner_cost (off + i) c (resolved held off t.bodies declared a)) (sym same) in
            omega (arith, inner)

  -- ---- bodies

  -- the body of a definition costs what it does over the names before it
  pub body_costs : (last : ℕ) → CallsCost last → (q j : ℕ) (e : Entry) (ps : List (List ℕ)) (body : Sexp)
      → q ≤ length es → IsBody t q (length e.parameters) ps body j → j ≤ last
      → c (off + j) ≡ cost_of (costing q) ps body
  body_costs last calls q j e ps body seen_first is below =
      let here = term_costs c held off declared (first_heads q t) (costing q) last rows (costs_its_nodes last calls q)
      (frees_elements q seen_first)
      (slots_from 0 ps) (length ps) 0 j body is.denotes below ps (sym (names_from 0 ps)) in
      omega (arith, here)

  -- which is what its name's body costs behind it
  pub called_costs : (last : ℕ) → CallsCost last → (n q j : ℕ) (e : Entry) (x : List ℕ)
      → slice_get es q ≡ Some e → q < n → e.name ≡ x → IsBodyOf t q e j → j ≤ last
      → c (off + j) ≡ costing n x
  called_costs last calls n q j e x at within name b below =
      let defined : IsDefined e.origin = subst IsDefined (sym b.2) tt in
      let place = within_list es q e at in
      body_costs last calls q j e b.0 b.1 (omega (arith, place)) b.3 below
      ∙ sym (ap (λ (o : Origin). body_cost (costing q) o) b.2)
      ∙ sym (defined_costs d (seen n) (seen q) e x names.distinct (names.placed q e at defined)
      (names.grows q n e at defined within) name)

  pub calls_cost : (last : ℕ) → CallsCost last
  calls_cost zero n x head p j at is body below = absurd (omega (arith, below))
  calls_cost (suc last) n x head p j at is body below =
      let f = named_at naming held g off declared t es d seen names n x head at in
      let h : IsHeadAt t (declared_among es) 0 0 0 t.bodies f.place f.entry (place.Defined p) =
      subst (IsHeadAt t (declared_among es) 0 0 0 t.bodies f.place f.entry) is f.stands in
      let same : h.0 ≡ p = omega (arith, h.1) in
      let here : IsBodyOf t (0 + f.place) f.entry j = h.2 j (ap (slice_get t.bodies) same ∙ body) in
      let b : IsBodyOf t f.place f.entry j = subst (λ q. IsBodyOf t q f.entry j) (omega arith) here in
      called_costs last (calls_cost last) n f.place j f.entry x f.at f.within f.name b
      (omega (arith, below))

  -- where all names are in force, a node costs what its term does
  pub closed_costs : (n around i : ℕ) (term : Sexp) → n ≤ length es
      → Denotes (first_heads n t) [] 0 around i term → c (off + i) ≡ around + cost_of (costing n) [] term
  closed_costs n around i term within denotes =
      term_costs c held off declared (first_heads n t) (costing n) i rows (costs_its_nodes i (calls_cost i) n)
      (frees_elements n within) [] 0 around i term denotes (omega arith) [] refl
