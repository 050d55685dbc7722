-- A node of a script costs what its term does over the structure that a model gives to the script.
use Rattle.std.proofs.Common.{◌≡◌, ◌≤◌, ◌<◌, ℕ, zero, suc, ◌+◌, ◌-◌, ◌*◌, ◌^◌, Bool, true, false, List, [], ◌∷◌, ◌++◌}
use Rattle.std.proofs.Common.{length, map, max, slice_get, Option, Some, None, refl, ap, sym, ◌∙◌, subst, arith}
use Rattle.std.proofs.Math.Dec.{ltb}
use Rattle.std.proofs.lemmas.Bool.{ltb-true, ltb-false}
use Rattle.std.proofs.Math.Seq.{take-length}
use Rattle.std.proofs.lemmas.List.{append-nil, length-map}
use Rattle.std.specs.Prelude.{unwrap_or}
use Rattle.smt_trees.specs.Sexp.{Sexp, weight}
use Rattle.smt_nodes.specs.Node.{Row}
use Rattle.smt_machine.specs.Costs.{around_at, capped, cost, greatest_of, node_cost}
use Rattle.smt_machine.specs.Given.{given}
use Rattle.smt_machine.specs.Least.{least, node_least}
use Rattle.smt_machine.specs.Nodes as machine
use Rattle.smt_machine.specs.Nodes.{Frame, node_value}
use Rattle.smt_values.specs.Element.{Naming}
use Rattle.smt_machine.specs.Tables.{resolved, unnamed}
use Rattle.smt_terms.specs.Denotes.{Denotes, Table}
use Rattle.smt_terms.specs.Library.{declared_among}
use Rattle.smt_terms.specs.Signature.{AreDistinct, Declared, Defined, Entry, Origin, Signature, defined_among, entry_named}
use Rattle.smt_terms.specs.TermsOf.{AreBodies, AreTermsOf, IsNextBody, first_heads}
use Rattle.smt_eval.proofs.CompleteModelLemmas.{place_of}
use Rattle.smt_eval.proofs.CostLemmas.{cost_absent}
use Rattle.smt_eval.proofs.HeadLemmas.{IsBodyOf, body_at, none_declared}
use Rattle.smt_eval.proofs.NodeCostLemmas.{HasRowCosts}
use Rattle.smt_eval.proofs.NodeLeastLemmas.{HasRowLeasts, term_counts}
use Rattle.smt_eval.proofs.NodeNameCostLemmas.{IsCostAt, called_costs, calls_cost, closed_costs, costs_its_nodes}
use Rattle.smt_eval.proofs.NodeNameLemmas.{HasNames}
use Rattle.smt_eval.proofs.PlaceLemmas.{at_left, at_right, within}
use Rattle.smt_eval.proofs.SizeLemmas.{sized}
use Rattle.smt_eval.proofs.StructureNodeLemmas.{all_seen, at_map, denotes_within, model_names, names_counted}
use Rattle.smt_eval.proofs.StructureNodeLemmas.{script_names, seen}
use Rattle.smt_eval.specs.Cost.{cost_of, cost_over, costs_in, no_costs}
use Rattle.smt_eval.specs.Internal.DefinitionValues.{AllDefined, IsDefined, first}
use Rattle.smt_eval.specs.Least.{least_of}
use Rattle.smt_eval.specs.NodeValues.{GivesBodies, arounds_over, nodes_over}
use Rattle.smt_eval.specs.Structure.{structure_of}

module _ (has : (nodes : List machine.Node) (i : ℕ) (frame : Frame)
    → given nodes i frame ≡ node_value i (given nodes) frame (slice_get nodes i))
    (costs : (nodes : List machine.Node) (arounds : List ℕ) (i : ℕ)
    → cost nodes arounds i ≡ node_cost i (cost nodes arounds) (around_at arounds i) (slice_get nodes i))
    (naming : Naming) (model script : Table) (declared : List ℕ) (names definitions : Signature)
    (terms : AreTermsOf script names) (bodies : AreTermsOf model definitions)
    (all : AllDefined definitions.entries) (theories : definitions.theories ≡ names.theories)
    (elements : names.elements ≡ None) (distinct : AreDistinct (structure_of names definitions).entries)
    (gives : GivesBodies declared names definitions model.bodies) where
  abbrev nodes : List machine.Node
  nodes = nodes_over naming model script declared

  abbrev arounds : List ℕ
  arounds = arounds_over model script

  abbrev c : ℕ → ℕ
  c = cost nodes arounds

  abbrev count : ℕ
  count = length model.rows

  abbrev whole : Signature
  whole = structure_of names definitions

  abbrev of_model : Row → machine.Node
  of_model row = resolved naming 0 model.bodies [] row.node

  abbrev of_script : Row → machine.Node
  of_script row = resolved unnamed count script.bodies declared row.node

  abbrev around_of : Row → ℕ
  around_of row = row.around

  abbrev names_of_model : HasNames naming naming (given nodes) 0 [] model definitions.entries whole (λ n. n)
  names_of_model =
      model_names has naming model script declared names definitions terms bodies all theories elements distinct gives

  abbrev seen_of : ℕ → ℕ
  seen_of = seen has naming model script declared names definitions terms bodies all theories elements distinct gives

  abbrev names_of_script : HasNames naming unnamed (given nodes) count declared script names.entries whole seen_of
  names_of_script =
      script_names has naming model script declared names definitions terms bodies all theories elements distinct gives

  -- the node of a row of the script, and the annotations round it
  script_at : (k : ℕ) (row : Row) → slice_get script.rows k ≡ Some row
      → (slice_get nodes (count + k) ≡ Some (of_script row))
      × (slice_get arounds (count + k) ≡ Some row.around)
  script_at k row at =
      let l = length-map model.rows of_model in
      let m = length-map model.rows around_of in (
        at_right (map of_model model.rows) (map of_script script.rows) (count + k) k (of_script row)
            (omega (arith, l)) (at_map of_script script.rows k row at),
        at_right (map around_of model.rows) (map around_of script.rows) (count + k) k row.around
            (omega (arith, m)) (at_map around_of script.rows k row at),
      )

  -- a row that stands at this place
  row_costs : (i : ℕ) (row : Row) (n : machine.Node) → slice_get nodes i ≡ Some n
      → slice_get arounds i ≡ Some row.around → c i ≡ node_cost i c row.around (Some n)
  row_costs i row n at around =
      costs nodes arounds i
      ∙ ap (λ o. node_cost i c (unwrap_or o 0) (slice_get nodes i)) around
      ∙ ap (node_cost i c row.around) at

  model_rows : HasRowCosts c naming 0 [] model
  model_rows = λ k row at.
      let here : slice_get model.rows (0 + k) ≡ Some row = ap (slice_get model.rows) (omega arith) ∙ at in
      row_costs (0 + k) row (of_model row)
      (at_left (map of_model model.rows) (map of_script script.rows) (0 + k) (of_model row)
      (at_map of_model model.rows (0 + k) row here))
      (at_left (map around_of model.rows) (map around_of script.rows) (0 + k) row.around
      (at_map around_of model.rows (0 + k) row here))

  script_rows : HasRowCosts c unnamed count declared script
  script_rows = λ k row at.
      let here = script_at k row at in row_costs (count + k) row (of_script row) here.0 here.1

  none_given : (k : ℕ) (e : Entry) → slice_get (declared_among definitions.entries) k ≡ Some e
      → IsCostAt c 0 [] whole (λ n. n) k e
  none_given k e at = absurd (none_declared definitions.entries k e all at)

  -- the body of the definition that the model gives to a declared name
  given_costs : (k : ℕ) (e : Entry) → slice_get (declared_among names.entries) k ≡ Some e
      → IsCostAt c count declared whole seen_of k e
  given_costs k e at =
      let m = gives k e at in
      let b : IsBodyOf model m.place m.definition m.body =
      subst (λ q. IsBodyOf model q m.definition m.body) (omega arith)
      (body_at model definitions.entries 0 model.bodies m.place m.definition m.body all bodies.bodies
      m.defined m.node) in
      let place = within definitions.entries m.place m.definition m.defined in (
        m.body,
        m.listed,
        denotes_within (first_heads m.place model) _ _ _ m.body b.1 b.3.denotes,
        λ n. ap c (omega arith)
            ∙ called_costs naming naming (given nodes) 0 [] model definitions.entries whole (λ q. q) names_of_model c
            model_rows none_given m.body
            (calls_cost naming naming (given nodes) 0 [] model definitions.entries whole (λ q. q) names_of_model c
            model_rows none_given m.body) (seen_of n)
            m.place m.body m.definition e.name m.defined (omega (arith, place)) m.name b (omega arith),
      )

  abbrev all_names : ℕ
  all_names = length script.heads

  counted_names : all_names ≡ length names.entries
  counted_names =
      names_counted has naming model script declared names definitions terms bodies all theories elements distinct gives

  pub node_has_cost : (around i : ℕ) (term : Sexp) → Denotes script [] 0 around i term
      → c (count + i) ≡ around + cost_over whole term
  node_has_cost around i term denotes =
      closed_costs naming unnamed (given nodes) count declared script names.entries whole seen_of names_of_script c
      script_rows given_costs all_names around i term (omega (arith, counted_names))
      (subst (λ hs. Denotes (record script { heads = hs }) [] 0 around i term) (sym (take-length script.heads))
      denotes)
      ∙ ap (λ d. around + cost_of (costs_in d) [] term)
      (all_seen has naming model script declared names definitions terms bodies all theories elements distinct gives)

  -- ---- what the bodies of names cost at most, where the script defines none

  -- a body of the model's, and its number
  body_there : (es : List Entry) (before : ℕ) (bodies : List ℕ) (q : ℕ) (e : Entry) → AllDefined es
      → AreBodies model before bodies es → slice_get es q ≡ Some e → (j : ℕ) × (slice_get bodies q ≡ Some j)
  body_there [] before bodies q e all b at = cc
  body_there (d ∷ es) before bodies q e all b at =
      by d.origin all.0 bodies b q at (λ k rest c there. body_there es (before + 1) rest k e all.1 c there)
    where
      by : (o : Origin) → IsDefined o → (bs : List ℕ)
          → IsNextBody model before (length d.parameters) o bs (λ rest. AreBodies model (before + 1) rest es)
          → (q : ℕ) → slice_get (d ∷ es) q ≡ Some e
          → ((k : ℕ) (rest : List ℕ) → AreBodies model (before + 1) rest es → slice_get es k ≡ Some e
          → (j : ℕ) × (slice_get rest k ≡ Some j))
          → (j : ℕ) × (slice_get bs q ≡ Some j)
      by (Declared command) is bs c q there next = absurd is
      by (Defined ps body) is [] c q there next = absurd c
      by (Defined ps body) is (j ∷ js) c zero there next = (j, refl)
      by (Defined ps body) is (j ∷ js) c (suc k) there next = next k js c.1 there

  module _ (none : defined_among names.entries ≡ []) (most : ℕ) (few : (i : ℕ) → i < count → c i ≤ most) where
    alone : whole ≡ definitions
    alone = ap (λ (es : List Entry). record definitions { entries = definitions.entries ++ es }) none
        ∙ ap (λ (es : List Entry). record definitions { entries = es }) (append-nil definitions.entries)

    all_first : first (length definitions.entries) whole ≡ definitions
    all_first = ap (first (length definitions.entries)) alone
        ∙ ap (λ (es : List Entry). record definitions { entries = es }) (take-length definitions.entries)

    defined_few : (q : ℕ) (e : Entry) → slice_get definitions.entries q ≡ Some e → costs_in definitions e.name ≤ most
    defined_few q e at =
        let there = body_there definitions.entries 0 model.bodies q e all bodies.bodies at in
        let b : IsBodyOf model q e there.0 =
        subst (λ n. IsBodyOf model n e there.0) (omega arith)
        (body_at model definitions.entries 0 model.bodies q e there.0 all bodies.bodies at there.1) in
        let inside = denotes_within (first_heads q model) _ _ _ there.0 b.1 b.3.denotes in
        let place = within definitions.entries q e at in
        let last = suc there.0 in
        let same = called_costs naming naming (given nodes) 0 [] model definitions.entries whole (λ n. n) names_of_model c
        model_rows none_given last
        (calls_cost naming naming (given nodes) 0 [] model definitions.entries whole (λ n. n) names_of_model c
        model_rows none_given last) (length definitions.entries)
        q there.0 e e.name at (omega (arith, place)) refl b (omega arith) in
        let told = ap (λ (d : Signature). costs_in d e.name) all_first in
        let low = few (0 + there.0) (omega (arith, inside)) in
        omega (arith, same, told, low)

    pub bodies_few : (x : List ℕ) → costs_in whole x ≤ most
    bodies_few x =
        subst (λ (d : Signature). costs_in d x ≤ most) (sym alone) (by (entry_named definitions.entries x) refl)
      where
        by : (o : Option Entry) → entry_named definitions.entries x ≡ o → costs_in definitions x ≤ most
        by None is = let free = cost_absent no_costs definitions.entries x is in omega (arith, free)
        by (Some e) is =
            let p = place_of definitions.entries x e is in
            subst (λ y. costs_in definitions y ≤ most) (sym p.2) (defined_few p.0 e p.1)

    -- a term costs so much for each atom and list in it
    pub term_sized : (term : Sexp) → cost_over whole term ≤ weight term * (most + 1)
    term_sized term = sized (costs_in whole) most bodies_few [] term

  -- each of the first costs no more than the greatest does, if that is a number that code counts to
  within_greatest : (n : ℕ) → greatest_of n c < 2 ^ 64 - 1 → (i : ℕ) → i < n → c i ≤ greatest_of n c
  within_greatest zero below i h = absurd (omega (arith, h))
  within_greatest (suc n) below i h =
      by (ltb i n) refl (within_greatest n (omega (arith, below)) i)
    where
      by : (b : Bool) → ltb i n ≡ b → (i < n → c i ≤ greatest_of n c) → c i ≤ max (capped (c n)) (greatest_of n c)
      by true is earlier = let before = earlier (ltb-true i n is) in omega (arith, before)
      by false is earlier =
          let last = ltb-false i n is in
          let here : c i ≡ c n = ap c (omega (arith, h, last)) in omega (arith, here, below)

  pub sized_by_greatest : defined_among names.entries ≡ [] → greatest_of count c < 2 ^ 64 - 1 → (term : Sexp)
      → cost_over whole term ≤ weight term * (greatest_of count c + 1)
  sized_by_greatest none below term = term_sized none (greatest_of count c) (within_greatest count below) term

  -- ---- what the node takes at least

  module _ (leasts : (nodes : List machine.Node) (arounds : List ℕ) (i : ℕ) → least nodes arounds i
      ≡ node_least i (least nodes arounds) (around_at arounds i) (slice_get nodes i)) where
    abbrev least_at : ℕ → ℕ
    least_at = least nodes arounds

    least_rows : HasRowLeasts least_at unnamed count declared script
    least_rows = λ k row at.
        let here = script_at k row at in
        leasts nodes arounds (count + k)
        ∙ ap (λ o. node_least (count + k) least_at (unwrap_or o 0) (slice_get nodes (count + k))) here.1
        ∙ ap (node_least (count + k) least_at row.around) here.0

    pub node_has_least : (around i : ℕ) (term : Sexp) → Denotes script [] 0 around i term
        → around + least_of names.theories term ≤ least_at (count + i)
    node_has_least around i term denotes =
        let calls = calls_cost naming unnamed (given nodes) count declared script names.entries whole seen_of names_of_script c
        script_rows given_costs i in
        let means = costs_its_nodes naming unnamed (given nodes) count declared script names.entries whole seen_of
        names_of_script c script_rows given_costs i calls all_names in
        subst (λ ts. around + least_of ts term ≤ least_at (count + i)) terms.theories
        (term_counts c least_at unnamed count declared (first_heads all_names script) _ i
        (λ j. let here = costs nodes arounds j in omega (arith, here)) least_rows means [] 0 around i term
        (subst (λ hs. Denotes (record script { heads = hs }) [] 0 around i term) (sym (take-length script.heads))
        denotes) (omega arith))
