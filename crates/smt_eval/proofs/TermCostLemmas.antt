-- What a term of a library costs over an interpretation, by its number.
use Rattle.std.proofs.Common.{◌≡◌, ◌≤◌, ℕ, ◌+◌, List, [], length, Option, None, Result, Ok, Err}
use Rattle.std.proofs.Common.{IfOk, OnOk, ap, sym, ◌∙◌, subst, arith}
use Rattle.smt_trees.specs.Sexp.{Sexp}
use Rattle.smt_machine.specs.Costs.{cost, within}
use Rattle.smt_machine.specs.Least.{least}
use Rattle.smt_values.specs.Element.{Naming}
use Rattle.smt_machine.specs.Tables.{arounds_of, model_count, nodes_of, term_cost, term_least}
use Rattle.smt_machine.specs.declared.tables.Tables.{Tables}
use Rattle.smt_terms.specs.Denotes.{Denotes, Table}
use Rattle.smt_terms.specs.Library.{IsTerm, StandsFor, held_terms_of, terms_of}
use Rattle.smt_terms.specs.Signature.{AreDistinct, Signature}
use Rattle.smt_terms.specs.TermsOf.{AreTermsOf}
use Rattle.smt_terms.specs.declared.library.Library.{Library}
use Rattle.smt_eval.specs.Cost.{cost_over}
use Rattle.smt_eval.specs.Internal.DefinitionValues.{AllDefined}
use Rattle.smt_eval.specs.Interpretation.{CostsAtMost, Fits, IsInterpretation, numbers_of}
use Rattle.smt_eval.specs.Least.{least_of, least_over}
use Rattle.smt_eval.specs.NodeValues.{GivesBodies, arounds_over, nodes_over}
use Rattle.smt_eval.specs.Structure.{structure_of}
use Rattle.smt_eval.specs.declared.interpretation.Interpretation.{Interpretation}

-- the law of `nodes_have_the_costs_of_their_terms`
abbrev pub NodesHaveCosts : Type 0
NodesHaveCosts = (elements : Naming) (model script : Table) (declared : List ℕ) (names definitions : Signature) (around i : ℕ)
    (term : Sexp) → AreTermsOf script names → AreTermsOf model definitions
    → AllDefined definitions.entries → definitions.theories ≡ names.theories → names.elements ≡ None
    → AreDistinct (structure_of names definitions).entries
    → GivesBodies declared names definitions model.bodies
    → Denotes script [] 0 around i term
    → cost (nodes_over elements model script declared) (arounds_over model script) (length model.rows + i)
    ≡ around + cost_over (structure_of names definitions) term

-- the tables are those of the library and the interpretation
pub record AreTablesOf (tables : Tables) (library : Library) (interpretation : Interpretation) : Type 0 where
  pub nodes : nodes_of tables
      ≡ nodes_over (numbers_of interpretation) (held_terms_of interpretation.definitions) (terms_of library)
      interpretation.declared.items
  pub arounds : arounds_of tables ≡ arounds_over (held_terms_of interpretation.definitions) (terms_of library)
  pub count : model_count tables ≡ length (held_terms_of interpretation.definitions).rows
  pub named : (s : Signature) → StandsFor library s → AreTermsOf (terms_of library) s

pub cost_is : NodesHaveCosts → (tables : Tables) (library : Library) (interpretation : Interpretation) (id : ℕ)
    (script definitions : Signature) (t : Sexp) → AreTablesOf tables library interpretation
    → StandsFor library script → IsInterpretation interpretation script definitions → IsTerm library id t
    → term_cost tables id ≡ cost_over (structure_of script definitions) t
cost_is law tables library interpretation id script definitions t are names holds term =
    let model = held_terms_of interpretation.definitions in
    let whole = law (numbers_of interpretation) model (terms_of library) interpretation.declared.items script definitions 0 id t
    (are.named script names) holds.stands.terms holds.defined holds.theories holds.no_elements
    holds.distinct holds.bodies term in
    ap (λ n. cost (nodes_of tables) (arounds_of tables) (n + id)) are.count
    ∙ ap (λ nodes. cost nodes (arounds_of tables) (length model.rows + id)) are.nodes
    ∙ ap (λ (arounds : List ℕ). cost (nodes_over (numbers_of interpretation) model (terms_of library) interpretation.declared.items) arounds
    (length model.rows + id)) are.arounds
    ∙ omega (arith, whole)

-- the law of `nodes_take_the_least_of_their_terms`
abbrev pub NodesTakeLeast : Type 0
NodesTakeLeast = (elements : Naming) (model script : Table) (declared : List ℕ) (names definitions : Signature) (around i : ℕ)
    (term : Sexp) → AreTermsOf script names → AreTermsOf model definitions
    → AllDefined definitions.entries → definitions.theories ≡ names.theories → names.elements ≡ None
    → AreDistinct (structure_of names definitions).entries
    → GivesBodies declared names definitions model.bodies
    → Denotes script [] 0 around i term
    → around + least_of names.theories term
    ≤ least (nodes_over elements model script declared) (arounds_over model script) (length model.rows + i)

pub counted_is : {T F : Type 0} (r : Result T F) (old new : ℕ) → NodesTakeLeast → (tables : Tables)
    (library : Library) (interpretation : Interpretation) (id : ℕ) (script definitions : Signature) (t : Sexp)
    → AreTablesOf tables library interpretation
    → StandsFor library script → IsInterpretation interpretation script definitions → IsTerm library id t
    → OnOk r (new + term_least tables id ≤ old) → OnOk r (new + least_over (structure_of script definitions) t ≤ old)
counted_is r old new law tables library interpretation id script definitions t are names holds term counted =
    by r counted
  where
    is : term_least tables id ≡ least (nodes_over (numbers_of interpretation) (held_terms_of interpretation.definitions) (terms_of library)
        interpretation.declared.items) (arounds_over (held_terms_of interpretation.definitions) (terms_of library))
        (length (held_terms_of interpretation.definitions).rows + id)
    is = ap (λ n. least (nodes_of tables) (arounds_of tables) (n + id)) are.count
        ∙ ap (λ nodes. least nodes (arounds_of tables)
        (length (held_terms_of interpretation.definitions).rows + id)) are.nodes
        ∙ ap (λ (arounds : List ℕ). least (nodes_over (numbers_of interpretation) (held_terms_of interpretation.definitions) (terms_of library)
        interpretation.declared.items) arounds (length (held_terms_of interpretation.definitions).rows + id))
        are.arounds

    by : {T F : Type 0} (r : Result T F) → OnOk r (new + term_least tables id ≤ old)
        → OnOk r (new + least_over (structure_of script definitions) t ≤ old)
    by (Ok x) most =
        let taken = law (numbers_of interpretation) (held_terms_of interpretation.definitions) (terms_of library) interpretation.declared.items
        script definitions 0 id t (are.named script names) holds.stands.terms holds.defined holds.theories
        holds.no_elements holds.distinct holds.bodies term in
        let same = ap (λ theories. least_of theories t) holds.theories in
        omega (arith, is, taken, most, same)
    by (Err e) most = tt

-- there is enough for the node
pub cost_within : NodesHaveCosts → (tables : Tables) (library : Library) (interpretation : Interpretation)
    (id left : ℕ) → AreTablesOf tables library interpretation → Fits interpretation library
    → (t : Sexp) × IsTerm library id t → CostsAtMost left library interpretation id → term_cost tables id ≤ left
cost_within law tables library interpretation id left are fits term enough =
    let is = cost_is law tables library interpretation id fits.script fits.definitions term.0 are fits.names
    fits.holds term.1 in
    let most = enough fits.script fits.definitions term.0 fits.names fits.holds term.1 in
    subst (λ n. n ≤ left) (sym is) most

-- what is left where so many were taken at most
pub paid_is : {T F : Type 0} (r : Result T F) (old new m n : ℕ) → OnOk r (old ≤ new + m) → m ≡ n
    → OnOk r (old ≤ new + n)
paid_is r old new m n paid is = subst (λ k. OnOk r (old ≤ new + k)) is paid

-- the same of the cost of the term
pub within_same : {F : Type 0} (r : Result (Option ℕ) F) (limit m n : ℕ)
    → IfOk r (λ cost. cost ≡ within limit m) → m ≡ n → IfOk r (λ cost. cost ≡ within limit n)
within_same r limit m n h is = subst (λ k. IfOk r (λ cost. cost ≡ within limit k)) is h
