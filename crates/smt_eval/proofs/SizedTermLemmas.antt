-- What a term of a library costs over an interpretation at most, by the size of any term of the same node.
use Rattle.std.proofs.Common.{◌≡◌, ◌≤◌, ◌<◌, ℕ, suc, ◌+◌, ◌-◌, ◌*◌, ◌^◌, Bool, true, false, cond, List, [], ◌∷◌, length}
use Rattle.std.proofs.Common.{Option, Some, None, refl, ap, ◌∙◌, arith}
use Rattle.std.specs.Prelude.{IfSome, SomeIff, nat_lt}
use Rattle.std.proofs.lemmas.Bool.{ltb-false, ltb-true}
use Rattle.smt_trees.specs.Sexp.{Sexp, weight}
use Rattle.smt_machine.specs.Costs.{cost, greatest_of}
use Rattle.smt_values.specs.Element.{Naming}
use Rattle.smt_machine.specs.Tables.{arounds_of, model_count, nodes_of}
use Rattle.smt_machine.specs.declared.tables.Tables.{Tables}
use Rattle.smt_terms.specs.Denotes.{Table}
use Rattle.smt_terms.specs.Library.{AreDefinitions, IsTerm, StandsFor, definitions_of, held_terms_of, terms_of}
use Rattle.smt_terms.specs.Signature.{AreDistinct, Entry, Signature, defined_among}
use Rattle.smt_terms.specs.TermsOf.{AreTermsOf}
use Rattle.smt_terms.specs.declared.library.Definition.{Definition}
use Rattle.smt_terms.specs.declared.library.Library.{Library}
use Rattle.smt_eval.proofs.TermCostLemmas.{AreTablesOf, NodesHaveCosts}
use Rattle.smt_eval.specs.Cost.{cost_over}
use Rattle.smt_eval.specs.Internal.DefinitionValues.{AllDefined}
use Rattle.smt_eval.specs.Interpretation.{IsInterpretation, greatest_cost_of, numbers_of, rate_in, rate_of}
use Rattle.smt_eval.specs.NodeValues.{GivesBodies, arounds_over, nodes_over}
use Rattle.smt_eval.specs.Structure.{structure_of}
use Rattle.smt_eval.specs.declared.interpretation.Interpretation.{Interpretation}

-- the law of `terms_cost_by_their_sizes`
abbrev pub TermsCostBySizes : Type 0
TermsCostBySizes = (elements : Naming) (model script : Table) (declared : List ℕ) (names definitions : Signature)
    (term : Sexp) → AreTermsOf script names → AreTermsOf model definitions
    → AllDefined definitions.entries → definitions.theories ≡ names.theories → names.elements ≡ None
    → AreDistinct (structure_of names definitions).entries
    → GivesBodies declared names definitions model.bodies
    → defined_among names.entries ≡ []
    → greatest_of (length model.rows) (cost (nodes_over elements model script declared)
    (arounds_over model script)) < 2 ^ 64 - 1
    → cost_over (structure_of names definitions) term
    ≤ weight term * (greatest_of (length model.rows) (cost (nodes_over elements model script declared)
    (arounds_over model script)) + 1)

pub greatest_is : (tables : Tables) (library : Library) (interpretation : Interpretation)
    → AreTablesOf tables library interpretation
    → greatest_of (model_count tables) (cost (nodes_of tables) (arounds_of tables))
    ≡ greatest_cost_of interpretation library
greatest_is tables library interpretation are =
    let model = held_terms_of interpretation.definitions in
    let count = length model.rows in
    ap (λ n. greatest_of n (cost (nodes_of tables) (arounds_of tables))) are.count
    ∙ ap (λ nodes. greatest_of count (cost nodes (arounds_of tables))) are.nodes
    ∙ ap (λ (arounds : List ℕ). greatest_of count (cost (nodes_over (numbers_of interpretation) model
    (terms_of library) interpretation.declared.items) arounds)) are.arounds

-- no definition is that of no entry
no_entries : (ds : List Definition) (es : List Entry) → ds ≡ [] → AreDefinitions ds es → es ≡ []
no_entries [] [] none are = refl
no_entries [] (e ∷ es) none are = absurd are
no_entries (d ∷ ds) es none are = cc

-- there is a rate where there are no definitions
without : (ds : List Definition) (most n : ℕ) → Some n ≡ rate_in ds most → ds ≡ []
without [] most n is = refl
without (d ∷ ds) most n is = cc

-- it is one more than the greatest cost
rated : (ds : List Definition) (most n : ℕ) → Some n ≡ rate_in ds most → (most < 2 ^ 64 - 1) × (n ≡ most + 1)
rated (d ∷ ds) most n is = cc
rated [] most n is = by (nat_lt (suc most) (2 ^ 64)) refl is
  where
    by : (b : Bool) → nat_lt (suc most) (2 ^ 64) ≡ b → Some n ≡ cond b (Some (suc most)) None
        → (most < 2 ^ 64 - 1) × (n ≡ most + 1)
    by true fits h =
        let low = ltb-true (suc most) (2 ^ 64) fits in
        let same : n ≡ suc most = cc in
        (omega (arith, low), omega (arith, same))
    by false fits h = cc

pub rate_is : (ds : List Definition) (most n : ℕ) (o : Option ℕ) → length ds ≡ 0 → most ≡ n
    → SomeIff o (most + 1 < 18446744073709551616) (most + 1) → o ≡ rate_in ds n
rate_is (d ∷ ds) most n o empty is sum = absurd (omega (arith, empty))
rate_is [] most n o empty is sum = by o sum (nat_lt (suc n) (2 ^ 64)) refl
  where
    by : (o : Option ℕ) → SomeIff o (most + 1 < 18446744073709551616) (most + 1) → (b : Bool)
        → nat_lt (suc n) (2 ^ 64) ≡ b → o ≡ cond b (Some (suc n)) None
    by None over true fits =
        let low = ltb-true (suc n) (2 ^ 64) fits in absurd (over (omega (arith, low, is)))
    by None over false fits = refl
    by (Some x) within true fits = ap Some (let value = within.1 in omega (arith, value, is))
    by (Some x) within false fits =
        let high = ltb-false (suc n) (2 ^ 64) fits in
        let low = within.0 in absurd (omega (arith, high, low, is))

pub sized_term : NodesHaveCosts → TermsCostBySizes → (library : Library) (interpretation : Interpretation)
    (script definitions : Signature) (i : ℕ) (t u : Sexp) (rate : Option ℕ) → rate ≡ rate_of interpretation library
    → StandsFor library script → AreTermsOf (terms_of library) script
    → IsInterpretation interpretation script definitions → IsTerm library i t → IsTerm library i u
    → IfSome rate (λ n. cost_over (structure_of script definitions) t ≤ weight u * n)
sized_term costs sizes library interpretation script definitions i t u None is names terms holds term other = tt
sized_term costs sizes library interpretation script definitions i t u (Some n) is names terms holds term other =
    let model = held_terms_of interpretation.definitions in
    let elements = numbers_of interpretation in
    let declared = interpretation.declared.items in
    let r = rated (definitions_of library) (greatest_cost_of interpretation library) n is in
    let none = no_entries (definitions_of library) (defined_among script.entries)
    (without (definitions_of library) (greatest_cost_of interpretation library) n is) names.definitions in
    let first = costs elements model (terms_of library) declared script definitions 0 i t terms
    holds.stands.terms holds.defined holds.theories holds.no_elements holds.distinct holds.bodies term in
    let second = costs elements model (terms_of library) declared script definitions 0 i u terms
    holds.stands.terms holds.defined holds.theories holds.no_elements holds.distinct holds.bodies other in
    let most = sizes elements model (terms_of library) declared script definitions u terms
    holds.stands.terms holds.defined holds.theories holds.no_elements holds.distinct holds.bodies none r.0 in
    let same = ap (λ k. weight u * k) r.1 in
    omega (arith, first, second, most, same)
