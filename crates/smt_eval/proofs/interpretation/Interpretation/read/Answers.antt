use Rattle.std.proofs.Common.{ℕ, refl, Option, ap, sym, ◌∙◌}
use Rattle.smt_trees.specs.View.{sexps_of}
use Rattle.smt_terms.specs.Items.{items_before}
use Rattle.smt_terms.specs.Library.{held_terms_of}
use Rattle.smt_eval.specs.Model.{complete_or}
use Rattle.smt_eval.proofs.CompleteModelLemmas.{TakenAreItems}
use Rattle.smt_eval.proofs.GivenBodyLemmas.{bodies_given, lacking_told}
use Rattle.smt_eval.proofs.ReadLemmas.{model_whole}
use Rattle.smt_eval.proofs.StructureLemmas.{items_defined}
use Rattle.smt_eval.proofs.interpretation.Interpretation.read.Goals as goal

pub returns-in-Ok-clause-model : goal.returns-in-Ok-clause-model
returns-in-Ok-clause-model c = λ s stands.
    let read = c.in_ok-definitions.ensures s stands in
    let d = items_before s read.0 in
    let law : TakenAreItems = λ script earlier tree e h. record {
      fresh = c.items_are_well_sorted.ensures.fresh script earlier tree e h;
      sorted = c.items_are_well_sorted.ensures.sorted script earlier tree e h;
      ranked = λ f at. c.items_are_well_sorted.ensures.ranked script earlier tree e f h at;
      free = c.items_are_well_sorted.ensures.free script earlier tree e h;
    } in
    let defined = items_defined law s (sexps_of c.items.result) read.0 read.1 in
    let given = c.in-Ok.ensures s d stands read.2 defined in
    let whole =
    model_whole s (sexps_of c.args.model) (sexps_of c.items.result) read.0
    c.items.ensures read.1
    ∙ ap (λ (o : Option ℕ). complete_or o d) given.0 in (
      d,
      whole,
      record {
        stands = read.2;
        defined = defined;
        theories = refl;
        no_elements = sym stands.elements ∙ c.requires.1.elements ∙ c.requires.2;
        distinct = c.structures_are_distinct.ensures s (sexps_of c.args.model) d whole stands.distinct;
        bodies = bodies_given s d (sexps_of c.args.model) (held_terms_of c.in_ok-definitions.definitions).bodies _
            (c.models_are_complete.ensures s (sexps_of c.args.model) d whole) stands.distinct given.1;
      },
    )

pub returns-in-Err-clause-model : goal.returns-in-Err-clause-model
returns-in-Err-clause-model c = λ s stands.
    let read = c.in_ok-definitions.ensures s stands in
    let d = items_before s read.0 in
    let law : TakenAreItems = λ script earlier tree e h. record {
      fresh = c.items_are_well_sorted.ensures.fresh script earlier tree e h;
      sorted = c.items_are_well_sorted.ensures.sorted script earlier tree e h;
      ranked = λ f at. c.items_are_well_sorted.ensures.ranked script earlier tree e f h at;
      free = c.items_are_well_sorted.ensures.free script earlier tree e h;
    } in
    let defined = items_defined law s (sexps_of c.items.result) read.0 read.1 in
    lacking_told s d (sexps_of c.args.model) _ _
    (model_whole s (sexps_of c.args.model) (sexps_of c.items.result) read.0
    c.items.ensures read.1) (c.in-Err.ensures s d stands read.2 defined)
