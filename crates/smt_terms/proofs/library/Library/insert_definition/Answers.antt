-- The new name goes last, among the names and among the definitions, with the node of its body.
use Rattle.std.proofs.Common.{◌≡◌, ℕ, List, ◌++◌, ◌∷◌, [], length, map, refl, ap, ◌∙◌}
use Rattle.std.proofs.lemmas.List.{map-append}
use Rattle.smt_nodes.specs.Nodes.{rows_of}
use Rattle.smt_theory.specs.Sort.{Sort}
use Rattle.smt_terms.specs.Contents.{contents_of, declaration_view}
use Rattle.smt_terms.specs.Denotes.{Head}
use Rattle.smt_terms.specs.Internal.LibraryView.{abbreviations_of, ranks_of_library}
use Rattle.smt_terms.specs.Internal.TableView.{heads_of_library, names_of_definitions}
use Rattle.smt_terms.specs.declared.library.Definition.{Definition}
use Rattle.smt_terms.specs.declared.library.Found.TheVariants as place
use Rattle.smt_terms.specs.declared.sorts.SortNames.{SortNames}
use Rattle.smt_terms.proofs.ApartLemmas.{apart_one, apart_same}
use Rattle.smt_terms.proofs.ContentsLemmas.{grown_by, nothing_more, same_elements}
use Rattle.smt_forms.specs.ScopeView.{scope_view}
use Rattle.smt_terms.proofs.StandsLemmas.{counted, on_err, stands_defined, undone_push}
use Rattle.smt_terms.proofs.library.Library.insert_definition.Goals as goal

pub returns-in_err-sorts_of_variables-clause-unchanged : goal.returns-in_err-sorts_of_variables-clause-unchanged
returns-in_err-sorts_of_variables-clause-unchanged c = on_err c.from_residual-in_err-sorts_of_variables.result (record {
  theories = refl;
  elements = refl;
  abbreviations = refl;
  ranks = refl;
  heads = refl;
  declared = refl;
  definitions = refl;
  bodies = refl;
  rows = nothing_more _ _ refl;
})

pub returns-in_err-push_definition-clause-unchanged : goal.returns-in_err-push_definition-clause-unchanged
returns-in_err-push_definition-clause-unchanged c = on_err c.from_residual-in_err-push_definition.result (record {
  theories = ap (λ (z : SortNames). z.theories) c.push_definition.ensures.sorts;
  elements = same_elements c.push_definition.ensures.elements;
  abbreviations = ap abbreviations_of c.push_definition.ensures.sorts;
  ranks = rw c.push_definition.ensures.names refl;
  heads = rw c.push_definition.ensures.names refl;
  declared = rw c.push_definition.ensures.declared refl;
  definitions = c.in_err-push_definition.ensures.unchanged.0;
  bodies = c.in_err-push_definition.ensures.unchanged.1;
  rows = nothing_more _ _ (ap rows_of c.push_definition.ensures.nodes);
})

pub returns-in_err-push_definition-clause-grown : goal.returns-in_err-push_definition-clause-grown
returns-in_err-push_definition-clause-grown c = record {
  theories = ap (λ (z : SortNames). z.theories) c.push_definition.ensures.sorts;
  elements = same_elements c.push_definition.ensures.elements;
  abbreviations = nothing_more _ _ (ap abbreviations_of c.push_definition.ensures.sorts);
  ranks = nothing_more _ _ (rw c.push_definition.ensures.names refl);
  heads = nothing_more _ _ (rw c.push_definition.ensures.names refl);
  apart = apart_same _ _ _ (rw c.push_definition.ensures.names refl);
  declared = nothing_more _ _ (rw c.push_definition.ensures.declared refl);
  definitions = nothing_more _ _ c.in_err-push_definition.ensures.unchanged.0;
  bodies = nothing_more _ _ c.in_err-push_definition.ensures.unchanged.1;
  rows = nothing_more _ _ (ap rows_of c.push_definition.ensures.nodes);
}

pub returns-in-Err-clause-unchanged : goal.returns-in-Err-clause-unchanged
returns-in-Err-clause-unchanged c =
    let first = c.push_definition.ensures in
    let then = c.insert.ensures in
    let last = c.pop_definition.ensures in
    record {
      theories = ap (λ (z : SortNames). z.theories) (last.sorts ∙ then.sorts ∙ first.sorts);
      elements = same_elements (last.elements ∙ then.elements ∙ first.elements);
      abbreviations = ap abbreviations_of (last.sorts ∙ then.sorts ∙ first.sorts);
      ranks = rw last.names (c.in-Err.ensures.unchanged.0 ∙ rw first.names refl);
      heads = rw last.names (c.in-Err.ensures.unchanged.1 ∙ rw first.names refl);
      declared = rw last.declared (ap (map declaration_view) then.declared ∙ rw first.declared refl);
      definitions = undone_push c.args.self.now.definitions.items _ _ _
          (then.definitions ∙ c.in_ok-push_definition.ensures.definitions) last.definitions;
      bodies = undone_push c.args.self.now.bodies.items _ _ _
          (then.bodies ∙ c.in_ok-push_definition.ensures.bodies) last.bodies;
      rows = nothing_more _ _ (ap rows_of (last.nodes ∙ then.nodes ∙ first.nodes));
    }

pub returns-in-Err-clause-grown : goal.returns-in-Err-clause-grown
returns-in-Err-clause-grown c = grown_by _ _ (returns-in-Err-clause-unchanged c)

pub returns-in-Ok-clause-ranks : goal.returns-in-Ok-clause-ranks
returns-in-Ok-clause-ranks c =
    c.in-Ok.ensures.ranks ∙ rw c.push_definition.ensures.names refl ∙ ap
    (λ (ps : List Sort). ranks_of_library c.args.self.now
    ++ (c.args.name.now, record { parameters = ps; sort = c.args.sort }) ∷ [])
    c.in_ok-sorts_of_variables.ensures

pub returns-in-Ok-clause-added : goal.returns-in-Ok-clause-added
returns-in-Ok-clause-added c = λ bodies s t stands free node.
    let first = c.push_definition.ensures in
    let then = c.insert.ensures in
    let old = c.args.self.now in
    let names : heads_of_library c.push_definition.new.self ≡ heads_of_library old = rw first.names refl in
    stands_defined bodies (contents_of old) (contents_of c.insert.new.self) s c.args.name.now
    (scope_view c.args.parameters.now) _ t c.args.node c.requires.absent free c.requires.apart
    c.in_ok-from_slice.ensures.ok
    c.in_ok-named_parameters.ensures node
    (ap (λ (z : SortNames). z.theories) (then.sorts ∙ first.sorts)) (same_elements (then.elements ∙ first.elements))
    (ap abbreviations_of (then.sorts ∙ first.sorts))
    (returns-in-Ok-clause-ranks c)
    (c.in-Ok.ensures.heads ∙ ap (λ (hs : List (List ℕ × Head)). hs ++ (
      c.args.name.now,
      record {
        place = place.Defined c.len.result;
        arity = length c.in_ok-sorts_of_variables.field-0.items;
      },
    ) ∷ []) names ∙ ap
    (λ (ps : List Sort). heads_of_library old ++ (
      c.args.name.now,
      record {
        place = place.Defined c.len.result;
        arity = length ps;
      },
    ) ∷ []) c.in_ok-sorts_of_variables.ensures ∙ ap
    (λ (n : ℕ). heads_of_library old ++ (
      c.args.name.now,
      record {
        place = place.Defined n;
        arity = length (map (λ p. p.1) (scope_view c.args.parameters.now));
      },
    ) ∷ []) (counted old.definitions c.len.result c.len.ensures))
    (ap (map declaration_view) then.declared ∙ rw first.declared refl)
    (then.definitions ∙ c.in_ok-push_definition.ensures.definitions)
    (then.bodies ∙ c.in_ok-push_definition.ensures.bodies)
    (nothing_more _ _ (ap rows_of (then.nodes ∙ first.nodes))) stands

pub returns-in-Ok-clause-names : goal.returns-in-Ok-clause-names
returns-in-Ok-clause-names c =
    let before = c.args.self.now.definitions.items in
    ap names_of_definitions (c.insert.ensures.definitions ∙ c.in_ok-push_definition.ensures.definitions)
    ∙ map-append (λ (d : Definition). d.name.items) before _
    ∙ ap (λ (x : List ℕ). names_of_definitions before ++ x ∷ []) c.in_ok-from_slice.ensures.ok

pub returns-in-Ok-clause-bodies : goal.returns-in-Ok-clause-bodies
returns-in-Ok-clause-bodies c = c.insert.ensures.bodies ∙ c.in_ok-push_definition.ensures.bodies

pub returns-in-Ok-clause-grown : goal.returns-in-Ok-clause-grown
returns-in-Ok-clause-grown c =
    let first = c.push_definition.ensures in
    let then = c.insert.ensures in
    let names : heads_of_library c.push_definition.new.self ≡ heads_of_library c.args.self.now =
    rw first.names refl in
    let heads : heads_of_library c.insert.new.self ≡ heads_of_library c.args.self.now ++ (
      c.args.name.now,
      record {
        place = place.Defined c.len.result;
        arity = length c.in_ok-sorts_of_variables.field-0.items;
      },
    ) ∷ [] = c.in-Ok.ensures.heads ∙ ap (λ (hs : List (List ℕ × Head)). hs ++ (
      c.args.name.now,
      record {
        place = place.Defined c.len.result;
        arity = length c.in_ok-sorts_of_variables.field-0.items;
      },
    ) ∷ []) names in
    record {
      theories = ap (λ (z : SortNames). z.theories) (then.sorts ∙ first.sorts);
      elements = same_elements (then.elements ∙ first.elements);
      abbreviations = nothing_more _ _ (ap abbreviations_of (then.sorts ∙ first.sorts));
      ranks = (_, returns-in-Ok-clause-ranks c);
      heads = (_, heads);
      apart = apart_one _ _ _ c.args.name.now _ heads c.requires.apart;
      declared = nothing_more _ _ (ap (map declaration_view) then.declared ∙ rw first.declared refl);
      definitions = (_, then.definitions ∙ c.in_ok-push_definition.ensures.definitions);
      bodies = (_, then.bodies ∙ c.in_ok-push_definition.ensures.bodies);
      rows = nothing_more _ _ (ap rows_of (then.nodes ∙ first.nodes));
    }
