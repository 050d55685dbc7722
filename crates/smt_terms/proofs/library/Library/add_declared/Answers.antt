-- The new name goes last, among the names and among the declarations.
use Rattle.std.proofs.Common.{◌≡◌, ℕ, List, ◌++◌, ◌∷◌, [], map, refl, ap, ◌∙◌, arith, length, subst, sym}
use Rattle.std.proofs.lemmas.Grind.{common_steps}
use Rattle.std.proofs.lemmas.List.{length-map, map-append}
use Rattle.smt_nodes.specs.Nodes.{rows_of}
use Rattle.smt_theory.specs.Sort.{Sort}
use Rattle.smt_terms.specs.Contents.{Extends, contents_of, declaration_view}
use Rattle.smt_terms.specs.Library.{Holds}
use Rattle.smt_terms.specs.Internal.LibraryView.{abbreviations_of, ranks_of_library}
use Rattle.smt_terms.specs.Internal.TableView.{heads_of_library}
use Rattle.smt_terms.specs.declared.library.Found.TheVariants as place
use Rattle.smt_terms.specs.declared.sorts.SortNames.{SortNames}
use Rattle.smt_terms.proofs.ApartLemmas.{apart_one, apart_same}
use Rattle.smt_terms.proofs.ContentsLemmas.{extends_itself, nothing_more, same_contents, same_elements}
use Rattle.smt_terms.proofs.StandsLemmas.{counted, on_err, stands_declared, stands_still}
use Rattle.smt_terms.proofs.library.Library.add_declared.Goals as goal

pub returns-in_err-push-clause-unchanged : goal.returns-in_err-push-clause-unchanged
returns-in_err-push-clause-unchanged c =
    on_err c.from_residual-in_err-push.result
    (λ s stands. stands_still (contents_of c.args.self.now) _ s (record {
      theories = refl;
      elements = refl;
      abbreviations = refl;
      ranks = refl;
      heads = refl;
      declared = ap (map declaration_view) c.in_err-push.ensures.items;
      definitions = refl;
      bodies = refl;
      rows = nothing_more _ _ refl;
    }) stands)

pub returns-in_err-push-clause-restored : goal.returns-in_err-push-clause-restored
returns-in_err-push-clause-restored c =
    on_err c.from_residual-in_err-push.result
    (same_contents _ (contents_of c.args.self.now) refl refl refl refl refl
    (ap (map declaration_view) c.in_err-push.ensures.items) refl refl refl)

pub returns-in_err-push-clause-grown : goal.returns-in_err-push-clause-grown
returns-in_err-push-clause-grown c = record {
  theories = refl;
  elements = refl;
  abbreviations = nothing_more _ _ refl;
  ranks = nothing_more _ _ refl;
  heads = nothing_more _ _ refl;
  apart = apart_same _ _ _ refl;
  declared = nothing_more _ _ (ap (map declaration_view) c.in_err-push.ensures.items);
  definitions = nothing_more _ _ refl;
  bodies = nothing_more _ _ refl;
  rows = nothing_more _ _ refl;
}

pub returns-in-Err-clause-restored : goal.returns-in-Err-clause-restored
returns-in-Err-clause-restored c =
    let same : c.pop.new.self.items ≡ c.args.self.now.declared.items =
    grind (
      arith,
      common_steps,
      c.pop.ensures.items,
      c.pop.ensures.variant,
      c.insert.ensures.declared,
      c.in_ok-push.ensures.items,
    ) in
    same_contents _ (contents_of c.args.self.now)
    (ap (λ (z : SortNames). z.theories) c.insert.ensures.sorts) (same_elements c.insert.ensures.elements)
    (ap abbreviations_of c.insert.ensures.sorts)
    c.in-Err.ensures.unchanged.0 c.in-Err.ensures.unchanged.1 (ap (map declaration_view) same)
    c.insert.ensures.definitions c.insert.ensures.bodies (ap rows_of c.insert.ensures.nodes)

pub returns-in-Err-clause-unchanged : goal.returns-in-Err-clause-unchanged
returns-in-Err-clause-unchanged c = λ s stands. subst (λ d. Holds d s) (sym (returns-in-Err-clause-restored c)) stands

pub returns-in-Err-clause-grown : goal.returns-in-Err-clause-grown
returns-in-Err-clause-grown c =
    subst (λ d. Extends (contents_of c.args.self.now) d) (sym (returns-in-Err-clause-restored c))
    (extends_itself (contents_of c.args.self.now))

pub returns-in-Ok-clause-added : goal.returns-in-Ok-clause-added
returns-in-Ok-clause-added c =
    let old = c.args.self.now in
    let params = c.in_ok-from_slice.ensures.items ∙ c.as_slice.ensures.value in
    let stood : c.len.result ≡ length (map declaration_view old.declared.items) =
    counted old.declared c.len.result c.len.ensures ∙ sym (length-map old.declared.items declaration_view)
    in
    λ s stands.
    stands_declared (contents_of old) (contents_of c.insert.new.self) s c.args.name.now
    (declaration_view c.args.declared) c.requires.absent c.requires.free
    c.requires.apart c.requires.next
    (ap (λ (z : SortNames). z.theories) c.insert.ensures.sorts) (same_elements c.insert.ensures.elements)
    (ap abbreviations_of c.insert.ensures.sorts)
    (c.in-Ok.ensures.ranks ∙ ap
    (λ (ps : List Sort). ranks_of_library old
    ++ (c.args.name.now, record { parameters = ps; sort = c.args.declared.result }) ∷ []) params)
    (c.in-Ok.ensures.heads ∙ ap
    (λ (ps : List Sort). heads_of_library old ++ (
      c.args.name.now,
      record {
        place = place.Declared c.len.result;
        arity = length ps;
      },
    ) ∷ []) params ∙ ap
    (λ (n : ℕ). heads_of_library old ++ (
      c.args.name.now,
      record {
        place = place.Declared n;
        arity = length c.args.declared.params.items;
      },
    ) ∷ []) stood)
    (ap (map declaration_view)
    (c.insert.ensures.declared ∙ c.in_ok-push.ensures.items) ∙ map-append declaration_view
    c.args.self.now.declared.items (c.args.declared ∷ [])) c.insert.ensures.definitions c.insert.ensures.bodies
    (nothing_more _ _ (ap rows_of c.insert.ensures.nodes)) stands

pub returns-in-Ok-clause-grown : goal.returns-in-Ok-clause-grown
returns-in-Ok-clause-grown c = record {
  theories = ap (λ (z : SortNames). z.theories) c.insert.ensures.sorts;
  elements = same_elements c.insert.ensures.elements;
  abbreviations = nothing_more _ _ (ap abbreviations_of c.insert.ensures.sorts);
  ranks = (_, c.in-Ok.ensures.ranks);
  heads = (_, c.in-Ok.ensures.heads);
  apart = apart_one _ _ _ c.args.name.now _ c.in-Ok.ensures.heads c.requires.apart;
  declared = (
    _,
    ap (map declaration_view) (c.insert.ensures.declared ∙ c.in_ok-push.ensures.items) ∙
        map-append declaration_view c.args.self.now.declared.items (c.args.declared ∷ []),
  );
  definitions = nothing_more _ _ c.insert.ensures.definitions;
  bodies = nothing_more _ _ c.insert.ensures.bodies;
  rows = nothing_more _ _ (ap rows_of c.insert.ensures.nodes);
}
