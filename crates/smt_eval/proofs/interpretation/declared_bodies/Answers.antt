use Rattle.std.proofs.Common.{◌≡◌, ℕ, List, [], ◌∷◌, ◌++◌, length, map, Option, inr, refl, ap, sym, ◌∙◌}
use Rattle.std.proofs.Common.{subst, append_assoc, append-nil, arith}
use Rattle.std.proofs.lemmas.List.{length-map}
use Rattle.std.specs.Option.{option_or}
use Rattle.smt_terms.specs.Contents.{declaration_view}
use Rattle.smt_terms.specs.Library.{name_count, held_terms_of}
use Rattle.smt_terms.specs.Signature.{Entry, declared_among, entry_named, rank_of_entry}
use Rattle.smt_eval.proofs.DefinitionLemmas.{absent_is_lacking, found_is_not_lacking, next_declared}
use Rattle.smt_eval.proofs.DefinitionLemmas.{none_among_left, none_declared_left, within}
use Rattle.smt_eval.specs.Internal.GivenBodies.{GiveBodies, GivesBody}
use Rattle.smt_eval.specs.Model.{first_lacking}
use Rattle.smt_eval.proofs.FoundLemmas.{empty_of, same_entry}
use Rattle.smt_eval.proofs.GivenBodyLemmas.{give_more}
use Rattle.smt_eval.proofs.interpretation.declared_bodies.Goals as goal

pub name-requires : goal.name-requires
name-requires c =
    let s = c.requires.0 in
    let i = c.loop-declaration.invariant s c.requires.1 in
    let n =
    next_declared i.0 i.1 s.entries (declaration_view c.in-Some.declaration.now)
    (map declaration_view c.in-Some.rest.now) i.3
    (sym i.4 ∙ ap (map declaration_view) c.in-Some.ensures.cases.0) in
    let w = within s.entries _ n.entry n.at in
    let counted : name_count c.args.declared.now ≡ length s.entries =
    ap length c.requires.1.ranks ∙ length-map s.entries (λ e. (e.name, rank_of_entry e)) in
    omega (arith, w, counted)

pub returns-in_default-body_of : goal.returns-in_default-body_of
returns-in_default-body_of c = λ s d stands defined all.
    let i = c.loop-declaration.invariant s stands in
    let n =
    next_declared i.0 i.1 s.entries (declaration_view c.in-Some.declaration.now)
    (map declaration_view c.in-Some.rest.now) i.3
    (sym i.4 ∙ ap (map declaration_view) c.in-Some.ensures.cases.0) in
    let named = c.name.ensures s stands in
    let lacking = absent_is_lacking d.entries n.entry c.in-Some.declaration.now.command
    (ap (entry_named d.entries)
    (ap (λ (e : Entry). e.name) (same_entry s.entries _ n.entry named.0 n.at named.1) ∙ sym named.2)
    ∙ c.in_default-body_of.ensures d defined all) n.origin in
    inr (
      c.in-Some.declaration.now.command,
      refl,
      (i.6 d defined all).0 ∙ n.lacking d.entries ∙ ap
          (λ (o : Option ℕ). option_or o (first_lacking n.later d.entries)) lacking,
    )

pub loop-declaration-preserved : goal.loop-declaration-preserved
loop-declaration-preserved c = λ s stands.
    let i = c.loop-declaration.invariant s stands in
    let n =
    next_declared i.0 i.1 s.entries (declaration_view c.in-Some.declaration.now)
    (map declaration_view c.in-Some.rest.now) i.3
    (sym i.4 ∙ ap (map declaration_view) c.in-Some.ensures.cases.0) in
    let named = c.name.ensures s stands in
    let name : n.entry.name ≡ c.name.result.now =
    ap (λ (e : Entry). e.name) (same_entry s.entries _ n.entry named.0 n.at named.1) ∙ sym named.2 in (
      n.place,
      n.later,
      i.2 ++ n.entry ∷ [],
      n.stand,
      n.others,
      i.5 ∙ ap (λ (es : List Entry). i.2 ++ es) n.among
          ∙ sym (append_assoc i.2 (n.entry ∷ []) (declared_among n.later)),
      λ d defined all.
          let bodies = (held_terms_of c.args.definitions.now).bodies in
          let f = c.in-Some-body_of.ensures d defined all in
          let before = i.6 d defined all in (
            before.0 ∙ n.lacking d.entries ∙ ap
                (λ (o : Option ℕ). option_or o (first_lacking n.later d.entries))
                (found_is_not_lacking d.entries n.entry f.1 (ap (entry_named d.entries) name ∙ f.2)),
            subst (λ js. GiveBodies d.entries bodies (i.2 ++ n.entry ∷ []) js) (sym c.in_ok-push_node.ensures)
                (give_more d.entries bodies i.2 c.loop-declaration.bodies.items n.entry c.in-Some-body_of.body
                before.1 (subst (λ x. GivesBody d.entries bodies x c.in-Some-body_of.body) (sym name) f)),
          ),
    )

pub returns : goal.returns
returns c = λ s d stands defined all.
    let i = c.loop-declaration.invariant s stands in
    let none =
    sym i.4 ∙ ap (map declaration_view)
    (empty_of c.loop-declaration.left.now c.in_default.ensures.cases) in
    let g = i.6 d defined all in (
      g.0 ∙ none_declared_left i.0 i.1 d.entries none,
      subst (λ es. GiveBodies d.entries (held_terms_of c.args.definitions.now).bodies es
          c.loop-declaration.bodies.items)
          (sym (i.5 ∙ ap (λ (es : List Entry). i.2 ++ es) (none_among_left i.0 i.1 none) ∙ append-nil i.2)) g.1,
    )
