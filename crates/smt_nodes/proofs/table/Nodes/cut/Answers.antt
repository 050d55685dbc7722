use Rattle.std.proofs.Common.{◌≡◌, ℕ, ◌∙◌, ap, refl, sym, subst, List, take}
use Rattle.smt_nodes.specs.Internal.Annotations.{annotated_of}
use Rattle.smt_nodes.specs.Internal.Lists.{Lists, first_of, lists_of}
use Rattle.smt_nodes.specs.Internal.Numbers.{large_of}
use Rattle.smt_nodes.specs.Internal.Rows.{AreNumbered, IsSound, last_ends, views}
use Rattle.smt_nodes.specs.Nodes.{names_of, rows_of}
use Rattle.smt_nodes.specs.declared.rows.Ends.{Ends}
use Rattle.smt_nodes.specs.declared.rows.StoredRow.{StoredRow}
use Rattle.smt_nodes.specs.Internal.Elements.{AreNamed}
use Rattle.smt_nodes.proofs.ElementLemmas.{named_cut}
use Rattle.smt_nodes.proofs.NumberLemmas.{numbered_cut}
use Rattle.smt_nodes.proofs.SoundLemmas.{sound_cut}
use Rattle.smt_nodes.proofs.TableLemmas.{views_cut}
use Rattle.smt_nodes.proofs.table.Nodes.cut.Goals as goal

-- the rows and lists that are left, by what each call leaves
left : (n : ℕ) (rows firsts seen : List StoredRow) (t u : Lists) (e : Ends)
    (P : List StoredRow → Lists → Type 0) → firsts ≡ take n rows → seen ≡ firsts → e ≡ last_ends seen
    → u ≡ first_of e t → P (take n rows) (first_of (last_ends (take n rows)) t) → P firsts u
left n rows firsts seen t u e P is same ends lists p =
    let all : u ≡ first_of (last_ends (take n rows)) t =
    lists ∙ ap (λ (a : Ends). first_of a t) (ends ∙ ap (λ (rs : List StoredRow). last_ends rs) (same ∙ is)) in
    subst (λ (rs : List StoredRow). P rs u) (sym is) (subst (λ (l : Lists). P (take n rows) l) (sym all) p)

pub invariant_of-self : goal.invariant_of-self
invariant_of-self c =
    let nodes = c.args.self.now in
    let after = c.truncate-2.new.self in
    record {
      sound = left c.args.count nodes.rows.items c.truncate.new.self.items c.as_slice.result.now
          (lists_of nodes.tables) (lists_of after) c.last_ends-ends.result
          (λ rows t. IsSound rows t (annotated_of after))
          c.truncate.ensures.items c.as_slice.ensures.value c.last_ends-ends.ensures c.truncate-2.ensures.lists
          (sound_cut c.args.count nodes.rows.items (lists_of nodes.tables) (annotated_of nodes.tables)
          (annotated_of after) nodes.sound c.truncate-2.ensures.annotated);
      numbered = left c.args.count nodes.rows.items c.truncate.new.self.items c.as_slice.result.now
          (lists_of nodes.tables) (lists_of after) c.last_ends-ends.result
          (λ rows t. AreNumbered rows t (large_of after) (annotated_of after))
          c.truncate.ensures.items c.as_slice.ensures.value c.last_ends-ends.ensures c.truncate-2.ensures.lists
          (numbered_cut c.args.count nodes.rows.items (lists_of nodes.tables) (large_of nodes.tables)
          (large_of after) (annotated_of nodes.tables) (annotated_of after) nodes.sound nodes.numbered
          c.truncate-2.ensures.large c.truncate-2.ensures.annotated);
      named = left c.args.count nodes.rows.items c.truncate.new.self.items c.as_slice.result.now
          (lists_of nodes.tables) (lists_of after) c.last_ends-ends.result
          (λ rows t. AreNamed rows t nodes.names (annotated_of after))
          c.truncate.ensures.items c.as_slice.ensures.value c.last_ends-ends.ensures c.truncate-2.ensures.lists
          (named_cut c.args.count nodes.rows.items (lists_of nodes.tables) nodes.names (annotated_of nodes.tables)
          (annotated_of after) nodes.sound nodes.named c.truncate-2.ensures.annotated);
    }

pub returns-clause-rows : goal.returns-clause-rows
unfolding rows_of
returns-clause-rows c =
    let nodes = c.args.self.now in
    let after = c.truncate-2.new.self in
    left c.args.count nodes.rows.items c.truncate.new.self.items c.as_slice.result.now
    (lists_of nodes.tables) (lists_of after) c.last_ends-ends.result
    (λ rows t. views rows t (annotated_of after)
    ≡ take c.args.count (views nodes.rows.items (lists_of nodes.tables) (annotated_of nodes.tables)))
    c.truncate.ensures.items c.as_slice.ensures.value c.last_ends-ends.ensures c.truncate-2.ensures.lists
    (views_cut c.args.count nodes.rows.items (lists_of nodes.tables) (annotated_of nodes.tables)
    (annotated_of after) nodes.sound c.truncate-2.ensures.annotated)

pub returns-clause-names : goal.returns-clause-names
unfolding names_of
returns-clause-names c = refl
