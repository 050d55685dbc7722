use Rattle.std.proofs.Common.{ℕ, length, min, refl, ap, sym, ◌∙◌}
use Rattle.std.proofs.lemmas.List.{length-take}
use Rattle.smt_names.specs.Entries.{entries_of}
use Rattle.smt_terms.specs.Ends.{ends_from}
use Rattle.smt_terms.proofs.EndLemmas.{ends_taken}
use Rattle.smt_terms.specs.Contents.{contents_of, declaration_view, first_of}
use Rattle.smt_terms.specs.Internal.LibraryView.{rank_of}
use Rattle.smt_terms.specs.Internal.TableView.{head_of}
use Rattle.smt_terms.proofs.ContentsLemmas.{mapped, same_contents}
use Rattle.smt_terms.proofs.library.Library.cut.Goals as goal

pub returns-clause-left : goal.returns-clause-left
returns-clause-left c =
    let old = c.args.self.now in
    let mark = c.args.mark in
    same_contents _ (first_of mark (contents_of old)) refl refl
    c.truncate-6.ensures
    (mapped (λ p. (p.0, rank_of p.1)) mark.names (entries_of old.names) (entries_of c.truncate.new.self)
    c.truncate.ensures)
    (mapped (λ p. (p.0, head_of p.1)) mark.names (entries_of old.names) (entries_of c.truncate.new.self)
    c.truncate.ensures)
    (mapped declaration_view mark.declared old.declared.items c.truncate-2.new.self.items
    c.truncate-2.ensures.items) c.truncate-3.ensures.items c.truncate-4.ensures.items c.cut.ensures.rows

pub invariant_of-self : goal.invariant_of-self
invariant_of-self c =
    let old = c.args.self.now in
    record {
      paired = ap length c.truncate-4.ensures.items ∙ length-take c.args.mark.definitions old.bodies.items
          ∙ ap (λ (n : ℕ). min c.args.mark.definitions n) old.paired
          ∙ sym (length-take c.args.mark.definitions old.definitions.items)
          ∙ ap length (sym c.truncate-3.ensures.items);
      ended = c.truncate-5.ensures.items
          ∙ ends_taken old.ends.items old.bodies.items c.args.mark.definitions c.args.mark.definitions old.ended refl
          ∙ ap (ends_from 0) (sym c.truncate-4.ensures.items);
    }
