use Rattle.std.proofs.Common.{ℕ, List, ◌∷◌, [], map, ap, ◌∙◌}
use Rattle.std.proofs.lemmas.List.{map-append}
use Rattle.std.proofs.lemmas.Result.{on_ok_weaker}
use Rattle.smt_names.specs.Entries.{entries_of}
use Rattle.smt_terms.specs.Internal.LibraryView.{rank_of}
use Rattle.smt_terms.specs.Internal.TableView.{head_of}
use Rattle.smt_terms.specs.declared.library.Entry.{Entry}
use Rattle.smt_terms.proofs.LibraryLemmas.{absent_itself}
use Rattle.smt_terms.proofs.library.Library.insert.Goals as goal

pub insert-requires : goal.insert-requires
insert-requires c = absent_itself rank_of (entries_of c.args.self.now.names) c.args.name.now c.requires

pub returns-clause-ranks : goal.returns-clause-ranks
returns-clause-ranks c = on_ok_weaker c.insert.result
    (λ is. ap (map (λ (p : List ℕ × Entry). (p.0, rank_of p.1))) is
    ∙ map-append (λ (p : List ℕ × Entry). (p.0, rank_of p.1)) (entries_of c.args.self.now.names)
    ((c.args.name.now, c.args.entry) ∷ []))
    c.insert.ensures.inserted

pub returns-clause-heads : goal.returns-clause-heads
returns-clause-heads c = on_ok_weaker c.insert.result
    (λ is. ap (map (λ (p : List ℕ × Entry). (p.0, head_of p.1))) is
    ∙ map-append (λ (p : List ℕ × Entry). (p.0, head_of p.1)) (entries_of c.args.self.now.names)
    ((c.args.name.now, c.args.entry) ∷ []))
    c.insert.ensures.inserted
