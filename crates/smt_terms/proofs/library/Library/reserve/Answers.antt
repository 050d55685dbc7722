use Rattle.std.proofs.Common.{◌≡◌, ◌∙◌, List, ap, map, refl, ℕ}
use Rattle.smt_names.specs.Entries.{entries_of}
use Rattle.smt_nodes.specs.Node.{Row}
use Rattle.smt_nodes.specs.Nodes.{rows_of}
use Rattle.smt_terms.specs.Contents.{Contents, contents_of}
use Rattle.smt_terms.specs.Internal.LibraryView.{rank_of}
use Rattle.smt_terms.specs.Internal.TableView.{head_of}
use Rattle.smt_terms.specs.declared.library.Definition.{Definition}
use Rattle.smt_terms.specs.declared.library.Entry.{Entry}
use Rattle.smt_terms.specs.declared.library.Library.{Library}
use Rattle.smt_terms.proofs.library.Library.reserve.Goals as goal

-- what a library holds with these names, definitions, bodies and nodes
abbrev held : Library → List (List ℕ × Entry) → List Definition → List ℕ → List Row → Contents
held library entries definitions bodies rows = record (contents_of library) {
  ranks = map (λ p. (p.0, rank_of p.1)) entries;
  heads = map (λ p. (p.0, head_of p.1)) entries;
  definitions = definitions;
  bodies = bodies;
  rows = rows;
}

-- the same lists, the same contents
same : (library : Library) (es fs : List (List ℕ × Entry)) (ds xs : List Definition) (bs cs : List ℕ)
    (rows others : List Row) → es ≡ fs → ds ≡ xs → bs ≡ cs → rows ≡ others
    → held library es ds bs rows ≡ held library fs xs cs others
same library es fs ds xs bs cs rows others names definitions bodies nodes =
    ap (λ a. held library a ds bs rows) names ∙ ap (λ a. held library fs a bs rows) definitions
    ∙ ap (λ a. held library fs xs a rows) bodies ∙ ap (λ a. held library fs xs cs a) nodes

pub returns-in_err-reserve-clause-contents : goal.returns-in_err-reserve-clause-contents
returns-in_err-reserve-clause-contents c =
    same c.args.self.now _ _ _ _ _ _ _ _ c.reserve.ensures refl refl refl

pub returns-in_err-reserve-2-clause-contents : goal.returns-in_err-reserve-2-clause-contents
returns-in_err-reserve-2-clause-contents c =
    same c.args.self.now _ _ _ _ _ _ _ _ c.reserve.ensures c.reserve-2.ensures.items refl refl

pub returns-in_err-reserve-3-clause-contents : goal.returns-in_err-reserve-3-clause-contents
returns-in_err-reserve-3-clause-contents c =
    same c.args.self.now _ _ _ _ _ _ _ _ c.reserve.ensures c.reserve-2.ensures.items c.reserve-3.ensures.items refl

pub returns-in_err-reserve-4-clause-contents : goal.returns-in_err-reserve-4-clause-contents
returns-in_err-reserve-4-clause-contents c =
    same c.args.self.now _ _ _ _ _ _ _ _ c.reserve.ensures c.reserve-2.ensures.items c.reserve-3.ensures.items refl

pub returns-clause-contents : goal.returns-clause-contents
returns-clause-contents c =
    same c.args.self.now _ _ _ _ _ _ _ _ c.reserve.ensures c.reserve-2.ensures.items c.reserve-3.ensures.items
    c.reserve-5.ensures.rows
