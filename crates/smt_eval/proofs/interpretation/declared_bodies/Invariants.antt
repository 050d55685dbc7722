-- so many declared names have their bodies; what is lacking is what is lacking among the entries that are left
use Rattle.std.proofs.Common.{◌≡◌, ◌++◌, ℕ, List, length, map}
use Rattle.smt_terms.specs.Contents.{declaration_view}
use Rattle.smt_terms.specs.Library.{StandsFor, declarations_from, held_terms_of}
use Rattle.smt_terms.specs.Signature.{Entry, Signature, declared_among}
use Rattle.smt_eval.specs.Internal.DefinitionValues.{AllDefined}
use Rattle.smt_eval.specs.Internal.GivenBodies.{GiveBodies}
use Rattle.smt_eval.specs.Model.{first_lacking}
use Rattle.smt_eval.proofs.DefinitionLemmas.{StandFrom}
use Rattle.smt_eval.proofs.interpretation.declared_bodies.Given as goal

abbrev pub invariant-loop-declaration : goal.invariant-loop-declaration
invariant-loop-declaration l = (s : Signature) → StandsFor l.declared s
    → (place : ℕ) × (rest done : List Entry) × StandFrom place rest s.entries
    × (map declaration_view l.left ≡ declarations_from place rest)
    × (declared_among s.entries ≡ done ++ declared_among rest)
    × ((d : Signature) → StandsFor l.definitions d → AllDefined d.entries
    → (first_lacking s.entries d.entries ≡ first_lacking rest d.entries)
    × GiveBodies d.entries (held_terms_of l.definitions).bodies done l.bodies.items)

abbrev pub decreases-loop-declaration : goal.decreases-loop-declaration
decreases-loop-declaration l = length l.left
