-- The claims of the check whose window is open, as they are taken one after another.
use Rattle.std.specs.Prelude.{◌≡◌, ℕ, ◌+◌, List, [], ◌∷◌, ◌++◌, Some, None, IfSome, drop, map}
use Rattle.smt_trees.specs.Sexp.{Sexp, weight}
use Rattle.smt_theory.specs.declared.profile.Profile.{Profile}
use Rattle.smt_script.specs.Stack.{Numbered, assertions_in_force, assumptions_in_force}
use Rattle.smt_script.specs.declared.stack.Assertion.{Assertion}
use Rattle.smt_report.specs.declared.claim.Claim.TheVariants as claiming
use Rattle.smt_terms.specs.Denotes.{Denotes, Table}
use Rattle.smt_dialogue.specs.InForce.{assertions_after, assumptions_after}
use Rattle.smt_dialogue.specs.Judgement.{Claimed, all_claims}
use Rattle.smt_dialogue.specs.Pairs.{Pair}
use Rattle.smt_dialogue.specs.declared.claims.Claims.{Claims}
use Rattle.smt_dialogue.specs.declared.claims.ReadClaim.{ReadClaim}

-- what the last check claims behind commands or pairs
abbrev pub claims_in_force : Profile → List Numbered → List Claimed
claims_in_force profile commands = all_claims (assertions_in_force profile commands) (assumptions_in_force commands)

abbrev pub claims_after : Profile → List Pair → List Claimed
claims_after profile pairs = all_claims (assertions_after profile pairs) (assumptions_after pairs)

abbrev pub of_assertions : List Assertion → List ReadClaim
of_assertions assertions =
    map (λ (a : Assertion). record { claim = claiming.Assertion a.command; term = a.term; size = Some a.size })
    assertions

abbrev pub of_assumptions : ℕ → List ℕ → List ReadClaim
of_assumptions place [] = []
of_assumptions place (id ∷ ids) =
    record { claim = claiming.Assumption place; term = id; size = None } ∷ of_assumptions (place + 1) ids

-- the claims that are left, each with the number of its term
abbrev pub claims_left : Claims → List ReadClaim
claims_left c =
    of_assertions c.assertions.now ++ of_assumptions (c.taken + 1) (drop c.taken c.assumptions.now)

-- one by one they are of the same claim, and the second's term stands under the first's number
abbrev pub AreClaimed : Table → List ReadClaim → List Claimed → Type 0
AreClaimed terms [] [] = Unit {0}
AreClaimed terms (a ∷ as') (b ∷ bs) =
    (a.claim ≡ b.claim) × Denotes terms [] 0 0 a.term b.term × AreClaimed terms as' bs
AreClaimed terms _ _ = ⊥

-- each that has a size has it of a term that stands under its number
abbrev pub HaveSizes : Table → List ReadClaim → Type 0
HaveSizes terms [] = Unit {0}
HaveSizes terms (a ∷ as') =
    IfSome a.size (λ n. (t : Sexp) × Denotes terms [] 0 0 a.term t × (n ≡ weight t)) × HaveSizes terms as'
