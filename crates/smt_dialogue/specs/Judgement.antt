-- What is found of a model. These are this project's rules.
use Rattle.std.specs.Prelude.{ℕ, ◌+◌, List, [], ◌∷◌, ◌++◌, Bool, true, false, not, Option, Some, None, Result, Ok, Err}
use Rattle.std.specs.Prelude.{map, nat_lt, if◌then◌else◌}
use Rattle.smt_trees.specs.Sexp.{Sexp, Sexps}
use Rattle.smt_values.specs.KnownOperations.{is_known}
use Rattle.smt_arrays.specs.Element.{known_plain}
use Rattle.smt_terms.specs.Signature.{Signature}
use Rattle.smt_eval.specs.Cost.{cost_over}
use Rattle.smt_eval.specs.Known.{known_over}
use Rattle.smt_eval.specs.Model.{model_in}
use Rattle.smt_eval.specs.Structure.{structure_of}
use Rattle.smt_eval.specs.declared.model_fault.ModelFlaw.{ModelFlaw}
use Rattle.smt_eval.specs.declared.model_fault.ModelFlaw.TheVariants.{Item, Lacks as LacksName}
use Rattle.smt_script.specs.Stack.{Assertion}
use Rattle.smt_report.specs.declared.claim.Claim.{Claim}
use Rattle.smt_report.specs.declared.claim.Claim.TheVariants as claiming
use Rattle.smt_dialogue.specs.declared.judgement.Judgement.{Judgement}
use Rattle.smt_dialogue.specs.declared.judgement.Judgement.TheVariants.{ItemFault, Lacks, Refuted, NotDecided}
use Rattle.smt_dialogue.specs.declared.judgement.Judgement.TheVariants.{Confirmed, TooLong}

-- what a check claims of each of its models: a formula, and its term
pub record Claimed : Type 0 where
  pub claim : Claim
  pub term : Sexp

-- the claims that assertions are
abbrev pub claims_of : List Assertion → List Claimed
claims_of assertions = map (λ a. record { claim = claiming.Assertion a.command; term = a.term }) assertions

-- the claims that assumptions are, the first of which has this place
abbrev pub assumed_from : ℕ → List Sexp → List Claimed
assumed_from place [] = []
assumed_from place (t ∷ ts) = record { claim = claiming.Assumption place; term = t } ∷ assumed_from (place + 1) ts

-- all that a check claims: the assertions in force, and behind them its assumptions
abbrev pub all_claims : List Assertion → List Sexp → List Claimed
all_claims assertions assumptions = claims_of assertions ++ assumed_from 1 assumptions

-- the first claim whose term passes the test
abbrev pub first_claim : (Sexp → Bool) → List Claimed → Option Claim
first_claim test [] = None
first_claim test (c ∷ claims) = if test c.term then Some c.claim else first_claim test claims

-- whether a formula is known to be false over definitions, or not known to be true: then it is open where it
-- is not false
abbrev pub is_false_over : Signature → Sexp → Bool
is_false_over definitions term = is_known false (known_plain (known_over definitions term))

abbrev pub is_open_over : Signature → Sexp → Bool
is_open_over definitions term = not (is_known true (known_plain (known_over definitions term)))

abbrev pub open_or_confirmed : Option Claim → Judgement
open_or_confirmed (Some claim) = NotDecided claim
open_or_confirmed None = Confirmed

abbrev pub refuted_or : Option Claim → Option Claim → Judgement
refuted_or (Some claim) open' = Refuted claim
refuted_or None open' = open_or_confirmed open'

-- what is found over the definitions of a structure: the first claim that is false, else the first that is
-- open
abbrev pub judged_over : List Claimed → Signature → Judgement
judged_over claims structure =
    refuted_or (first_claim (is_false_over structure) claims) (first_claim (is_open_over structure) claims)

-- what the evaluation of all claims costs
abbrev pub claims_cost : Signature → List Claimed → ℕ
claims_cost structure [] = 0
claims_cost structure (c ∷ claims) = cost_over structure c.term + claims_cost structure claims

-- where that is more than the limit, nothing is evaluated
abbrev pub judged_within : ℕ → List Claimed → Signature → Judgement
judged_within limit claims structure =
    if nat_lt limit (claims_cost structure claims) then TooLong else judged_over claims structure

abbrev pub judgement_of_flaw : ModelFlaw → Judgement
judgement_of_flaw (Item number flaw) = ItemFault number flaw
judgement_of_flaw (LacksName command) = Lacks command

-- what is found of a model of the script's names, from its definitions or its flaw
abbrev pub judged_in : ℕ → Signature → List Claimed → Result Signature ModelFlaw → Judgement
judged_in limit script claims (Ok definitions) = judged_within limit claims (structure_of script definitions)
judged_in limit script claims (Err flaw) = judgement_of_flaw flaw

-- what is found of a model under a signature, of which these are claimed, where their evaluation may cost as
-- much as the limit
abbrev pub judgement_of : ℕ → Signature → List Claimed → Sexps → Judgement
judgement_of limit script claims parts = judged_in limit script claims (model_in script parts)
