-- When a model is too long.
use Rattle.std.proofs.Common.{◌≡◌, ◌<◌, ℕ, Bool, true, false, cond, List, Option, Some, None, Result, Ok, Err, nat_lt}
use Rattle.std.proofs.Common.{refl, ap, ◌∙◌}
use Rattle.std.proofs.lemmas.Bool.{lt-ltb, ltb-true}
use Rattle.smt_trees.specs.Sexp.{Sexps}
use Rattle.smt_terms.specs.Signature.{Signature}
use Rattle.smt_eval.specs.Model.{model_in}
use Rattle.smt_eval.specs.Structure.{structure_of}
use Rattle.smt_eval.specs.declared.model_fault.ModelFlaw.{ModelFlaw}
use Rattle.smt_eval.specs.declared.model_fault.ModelFlaw.TheVariants.{Item, Lacks as LacksName}
use Rattle.smt_report.specs.declared.claim.Claim.{Claim}
use Rattle.smt_dialogue.specs.Judgement.{Claimed, claims_cost, first_claim, is_false_over, is_open_over, judged_in}
use Rattle.smt_dialogue.specs.Judgement.{judged_over, judgement_of, judgement_of_flaw, refuted_or}
use Rattle.smt_dialogue.specs.declared.judgement.Judgement.TheVariants.{TooLong}

-- what was evaluated is not told as too long
over_short : (first second : Option Claim) → refuted_or first second ≡ TooLong → ⊥
over_short (Some claim) second h = cc
over_short None (Some claim) h = cc
over_short None None h = cc

flaw_short : (flaw : ModelFlaw) → judgement_of_flaw flaw ≡ TooLong → ⊥
flaw_short (Item number flaw) h = cc
flaw_short (LacksName command) h = cc

by_limit : (b : Bool) (claims : List Claimed) (s : Signature)
    → cond b TooLong (judged_over claims s) ≡ TooLong → b ≡ true
by_limit true claims s h = refl
by_limit false claims s h =
    absurd (over_short (first_claim (is_false_over s) claims) (first_claim (is_open_over s) claims) h)

by_model : (steps : ℕ) (names : Signature) (claims : List Claimed) (r : Result Signature ModelFlaw)
    → judged_in steps names claims r ≡ TooLong
    → (d : Signature) × (r ≡ Ok d) × (steps < claims_cost (structure_of names d) claims)
by_model steps names claims (Ok d) h =
    let cost = claims_cost (structure_of names d) claims in
    (d, refl, ltb-true steps cost (by_limit (nat_lt steps cost) claims (structure_of names d) h))
by_model steps names claims (Err flaw) h = absurd (flaw_short flaw h)

pub long_costs : (steps : ℕ) (names : Signature) (claims : List Claimed) (parts : Sexps)
    → judgement_of steps names claims parts ≡ TooLong
    → (d : Signature) × (model_in names parts ≡ Ok d) × (steps < claims_cost (structure_of names d) claims)
long_costs steps names claims parts h = by_model steps names claims (model_in names parts) h

pub cost_is_long : (steps : ℕ) (names : Signature) (claims : List Claimed) (parts : Sexps) (d : Signature)
    → model_in names parts ≡ Ok d → steps < claims_cost (structure_of names d) claims
    → judgement_of steps names claims parts ≡ TooLong
cost_is_long steps names claims parts d read more =
    let s = structure_of names d in
    ap (judged_in steps names claims) read
    ∙ ap (λ b. cond b TooLong (judged_over claims s)) (lt-ltb steps (claims_cost s claims) more)
