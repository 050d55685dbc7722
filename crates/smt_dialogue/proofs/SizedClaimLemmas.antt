-- What claims cost at most by the sizes of their terms.
use Rattle.std.proofs.Common.{◌≡◌, ◌≤◌, ℕ, ◌+◌, ◌*◌, Bool, true, false, cond, List, [], ◌∷◌, Some, refl, ap, subst}
use Rattle.std.proofs.Common.{arith}
use Rattle.std.proofs.lemmas.Bool.{ltb-true}
use Rattle.std.specs.Prelude.{IfSome, nat_lt}
use Rattle.smt_trees.specs.Sexp.{Sexp, weight}
use Rattle.smt_terms.specs.Denotes.{Denotes, Table}
use Rattle.smt_terms.specs.Signature.{Signature}
use Rattle.smt_eval.specs.Cost.{cost_over}
use Rattle.smt_dialogue.specs.Internal.Claims.{AreClaimed, HaveSizes}
use Rattle.smt_dialogue.specs.Judgement.{Claimed, claims_cost, judged_over, judged_within}
use Rattle.smt_dialogue.specs.declared.judgement.Judgement.TheVariants.{TooLong}
use Rattle.smt_dialogue.specs.declared.claims.ReadClaim.{ReadClaim}
use Rattle.smt_dialogue.proofs.JudgementLemmas.{next_term, none_left}

-- all cost at most these steps, and what those do that are left
abbrev pub SumsTo : Table → List ReadClaim → Signature → (steps all : ℕ) → Type 0
SumsTo l left d steps all = (rest : List Claimed) × AreClaimed l left rest × (all ≤ steps + claims_cost d rest)

pub sums_next : (l : Table) (left as' : List ReadClaim) (a : ReadClaim) (d : Signature) (steps sum rate n all : ℕ)
    → left ≡ a ∷ as' → a.size ≡ Some n → sum ≡ steps + n * rate → HaveSizes l left
    → ((t u : Sexp) → Denotes l [] 0 0 a.term t → Denotes l [] 0 0 a.term u → cost_over d t ≤ weight u * rate)
    → SumsTo l left d steps all → SumsTo l as' d sum all
sums_next l left as' a d steps sum rate n all here known summed sizes bound (rest, are, most) =
    let next = next_term l a as' rest (subst (λ ls. AreClaimed l ls rest) here are) in
    let size = subst (λ o. IfSome o (λ m. (t : Sexp) × Denotes l [] 0 0 a.term t × (m ≡ weight t))) known
    (subst (HaveSizes l) here sizes).0 in
    let split = ap (claims_cost d) next.2 in
    let cost = bound next.0.term size.0 next.4 size.1 in
    let same = ap (λ m. m * rate) size.2 in
    (next.1, next.5, omega (arith, split, cost, same, summed, most))

pub sizes_left : (l : Table) (left as' : List ReadClaim) (a : ReadClaim) → left ≡ a ∷ as' → HaveSizes l left
    → HaveSizes l as'
sizes_left l left as' a here sizes = (subst (HaveSizes l) here sizes).1

pub sums_end : (l : Table) (left : List ReadClaim) (d : Signature) (steps all : ℕ) → left ≡ []
    → SumsTo l left d steps all → all ≤ steps
sums_end l left d steps all here (rest, are, most) =
    let none = ap (claims_cost d) (none_left l rest (subst (λ ls. AreClaimed l ls rest) here are)) in
    omega (arith, none, most)

-- where all claims cost no more than the limit, they are judged
pub few_steps : (limit : ℕ) (claims : List Claimed) (d : Signature) → claims_cost d claims ≤ limit
    → judged_over claims d ≡ judged_within limit claims d
few_steps limit claims d few = by (nat_lt limit (claims_cost d claims)) refl
  where
    by : (b : Bool) → nat_lt limit (claims_cost d claims) ≡ b
        → judged_over claims d ≡ cond b TooLong (judged_over claims d)
    by true passed =
        let more = ltb-true limit (claims_cost d claims) passed in absurd (omega (arith, more, few))
    by false passed = refl
