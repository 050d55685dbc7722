-- Judging a model claim by claim.
use Rattle.std.proofs.Common.{◌≡◌, true, false, not, List, [], ◌∷◌, Option, Some, None, is_some}
use Rattle.std.proofs.Common.{ℕ, ◌+◌, ◌-◌, ◌<◌, ◌≤◌, Bool, cond, nat_le, nat_lt, arith}
use Rattle.std.proofs.Common.{refl, ap, sym, subst, ◌∙◌}
use Rattle.std.proofs.lemmas.Bool.{le-leb, leb-false, leb-true, lt-leb, lt-ltb, ltb-true}
use Rattle.smt_trees.specs.Sexp.{Sexp}
use Rattle.smt_terms.specs.Denotes.{Denotes, Table}
use Rattle.smt_dialogue.specs.Internal.Claims.{AreClaimed}
use Rattle.smt_dialogue.specs.Judgement.{first_claim, is_false_over, is_open_over}
use Rattle.smt_dialogue.specs.Judgement.{Claimed, claims_cost, judged_over, judged_within, open_or_confirmed}
use Rattle.smt_dialogue.specs.Judgement.{refuted_or}
use Rattle.smt_values.specs.KnownOperations.{is_known}
use Rattle.smt_machine.specs.Costs.{within}
use Rattle.smt_eval.specs.Cost.{cost_over}
use Rattle.smt_eval.specs.Known.{known_over}
use Rattle.smt_eval.specs.Numbering.{in_numbers}
use Rattle.smt_terms.specs.Signature.{Signature}
use Rattle.smt_values.specs.Element.{Abstract, Fraction, Integer, Truth, Vector}
use Rattle.smt_arrays.specs.Element.{Element, Filled, Written, Plain as NoArray, known_plain}
use Rattle.smt_arrays.specs.Operations.{truth}
use Rattle.smt_report.specs.declared.claim.Claim.{Claim}
use Rattle.smt_dialogue.specs.declared.claims.ReadClaim.{ReadClaim}
use Rattle.smt_dialogue.specs.declared.judgement.Judgement.{Judgement}
use Rattle.smt_dialogue.specs.declared.judgement.Judgement.TheVariants.{Refuted, TooLong}

-- ---- values under numbers

-- a truth value has no name
pub truth_by_number : (names : List (List ℕ)) (known : Option Element) (b : Bool)
    → known_plain (in_numbers names known) ≡ Some (Truth b) → known ≡ Some (truth b)
truth_by_number names None b is = cc
truth_by_number names (Some (NoArray (Truth c))) b is = cc
truth_by_number names (Some (NoArray (Integer z))) b is = cc
truth_by_number names (Some (NoArray (Fraction n d))) b is = cc
truth_by_number names (Some (NoArray (Vector v))) b is = cc
truth_by_number names (Some (NoArray (Abstract x))) b is = cc
truth_by_number names (Some (Filled e)) b is = cc
truth_by_number names (Some (Written a i e)) b is = cc

pub test_by_number : (names : List (List ℕ)) (known : Option Element) (b : Bool)
    → is_known b (known_plain known) ≡ is_known b (known_plain (in_numbers names known))
test_by_number names None b = refl
test_by_number names (Some (NoArray (Truth c))) b = refl
test_by_number names (Some (NoArray (Integer z))) b = refl
test_by_number names (Some (NoArray (Fraction n d))) b = refl
test_by_number names (Some (NoArray (Vector v))) b = refl
test_by_number names (Some (NoArray (Abstract x))) b = refl
test_by_number names (Some (Filled e)) b = refl
test_by_number names (Some (Written a i e)) b = refl

-- ---- claims

-- the first of two that is there
abbrev pub or_first : Option Claim → Option Claim → Option Claim
or_first None later = later
or_first (Some n) later = Some n

-- what is found of the rest of the claims, behind some of which this is the first that is open
abbrev pub judged_from : Signature → Option Claim → List Claimed → Judgement
judged_from d first rest =
    refuted_or (first_claim (is_false_over d) rest)
    (or_first first (first_claim (is_open_over d) rest))

-- a claim that is known to be true changes nothing
pub judged_from-true : (d : Signature) (first : Option Claim) (a : Claimed)
    (rest : List Claimed) → known_over d a.term ≡ Some (truth true)
    → judged_from d first (a ∷ rest) ≡ judged_from d first rest
judged_from-true d first a rest e =
    let e1 : is_false_over d a.term ≡ false = ap (λ (v : Option Element). is_known false (known_plain v)) e in
    let e2 : is_open_over d a.term ≡ false = ap (λ (v : Option Element). not (is_known true (known_plain v))) e in
    rw (e1, e2) refl

-- one that is known to be false decides
pub judged_from-false : (d : Signature) (first : Option Claim) (a : Claimed)
    (rest : List Claimed) → known_over d a.term ≡ Some (truth false)
    → judged_from d first (a ∷ rest) ≡ Refuted a.claim
judged_from-false d first a rest e =
    let e1 : is_false_over d a.term ≡ true = ap (λ (v : Option Element). is_known false (known_plain v)) e in rw e1 refl

-- the first that is open is noted
pub judged_from-open : (d : Signature) (first : Option Claim) (a : Claimed)
    (rest : List Claimed) → is_known false (known_plain (known_over d a.term)) ≡ false
    → is_known true (known_plain (known_over d a.term)) ≡ false
    → judged_from d first (a ∷ rest) ≡ judged_from d (or_first first (Some a.claim)) rest
judged_from-open d None a rest e1 e =
    let e2 : is_open_over d a.term ≡ true = ap not e in
    rw (e1, e2) refl
judged_from-open d (Some n) a rest e1 e = rw e1 refl

-- the claims that are left, where the first is known
pub next_term : (l : Table) (a : ReadClaim) (as' : List ReadClaim) (bs : List Claimed)
    → AreClaimed l (a ∷ as') bs
    → (b : Claimed) × (rest : List Claimed) × (bs ≡ b ∷ rest) × (a.claim ≡ b.claim)
    × Denotes l [] 0 0 a.term b.term × AreClaimed l as' rest
next_term l a as' [] h = absurd h
next_term l a as' (b ∷ bs) h = (b, bs, refl, h.0, h.1, h.2)

pub none_left : (l : Table) (bs : List Claimed) → AreClaimed l [] bs → bs ≡ []
none_left l [] h = refl
none_left l (b ∷ bs) h = absurd h

-- what is left to find of the claims that are left, behind those so far
abbrev pub IsLeft : Table → List ReadClaim → Signature → Option Claim → Judgement → Type 0
IsLeft l left d first found =
    (rest : List Claimed) × AreClaimed l left rest × (judged_from d first rest ≡ found)

-- the next claim is known to be true
pub left-true : (l : Table) (left as' : List ReadClaim) (a : ReadClaim) (d : Signature)
    (first : Option Claim) (found : Judgement) → left ≡ a ∷ as'
    → ((t : Sexp) → Denotes l [] 0 0 a.term t → known_over d t ≡ Some (truth true)) → IsLeft l left d first found
    → IsLeft l as' d first found
left-true l left as' a d first found here is h =
    let next = next_term l a as' h.0 (subst (λ ls. AreClaimed l ls h.0) here h.1) in (
      next.1,
      next.5,
      sym (judged_from-true d first next.0 next.1 (is next.0.term next.4))
          ∙ ap (judged_from d first) (sym next.2) ∙ h.2,
    )

-- it is known to be false, which decides
pub left-false : (l : Table) (left as' : List ReadClaim) (a : ReadClaim) (d : Signature)
    (first : Option Claim) (found : Judgement) → left ≡ a ∷ as'
    → ((t : Sexp) → Denotes l [] 0 0 a.term t → known_over d t ≡ Some (truth false)) → IsLeft l left d first found
    → Refuted a.claim ≡ found
left-false l left as' a d first found here is h =
    let next = next_term l a as' h.0 (subst (λ ls. AreClaimed l ls h.0) here h.1) in
    ap Refuted next.3
    ∙ sym (judged_from-false d first next.0 next.1 (is next.0.term next.4))
    ∙ ap (judged_from d first) (sym next.2) ∙ h.2

-- it is open
abbrev pub IsOpen : Option Element → Type 0
IsOpen v = (is_known false (known_plain v) ≡ false) × (is_known true (known_plain v) ≡ false)

pub left-open : (l : Table) (left as' : List ReadClaim) (a : ReadClaim) (d : Signature)
    (first : Option Claim) (found : Judgement) → left ≡ a ∷ as'
    → ((t : Sexp) → Denotes l [] 0 0 a.term t → IsOpen (known_over d t)) → is_some first ≡ true
    → IsLeft l left d first found → IsLeft l as' d first found
left-open l left as' a d None found here is some h = cc
left-open l left as' a d (Some n) found here is some h =
    let next = next_term l a as' h.0 (subst (λ ls. AreClaimed l ls h.0) here h.1) in
    let open' = is next.0.term next.4 in (
      next.1,
      next.5,
      sym (judged_from-open d (Some n) next.0 next.1 open'.0 open'.1)
          ∙ ap (judged_from d (Some n)) (sym next.2) ∙ h.2,
    )

-- the first that is open
pub left-opened : (l : Table) (left as' : List ReadClaim) (a : ReadClaim) (d : Signature)
    (first : Option Claim) (found : Judgement) → left ≡ a ∷ as'
    → ((t : Sexp) → Denotes l [] 0 0 a.term t → IsOpen (known_over d t)) → is_some first ≡ false
    → IsLeft l left d first found → IsLeft l as' d (Some a.claim) found
left-opened l left as' a d None found here is none h =
    let next = next_term l a as' h.0 (subst (λ ls. AreClaimed l ls h.0) here h.1) in
    let open' = is next.0.term next.4 in (
      next.1,
      next.5,
      ap (λ n. judged_from d (Some n) next.1) next.3
          ∙ sym (judged_from-open d None next.0 next.1 open'.0 open'.1) ∙ ap (judged_from d None) (sym next.2)
          ∙ h.2,
    )
left-opened l left as' a d (Some n) found here is none h = cc

-- the next is a term
pub term_left : (l : Table) (left as' : List ReadClaim) (a : ReadClaim) → left ≡ a ∷ as'
    → (all : List Claimed) × AreClaimed l left all → (t : Sexp) × Denotes l [] 0 0 a.term t
term_left l left as' a here h =
    let next = next_term l a as' h.0 (subst (λ ls. AreClaimed l ls h.0) here h.1) in
    (next.0.term, next.4)

-- those that are left behind the next
pub terms_left : (l : Table) (left as' : List ReadClaim) (a : ReadClaim) → left ≡ a ∷ as'
    → (all : List Claimed) × AreClaimed l left all
    → (all : List Claimed) × AreClaimed l as' all
terms_left l left as' a here h =
    let next = next_term l a as' h.0 (subst (λ ls. AreClaimed l ls h.0) here h.1) in
    (next.1, next.5)

-- none is left
pub left-none : (l : Table) (left : List ReadClaim) (d : Signature) (first : Option Claim)
    (found : Judgement) → left ≡ [] → IsLeft l left d first found → open_or_confirmed first ≡ found
left-none l (a ∷ as') d first found here h = absurd (cc)
left-none l [] d None found here h = sym (ap (judged_from d None) (none_left l h.0 h.1)) ∙ h.2
left-none l [] d (Some n) found here h = sym (ap (judged_from d (Some n)) (none_left l h.0 h.1)) ∙ h.2

-- ---- what claims cost

-- all that are left cost so many at most
abbrev pub CostsLeft : Table → List ReadClaim → Signature → ℕ → Type 0
CostsLeft l left d n = (rest : List Claimed) → AreClaimed l left rest
    → claims_cost d rest ≤ n

-- the next with others behind it
with_next : (l : Table) (left as' : List ReadClaim) (a : ReadClaim) (t : Sexp)
    (rest : List Claimed) → left ≡ a ∷ as' → Denotes l [] 0 0 a.term t → AreClaimed l as' rest
    → AreClaimed l left (record { claim = a.claim; term = t } ∷ rest)
with_next l left as' a t rest here term are =
    subst (λ ls. AreClaimed l ls (record { claim = a.claim; term = t } ∷ rest)) (sym here)
    (refl, term, are)

pub cost_first : (l : Table) (left as' : List ReadClaim) (a : ReadClaim) (d : Signature) (n : ℕ)
    (t : Sexp) → left ≡ a ∷ as' → CostsLeft l left d n → (all : List Claimed) × AreClaimed l left all
    → Denotes l [] 0 0 a.term t → cost_over d t ≤ n
cost_first l left as' a d n t here enough terms term =
    let next = terms_left l left as' a here terms in
    let most = enough (record { claim = a.claim; term = t } ∷ next.0)
    (with_next l left as' a t next.0 here term next.1) in
    omega (arith, most)

pub cost_rest : (l : Table) (left as' : List ReadClaim) (a : ReadClaim) (d : Signature) (n m : ℕ)
    (t : Sexp) → left ≡ a ∷ as' → CostsLeft l left d n → Denotes l [] 0 0 a.term t → n ≤ m + cost_over d t
    → CostsLeft l as' d m
cost_rest l left as' a d n m t here enough term paid = λ rest are.
    let most = enough (record { claim = a.claim; term = t } ∷ rest)
    (with_next l left as' a t rest here term are) in
    omega (arith, most, paid)

-- ---- costs against the limit

some_within : (limit n m : ℕ) → Some m ≡ within limit n → (m ≡ n) × (n ≤ limit)
some_within limit n m h = by (nat_le n limit) refl h
  where
    by : (b : Bool) → nat_le n limit ≡ b → Some m ≡ cond b (Some n) None → (m ≡ n) × (n ≤ limit)
    by true e h = (cc, leb-true n limit e)
    by false e h = cc

none_within : (limit n : ℕ) → None ≡ within limit n → limit < n
none_within limit n h = by (nat_le n limit) refl h
  where
    by : (b : Bool) → nat_le n limit ≡ b → None ≡ cond b (Some n) None → limit < n
    by true e h = cc
    by false e h = leb-false n limit e

-- so many steps of the limit are left: what was counted, and what those cost that are left, is what all cost
abbrev pub LeavesOf : Table → List ReadClaim → Signature → (limit steps all : ℕ) → Type 0
LeavesOf l left d limit steps all = (rest : List Claimed) × AreClaimed l left rest
    × (limit + claims_cost d rest ≡ steps + all)

pub leaves_next : (l : Table) (left as' : List ReadClaim) (a : ReadClaim) (d : Signature)
    (limit steps cost after all : ℕ) → left ≡ a ∷ as'
    → ((t : Sexp) → Denotes l [] 0 0 a.term t → Some cost ≡ within steps (cost_over d t))
    → after + cost ≡ steps → LeavesOf l left d limit steps all → LeavesOf l as' d limit after all
leaves_next l left as' a d limit steps cost after all here counted fewer h =
    let next = next_term l a as' h.0 (subst (λ ls. AreClaimed l ls h.0) here h.1) in
    let split = ap (claims_cost d) next.2 in
    let is = (some_within steps (cost_over d next.0.term) cost (counted next.0.term next.4)).0 in
    let so_far = h.2 in (next.1, next.5, omega (arith, split, is, so_far, fewer))

-- no more was counted than there was
pub leaves_within : (l : Table) (left as' : List ReadClaim) (a : ReadClaim) (d : Signature)
    (steps cost : ℕ) → left ≡ a ∷ as' → (all : List Claimed) × AreClaimed l left all
    → ((t : Sexp) → Denotes l [] 0 0 a.term t → Some cost ≡ within steps (cost_over d t)) → cost ≤ steps
leaves_within l left as' a d steps cost here terms counted =
    let term = term_left l left as' a here terms in
    let is = some_within steps (cost_over d term.0) cost (counted term.0 term.1) in
    let same = is.0 in let most = is.1 in omega (arith, same, most)

pub leaves_none : (l : Table) (left as' : List ReadClaim) (a : ReadClaim) (d : Signature)
    (limit steps all : ℕ) → left ≡ a ∷ as'
    → ((t : Sexp) → Denotes l [] 0 0 a.term t → None ≡ within steps (cost_over d t))
    → LeavesOf l left d limit steps all → None ≡ within limit all
leaves_none l left as' a d limit steps all here counted h =
    let next = next_term l a as' h.0 (subst (λ ls. AreClaimed l ls h.0) here h.1) in
    let split = ap (claims_cost d) next.2 in
    let more = none_within steps (cost_over d next.0.term) (counted next.0.term next.4) in
    let so_far = h.2 in
    let passed : limit < all = omega (arith, split, more, so_far) in
    sym (ap (λ b. cond b (Some all) None) (lt-leb all limit passed))

pub leaves_end : (l : Table) (left : List ReadClaim) (d : Signature) (limit steps all cost : ℕ)
    → left ≡ [] → steps ≤ limit → cost ≡ limit - steps → LeavesOf l left d limit steps all
    → Some cost ≡ within limit all
leaves_end l (a ∷ as') d limit steps all cost here most is h = absurd (cc)
leaves_end l [] d limit steps all cost here most is h =
    let none = ap (claims_cost d) (none_left l h.0 h.1) in
    let so_far = h.2 in
    let same : cost ≡ all = omega (arith, none, so_far, is, most) in
    let within_limit : all ≤ limit = omega (arith, none, so_far, most) in
    ap Some same ∙ sym (ap (λ b. cond b (Some all) None) (le-leb all limit within_limit))

pub too_long : (limit : ℕ) (claims : List Claimed) (d : Signature) → None ≡ within limit (claims_cost d claims)
    → TooLong ≡ judged_within limit claims d
too_long limit claims d none =
    sym (ap (λ b. cond b TooLong (judged_over claims d))
    (lt-ltb limit (claims_cost d claims) (none_within limit (claims_cost d claims) none)))

pub enough_steps : (limit n steps : ℕ) → Some steps ≡ within limit n → n ≤ steps
enough_steps limit n steps is = let same = (some_within limit n steps is).0 in omega (arith, same)

pub short : (limit steps : ℕ) (claims : List Claimed) (d : Signature)
    → Some steps ≡ within limit (claims_cost d claims) → judged_over claims d ≡ judged_within limit claims d
short limit steps claims d is = by (nat_lt limit (claims_cost d claims)) refl
  where
    by : (b : Bool) → nat_lt limit (claims_cost d claims) ≡ b
        → judged_over claims d ≡ cond b TooLong (judged_over claims d)
    by true passed = absurd (let more = ltb-true limit (claims_cost d claims) passed in
        let most = (some_within limit (claims_cost d claims) steps is).1 in omega (arith, more, most))
    by false passed = refl
