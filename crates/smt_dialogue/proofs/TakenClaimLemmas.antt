-- The claims of a stack are those of its assertions, and behind them those of its assumptions.
use Rattle.std.proofs.Common.{◌≡◌, ℕ, ◌+◌, List, [], ◌∷◌, ◌++◌, refl}
use Rattle.smt_trees.specs.Sexp.{Sexp}
use Rattle.smt_terms.specs.Contents.{Contents}
use Rattle.smt_terms.specs.Denotes.{Denotes, Table}
use Rattle.smt_terms.specs.Library.{IsTermOf}
use Rattle.smt_script.specs.Stack as stacks
use Rattle.smt_script.specs.StackView.{AreAssertions, AreTerms}
use Rattle.smt_script.specs.declared.stack.Assertion as code
use Rattle.smt_dialogue.specs.Internal.Claims.{AreClaimed, HaveSizes, of_assertions, of_assumptions}
use Rattle.smt_dialogue.specs.Judgement.{all_claims, assumed_from}
use Rattle.smt_report.specs.declared.claim.Claim.TheVariants.{Assertion}

assumed_are_claimed : (l : Table) (n : ℕ) (ids : List ℕ) (ts : List Sexp) → AreTerms l ids ts
    → AreClaimed l (of_assumptions n ids) (assumed_from n ts)
assumed_are_claimed l n [] [] h = tt
assumed_are_claimed l n [] (t ∷ ts) h = absurd h
assumed_are_claimed l n (i ∷ ids) [] h = absurd h
assumed_are_claimed l n (i ∷ ids) (t ∷ ts) h = (refl, h.0, assumed_are_claimed l (n + 1) ids ts h.1)

number_same : (m n : ℕ) → m ≡ n → Assertion m ≡ Assertion n
number_same m n e = cc

pub all_are_claimed : (c : Contents) (l : Table)
    → ((i : ℕ) (t : Sexp) → IsTermOf c i t → Denotes l [] 0 0 i t) → (as' : List code.Assertion) (ids : List ℕ)
    (bs : List stacks.Assertion) (ts : List Sexp) → AreAssertions c as' bs → AreTerms l ids ts
    → AreClaimed l (of_assertions as' ++ of_assumptions 1 ids) (all_claims bs ts)
all_are_claimed c l held [] ids [] ts h terms = assumed_are_claimed l 1 ids ts terms
all_are_claimed c l held [] ids (b ∷ bs) ts h terms = absurd h
all_are_claimed c l held (a ∷ as') ids [] ts h terms = absurd h
all_are_claimed c l held (a ∷ as') ids (b ∷ bs) ts h terms = (
  number_same a.command b.command h.0,
  held a.term b.term h.1,
  all_are_claimed c l held as' ids bs ts h.3 terms,
)

assumed_are_sized : (l : Table) (n : ℕ) (ids : List ℕ) → HaveSizes l (of_assumptions n ids)
assumed_are_sized l n [] = tt
assumed_are_sized l n (i ∷ ids) = (tt, assumed_are_sized l (n + 1) ids)

pub all_are_sized : (c : Contents) (l : Table)
    → ((i : ℕ) (t : Sexp) → IsTermOf c i t → Denotes l [] 0 0 i t) → (as' : List code.Assertion) (ids : List ℕ)
    (bs : List stacks.Assertion) → AreAssertions c as' bs
    → HaveSizes l (of_assertions as' ++ of_assumptions 1 ids)
all_are_sized c l held [] ids [] h = assumed_are_sized l 1 ids
all_are_sized c l held [] ids (b ∷ bs) h = absurd h
all_are_sized c l held (a ∷ as') ids [] h = absurd h
all_are_sized c l held (a ∷ as') ids (b ∷ bs) h =
    ((b.term, held a.term b.term h.1, h.2), all_are_sized c l held as' ids bs h.3)
