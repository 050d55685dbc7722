-- What is read of a text that is written out, by computing it.
use Rattle.std.proofs.Common.{◌≡◌, ℕ, suc, List, [], ◌∷◌, ◌++◌, length, Option, Some, None, Bool, true, false}
use Rattle.std.proofs.Common.{refl, sym, ap, ◌∙◌, arith, subst}
use Rattle.std.proofs.lemmas.List.{append-nil, append_assoc, length-append}
use Rattle.smt_text.proofs.ReaderCompleteness.{run-cons, run-append}
use Rattle.smt_text.proofs.ReadingLemmas.{leaves_reads, stuck_reads, ends_outside, ends_inside, inside_list}
use Rattle.smt_text.proofs.ReadingLemmas.{inside_token}
use Rattle.smt_text.specs.Internal.LexerStates.{Levels, On, State, start, flush, lex, may_end, token_in, step}
use Rattle.smt_text.specs.Internal.LexerStates.{run, complete_of, Leaves, blame}
use Rattle.smt_text.specs.Reading.{Reads}
use Rattle.smt_trees.specs.Sexp.{Sexps}
use Rattle.smt_faults.specs.declared.text_flaw.TextFlaw.{TextFlaw}
use Rattle.smt_faults.specs.declared.text_flaw.TextFlaw.TheVariants.{End}

-- the state that is left, and the fault if there is one
record Left : Type 0 where
  state : State
  fault : Option TextFlaw

abbrev left_by : Option State → Left → (State → Left) → Left
left_by None stuck f = stuck
left_by (Some next) stuck f = f next

abbrev left : ℕ → ℕ → State → List ℕ → Left
left max_depth place s [] = record { state = s; fault = None }
left max_depth place s (b ∷ bs) =
    left_by (step max_depth s b) (record { state = s; fault = Some (blame place (lex (token_in s) b)) })
    (λ next. left max_depth (suc place) next bs)

-- what is read
record Answer : Type 0 where
  trees : Sexps
  fault : Option TextFlaw

abbrev at_end : ℕ → State → Levels → Bool → Answer
at_end place s (On [] top) true = record { trees = top; fault = None }
at_end place s (On [] top) false = record { trees = complete_of s; fault = Some (End place) }
at_end place s (On (parts ∷ lists) top) t = record { trees = complete_of s; fault = Some (End place) }

abbrev answer_of : Bool → ℕ → State → Option TextFlaw → Answer
answer_of ended place s (Some fault) = record { trees = complete_of s; fault = Some fault }
answer_of false place s None = record { trees = complete_of s; fault = None }
answer_of true place s None = at_end place s (flush s) (may_end (token_in s))

abbrev answer : ℕ → Bool → List ℕ → Answer
answer max_depth ended text = let l = left max_depth 0 start text in answer_of ended (length text) l.state l.fault

left_leaves : (max_depth : ℕ) (prefix text : List ℕ) (s : State) → run max_depth start prefix ≡ Some s
    → Leaves max_depth (prefix ++ text) (left max_depth (length prefix) s text).state
    (left max_depth (length prefix) s text).fault
left_leaves max_depth prefix [] s e = ap (run max_depth start) (append-nil prefix) ∙ e
left_leaves max_depth prefix (b ∷ text) s e =
    by_step (step max_depth s b) refl (λ next. left_leaves max_depth (prefix ++ b ∷ []) text next)
  where
    by_step : (o : Option State) → step max_depth s b ≡ o
        → ((next : State) → run max_depth start (prefix ++ b ∷ []) ≡ Some next
        → Leaves max_depth ((prefix ++ b ∷ []) ++ text) (left max_depth (length (prefix ++ b ∷ [])) next text).state
        (left max_depth (length (prefix ++ b ∷ [])) next text).fault)
        → Leaves max_depth (prefix ++ b ∷ text) (left max_depth (length prefix) s (b ∷ text)).state
        (left max_depth (length prefix) s (b ∷ text)).fault
    by_step None h later =
        let stuck : Left = record { state = s; fault = Some (blame (length prefix) (lex (token_in s) b)) } in
        let is : stuck ≡ left max_depth (length prefix) s (b ∷ text) = ap
        (λ o. left_by o stuck (λ next. left max_depth (suc (length prefix)) next text)) (sym h) in
        subst (λ (l : Left). Leaves max_depth (prefix ++ b ∷ text) l.state l.fault) is
        record { prefix = prefix; byte = b; rest = text; parts = refl; runs = e; stops = h; is = refl }
    by_step (Some next) h later =
        let stuck : Left = record { state = s; fault = Some (blame (length prefix) (lex (token_in s) b)) } in
        let count : length (prefix ++ b ∷ []) ≡ suc (length prefix) = omega
        (arith, length-append prefix (b ∷ [])) in
        let is : left max_depth (length (prefix ++ b ∷ [])) next text ≡ left max_depth (length prefix) s (b ∷ text) =
        ap (λ n. left max_depth n next text) count ∙ ap
        (λ o. left_by o stuck (λ x. left max_depth (suc (length prefix)) x text)) (sym h) in
        let at : Leaves max_depth (prefix ++ b ∷ text) (left max_depth (length (prefix ++ b ∷ [])) next text).state
        (left max_depth (length (prefix ++ b ∷ [])) next text).fault = subst
        (λ x. Leaves max_depth x (left max_depth (length (prefix ++ b ∷ [])) next text).state
        (left max_depth (length (prefix ++ b ∷ [])) next text).fault) (append_assoc prefix (b ∷ []) text)
        (later next (run-append max_depth start s prefix (b ∷ []) e ∙ run-cons max_depth s next b [] h)) in
        subst (λ (l : Left). Leaves max_depth (prefix ++ b ∷ text) l.state l.fault) is at

read_at_end : (max_depth : ℕ) (text : List ℕ) (s : State) (levels : Levels) (t : Bool)
    → run max_depth start text ≡ Some s → flush s ≡ levels → may_end (token_in s) ≡ t
    → Reads max_depth true text (at_end (length text) s levels t).trees (at_end (length text) s levels t).fault
read_at_end max_depth text s (On [] top) true e f w = ends_outside max_depth text s top e f w
read_at_end max_depth text s (On [] top) false e f w = ends_inside max_depth text s e (inside_token s w)
read_at_end max_depth text s (On (parts ∷ lists) top) t e f w =
    ends_inside max_depth text s e (inside_list s parts lists top f)

answered : (max_depth : ℕ) (ended : Bool) (text : List ℕ) (s : State) (fault : Option TextFlaw)
    → Leaves max_depth text s fault
    → Reads max_depth ended text (answer_of ended (length text) s fault).trees
    (answer_of ended (length text) s fault).fault
answered max_depth true text s None h = read_at_end max_depth text s (flush s) (may_end (token_in s)) h refl refl
answered max_depth false text s None h = leaves_reads max_depth text s None h
answered max_depth ended text s (Some fault) h = stuck_reads max_depth ended text s fault h

-- the trees and the fault of a text, where they compute to these
pub reads : (max_depth : ℕ) (ended : Bool) (text : List ℕ)
    → Reads max_depth ended text (answer max_depth ended text).trees (answer max_depth ended text).fault
reads max_depth ended text =
    let l = left max_depth 0 start text
    in answered max_depth ended text l.state l.fault (left_leaves max_depth [] text start refl)
