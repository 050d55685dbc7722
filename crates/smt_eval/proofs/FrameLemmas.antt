-- Variables by their places in a frame, and what is known of each there.
use Rattle.std.proofs.Common.{◌≡◌, ℕ, ◌+◌, Bool, true, false, cond, List, [], ◌∷◌, ◌++◌, length, map}
use Rattle.std.proofs.Common.{slice_get, Some, None, is_some, option_map, refl, ap, sym, ◌∙◌, subst}
use Rattle.std.proofs.Common.{arith, append_assoc, length-append}
use Rattle.std.specs.List.{zip}
use Rattle.std.specs.Prelude.{bytes_eq, unwrap_or}
use Rattle.smt_theory.specs.Words.{look_up}
use Rattle.smt_theory.specs.Sort.{Sort}
use Rattle.smt_theory.specs.Sort.{Boolean}
use Rattle.smt_machine.specs.Nodes.{Frame, at_place}
use Rattle.smt_terms.specs.Denotes.{Slots, slots_from}
use Rattle.smt_eval.proofs.PlaceLemmas.{at_left, at_right}
use Rattle.smt_eval.proofs.UnusedVariableLemmas.{Knowns}

-- what is known of each variable stands at its place of the frame
abbrev pub StandIn : Frame → Slots → Knowns → Type 0
StandIn frame [] [] = Unit {0}
StandIn frame (s ∷ ss) (k ∷ ks) = (s.0 ≡ k.0) × (slice_get frame s.1 ≡ Some k.1) × StandIn frame ss ks
StandIn frame _ _ = ⊥

-- what is looked up is what stands there
pub stands_found : (frame : Frame) (slots : Slots) (r : Knowns) (x : List ℕ) → StandIn frame slots r
    → look_up r x ≡ option_map (at_place frame) (look_up slots x)
stands_found frame [] [] x h = refl
stands_found frame [] (k ∷ ks) x h = absurd h
stands_found frame (s ∷ ss) [] x h = absurd h
stands_found frame (s ∷ ss) (k ∷ ks) x h =
    ap (λ y. cond (bytes_eq x y) (Some k.1) (look_up ks x)) (sym h.0)
    ∙ by (bytes_eq x s.0) (stands_found frame ss ks x h.2)
  where
    by : (b : Bool) → look_up ks x ≡ option_map (at_place frame) (look_up ss x)
        → cond b (Some k.1) (look_up ks x) ≡ option_map (at_place frame) (cond b (Some s.1) (look_up ss x))
    by true rest = ap (λ o. Some (unwrap_or o None)) (sym h.1)
    by false rest = rest

-- what is no variable has nothing there
pub stands_hidden : (frame : Frame) (slots : Slots) (r : Knowns) (x : List ℕ) → StandIn frame slots r
    → is_some (look_up (map (λ s. (s.0, Boolean)) slots) x) ≡ false → look_up r x ≡ None
stands_hidden frame [] [] x h none = refl
stands_hidden frame [] (k ∷ ks) x h none = absurd h
stands_hidden frame (s ∷ ss) [] x h none = absurd h
stands_hidden frame (s ∷ ss) (k ∷ ks) x h none =
    ap (λ y. cond (bytes_eq x y) (Some k.1) (look_up ks x)) (sym h.0)
    ∙ by (bytes_eq x s.0) none (λ g. stands_hidden frame ss ks x h.2 g)
  where
    others : List (List ℕ × Sort)
    others = map (λ v. (v.0, Boolean)) ss

    by : (b : Bool) → is_some (cond b (Some Boolean) (look_up others x)) ≡ false
        → (is_some (look_up others x) ≡ false → look_up ks x ≡ None)
        → cond b (Some k.1) (look_up ks x) ≡ None
    by true g rest = cc
    by false g rest = rest g

-- a longer frame
pub stands_more : (frame more : Frame) (slots : Slots) (r : Knowns) → StandIn frame slots r
    → StandIn (frame ++ more) slots r
stands_more frame more [] [] h = tt
stands_more frame more [] (k ∷ ks) h = absurd h
stands_more frame more (s ∷ ss) [] h = absurd h
stands_more frame more (s ∷ ss) (k ∷ ks) h =
    (h.0, at_left frame more s.1 k.1 h.1, stands_more frame more ss ks h.2)

-- more variables in front
pub stands_both : (frame : Frame) (front slots : Slots) (q r : Knowns) → StandIn frame front q
    → StandIn frame slots r → StandIn frame (front ++ slots) (q ++ r)
stands_both frame [] slots [] r h i = i
stands_both frame [] slots (k ∷ ks) r h i = absurd h
stands_both frame (s ∷ ss) slots [] r h i = absurd h
stands_both frame (s ∷ ss) slots (k ∷ ks) r h i = (h.0, h.1, stands_both frame ss slots ks r h.2 i)

-- names with the values behind a frame
pub stands_behind : (before values : Frame) (xs : List (List ℕ)) (n : ℕ) → n ≡ length before
    → length xs ≡ length values → StandIn (before ++ values) (slots_from n xs) (zip xs values)
stands_behind before [] [] n is counted = tt
stands_behind before (v ∷ vs) [] n is counted = cc
stands_behind before [] (x ∷ xs) n is counted = cc
stands_behind before (v ∷ vs) (x ∷ xs) n is counted = (
  refl,
  at_right before (v ∷ vs) n 0 v (omega (arith, is)) refl,
  subst (λ frame. StandIn frame (slots_from (n + 1) xs) (zip xs vs)) (append_assoc before (v ∷ []) vs)
      (stands_behind (before ++ v ∷ []) vs xs (n + 1)
      (let l = length-append before (v ∷ []) in omega (arith, is, l)) (omega (arith, counted))),
)
