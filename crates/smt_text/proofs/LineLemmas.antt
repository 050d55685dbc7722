-- Positions that are kept of a text.
use Rattle.std.proofs.Common.{◌≡◌, ◌<◌, ℕ, zero, suc, ◌+◌, ◌*◌, ◌/◌, ◌%◌, List, [], ◌∷◌, ◌++◌, Some, arith}
use Rattle.std.proofs.Common.{length, drop, get_or, min, slice_get, take, refl, ap, sym, ◌∙◌, subst}
use Rattle.std.proofs.Math.Seq.{take-add}
use Rattle.std.proofs.lemmas.List.{length-append, take_min}
use Rattle.std.proofs.lemmas.Nat.{div-add-mod'}
use Rattle.std.proofs.lemmas.Option.{slice_get_read}
use Rattle.std.specs.Prelude.{unwrap_or}
use Rattle.smt_text.specs.Lines.{AreKnown, stride}
use Rattle.smt_text.specs.Positions.{after, position_after}
use Rattle.smt_text.specs.declared.position.Position.{Position}
use Rattle.smt_text.proofs.PositionLemmas.{position_join}

-- the position of a byte, by that of an earlier one
pub position_on : (text : List ℕ) (n m : ℕ) (here there : Position) → here ≡ position_after (take n text)
    → there ≡ after here (take m (drop n text)) → there ≡ position_after (take (n + m) text)
position_on text n m here there is on =
    on ∙ ap (λ p. after p (take m (drop n text))) is ∙ sym (position_join (take n text) (take m (drop n text)))
    ∙ ap position_after (sym (take-add n m text))

-- one of a list, or the one added to it
at_end : (known : List Position) (next : Position) (i : ℕ) (p : Position) → slice_get (known ++ next ∷ []) i ≡ Some p
    → (P : ℕ → Position → Type 0) → ((j : ℕ) (q : Position) → slice_get known j ≡ Some q → P j q)
    → P (length known) next → P i p
at_end [] next zero p is P old new = subst (P zero) (ap (λ o. unwrap_or o next) is) new
at_end [] next (suc i) p is P old new = absurd (cc)
at_end (k ∷ known) next zero p is P old new = old zero p is
at_end (k ∷ known) next (suc i) p is P old new =
    at_end known next i p is (λ j q. P (suc j) q) (λ j q at. old (suc j) q at) new

pub known_more : (text : List ℕ) (known : List Position) (next : Position) → AreKnown text known
    → next ≡ position_after (take (length known * stride) text) → AreKnown text (known ++ next ∷ [])
known_more text known next all is i p at =
    at_end known next i p at (λ j q. q ≡ position_after (take (j * stride) text)) all is

-- a byte's position, by that of the last multiple before it; the text is the same as at the start
pub position_at : (text start : List ℕ) (known items : List Position) (byte place : ℕ) (here there : Position)
    (some : List ℕ) → text ≡ start → AreKnown text known → items ≡ known → place ≡ min byte (length start)
    → place / stride < length items → here ≡ get_or items (place / stride) here → some ≡ take (place % stride) (drop (place / stride * stride) text) → there ≡ after here some
    → there ≡ position_after (take byte start)
position_at text start known items byte place here there some same all items-are is below at some-is on =
    position_on text (place / stride * stride) (place % stride) here there
    (all (place / stride) here (ap (λ ps. slice_get ps (place / stride)) (sym items-are)
    ∙ slice_get_read items (length items) (place / stride) here refl below at))
    (on ∙ ap (after here) some-is)
    ∙ ap (λ n. position_after (take n text)) (div-add-mod' place stride ∙ is)
    ∙ ap (λ bytes. position_after (take (min byte (length start)) bytes)) same
    ∙ ap position_after (take_min byte start)

-- the next multiple
pub position_next : (text : List ℕ) (n : ℕ) (here there : Position) (some : List ℕ)
    (before : List Position) → n ≡ length before → here ≡ position_after (take (length before * stride) text) → some ≡ take stride (drop (n * stride) text)
    → there ≡ after here some → (known : List Position) (p : Position) → known ≡ before ++ p ∷ [] → there ≡ position_after (take (length known * stride) text)
position_next text n here there some before count is some-is on known p pushed =
    position_on text (n * stride) stride here there
    (is ∙ ap (λ k. position_after (take (k * stride) text)) (sym count)) (on ∙ ap (after here) some-is)
    ∙ ap (λ k. position_after (take k text))
    (let one : length known ≡ n + 1 = ap length pushed ∙ length-append before (p ∷ []) ∙ ap (λ k. k + 1) (sym count) in
    omega (arith, one))
