-- Which step a byte makes: what a token becomes that keeps a byte or passes one over.
use Rattle.std.proofs.Common.{◌≡◌, ◌⊎◌, ◌==◌, ℕ}
use Rattle.std.proofs.Common.{Bool, true, false, refl, inl, inr}
use Rattle.std.specs.Prelude.{if◌then◌else◌}
use Rattle.smt_text.specs.Lexical.{is_white}
use Rattle.smt_text.specs.Internal.LexerStates.{separated}
use Rattle.smt_text.specs.declared.lexer.AtomState.{AtomState}
use Rattle.smt_text.specs.declared.lexer.AtomState.TheVariants.{Nothing, Digits, Point}
use Rattle.smt_text.specs.declared.lexer.AtomState.TheVariants.{HexMark, BinMark}
use Rattle.smt_text.specs.declared.lexer.AtomState.TheVariants.{InText, TextQuote, InBars}
use Rattle.smt_text.specs.declared.lexer.AtomState.TheVariants.{AfterBar, InComment}
use Rattle.smt_text.specs.declared.lexer.LexerStep.TheVariants.{Push, Skip, Finish, Open, Close, Stuck}

pub no_push : (t₁ t₂ t₃ t₄ : Bool) (next : AtomState)
    → (if t₁ then Open else if t₂ then Close else if t₃ then Finish InComment else if t₄ then Finish Nothing
    else Stuck) ≡ Push next → ⊥
no_push true t₂ t₃ t₄ next e = cc
no_push false true t₃ t₄ next e = cc
no_push false false true t₄ next e = cc
no_push false false false true next e = cc
no_push false false false false next e = cc

pub no_skip : (t₁ t₂ t₃ t₄ : Bool) (next : AtomState)
    → (if t₁ then Open else if t₂ then Close else if t₃ then Finish InComment else if t₄ then Finish Nothing
    else Stuck) ≡ Skip next → ⊥
no_skip true t₂ t₃ t₄ next e = cc
no_skip false true t₃ t₄ next e = cc
no_skip false false true t₄ next e = cc
no_skip false false false true next e = cc
no_skip false false false false next e = cc

pub separated_no_push : (b : ℕ) (next : AtomState) → separated b ≡ Push next → ⊥
separated_no_push b next e = no_push (b == 40) (b == 41) (b == 59) (is_white b) next e

pub separated_no_skip : (b : ℕ) (next : AtomState) → separated b ≡ Skip next → ⊥
separated_no_skip b next e = no_skip (b == 40) (b == 41) (b == 59) (is_white b) next e

pub one_push : (t : Bool) (made next : AtomState) (b : ℕ) → (if t then Push made else separated b) ≡ Push next
    → (t ≡ true) × (made ≡ next)
one_push true made next b e = (refl, cc)
one_push false made next b e = absurd (separated_no_push b next e)

pub one_skip : (t : Bool) (made next : AtomState) (b : ℕ) → (if t then Push made else separated b) ≡ Skip next → ⊥
one_skip true made next b e = cc
one_skip false made next b e = separated_no_skip b next e

pub needed_push : (t : Bool) (made next : AtomState) → (if t then Push made else Stuck) ≡ Push next
    → (t ≡ true) × (made ≡ next)
needed_push true made next e = (refl, cc)
needed_push false made next e = absurd (cc)

pub needed_skip : (t : Bool) (made next : AtomState) → (if t then Push made else Stuck) ≡ Skip next → ⊥
needed_skip true made next e = cc
needed_skip false made next e = cc

pub digits_push : (s t : Bool) (next : AtomState) (b : ℕ)
    → (if s then Push Digits else if t then Push Point else separated b) ≡ Push next
    → ((s ≡ true) × (Digits ≡ next)) ⊎ (Point ≡ next) × (t ≡ true)
digits_push true t next b e = inl (refl, cc)
digits_push false true next b e = inr (cc, refl)
digits_push false false next b e = absurd (separated_no_push b next e)

pub digits_skip : (s t : Bool) (next : AtomState) (b : ℕ)
    → (if s then Push Digits else if t then Push Point else separated b) ≡ Skip next → ⊥
digits_skip true t next b e = cc
digits_skip false true next b e = cc
digits_skip false false next b e = separated_no_skip b next e

pub hash_push : (s t : Bool) (next : AtomState)
    → (if s then Skip HexMark else if t then Skip BinMark else Stuck) ≡ Push next → ⊥
hash_push true t next e = cc
hash_push false true next e = cc
hash_push false false next e = cc

pub hash_skip : (s t : Bool) (next : AtomState)
    → (if s then Skip HexMark else if t then Skip BinMark else Stuck) ≡ Skip next
    → ((s ≡ true) × (HexMark ≡ next)) ⊎ ((t ≡ true) × (BinMark ≡ next))
hash_skip true t next e = inl (refl, cc)
hash_skip false true next e = inr (refl, cc)
hash_skip false false next e = absurd (cc)

pub text_push : (s t : Bool) (next : AtomState)
    → (if s then Skip TextQuote else if t then Push InText else Stuck) ≡ Push next
    → (s ≡ false) × (t ≡ true) × (InText ≡ next)
text_push true t next e = absurd (cc)
text_push false true next e = (refl, refl, cc)
text_push false false next e = absurd (cc)

pub text_skip : (s t : Bool) (next : AtomState)
    → (if s then Skip TextQuote else if t then Push InText else Stuck) ≡ Skip next
    → (s ≡ true) × (TextQuote ≡ next)
text_skip true t next e = (refl, cc)
text_skip false true next e = absurd (cc)
text_skip false false next e = absurd (cc)

pub bars_push : (s t : Bool) (next : AtomState)
    → (if s then Push InBars else if t then Finish AfterBar else Stuck) ≡ Push next
    → (s ≡ true) × (InBars ≡ next)
bars_push true t next e = (refl, cc)
bars_push false true next e = absurd (cc)
bars_push false false next e = absurd (cc)

pub bars_skip : (s t : Bool) (next : AtomState)
    → (if s then Push InBars else if t then Finish AfterBar else Stuck) ≡ Skip next → ⊥
bars_skip true t next e = cc
bars_skip false true next e = cc
bars_skip false false next e = cc

pub comment_push : (t : Bool) (next : AtomState) → (if t then Skip InComment else Finish Nothing) ≡ Push next → ⊥
comment_push true next e = cc
comment_push false next e = cc

pub comment_skip : (t : Bool) (next : AtomState) → (if t then Skip InComment else Finish Nothing) ≡ Skip next
    → (t ≡ true) × (InComment ≡ next)
comment_skip true next e = (refl, cc)
comment_skip false next e = absurd (cc)
