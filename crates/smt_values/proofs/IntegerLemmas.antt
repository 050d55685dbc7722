-- What the operators on integers give.
use Rattle.std.proofs.Common.{◌≡◌, ◌↔◌, ℤ, pos, ◌+ℤ◌, ◌-ℤ◌, ◌*ℤ◌, neg_ℤ}
use Rattle.std.proofs.Common.{sym, ap, subst, ◌∙◌, arith}
use Rattle.std.proofs.Math.IntN.{*ℤ_comm, +ℤ_one, suc_ℤ-*ℤ}
use Rattle.std.proofs.lemmas.Int.{ints}
use Rattle.smt_values.specs.Element.{Integer}
use Rattle.smt_values.specs.Operations.{integer_of}

-- a result that has what at most one integer has
pub only : (P : ℤ → Type 0) (a r : ℤ) → P a → (P r → r ≡ a) → (Integer a ≡ Integer r) ↔ P r
only P a r has one = (λ e. subst P (ap integer_of e) has, λ h. ap Integer (sym (one h)))

pub minus_only : (a b c : ℤ) → (Integer (a -ℤ b) ≡ Integer c) ↔ (c +ℤ b ≡ a)
minus_only a b c = only (λ x. x +ℤ b ≡ a) (a -ℤ b) c (omega (arith, ints)) (λ h. omega (arith, ints))

pub negative_only : (a c : ℤ) → (Integer (neg_ℤ a) ≡ Integer c) ↔ (c +ℤ a ≡ pos 0)
negative_only a c = only (λ x. x +ℤ a ≡ pos 0) (neg_ℤ a) c (omega (arith, ints)) (λ h. omega (arith, ints))

pub plus_more : (a b c : ℤ) → Integer (a +ℤ b) ≡ Integer c → Integer (a +ℤ (b +ℤ pos 1)) ≡ Integer (c +ℤ pos 1)
plus_more a b c e =
    let is : a +ℤ b ≡ c = ap integer_of e in
    let more : a +ℤ (b +ℤ pos 1) ≡ c +ℤ pos 1 = omega (arith, ints) in ap Integer more

times_next : (a b : ℤ) → a *ℤ (b +ℤ pos 1) ≡ a *ℤ b +ℤ a
times_next a b = *ℤ_comm a (b +ℤ pos 1) ∙ ap (λ x. x *ℤ a) (+ℤ_one b) ∙ suc_ℤ-*ℤ b a
    ∙ ap (λ x. x +ℤ a) (*ℤ_comm b a)

pub times_more : (a b c : ℤ) → (Integer (a *ℤ b) ≡ Integer c) ↔ (Integer (a *ℤ (b +ℤ pos 1)) ≡ Integer (c +ℤ a))
times_more a b c = (
  λ e. ap Integer (times_next a b ∙ ap (λ x. x +ℤ a) (ap integer_of e)),
  λ e. ap Integer (less (a *ℤ b) (sym (times_next a b) ∙ ap integer_of e)),
)
  where
    less : (p : ℤ) → p +ℤ a ≡ c +ℤ a → p ≡ c
    less p same = omega (arith, ints)
