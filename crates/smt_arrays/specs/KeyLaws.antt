-- Values that are equal are one.
use Rattle.std.proofs.Common.{◌≡◌, ◌&&◌, ◌==◌, true, false, ap, refl}
use Rattle.std.proofs.Common as std
use Rattle.std.proofs.lemmas.Bool.{eqb-true}
use Rattle.std.proofs.lemmas.Bool.Decides.{Decides-int_eq}
use Rattle.std.proofs.lemmas.Slice.Eq.{bytes_eq-Decides}
use Rattle.std.specs.Bool.{beq}
use Rattle.std.specs.Ordering.{int_eq}
use Rattle.smt_values.specs.contracts.value.ValuePartialEq.TheImpl.{eq-value}
use Rattle.smt_values.specs.declared.value.Value.{Value}
use Rattle.smt_values.specs.declared.value.Value.TheVariants.{Bool, Int, Ratio, Bits, Abstract}

both : (a b : std.Bool) → (a && b) ≡ true → (a ≡ true) × (b ≡ true)
both true b h = (refl, h)
both false b h = cc

same_truth : (x y : std.Bool) → beq x y ≡ true → x ≡ y
same_truth true true h = refl
same_truth true false h = cc
same_truth false true h = cc
same_truth false false h = refl

pub same_value : (a b : Value) → eq-value.it a b ≡ true → a ≡ b
same_value (Bool x) (Bool y) h = ap Bool (same_truth x y h)
same_value (Int x) (Int y) h = ap Int ((Decides-int_eq x y).0 h)
same_value (Ratio x) (Ratio y) h =
    let parts = both (int_eq x.numerator y.numerator) (x.denominator == y.denominator) h in
    let numerator = (Decides-int_eq x.numerator y.numerator).0 parts.0 in
    let denominator = eqb-true x.denominator y.denominator parts.1 in
    ap Ratio (λ i. record { numerator = numerator i; denominator = denominator i })
same_value (Bits x) (Bits y) h =
    let parts = both (x.width == y.width) (x.number == y.number) h in
    let width = eqb-true x.width y.width parts.0 in
    let number = eqb-true x.number y.number parts.1 in
    ap Bits (λ i. record { width = width i; number = number i })
same_value (Abstract x) (Abstract y) h = ap Abstract ((bytes_eq-Decides x y).0 h)
same_value (Bool x) (Int y) h = cc
same_value (Bool x) (Ratio y) h = cc
same_value (Bool x) (Bits y) h = cc
same_value (Bool x) (Abstract y) h = cc
same_value (Int x) (Bool y) h = cc
same_value (Int x) (Ratio y) h = cc
same_value (Int x) (Bits y) h = cc
same_value (Int x) (Abstract y) h = cc
same_value (Ratio x) (Bool y) h = cc
same_value (Ratio x) (Int y) h = cc
same_value (Ratio x) (Bits y) h = cc
same_value (Ratio x) (Abstract y) h = cc
same_value (Bits x) (Bool y) h = cc
same_value (Bits x) (Int y) h = cc
same_value (Bits x) (Ratio y) h = cc
same_value (Bits x) (Abstract y) h = cc
same_value (Abstract x) (Bool y) h = cc
same_value (Abstract x) (Int y) h = cc
same_value (Abstract x) (Ratio y) h = cc
same_value (Abstract x) (Bits y) h = cc
