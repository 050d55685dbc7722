-- Values that a table keeps, each once.
use Rattle.std.proofs.Common.{◌≡◌, ◌⊎◌, inl, inr, ◌<◌, ℕ, Bool, true, false, List, length, get_or, Some, ap, refl, sym}
use Rattle.std.proofs.Common.{◌∙◌}
use Rattle.std.proofs.Common.{true≢false}
use Rattle.std.proofs.lemmas.Bool.{cases_order}
use Rattle.std.proofs.lemmas.Map.Keys.{apart_from_distinct}
use Rattle.std.proofs.lemmas.Option.{get_or_from_slice_get}
use Rattle.std.specs.List.{IsDistinct, slice_get}
use Rattle.smt_values.specs.Element.{element_of}
use Rattle.smt_values.specs.Operations.{is_same}
use Rattle.smt_values.specs.contracts.value.ValuePartialEq.TheImpl.{eq-value}
use Rattle.smt_values.specs.declared.value.Value.{Value}
use Rattle.smt_values.specs.declared.value.Value.TheVariants.{Bool as BoolValue, Int as IntValue, Ratio as RatioValue}
use Rattle.smt_values.specs.declared.value.Value.TheVariants.{Bits as BitsValue, Abstract as AbstractValue}
use Rattle.smt_arrays.specs.Element.{Plain}
use Rattle.smt_arrays.specs.Elements.{AreDistinct, value_at}
use Rattle.smt_arrays.specs.KeyLaws.{same_value}
use Rattle.smt_arrays.specs.contracts.elements.KeyPartialEq.TheImpl.{eq-value as keys_equal}
use Rattle.smt_arrays.specs.declared.elements.Key.{Key}
use Rattle.smt_arrays.proofs.StoreLemmas.{same_itself}

-- values are compared as their elements are
pub compares : (v w : Value) → is_same (element_of v) (element_of w) ≡ eq-value.it v w
compares (BoolValue x) (BoolValue y) = refl
compares (BoolValue x) (IntValue y) = refl
compares (BoolValue x) (RatioValue y) = refl
compares (BoolValue x) (BitsValue y) = refl
compares (BoolValue x) (AbstractValue y) = refl
compares (IntValue x) (BoolValue y) = refl
compares (IntValue x) (IntValue y) = refl
compares (IntValue x) (RatioValue y) = refl
compares (IntValue x) (BitsValue y) = refl
compares (IntValue x) (AbstractValue y) = refl
compares (RatioValue x) (BoolValue y) = refl
compares (RatioValue x) (IntValue y) = refl
compares (RatioValue x) (RatioValue y) = refl
compares (RatioValue x) (BitsValue y) = refl
compares (RatioValue x) (AbstractValue y) = refl
compares (BitsValue x) (BoolValue y) = refl
compares (BitsValue x) (IntValue y) = refl
compares (BitsValue x) (RatioValue y) = refl
compares (BitsValue x) (BitsValue y) = refl
compares (BitsValue x) (AbstractValue y) = refl
compares (AbstractValue x) (BoolValue y) = refl
compares (AbstractValue x) (IntValue y) = refl
compares (AbstractValue x) (RatioValue y) = refl
compares (AbstractValue x) (BitsValue y) = refl
compares (AbstractValue x) (AbstractValue y) = refl

key_itself : (k : Key) → keys_equal.it k k ≡ true
key_itself k = sym (compares k.value k.value) ∙ same_itself (Plain (element_of k.value)) refl

abbrev no_key : Key
no_key = record { value = BoolValue false }

once_by : (eq : Key → Key → Bool) → ((k : Key) → eq k k ≡ true) → (keys : List Key) → IsDistinct eq keys → (j k : ℕ)
    → j < k → k < length keys → value_at keys j ≡ value_at keys k → ⊥
once_by eq same keys h j k less below is =
    true≢false
    (sym (same (get_or keys j no_key)) ∙ ap (λ v. eq (get_or keys j no_key) (record { value = v })) is
    ∙ apart_from_distinct eq keys j k no_key h less below)

pub keys_once : (keys : List Key) → IsDistinct keys_equal.it keys → AreDistinct keys
keys_once keys h j k below below' is = by (cases_order j k)
  where
    by : (j ≡ k) ⊎ ((j < k) ⊎ (k < j)) → j ≡ k
    by (inl e) = e
    by (inr (inl less)) = absurd (once_by keys_equal.it key_itself keys h j k less below' is)
    by (inr (inr more)) = absurd (once_by keys_equal.it key_itself keys h k j more below (sym is))

-- a place where a value stands that equals this one
pub stands : (keys : List Key) (place : ℕ) (v : Value)
    → (k : Key) × (slice_get keys place ≡ Some k) × (keys_equal.it (record { value = v }) k ≡ true)
    → value_at keys place ≡ v
stands keys place v h =
    ap (λ (k : Key). k.value) (get_or_from_slice_get keys place h.0 no_key h.1) ∙ sym (same_value v h.0.value h.2)
