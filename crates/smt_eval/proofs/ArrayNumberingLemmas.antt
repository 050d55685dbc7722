-- What is known of operators on elements among which are arrays, where elements have other names.
use Rattle.std.proofs.Common.{◌≡◌, ℕ, suc, ◌+◌, Bool, true, false, cond, not, ◌||◌, ◌&&◌, List, [], ◌∷◌, ◌++◌, map}
use Rattle.std.proofs.Common.{Option, Some, None, option_map, refl, ap, ap₂, sym, ◌∙◌, nat_lt}
use Rattle.std.specs.List.{list_all, list_any, sum}
use Rattle.std.specs.Prelude.{option_and_then}
use Rattle.smt_theory.specs.declared.op.ArraysOp.{ArraysOp}
use Rattle.smt_theory.specs.declared.op.ArraysOp.TheVariants.{Select, Store, Const}
use Rattle.smt_theory.specs.declared.op.CoreOp.{CoreOp}
use Rattle.smt_theory.specs.declared.op.CoreOp.TheVariants as cores
use Rattle.smt_theory.specs.declared.op.Op.{Op}
use Rattle.smt_theory.specs.declared.op.Op.TheVariants.{Core, Ints, Reals, Bits, Arrays}
use Rattle.smt_values.specs.Element.{Truth, Integer, Fraction, Vector, Abstract}
use Rattle.smt_values.specs.Element as plain
use Rattle.smt_values.specs.KnownOperations as plain_known
use Rattle.smt_values.specs.KnownOperations.{known_truth}
use Rattle.smt_values.specs.Lists.{all_known}
use Rattle.smt_arrays.specs.Element.{Element, Plain as NoArray, Filled, Written, is_array, known_plain}
use Rattle.smt_arrays.specs.Known.{are_all_so, are_named, is_slow, is_too_much, known_alike, known_arrays, known_choice}
use Rattle.smt_arrays.specs.Known.{known_default, known_distinct, known_equal, known_same, known_same_by, known_step}
use Rattle.smt_arrays.specs.Known.{neighbours_same, pairs_different, size, unless_different}
use Rattle.smt_arrays.specs.Operations.{truth}
use Rattle.smt_arrays.specs.Reading.{are_all, both_indexes, default_of, indexes, is_same_plain, read}
use Rattle.smt_eval.specs.Renaming.{IsInjective, Renaming, renamed, renamed_plain}
use Rattle.smt_eval.proofs.ArrayRenamingLemmas.{all_renamed, array_stays, both_renamed, cover_stays, default_renamed}
use Rattle.smt_eval.proofs.ArrayRenamingLemmas.{indexes_renamed, read_renamed, same_plain_stays}
use Rattle.smt_eval.proofs.PlainNumberingLemmas.{step_under as plain_step_under, truth_known, under as plain_under}

module _ (g : Renaming) (injective : IsInjective g) where
  -- what is known of an element, under its other name
  abbrev pub under : Option Element → Option Element
  under v = option_map (renamed g) v

  abbrev others : List Element → List Element
  others es = all_renamed g injective es

  -- ---- sameness

  -- a test that sees which elements are the same, and nothing else of their names
  abbrev Stays : (Element → Element → Option Bool) → Type 0
  Stays same = (d e : Element) → same (renamed g d) (renamed g e) ≡ same d e

  named_stays : (js : List Element) → are_named (others js) ≡ are_named js
  named_stays [] = refl
  named_stays (NoArray (Truth b) ∷ js) = refl
  named_stays (NoArray (Integer z) ∷ js) = refl
  named_stays (NoArray (Fraction n d) ∷ js) = refl
  named_stays (NoArray (Vector v) ∷ js) = refl
  named_stays (NoArray (Abstract x) ∷ js) = refl
  named_stays (Filled e ∷ js) = refl
  named_stays (Written a i e ∷ js) = refl

  defaults_stay : (same : Element → Element → Option Bool) → Stays same → (a b : Element)
      → same (default_of (renamed g a)) (default_of (renamed g b)) ≡ same (default_of a) (default_of b)
  defaults_stay same stays a b = ap₂ same (default_renamed g injective a) (default_renamed g injective b)
      ∙ stays (default_of a) (default_of b)

  default_known : (same : Element → Element → Option Bool) → Stays same → Stays (known_default same)
  default_known same stays a b =
      ap (λ is. cond (are_all is) (Some true) (cond (are_named is)
      (unless_different (same (default_of (renamed g a)) (default_of (renamed g b))))
      (same (default_of (renamed g a)) (default_of (renamed g b))))) (both_renamed g injective a b)
      ∙ ap (λ o. cond (are_all (others (both_indexes a b))) (Some true)
      (cond (are_named (others (both_indexes a b))) (unless_different o) o)) (defaults_stay same stays a b)
      ∙ ap₂ (λ c n. cond c (Some true) (cond n (unless_different (same (default_of a) (default_of b)))
      (same (default_of a) (default_of b)))) (cover_stays g injective (both_indexes a b))
      (named_stays (both_indexes a b))

  reads_known : (same : Element → Element → Option Bool) → Stays same → (a b : Element) (is : List Element)
      → map (λ i. same (read (renamed g a) i) (read (renamed g b) i)) (others is)
      ≡ map (λ i. same (read a i) (read b i)) is
  reads_known same stays a b [] = refl
  reads_known same stays a b (i ∷ is) = ap₂ (λ x rest. x ∷ rest)
      (ap₂ same (read_renamed g injective a i) (read_renamed g injective b i) ∙ stays (read a i) (read b i))
      (reads_known same stays a b is)

  alike_known : (same : Element → Element → Option Bool) → Stays same → Stays (known_alike same)
  alike_known same stays a b =
      ap₂ (λ x xs. are_all_so (x ∷ xs)) (default_known same stays a b)
      (ap (λ is. map (λ i. same (read (renamed g a) i) (read (renamed g b) i)) is) (both_renamed g injective a b)
      ∙ reads_known same stays a b (both_indexes a b))

  same_by_known : (same : Element → Element → Option Bool) → Stays same → Stays (known_same_by same)
  same_by_known same stays a b =
      ap₂ (λ c x. cond c x (Some (is_same_plain (renamed g a) (renamed g b))))
      (ap₂ (λ x y. x && y) (array_stays g injective a) (array_stays g injective b)) (alike_known same stays a b)
      ∙ ap (λ x. cond (is_array a && is_array b) (known_alike same a b) (Some x)) (same_plain_stays g injective a b)

  same_known : (a b : Element) → known_same (renamed g a) (renamed g b) ≡ known_same a b
  same_known = same_by_known (known_same_by (λ c d. Some (is_same_plain c d)))
      (same_by_known (λ c d. Some (is_same_plain c d)) (λ c d. ap Some (same_plain_stays g injective c d)))

  -- ---- how much is compared

  size_stays : (a : Element) → size (renamed g a) ≡ size a
  size_stays (NoArray e) = refl
  size_stays (Filled e) = ap suc (size_stays e)
  size_stays (Written a i e) = ap₂ (λ m n. suc (m + n)) (size_stays a) (size_stays e)

  sizes_stay : (es : List Element) → map size (others es) ≡ map size es
  sizes_stay [] = refl
  sizes_stay (e ∷ es) = ap₂ (λ n rest. n ∷ rest) (size_stays e) (sizes_stay es)

  slow_stays : (a : Element) → is_slow (renamed g a) ≡ is_slow a
  slow_stays a = ap₂ (λ x y. x && y) (array_stays g injective a)
      (ap₂ (λ x y. x || y)
      (ap is_array (default_renamed g injective a) ∙ array_stays g injective (default_of a))
      (ap are_named (indexes_renamed g injective a) ∙ named_stays (indexes a)))

  any_slow_stays : (es : List Element) → list_any is_slow (others es) ≡ list_any is_slow es
  any_slow_stays [] = refl
  any_slow_stays (e ∷ es) = ap₂ (λ x y. x || y) (slow_stays e) (any_slow_stays es)

  too_much_stays : (es : List Element) → is_too_much (others es) ≡ is_too_much es
  too_much_stays es = ap₂ (λ x ns. x && nat_lt 256 (sum ns)) (any_slow_stays es) (sizes_stay es)

  -- ---- operators

  neighbours_stay : (es : List Element) → neighbours_same (others es) ≡ neighbours_same es
  neighbours_stay [] = refl
  neighbours_stay (a ∷ []) = refl
  neighbours_stay (a ∷ b ∷ es) = ap₂ (λ x rest. x ∷ rest) (same_known a b) (neighbours_stay (b ∷ es))

  differences_stay : (a : Element) (es : List Element)
      → map (λ b. option_map not (known_same (renamed g a) b)) (others es)
      ≡ map (λ b. option_map not (known_same a b)) es
  differences_stay a [] = refl
  differences_stay a (b ∷ es) =
      ap₂ (λ x rest. x ∷ rest) (ap (option_map not) (same_known a b)) (differences_stay a es)

  pairs_stay : (es : List Element) → pairs_different (others es) ≡ pairs_different es
  pairs_stay [] = refl
  pairs_stay (a ∷ es) = ap₂ (λ xs ys. xs ++ ys) (differences_stay a es) (pairs_stay es)

  -- truth values have no names
  truths_stay : (o : Option Bool) → under (option_map truth o) ≡ option_map truth o
  truths_stay None = refl
  truths_stay (Some b) = refl

  tested_under : (b : Bool) (o : Option Bool)
      → cond b None (option_map truth o) ≡ under (cond b None (option_map truth o))
  tested_under true o = refl
  tested_under false o = sym (truths_stay o)

  equal_under : (es : List Element) → known_equal (others es) ≡ under (known_equal es)
  equal_under es = ap₂ (λ b xs. cond b None (option_map truth (are_all_so xs))) (too_much_stays es) (neighbours_stay es)
      ∙ tested_under (is_too_much es) (are_all_so (neighbours_same es))

  distinct_under : (es : List Element) → known_distinct (others es) ≡ under (known_distinct es)
  distinct_under es = ap₂ (λ b xs. cond b None (option_map truth (are_all_so xs))) (too_much_stays es) (pairs_stay es)
      ∙ tested_under (is_too_much es) (are_all_so (pairs_different es))

  arrays_under : (op : ArraysOp) (es : List Element) → known_arrays op (others es) ≡ under (known_arrays op es)
  arrays_under Select [] = refl
  arrays_under Select (a ∷ []) = refl
  arrays_under Select (a ∷ i ∷ []) =
      ap₂ (λ x y. cond (x && not y) (Some (read (renamed g a) (renamed g i))) None) (array_stays g injective a)
      (array_stays g injective i) ∙ by (is_array a && not (is_array i))
    where
      by : (b : Bool) → cond b (Some (read (renamed g a) (renamed g i))) None ≡ under (cond b (Some (read a i)) None)
      by true = ap Some (read_renamed g injective a i)
      by false = refl
  arrays_under Select (a ∷ i ∷ e ∷ es) = refl
  arrays_under Store [] = refl
  arrays_under Store (a ∷ []) = refl
  arrays_under Store (a ∷ i ∷ []) = refl
  arrays_under Store (a ∷ i ∷ e ∷ []) =
      ap₂ (λ x y. cond (x && not y) (Some (renamed g (Written a i e))) None) (array_stays g injective a)
      (array_stays g injective i) ∙ by (is_array a && not (is_array i))
    where
      by : (b : Bool) → cond b (Some (renamed g (Written a i e))) None ≡ under (cond b (Some (Written a i e)) None)
      by true = refl
      by false = refl
  arrays_under Store (a ∷ i ∷ e ∷ f ∷ es) = refl
  arrays_under (Const sort) [] = refl
  arrays_under (Const sort) (e ∷ []) = refl
  arrays_under (Const sort) (e ∷ f ∷ es) = refl

  all_under : (vs : List (Option Element)) → all_known (map under vs) ≡ option_map (map (renamed g)) (all_known vs)
  all_under [] = refl
  all_under (None ∷ vs) = refl
  all_under (Some e ∷ vs) = ap (option_map (λ es. renamed g e ∷ es)) (all_under vs) ∙ by (all_known vs)
    where
      by : (o : Option (List Element)) → option_map (λ es. renamed g e ∷ es) (option_map (map (renamed g)) o)
          ≡ option_map (map (renamed g)) (option_map (λ es. e ∷ es) o)
      by None = refl
      by (Some es) = refl

  -- what is known over known arguments
  of_known : (f : List Element → Option Element) → ((es : List Element) → f (others es) ≡ under (f es))
      → (vs : List (Option Element))
      → option_and_then f (all_known (map under vs)) ≡ under (option_and_then f (all_known vs))
  of_known f is vs = ap (option_and_then f) (all_under vs) ∙ by (all_known vs)
    where
      by : (o : Option (List Element)) → option_and_then f (option_map (map (renamed g)) o)
          ≡ under (option_and_then f o)
      by None = refl
      by (Some es) = is es

  plain_known_under : (v : Option Element) → known_plain (under v) ≡ plain_under g injective (known_plain v)
  plain_known_under None = refl
  plain_known_under (Some (NoArray e)) = refl
  plain_known_under (Some (Filled e)) = refl
  plain_known_under (Some (Written a i e)) = refl

  plains_known_under : (vs : List (Option Element))
      → map known_plain (map under vs) ≡ map (plain_under g injective) (map known_plain vs)
  plains_known_under [] = refl
  plains_known_under (v ∷ vs) = ap₂ (λ x rest. x ∷ rest) (plain_known_under v) (plains_known_under vs)

  others_under : (op : Op) (vs : List (Option Element))
      → option_map NoArray (plain_known.known_step op (map known_plain (map under vs)))
      ≡ under (option_map NoArray (plain_known.known_step op (map known_plain vs)))
  others_under op vs =
      ap (λ ks. option_map NoArray (plain_known.known_step op ks)) (plains_known_under vs)
      ∙ ap (option_map NoArray) (plain_step_under g injective op (map known_plain vs))
      ∙ by (plain_known.known_step op (map known_plain vs))
    where
      by : (o : Option plain.Element) → option_map NoArray (plain_under g injective o) ≡ under (option_map NoArray o)
      by None = refl
      by (Some e) = refl

  choice_under : (vs : List (Option Element)) → known_choice (map under vs) ≡ under (known_choice vs)
  choice_under [] = refl
  choice_under (c ∷ []) = refl
  choice_under (c ∷ v ∷ []) = refl
  choice_under (c ∷ v ∷ w ∷ []) =
      ap (λ p. option_and_then (λ t. cond t (under v) (under w)) (known_truth p)) (plain_known_under c)
      ∙ ap (option_and_then (λ t. cond t (under v) (under w))) (truth_known g injective (known_plain c))
      ∙ by (known_truth (known_plain c))
    where
      by : (o : Option Bool) → option_and_then (λ t. cond t (under v) (under w)) o
          ≡ under (option_and_then (λ t. cond t v w) o)
      by None = refl
      by (Some true) = refl
      by (Some false) = refl
  choice_under (c ∷ v ∷ w ∷ u ∷ vs) = refl

  core_under : (op : CoreOp) (vs : List (Option Element))
      → known_step (Core op) (map under vs) ≡ under (known_step (Core op) vs)
  core_under cores.True vs = others_under (Core cores.True) vs
  core_under cores.False vs = others_under (Core cores.False) vs
  core_under cores.Not vs = others_under (Core cores.Not) vs
  core_under cores.Implies vs = others_under (Core cores.Implies) vs
  core_under cores.And vs = others_under (Core cores.And) vs
  core_under cores.Or vs = others_under (Core cores.Or) vs
  core_under cores.Xor vs = others_under (Core cores.Xor) vs
  core_under cores.Equal vs = of_known known_equal equal_under vs
  core_under cores.Distinct vs = of_known known_distinct distinct_under vs
  core_under cores.Ite vs = choice_under vs

  pub step_under : (op : Op) (vs : List (Option Element)) → known_step op (map under vs) ≡ under (known_step op vs)
  step_under (Core op) vs = core_under op vs
  step_under (Ints op) vs = others_under (Ints op) vs
  step_under (Reals op) vs = others_under (Reals op) vs
  step_under (Bits op) vs = others_under (Bits op) vs
  step_under (Arrays op) vs = of_known (known_arrays op) (arrays_under op) vs
