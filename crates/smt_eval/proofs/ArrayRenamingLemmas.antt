-- Operators on elements among which are arrays, where elements have other names, and which names their results have.
use Rattle.std.proofs.Common.{◌≡◌, ℕ, zero, suc, Bool, true, false, cond, not, ◌&&◌, ◌||◌, List, [], ◌∷◌, ◌++◌, map}
use Rattle.std.proofs.Common.{refl, ap, ap₂, sym, ◌∙◌}
use Rattle.std.proofs.lemmas.List.{map-append}
use Rattle.std.specs.List.{list_all, list_any}
use Rattle.std.specs.Prelude.{◌^◌}
use Rattle.smt_bits.specs.BitVector.{vector}
use Rattle.smt_theory.specs.declared.op.ArraysOp.{ArraysOp}
use Rattle.smt_theory.specs.declared.op.ArraysOp.TheVariants.{Select, Store, Const}
use Rattle.smt_theory.specs.declared.op.CoreOp.{CoreOp}
use Rattle.smt_theory.specs.declared.op.CoreOp.TheVariants as cores
use Rattle.smt_theory.specs.declared.op.Op.{Op}
use Rattle.smt_theory.specs.declared.op.Op.TheVariants.{Core, Ints, Reals, Bits, Arrays}
use Rattle.smt_values.specs.Element.{Truth, Integer, Fraction, Vector, Abstract}
use Rattle.smt_values.specs.Element as plain
use Rattle.smt_values.specs.Lists.{are_chained, are_distinct}
use Rattle.smt_values.specs.Operations as plain_operations
use Rattle.smt_values.specs.Operations.{DivisionByZero, truth_of}
use Rattle.smt_arrays.specs.Element.{Element, Plain as NoArray, Filled, Written, is_array, plain_of}
use Rattle.smt_arrays.specs.Operations.{chosen, operate, operate_arrays, truth}
use Rattle.smt_arrays.specs.Reading.{are_alike, are_all, both_indexes, default_of, has_vectors, indexes, is_among}
use Rattle.smt_arrays.specs.Reading.{is_same, is_same_by, is_same_plain, read}
use Rattle.smt_eval.specs.NamedElements.{IsAmong, IsOfName}
use Rattle.smt_eval.specs.Renaming.{IsInjective, Renaming, renamed, renamed_plain}
use Rattle.smt_eval.proofs.PlainRenamingLemmas.{AllNamed, result_named as plain_result_named}
use Rattle.smt_eval.proofs.PlainRenamingLemmas.{result_renamed as plain_result_renamed, sameness_stays, truth_stays}
use Rattle.smt_eval.proofs.RelatedValueLemmas.{AllRelated}

module _ (g : Renaming) (injective : IsInjective g) where
  abbrev pub all_renamed : List Element → List Element
  all_renamed es = map (renamed g) es

  -- ---- arrays

  plain_renamed : (e : Element) → plain_of (renamed g e) ≡ renamed_plain g (plain_of e)
  plain_renamed (NoArray e) = refl
  plain_renamed (Filled e) = refl
  plain_renamed (Written a i e) = refl

  pub array_stays : (e : Element) → is_array (renamed g e) ≡ is_array e
  array_stays (NoArray e) = refl
  array_stays (Filled e) = refl
  array_stays (Written a i e) = refl

  pub same_plain_stays : (d e : Element) → is_same_plain (renamed g d) (renamed g e) ≡ is_same_plain d e
  same_plain_stays (NoArray d) (NoArray e) = sameness_stays g injective d e
  same_plain_stays (NoArray d) (Filled e) = refl
  same_plain_stays (NoArray d) (Written a i e) = refl
  same_plain_stays (Filled d) e = refl
  same_plain_stays (Written a i d) e = refl

  pub read_renamed : (a i : Element) → read (renamed g a) (renamed g i) ≡ renamed g (read a i)
  read_renamed (NoArray e) i = refl
  read_renamed (Filled e) i = refl
  read_renamed (Written a j e) i =
      ap (λ b. cond b (renamed g e) (read (renamed g a) (renamed g i))) (same_plain_stays i j)
      ∙ ap (λ x. cond (is_same_plain i j) (renamed g e) x) (read_renamed a i) ∙ by (is_same_plain i j)
    where
      by : (b : Bool) → cond b (renamed g e) (renamed g (read a i)) ≡ renamed g (cond b e (read a i))
      by true = refl
      by false = refl

  pub indexes_renamed : (a : Element) → indexes (renamed g a) ≡ all_renamed (indexes a)
  indexes_renamed (NoArray e) = refl
  indexes_renamed (Filled e) = refl
  indexes_renamed (Written a i e) = ap (λ is. renamed g i ∷ is) (indexes_renamed a)

  pub default_renamed : (a : Element) → default_of (renamed g a) ≡ renamed g (default_of a)
  default_renamed (NoArray e) = refl
  default_renamed (Filled e) = refl
  default_renamed (Written a i e) = default_renamed a

  among_stays : (i : Element) (js : List Element) → is_among (renamed g i) (all_renamed js) ≡ is_among i js
  among_stays i [] = refl
  among_stays i (j ∷ js) = ap₂ (λ a b. a || b) (same_plain_stays i j) (among_stays i js)

  vectors_stay : (bits n : ℕ) (js : List Element) → has_vectors bits n (all_renamed js) ≡ has_vectors bits n js
  vectors_stay bits zero js = refl
  vectors_stay bits (suc n) js =
      ap₂ (λ a b. a && b) (among_stays (NoArray (Vector (vector bits n))) js) (vectors_stay bits n js)

  pub cover_stays : (js : List Element) → are_all (all_renamed js) ≡ are_all js
  cover_stays [] = refl
  cover_stays (NoArray (Truth b) ∷ js) = ap₂ (λ a c. a && c)
      (among_stays (NoArray (Truth true)) (NoArray (Truth b) ∷ js))
      (among_stays (NoArray (Truth false)) (NoArray (Truth b) ∷ js))
  cover_stays (NoArray (Integer z) ∷ js) = refl
  cover_stays (NoArray (Fraction n d) ∷ js) = refl
  cover_stays (NoArray (Vector v) ∷ js) = vectors_stay v.width (2 ^ v.width) (NoArray (Vector v) ∷ js)
  cover_stays (NoArray (Abstract x) ∷ js) = refl
  cover_stays (Filled e ∷ js) = refl
  cover_stays (Written a i e ∷ js) = refl

  pub both_renamed : (a b : Element) → both_indexes (renamed g a) (renamed g b) ≡ all_renamed (both_indexes a b)
  both_renamed a b = ap₂ (λ is js. is ++ js) (indexes_renamed a) (indexes_renamed b)
      ∙ sym (map-append (renamed g) (indexes a) (indexes b))

  -- ---- sameness

  -- a test that sees which elements are the same, and nothing else of their names
  abbrev Stays : (Element → Element → Bool) → Type 0
  Stays same = (d e : Element) → same (renamed g d) (renamed g e) ≡ same d e

  reads_stay : (same : Element → Element → Bool) → Stays same → (a b : Element) (is : List Element)
      → list_all (λ i. same (read (renamed g a) i) (read (renamed g b) i)) (all_renamed is)
      ≡ list_all (λ i. same (read a i) (read b i)) is
  reads_stay same stays a b [] = refl
  reads_stay same stays a b (i ∷ is) = ap₂ (λ x y. x && y)
      (ap₂ same (read_renamed a i) (read_renamed b i) ∙ stays (read a i) (read b i)) (reads_stay same stays a b is)

  alike_stays : (same : Element → Element → Bool) → Stays same → Stays (are_alike same)
  alike_stays same stays a b =
      ap (λ is. list_all (λ i. same (read (renamed g a) i) (read (renamed g b) i)) is
      && (are_all is || same (default_of (renamed g a)) (default_of (renamed g b)))) (both_renamed a b)
      ∙ ap₂ (λ x y. x && y) (reads_stay same stays a b (both_indexes a b))
      (ap₂ (λ x y. x || y) (cover_stays (both_indexes a b))
      (ap₂ same (default_renamed a) (default_renamed b) ∙ stays (default_of a) (default_of b)))

  same_by_stays : (same : Element → Element → Bool) → Stays same → Stays (is_same_by same)
  same_by_stays same stays a b =
      ap₂ (λ c x. cond c x (is_same_plain (renamed g a) (renamed g b)))
      (ap₂ (λ x y. x && y) (array_stays a) (array_stays b)) (alike_stays same stays a b)
      ∙ ap (λ x. cond (is_array a && is_array b) (are_alike same a b) x) (same_plain_stays a b)

  same_stays : (d e : Element) → is_same (renamed g d) (renamed g e) ≡ is_same d e
  same_stays = same_by_stays (is_same_by is_same_plain) (same_by_stays is_same_plain same_plain_stays)

  chain_stays : (es : List Element) → are_chained is_same (all_renamed es) ≡ are_chained is_same es
  chain_stays [] = refl
  chain_stays (d ∷ []) = refl
  chain_stays (d ∷ e ∷ es) = ap₂ (λ a b. a && b) (same_stays d e) (chain_stays (e ∷ es))

  any_same_stays : (d : Element) (es : List Element)
      → list_any (is_same (renamed g d)) (all_renamed es) ≡ list_any (is_same d) es
  any_same_stays d [] = refl
  any_same_stays d (e ∷ es) = ap₂ (λ a b. a || b) (same_stays d e) (any_same_stays d es)

  difference_stays : (es : List Element) → are_distinct is_same (all_renamed es) ≡ are_distinct is_same es
  difference_stays [] = refl
  difference_stays (e ∷ es) = ap₂ (λ a b. not a && b) (any_same_stays e es) (difference_stays es)

  -- ---- operators

  plains_renamed : (es : List Element) → map plain_of (all_renamed es) ≡ map (renamed_plain g) (map plain_of es)
  plains_renamed [] = refl
  plains_renamed (e ∷ es) = ap₂ (λ a rest. a ∷ rest) (plain_renamed e) (plains_renamed es)

  others_renamed : (z : DivisionByZero) (op : Op) (es : List Element)
      → NoArray (plain_operations.operate z op (map plain_of (all_renamed es)))
      ≡ renamed g (NoArray (plain_operations.operate z op (map plain_of es)))
  others_renamed z op es = ap (λ ps. NoArray (plain_operations.operate z op ps)) (plains_renamed es)
      ∙ ap NoArray (plain_result_renamed g injective z op (map plain_of es))

  choice_renamed : (es : List Element) → chosen (all_renamed es) ≡ renamed g (chosen es)
  choice_renamed [] = refl
  choice_renamed (c ∷ []) = refl
  choice_renamed (c ∷ d ∷ []) = refl
  choice_renamed (c ∷ d ∷ e ∷ []) =
      ap (λ p. cond (truth_of p) (renamed g d) (renamed g e)) (plain_renamed c)
      ∙ ap (λ t. cond t (renamed g d) (renamed g e)) (truth_stays g injective (plain_of c))
      ∙ by (truth_of (plain_of c))
    where
      by : (t : Bool) → cond t (renamed g d) (renamed g e) ≡ renamed g (cond t d e)
      by true = refl
      by false = refl
  choice_renamed (c ∷ d ∷ e ∷ f ∷ es) = refl

  arrays_renamed : (op : ArraysOp) (es : List Element)
      → operate_arrays op (all_renamed es) ≡ renamed g (operate_arrays op es)
  arrays_renamed Select [] = refl
  arrays_renamed Select (a ∷ []) = refl
  arrays_renamed Select (a ∷ i ∷ []) = read_renamed a i
  arrays_renamed Select (a ∷ i ∷ e ∷ es) = refl
  arrays_renamed Store [] = refl
  arrays_renamed Store (a ∷ []) = refl
  arrays_renamed Store (a ∷ i ∷ []) = refl
  arrays_renamed Store (a ∷ i ∷ e ∷ []) = refl
  arrays_renamed Store (a ∷ i ∷ e ∷ f ∷ es) = refl
  arrays_renamed (Const sort) [] = refl
  arrays_renamed (Const sort) (e ∷ []) = refl
  arrays_renamed (Const sort) (e ∷ f ∷ es) = refl

  core_renamed : (z : DivisionByZero) (op : CoreOp) (es : List Element)
      → operate z (Core op) (all_renamed es) ≡ renamed g (operate z (Core op) es)
  core_renamed z cores.True es = others_renamed z (Core cores.True) es
  core_renamed z cores.False es = others_renamed z (Core cores.False) es
  core_renamed z cores.Not es = others_renamed z (Core cores.Not) es
  core_renamed z cores.Implies es = others_renamed z (Core cores.Implies) es
  core_renamed z cores.And es = others_renamed z (Core cores.And) es
  core_renamed z cores.Or es = others_renamed z (Core cores.Or) es
  core_renamed z cores.Xor es = others_renamed z (Core cores.Xor) es
  core_renamed z cores.Equal es = ap truth (chain_stays es)
  core_renamed z cores.Distinct es = ap truth (difference_stays es)
  core_renamed z cores.Ite es = choice_renamed es

  pub result_renamed : (z : DivisionByZero) (op : Op) (es : List Element)
      → operate z op (all_renamed es) ≡ renamed g (operate z op es)
  result_renamed z (Core op) es = core_renamed z op es
  result_renamed z (Ints op) es = others_renamed z (Ints op) es
  result_renamed z (Reals op) es = others_renamed z (Reals op) es
  result_renamed z (Bits op) es = others_renamed z (Bits op) es
  result_renamed z (Arrays op) es = arrays_renamed op es

-- ---- results are named

module _ (names : List (List ℕ)) where
  abbrev Named : Element → Type 0
  Named e = IsOfName (IsAmong names) e

  abbrev pub AreNamed : List Element → Type 0
  AreNamed es = AllRelated (λ d e. IsOfName (IsAmong names) e) es es

  read_named : (a i : Element) → Named a → Named (read a i)
  read_named (NoArray e) i named = named
  read_named (Filled e) i named = named
  read_named (Written a j e) i named = by (is_same_plain i j) (read_named a i named.0)
    where
      by : (b : Bool) → Named (read a i) → Named (cond b e (read a i))
      by true rest = named.2
      by false rest = rest

  plains_named : (es : List Element) → AreNamed es → AllNamed names (map plain_of es)
  plains_named [] all = tt
  plains_named (NoArray e ∷ es) all = (all.0, plains_named es all.1)
  plains_named (Filled e ∷ es) all = (tt, plains_named es all.1)
  plains_named (Written a i e ∷ es) all = (tt, plains_named es all.1)

  choice_named : (es : List Element) → AreNamed es → Named (chosen es)
  choice_named [] all = tt
  choice_named (c ∷ []) all = tt
  choice_named (c ∷ d ∷ []) all = tt
  choice_named (c ∷ d ∷ e ∷ []) all = by (truth_of (plain_of c))
    where
      by : (t : Bool) → Named (cond t d e)
      by true = all.1.0
      by false = all.1.1.0
  choice_named (c ∷ d ∷ e ∷ f ∷ es) all = tt

  arrays_named : (op : ArraysOp) (es : List Element) → AreNamed es → Named (operate_arrays op es)
  arrays_named Select (a ∷ i ∷ []) all = read_named a i all.0
  arrays_named Store (a ∷ i ∷ e ∷ []) all = (all.0, all.1.0, all.1.1.0)
  arrays_named (Const sort) (e ∷ []) all = all.0
  arrays_named _ _ all = tt

  core_named : (z : DivisionByZero) (op : CoreOp) (es : List Element) → AreNamed es → Named (operate z (Core op) es)
  core_named z cores.Equal es all = tt
  core_named z cores.Distinct es all = tt
  core_named z cores.Ite es all = choice_named es all
  core_named z cores.True es all = plain_result_named names z (Core cores.True) (map plain_of es) (plains_named es all)
  core_named z cores.False es all =
      plain_result_named names z (Core cores.False) (map plain_of es) (plains_named es all)
  core_named z cores.Not es all = plain_result_named names z (Core cores.Not) (map plain_of es) (plains_named es all)
  core_named z cores.Implies es all =
      plain_result_named names z (Core cores.Implies) (map plain_of es) (plains_named es all)
  core_named z cores.And es all = plain_result_named names z (Core cores.And) (map plain_of es) (plains_named es all)
  core_named z cores.Or es all = plain_result_named names z (Core cores.Or) (map plain_of es) (plains_named es all)
  core_named z cores.Xor es all = plain_result_named names z (Core cores.Xor) (map plain_of es) (plains_named es all)

  pub result_named : (z : DivisionByZero) (op : Op) (es : List Element) → AreNamed es → Named (operate z op es)
  result_named z (Core op) es all = core_named z op es all
  result_named z (Ints op) es all = plain_result_named names z (Ints op) (map plain_of es) (plains_named es all)
  result_named z (Reals op) es all = plain_result_named names z (Reals op) (map plain_of es) (plains_named es all)
  result_named z (Bits op) es all = plain_result_named names z (Bits op) (map plain_of es) (plains_named es all)
  result_named z (Arrays op) es all = arrays_named op es all
