-- Operators on elements that are no arrays, where each array is open.
use Rattle.std.proofs.Common.{◌≡◌, ℕ, Bool, true, false, cond, not, ◌||◌, ◌&&◌, List, [], ◌∷◌, ◌++◌, map}
use Rattle.std.proofs.Common.{Option, Some, None, option_map, refl, ap, ap₂, sym, ◌∙◌}
use Rattle.std.specs.List.{list_all, list_any, sum}
use Rattle.std.specs.Prelude.{nat_lt, option_and_then}
use Rattle.smt_theory.specs.declared.op.ArraysOp.{ArraysOp}
use Rattle.smt_theory.specs.declared.op.ArraysOp.TheVariants.{Select, Store, Const}
use Rattle.smt_theory.specs.declared.op.CoreOp.{CoreOp}
use Rattle.smt_theory.specs.declared.op.CoreOp.TheVariants as cores
use Rattle.smt_theory.specs.declared.op.Op.{Op}
use Rattle.smt_theory.specs.declared.op.Op.TheVariants.{Core, Ints, Reals, Bits, Arrays}
use Rattle.smt_values.specs.Element as plain
use Rattle.smt_values.specs.Element.{known_element, known_elements}
use Rattle.smt_values.specs.KnownOperations as plain_known
use Rattle.smt_values.specs.KnownOperations.{known_truth}
use Rattle.smt_values.specs.Lists.{all_known, are_chained, are_distinct}
use Rattle.smt_values.specs.Operations.{is_same}
use Rattle.smt_values.specs.declared.value.Value.{Value}
use Rattle.smt_arrays.specs.Element.{Element, Plain as NoArray, known_plain}
use Rattle.smt_arrays.specs.Known.{are_all_so, is_known_to_be, is_slow, known_arrays, known_choice, known_distinct}
use Rattle.smt_arrays.specs.Known.{known_equal, known_same, known_step, neighbours_same, pairs_different, size}
use Rattle.smt_arrays.specs.Operations.{truth}
use Rattle.smt_plain.specs.PlainTerm.{known_single, known_singles, unless_array}

abbrev lifted : Option plain.Element → Option Element
lifted k = option_map NoArray k

all_lifted : (ks : List (Option plain.Element)) → all_known (map lifted ks) ≡ option_map (map NoArray) (all_known ks)
all_lifted [] = refl
all_lifted (None ∷ ks) = refl
all_lifted (Some e ∷ ks) = ap (option_map (λ es. NoArray e ∷ es)) (all_lifted ks) ∙ by (all_known ks)
  where
    by : (o : Option (List plain.Element)) → option_map (λ es. NoArray e ∷ es) (option_map (map NoArray) o)
        ≡ option_map (map NoArray) (option_map (λ es. e ∷ es) o)
    by None = refl
    by (Some es) = refl

single_back : (k : Option plain.Element) → known_plain (lifted k) ≡ k
single_back None = refl
single_back (Some e) = refl

singles_back : (ks : List (Option plain.Element)) → map known_plain (map lifted ks) ≡ ks
singles_back [] = refl
singles_back (k ∷ ks) = ap₂ (λ x rest. x ∷ rest) (single_back k) (singles_back ks)

single_stays : (k : Option plain.Element) → unless_array (lifted k) ≡ lifted k
single_stays None = refl
single_stays (Some e) = refl

-- ---- `=` and `distinct`

none_slow : (es : List plain.Element) → list_any is_slow (map NoArray es) ≡ false
none_slow [] = refl
none_slow (e ∷ es) = none_slow es

some_false : (bs : List Bool) → list_any (is_known_to_be false) (map (λ b. Some b) bs) ≡ not (list_all (λ b. b) bs)
some_false [] = refl
some_false (true ∷ bs) = some_false bs
some_false (false ∷ bs) = refl

all_true : (bs : List Bool) → list_all (is_known_to_be true) (map (λ b. Some b) bs) ≡ list_all (λ b. b) bs
all_true [] = refl
all_true (true ∷ bs) = all_true bs
all_true (false ∷ bs) = refl

all_so : (bs : List Bool) → are_all_so (map (λ b. Some b) bs) ≡ Some (list_all (λ b. b) bs)
all_so bs = ap₂ (λ x y. cond x (Some false) (cond y (Some true) None)) (some_false bs) (all_true bs)
    ∙ by (list_all (λ b. b) bs)
  where
    by : (b : Bool) → cond (not b) (Some false) (cond b (Some true) None) ≡ Some b
    by true = refl
    by false = refl

abbrev neighbour_tests : List plain.Element → List Bool
neighbour_tests [] = []
neighbour_tests (d ∷ []) = []
neighbour_tests (d ∷ e ∷ es) = is_same d e ∷ neighbour_tests (e ∷ es)

neighbours : (es : List plain.Element)
    → neighbours_same (map NoArray es) ≡ map (λ b. Some b) (neighbour_tests es)
neighbours [] = refl
neighbours (d ∷ []) = refl
neighbours (d ∷ e ∷ es) = ap (λ rest. Some (is_same d e) ∷ rest) (neighbours (e ∷ es))

chained : (es : List plain.Element) → list_all (λ b. b) (neighbour_tests es) ≡ are_chained is_same es
chained [] = refl
chained (d ∷ []) = refl
chained (d ∷ e ∷ es) = ap (λ b. is_same d e && b) (chained (e ∷ es))

abbrev pair_tests : List plain.Element → List Bool
pair_tests [] = []
pair_tests (e ∷ es) = map (λ d. not (is_same e d)) es ++ pair_tests es

mapped-append : (xs ys : List Bool)
    → map (λ b. Some b) (xs ++ ys) ≡ map (λ b. Some b) xs ++ map (λ b. Some b) ys
mapped-append [] ys = refl
mapped-append (x ∷ xs) ys = ap (λ rest. Some x ∷ rest) (mapped-append xs ys)

others : (e : plain.Element) (es : List plain.Element)
    → map (λ d. option_map not (known_same (NoArray e) d)) (map NoArray es)
    ≡ map (λ b. Some b) (map (λ d. not (is_same e d)) es)
others e [] = refl
others e (d ∷ es) = ap (λ rest. Some (not (is_same e d)) ∷ rest) (others e es)

pairs : (es : List plain.Element) → pairs_different (map NoArray es) ≡ map (λ b. Some b) (pair_tests es)
pairs [] = refl
pairs (e ∷ es) = ap₂ (λ xs ys. xs ++ ys) (others e es) (pairs es)
    ∙ sym (mapped-append (map (λ d. not (is_same e d)) es) (pair_tests es))

all-append : (xs ys : List Bool)
    → list_all (λ b. b) (xs ++ ys) ≡ list_all (λ b. b) xs && list_all (λ b. b) ys
all-append [] ys = refl
all-append (true ∷ xs) ys = all-append xs ys
all-append (false ∷ xs) ys = refl

none_same : (e : plain.Element) (es : List plain.Element)
    → list_all (λ b. b) (map (λ d. not (is_same e d)) es) ≡ not (list_any (is_same e) es)
none_same e [] = refl
none_same e (d ∷ es) = ap (λ b. not (is_same e d) && b) (none_same e es) ∙ by (is_same e d) (list_any (is_same e) es)
  where
    by : (a b : Bool) → not a && not b ≡ not (a || b)
    by true b = refl
    by false b = refl

distinct : (es : List plain.Element) → list_all (λ b. b) (pair_tests es) ≡ are_distinct is_same es
distinct [] = refl
distinct (e ∷ es) = all-append (map (λ d. not (is_same e d)) es) (pair_tests es)
    ∙ ap₂ (λ x y. x && y) (none_same e es) (distinct es)

equal : (es : List plain.Element) → known_equal (map NoArray es) ≡ Some (truth (are_chained is_same es))
equal es =
    ap (λ b. cond (b && nat_lt 256 (sum (map size (map NoArray es)))) None
    (option_map truth (are_all_so (neighbours_same (map NoArray es))))) (none_slow es)
    ∙ ap (λ os. option_map truth (are_all_so os)) (neighbours es)
    ∙ ap (option_map truth) (all_so (neighbour_tests es)) ∙ ap (λ b. Some (truth b)) (chained es)

different : (es : List plain.Element) → known_distinct (map NoArray es) ≡ Some (truth (are_distinct is_same es))
different es =
    ap (λ b. cond (b && nat_lt 256 (sum (map size (map NoArray es)))) None
    (option_map truth (are_all_so (pairs_different (map NoArray es))))) (none_slow es)
    ∙ ap (λ os. option_map truth (are_all_so os)) (pairs es)
    ∙ ap (option_map truth) (all_so (pair_tests es)) ∙ ap (λ b. Some (truth b)) (distinct es)

tested : (known : List Element → Option Element) (test : List plain.Element → Bool)
    → ((es : List plain.Element) → known (map NoArray es) ≡ Some (truth (test es)))
    → (ks : List (Option plain.Element)) → unless_array (option_and_then known (all_known (map lifted ks)))
    ≡ lifted (option_map (λ es. plain.Truth (test es)) (all_known ks))
tested known test is ks = ap (λ o. unless_array (option_and_then known o)) (all_lifted ks) ∙ by (all_known ks)
  where
    by : (o : Option (List plain.Element)) → unless_array (option_and_then known (option_map (map NoArray) o))
        ≡ lifted (option_map (λ es. plain.Truth (test es)) o)
    by None = refl
    by (Some es) = ap unless_array (is es)

-- ---- all operators

choice : (ks : List (Option plain.Element))
    → unless_array (known_choice (map lifted ks)) ≡ lifted (plain_known.known_choice ks)
choice [] = refl
choice (c ∷ []) = refl
choice (c ∷ a ∷ []) = refl
choice (c ∷ a ∷ b ∷ []) =
    ap (λ p. unless_array (option_and_then (λ t. cond t (lifted a) (lifted b)) (known_truth p))) (single_back c)
    ∙ by (known_truth c)
  where
    by : (o : Option Bool) → unless_array (option_and_then (λ t. cond t (lifted a) (lifted b)) o)
        ≡ lifted (option_and_then (λ t. cond t a b) o)
    by None = refl
    by (Some true) = single_stays a
    by (Some false) = single_stays b
choice (c ∷ a ∷ b ∷ d ∷ ks) = refl

-- an array is made, or none is read
arrays : (op : ArraysOp) (ks : List (Option plain.Element))
    → unless_array (option_and_then (known_arrays op) (all_known (map lifted ks))) ≡ None
arrays op ks = ap (λ o. unless_array (option_and_then (known_arrays op) o)) (all_lifted ks) ∙ by op (all_known ks)
  where
    over : (op : ArraysOp) (es : List plain.Element) → unless_array (known_arrays op (map NoArray es)) ≡ None
    over Select [] = refl
    over Select (a ∷ []) = refl
    over Select (a ∷ i ∷ []) = refl
    over Select (a ∷ i ∷ e ∷ es) = refl
    over Store [] = refl
    over Store (a ∷ []) = refl
    over Store (a ∷ i ∷ []) = refl
    over Store (a ∷ i ∷ e ∷ []) = refl
    over Store (a ∷ i ∷ e ∷ f ∷ es) = refl
    over (Const sort) [] = refl
    over (Const sort) (e ∷ []) = refl
    over (Const sort) (e ∷ f ∷ es) = refl

    by : (op : ArraysOp) (o : Option (List plain.Element))
        → unless_array (option_and_then (known_arrays op) (option_map (map NoArray) o)) ≡ None
    by op None = refl
    by op (Some es) = over op es

other : (op : Op) (ks : List (Option plain.Element))
    → unless_array (lifted (plain_known.known_step op (map known_plain (map lifted ks))))
    ≡ lifted (plain_known.known_step op ks)
other op ks = ap (λ ps. unless_array (lifted (plain_known.known_step op ps))) (singles_back ks)
    ∙ single_stays (plain_known.known_step op ks)

core : (op : CoreOp) (ks : List (Option plain.Element))
    → unless_array (known_step (Core op) (map lifted ks)) ≡ lifted (plain_known.known_step (Core op) ks)
core cores.True ks = other (Core cores.True) ks
core cores.False ks = other (Core cores.False) ks
core cores.Not ks = other (Core cores.Not) ks
core cores.Implies ks = other (Core cores.Implies) ks
core cores.And ks = other (Core cores.And) ks
core cores.Or ks = other (Core cores.Or) ks
core cores.Xor ks = other (Core cores.Xor) ks
core cores.Equal ks = tested known_equal (are_chained is_same) equal ks
core cores.Distinct ks = tested known_distinct (are_distinct is_same) different ks
core cores.Ite ks = choice ks

step : (op : Op) (ks : List (Option plain.Element))
    → unless_array (known_step op (map lifted ks)) ≡ lifted (plain_known.known_step op ks)
step (Core op) ks = core op ks
step (Ints op) ks = other (Ints op) ks
step (Reals op) ks = other (Reals op) ks
step (Bits op) ks = other (Bits op) ks
step (Arrays op) ks = arrays op ks

singles_are : (vs : List (Option Value)) → known_singles vs ≡ map lifted (known_elements vs)
singles_are [] = refl
singles_are (v ∷ vs) = ap (λ rest. known_single v ∷ rest) (singles_are vs)

-- what an operator is known to give for values
pub single_step : (op : Op) (vs : List (Option Value)) (result : Option Value)
    → known_element result ≡ plain_known.known_step op (known_elements vs)
    → known_single result ≡ unless_array (known_step op (known_singles vs))
single_step op vs result is = ap lifted is ∙ sym (step op (known_elements vs))
    ∙ ap (λ ks. unless_array (known_step op ks)) (sym (singles_are vs))
