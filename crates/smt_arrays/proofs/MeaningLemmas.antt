-- What is known of a result is true of it.
use Rattle.std.proofs.Common.{◌≡◌, Bool, true, false, cond, not, ◌&&◌, ◌||◌, List, [], ◌∷◌, ◌++◌, Option, Some, None}
use Rattle.std.proofs.Common.{option_map, map, refl, sym, ap, ◌∙◌, subst}
use Rattle.std.specs.List.{list_all, list_any}
use Rattle.std.specs.Option.{option_and_then}
use Rattle.smt_theory.specs.declared.op.ArraysOp.{ArraysOp}
use Rattle.smt_theory.specs.declared.op.ArraysOp.TheVariants.{Select, Store, Const}
use Rattle.smt_theory.specs.declared.op.CoreOp.TheVariants.{True, False, Not, Implies, And, Or, Xor, Equal}
use Rattle.smt_theory.specs.declared.op.CoreOp.TheVariants.{Distinct, Ite}
use Rattle.smt_theory.specs.declared.op.Op.{Op}
use Rattle.smt_theory.specs.declared.op.Op.TheVariants.{Core, Ints, Reals, Bits, Arrays}
use Rattle.smt_values.specs.Element as plain
use Rattle.smt_values.specs.KnownOperations as plain_known
use Rattle.smt_values.specs.Lists.{all_known, are_chained, are_distinct}
use Rattle.smt_values.specs.Operations as plain_operations
use Rattle.smt_values.specs.Operations.{DivisionByZero, truth_of}
use Rattle.smt_arrays.specs.Element.{Agrees, AllAgree, Element, Plain, Filled, Written, is_array, known_plain, plain_of}
use Rattle.smt_arrays.specs.Known.{are_all_so, is_too_much, known_arrays, known_choice, known_distinct, known_equal}
use Rattle.smt_arrays.specs.Known.{known_same, known_step, neighbours_same, pairs_different}
use Rattle.smt_arrays.specs.Operations.{chosen, operate, operate_arrays, truth}
use Rattle.smt_arrays.specs.Reading.{is_same, read}
use Rattle.smt_arrays.proofs.SamenessLemmas.{all_so, same_told}

-- ---- neighbours, and pairs

neighbours : List Element → List (Element × Element)
neighbours [] = []
neighbours (a ∷ []) = []
neighbours (a ∷ b ∷ rest) = (a, b) ∷ neighbours (b ∷ rest)

by_neighbours : (es : List Element)
    → (neighbours_same es ≡ map (λ (p : Element × Element). known_same p.0 p.1) (neighbours es))
    × (are_chained is_same es ≡ list_all (λ (p : Element × Element). is_same p.0 p.1) (neighbours es))
unfolding neighbours
by_neighbours [] = (refl, refl)
by_neighbours (a ∷ []) = (refl, refl)
by_neighbours (a ∷ b ∷ rest) =
    let next = by_neighbours (b ∷ rest) in
    (ap (λ ks. known_same a b ∷ ks) next.0, ap (λ c. is_same a b && c) next.1)

pairs : List Element → List (Element × Element)
pairs [] = []
pairs (a ∷ rest) = map (λ b. (a, b)) rest ++ pairs rest

with_each : (a : Element) (rest : List Element) (ps : List (Element × Element)) (ks : List (Option Bool)) (d : Bool)
    → ks ≡ map (λ (p : Element × Element). option_map not (known_same p.0 p.1)) ps
    → d ≡ list_all (λ (p : Element × Element). not (is_same p.0 p.1)) ps
    → (map (λ b. option_map not (known_same a b)) rest ++ ks
    ≡ map (λ (p : Element × Element). option_map not (known_same p.0 p.1)) (map (λ b. (a, b)) rest ++ ps))
    × ((not (list_any (is_same a) rest) && d)
    ≡ list_all (λ (p : Element × Element). not (is_same p.0 p.1)) (map (λ b. (a, b)) rest ++ ps))
with_each a [] ps ks d h k = (h, k)
with_each a (b ∷ rest) ps ks d h k =
    let next = with_each a rest ps ks d h k in (
      ap (λ l. option_map not (known_same a b) ∷ l) next.0,
      split (is_same a b) (list_any (is_same a) rest) ∙ ap (λ c. not (is_same a b) && c) next.1,
    )
  where
    split : (x y : Bool) → (not (x || y) && d) ≡ (not x && (not y && d))
    split true y = refl
    split false y = refl

by_pairs : (es : List Element)
    → (pairs_different es ≡ map (λ (p : Element × Element). option_map not (known_same p.0 p.1)) (pairs es))
    × (are_distinct is_same es ≡ list_all (λ (p : Element × Element). not (is_same p.0 p.1)) (pairs es))
unfolding pairs
by_pairs [] = (refl, refl)
by_pairs (a ∷ rest) =
    let next = by_pairs rest in with_each a rest (pairs rest) (pairs_different rest) (are_distinct is_same rest)
    next.0 next.1

not_told : (o : Option Bool) (b r : Bool) → ((s : Bool) → o ≡ Some s → b ≡ s) → option_map not o ≡ Some r → not b ≡ r
not_told (Some s) b r told h = ap not (told s refl) ∙ (let e : not s ≡ r = cc in e)
not_told None b r told h = cc

-- ---- `=` and `distinct`

truth_agrees : (o : Option Bool) (b : Bool) → ((r : Bool) → o ≡ Some r → b ≡ r) → Agrees (option_map truth o) (truth b)
truth_agrees (Some r) b told = ap truth (told r refl)
truth_agrees None b told = tt

unless_too_much : (much : Bool) (o : Option Element) (e : Element) → Agrees o e → Agrees (cond much None o) e
unless_too_much true o e h = tt
unless_too_much false o e h = h

equal_true : (es : List Element) → Agrees (known_equal es) (truth (are_chained is_same es))
equal_true es =
    let by = by_neighbours es in
    unless_too_much (is_too_much es) _ _
    (truth_agrees (are_all_so (neighbours_same es)) (are_chained is_same es)
    (λ r h. by.1 ∙ all_so (λ (p : Element × Element). known_same p.0 p.1) (λ (p : Element × Element). is_same p.0 p.1)
    (neighbours es) (λ p s e. same_told p.0 p.1 s e) r (sym (ap are_all_so by.0) ∙ h)))

distinct_true : (es : List Element) → Agrees (known_distinct es) (truth (are_distinct is_same es))
distinct_true es =
    let by = by_pairs es in
    unless_too_much (is_too_much es) _ _
    (truth_agrees (are_all_so (pairs_different es)) (are_distinct is_same es)
    (λ r h. by.1 ∙ all_so (λ (p : Element × Element). option_map not (known_same p.0 p.1))
    (λ (p : Element × Element). not (is_same p.0 p.1)) (pairs es)
    (λ p s e. not_told (known_same p.0 p.1) (is_same p.0 p.1) s (same_told p.0 p.1) e) r
    (sym (ap are_all_so by.0) ∙ h)))

-- ---- arguments that are all known

all_known_true : (ks : List (Option Element)) (es fs : List Element) → AllAgree ks es → all_known ks ≡ Some fs → es ≡ fs
all_known_true [] [] fs h e = cc
all_known_true [] (x ∷ es) fs h e = absurd h
all_known_true (k ∷ ks) [] fs h e = absurd h
all_known_true (None ∷ ks) (x ∷ es) fs h e = cc
all_known_true (Some k ∷ ks) (x ∷ es) fs h e = by (all_known ks) (λ gs g. all_known_true ks es gs h.1 g) e
  where
    by : (o : Option (List Element)) → ((gs : List Element) → o ≡ Some gs → es ≡ gs)
        → option_map (λ ys. k ∷ ys) o ≡ Some fs → x ∷ es ≡ fs
    by None rest e = cc
    by (Some gs) rest e = ap (λ y. y ∷ es) h.0 ∙ ap (λ ys. k ∷ ys) (rest gs refl) ∙ (let is : k ∷ gs ≡ fs = cc in is)

strict_true : (f : List Element → Option Element) (ks : List (Option Element)) (es : List Element) (e : Element)
    → AllAgree ks es → Agrees (f es) e → Agrees (option_and_then f (all_known ks)) e
strict_true f ks es e h agrees = by (all_known ks) (λ fs g. all_known_true ks es fs h g)
  where
    by : (o : Option (List Element)) → ((fs : List Element) → o ≡ Some fs → es ≡ fs) → Agrees (option_and_then f o) e
    by None same = tt
    by (Some fs) same = subst (λ gs. Agrees (f gs) e) (same fs refl) agrees

-- ---- operators on arrays

arrays_true : (op : ArraysOp) (es : List Element) → Agrees (known_arrays op es) (operate_arrays op es)
arrays_true Select [] = tt
arrays_true Select (a ∷ []) = tt
arrays_true Select (a ∷ i ∷ e ∷ es) = tt
arrays_true Select (a ∷ i ∷ []) = by (is_array a && not (is_array i))
  where
    by : (b : Bool) → Agrees (cond b (Some (read a i)) None) (read a i)
    by true = refl
    by false = tt
arrays_true Store [] = tt
arrays_true Store (a ∷ []) = tt
arrays_true Store (a ∷ i ∷ []) = tt
arrays_true Store (a ∷ i ∷ e ∷ f ∷ es) = tt
arrays_true Store (a ∷ i ∷ e ∷ []) = by (is_array a && not (is_array i))
  where
    by : (b : Bool) → Agrees (cond b (Some (Written a i e)) None) (Written a i e)
    by true = refl
    by false = tt
arrays_true (Const sort) [] = tt
arrays_true (Const sort) (e ∷ []) = refl
arrays_true (Const sort) (e ∷ f ∷ es) = tt

-- ---- `ite`

choice_true : (ks : List (Option Element)) (es : List Element) → AllAgree ks es → Agrees (known_choice ks) (chosen es)
choice_true [] es h = tt
choice_true (c ∷ []) es h = tt
choice_true (c ∷ a ∷ []) es h = tt
choice_true (c ∷ a ∷ b ∷ d ∷ ks) es h = tt
choice_true (c ∷ a ∷ b ∷ []) [] h = absurd h
choice_true (c ∷ a ∷ b ∷ []) (x ∷ []) h = absurd h.1
choice_true (c ∷ a ∷ b ∷ []) (x ∷ y ∷ []) h = absurd h.1.1
choice_true (c ∷ a ∷ b ∷ []) (x ∷ y ∷ w ∷ z ∷ es) h = absurd h.1.1.1
choice_true (None ∷ a ∷ b ∷ []) (x ∷ y ∷ w ∷ []) h = tt
choice_true (Some (Filled e) ∷ a ∷ b ∷ []) (x ∷ y ∷ w ∷ []) h = tt
choice_true (Some (Written d i e) ∷ a ∷ b ∷ []) (x ∷ y ∷ w ∷ []) h = tt
choice_true (Some (Plain (plain.Integer n)) ∷ a ∷ b ∷ []) (x ∷ y ∷ w ∷ []) h = tt
choice_true (Some (Plain (plain.Fraction n d)) ∷ a ∷ b ∷ []) (x ∷ y ∷ w ∷ []) h = tt
choice_true (Some (Plain (plain.Vector v)) ∷ a ∷ b ∷ []) (x ∷ y ∷ w ∷ []) h = tt
choice_true (Some (Plain (plain.Abstract name)) ∷ a ∷ b ∷ []) (x ∷ y ∷ w ∷ []) h = tt
choice_true (Some (Plain (plain.Truth t)) ∷ a ∷ b ∷ []) (x ∷ y ∷ w ∷ []) h =
    subst (λ c. Agrees (cond t a b) (cond (truth_of (plain_of c)) y w)) (sym h.0) (by t)
  where
    by : (t : Bool) → Agrees (cond t a b) (cond t y w)
    by true = h.1.0
    by false = h.1.1.0

-- ---- all other operators

plain_agrees : (k : Option Element) (e : Element) → Agrees k e → plain.Agrees (known_plain k) (plain_of e)
plain_agrees None e h = tt
plain_agrees (Some (Plain p)) e h = ap plain_of h
plain_agrees (Some (Filled d)) e h = tt
plain_agrees (Some (Written a i d)) e h = tt

all_plain_agree : (ks : List (Option Element)) (es : List Element) → AllAgree ks es
    → plain.AllAgree (map known_plain ks) (map plain_of es)
all_plain_agree [] [] h = tt
all_plain_agree [] (e ∷ es) h = absurd h
all_plain_agree (k ∷ ks) [] h = absurd h
all_plain_agree (k ∷ ks) (e ∷ es) h = (plain_agrees k e h.0, all_plain_agree ks es h.1)

lifted : (o : Option plain.Element) (p : plain.Element) → plain.Agrees o p → Agrees (option_map Plain o) (Plain p)
lifted None p h = tt
lifted (Some q) p h = ap Plain h

-- what the law of the crate below says
abbrev pub PlainIsTrue : Type 0
PlainIsTrue = (z : DivisionByZero) (op : Op) (knowns : List (Option plain.Element)) (args : List plain.Element)
    → plain.AllAgree knowns args → plain.Agrees (plain_known.known_step op knowns) (plain_operations.operate z op args)

module _ (law : PlainIsTrue) (z : DivisionByZero) (ks : List (Option Element)) (es : List Element) (h : AllAgree ks es)
  where
    other : (op : Op) → Agrees (option_map Plain (plain_known.known_step op (map known_plain ks)))
        (Plain (plain_operations.operate z op (map plain_of es)))
    other op = lifted _ _ (law z op (map known_plain ks) (map plain_of es) (all_plain_agree ks es h))

    pub step_true : (op : Op) → Agrees (known_step op ks) (operate z op es)
    step_true (Arrays op) = strict_true (known_arrays op) ks es (operate_arrays op es) h (arrays_true op es)
    step_true (Core Equal) = strict_true known_equal ks es (truth (are_chained is_same es)) h (equal_true es)
    step_true (Core Distinct) = strict_true known_distinct ks es (truth (are_distinct is_same es)) h (distinct_true es)
    step_true (Core Ite) = choice_true ks es h
    step_true (Core True) = other (Core True)
    step_true (Core False) = other (Core False)
    step_true (Core Not) = other (Core Not)
    step_true (Core Implies) = other (Core Implies)
    step_true (Core And) = other (Core And)
    step_true (Core Or) = other (Core Or)
    step_true (Core Xor) = other (Core Xor)
    step_true (Ints op) = other (Ints op)
    step_true (Reals op) = other (Reals op)
    step_true (Bits op) = other (Bits op)
