-- Two arrays by their diagrams.
use Rattle.std.proofs.Common.{◌≡◌, ◌⊎◌, inl, inr, ◌↔◌, ◌<◌, ◌^◌, ◌==◌, ℕ, zero, suc, ℤ, pos, negsuc, Bool, true, false}
use Rattle.std.proofs.Common.{cond, not}
use Rattle.std.proofs.Common.{◌&&◌, ◌||◌, List, [], ◌∷◌, ◌++◌, Option, Some, None, is_some, map, refl, sym, ap, ◌∙◌}
use Rattle.std.proofs.Common.{subst, arith, eq-eqb, eqb-true, true≢false, length, slice_get}
use Rattle.std.proofs.lemmas.Nat.{pow_pos}
use Rattle.std.specs.List.{list_all}
use Rattle.smt_bits.specs.BitVector.{vector}
use Rattle.smt_diagrams.specs.Diagram.{AreAlike, element_at}
use Rattle.smt_diagrams.specs.declared.diagram.Diagram.{Diagram}
use Rattle.smt_diagrams.specs.declared.diagram.Fork.{Fork}
use Rattle.smt_values.specs.Element as plain
use Rattle.smt_values.specs.Element.{element_of}
use Rattle.smt_values.specs.declared.value.Value.{Value}
use Rattle.smt_arrays.specs.Cells.{AreOlder, followed}
use Rattle.smt_arrays.specs.Element.{Element, Plain, Filled, Written, is_array}
use Rattle.smt_arrays.specs.Elements.{AreDistinct, number_of, value_at, zigzag}
use Rattle.smt_arrays.specs.Internal.{both, known_same_in}
use Rattle.smt_arrays.specs.KeyLaws.{same_value}
use Rattle.smt_arrays.specs.Known.{are_all_so, are_named, known_alike, known_default, unless_different}
use Rattle.smt_arrays.specs.Lookup.{AreIndexes, AreTables, IsDiagramOf, IsFound, IsIndex, IsServed, bits_of, is_flat}
use Rattle.smt_arrays.specs.Reading.{are_alike, are_all, both_indexes, default_of, indexes, is_among, is_same_plain}
use Rattle.smt_arrays.specs.Reading.{read}
use Rattle.smt_arrays.specs.Tables.{IsHeld, array_at, at_place, element_in, place_of_array}
use Rattle.smt_arrays.specs.declared.arrays.Cell.{Cell}
use Rattle.smt_arrays.specs.declared.elements.Key.{Key}
use Rattle.smt_arrays.specs.declared.lookup.Kind.{Kind}
use Rattle.smt_arrays.specs.declared.lookup.Kind.TheVariants.{Truths, Integers, Vectors}
use Rattle.smt_arrays.specs.declared.lookup.Table.{Table}
use Rattle.smt_arrays.proofs.CellLemmas.{array_where}
use Rattle.smt_arrays.proofs.ExtensionLemmas.{both as both_true, both_default, every_vector, of_one}
use Rattle.smt_arrays.proofs.ExtensionLemmas.{vector_missing}
use Rattle.smt_arrays.proofs.KeyLemmas.{compares}
use Rattle.smt_arrays.proofs.PlainSameLemmas.{so_more}
use Rattle.smt_arrays.proofs.StoreLemmas.{same_itself}
use Rattle.smt_arrays.proofs.UniverseLemmas.{of_plain}

-- ---- arrays whose elements are none

not_true : (b : Bool) → not b ≡ true → b ≡ false
not_true false h = refl
not_true true h = cc

read_flat : (a i : Element) → is_flat a ≡ true → is_array (read a i) ≡ false
read_flat (Plain e) i h = refl
read_flat (Filled e) i h = not_true (is_array e) h
read_flat (Written a j e) i h =
    let parts = both_true (is_flat a) (not (is_array e)) h in
    by (is_same_plain i j) (not_true (is_array e) parts.1) (read_flat a i parts.0)
  where
    by : (b : Bool) → is_array e ≡ false → is_array (read a i) ≡ false → is_array (cond b e (read a i)) ≡ false
    by true here rest = here
    by false here rest = rest

default_flat : (a : Element) → is_flat a ≡ true → is_array (default_of a) ≡ false
default_flat (Plain e) h = refl
default_flat (Filled e) h = not_true (is_array e) h
default_flat (Written a j e) h = default_flat a (both_true (is_flat a) (not (is_array e)) h).0

told : (depth : ℕ) (x y : Element) → is_array x ≡ false → known_same_in depth x y ≡ Some (is_same_plain x y)
told zero x y h = refl
told (suc depth) x y h = of_plain (known_same_in depth) x y h

all_told : (f : Element → Option Bool) (g : Element → Bool) → ((i : Element) → f i ≡ Some (g i)) → (js : List Element)
    → are_all_so (map f js) ≡ Some (list_all g js)
all_told f g h [] = refl
all_told f g h (j ∷ js) =
    so_more (f j) (map f js) ∙ ap (λ o. both o (are_all_so (map f js))) (h j)
    ∙ ap (both (Some (g j))) (all_told f g h js)
    ∙ by (g j) (list_all g js)
  where
    by : (x y : Bool) → both (Some x) (Some y) ≡ Some (x && y)
    by true y = refl
    by false y = refl

alike_flat : (depth : ℕ) (a b : Element) → is_flat a ≡ true → are_named (both_indexes a b) ≡ false
    → known_alike (known_same_in depth) a b ≡ Some (are_alike is_same_plain a b)
alike_flat depth a b flat unnamed =
    so_more (known_default same a b) (map (λ i. same (read a i) (read b i)) js)
    ∙ ap (both (known_default same a b)) (all_told (λ i. same (read a i) (read b i)) here
    (λ i. told depth (read a i) (read b i) (read_flat a i flat)) js)
    ∙ ap (λ o. both o (Some (list_all here js)))
    (by (are_all js) (are_named js) unnamed (told depth (default_of a) (default_of b) (default_flat a flat)))
    ∙ in_order (are_all js || is_same_plain (default_of a) (default_of b)) (list_all here js)
  where
    same : Element → Element → Option Bool
    same = known_same_in depth

    js : List Element
    js = both_indexes a b

    here : Element → Bool
    here i = is_same_plain (read a i) (read b i)

    by : (all named : Bool) → named ≡ false
        → same (default_of a) (default_of b) ≡ Some (is_same_plain (default_of a) (default_of b))
        → cond all (Some true) (cond named (unless_different (same (default_of a) (default_of b)))
        (same (default_of a) (default_of b)))
        ≡ Some (all || is_same_plain (default_of a) (default_of b))
    by true named n e = refl
    by false true n e = cc
    by false false n e = e

    in_order : (d l : Bool) → both (Some d) (Some l) ≡ Some (l && d)
    in_order true true = refl
    in_order true false = refl
    in_order false true = refl
    in_order false false = refl

-- ---- indexes of a kind

indexes_both : (kind : Kind) (is js : List Element) → AreIndexes kind is → AreIndexes kind js → AreIndexes kind
    (is ++ js)
indexes_both kind [] js h k = k
indexes_both kind (Plain i ∷ is) js h k = (h.0, indexes_both kind is js h.1 k)
indexes_both kind (Filled e ∷ is) js h k = absurd h
indexes_both kind (Written a i e ∷ is) js h k = absurd h

no_name : (kind : Kind) (x : List ℕ) → IsIndex kind (plain.Abstract x) → false ≡ true
no_name Truths x h = h.0
no_name Integers x h = h.0
no_name (Vectors w) x h = h.0

none_named : (kind : Kind) (js : List Element) → AreIndexes kind js → are_named js ≡ false
none_named kind [] h = refl
none_named kind (Filled e ∷ js) h = absurd h
none_named kind (Written a i e ∷ js) h = absurd h
none_named kind (Plain (plain.Truth b) ∷ js) h = refl
none_named kind (Plain (plain.Integer z) ∷ js) h = refl
none_named kind (Plain (plain.Fraction n d) ∷ js) h = refl
none_named kind (Plain (plain.Vector v) ∷ js) h = refl
none_named kind (Plain (plain.Abstract x) ∷ js) h = sym (no_name kind x h.0)

never_all : (js : List Element) → AreIndexes Integers js → are_all js ≡ false
never_all [] h = refl
never_all (Filled e ∷ js) h = absurd h
never_all (Written a i e ∷ js) h = absurd h
never_all (Plain (plain.Truth b) ∷ js) h = let no : false ≡ true = h.0.0 in cc
never_all (Plain (plain.Integer z) ∷ js) h = refl
never_all (Plain (plain.Fraction n d) ∷ js) h = refl
never_all (Plain (plain.Vector v) ∷ js) h = let no : false ≡ true = h.0.0 in cc
never_all (Plain (plain.Abstract x) ∷ js) h = refl

each_one : (kind : Kind) (f : Element → Bool) (js : List Element) → AreIndexes kind js
    → ((i : plain.Element) → IsIndex kind i → f (Plain i) ≡ true) → list_all f js ≡ true
each_one kind f [] h k = refl
each_one kind f (Filled e ∷ js) h k = absurd h
each_one kind f (Written a i e ∷ js) h k = absurd h
each_one kind f (Plain i ∷ js) h k = ap (λ b. b && list_all f js) (k i h.0) ∙ each_one kind f js h.1 k

-- each number is an index's
unzigzag : (n : ℕ) → (z : ℤ) × (zigzag z ≡ n)
unzigzag zero = (pos 0, refl)
unzigzag (suc zero) = (negsuc 0, refl)
unzigzag (suc (suc n)) = let r = unzigzag n in by r.0 r.1
  where
    by : (z : ℤ) → zigzag z ≡ n → (y : ℤ) × (zigzag y ≡ suc (suc n))
    by (pos m) e = (pos (suc m), omega (arith, e))
    by (negsuc m) e = (negsuc (suc m), omega (arith, e))

index_with : (kind : Kind) (n : ℕ) → n < 2 ^ bits_of kind → (i : plain.Element) × IsIndex kind i × (number_of i ≡ n)
index_with Truths zero less = (plain.Truth false, (refl, less), refl)
index_with Truths (suc zero) less = (plain.Truth true, (refl, less), refl)
index_with Truths (suc (suc n)) less = absurd (omega (arith, less))
index_with Integers n less =
    let r = unzigzag n in (plain.Integer r.0, (refl, subst (λ m. m < 2 ^ 128) (sym r.1) less), r.1)
index_with (Vectors w) n less = (plain.Vector (vector w n), (eq-eqb w w refl, less), refl)

-- whether there are only so many indexes of a kind
abbrev pub is_finite : Kind → Bool
is_finite Truths = true
is_finite Integers = false
is_finite (Vectors w) = true

pub finite : (kind : Kind) → (kind ≡ Truths) ⊎ ((w : ℕ) × (kind ≡ Vectors w)) → is_finite kind ≡ true
finite kind (inl e) = ap is_finite e
finite kind (inr e) = ap is_finite e.1

abbrev Missing : Kind → List Element → Type 0
Missing kind js = (i : plain.Element) × IsIndex kind i × (is_among (Plain i) js ≡ false)

truth_missing : (js : List Element)
    → (is_among (Plain (plain.Truth true)) js && is_among (Plain (plain.Truth false)) js) ≡ false → Missing Truths js
truth_missing js h = by (is_among (Plain (plain.Truth true)) js) refl h
  where
    by : (b : Bool) → is_among (Plain (plain.Truth true)) js ≡ b → (b && is_among (Plain (plain.Truth false)) js)
        ≡ false → Missing Truths js
    by false e h = (plain.Truth true, (refl, omega arith), e)
    by true e h = (plain.Truth false, (refl, omega arith), h)

missing : (kind : Kind) (js : List Element) → is_finite kind ≡ true → AreIndexes kind js → are_all js ≡ false
    → Missing kind js
missing Integers js f h gap = cc
missing Truths [] f h gap = (plain.Truth true, (refl, omega arith), refl)
missing Truths (Filled e ∷ js) f h gap = absurd h
missing Truths (Written a i e ∷ js) f h gap = absurd h
missing Truths (Plain (plain.Truth b) ∷ js) f h gap = truth_missing (Plain (plain.Truth b) ∷ js) gap
missing Truths (Plain (plain.Integer z) ∷ js) f h gap = let no : false ≡ true = h.0.0 in cc
missing Truths (Plain (plain.Fraction n d) ∷ js) f h gap = let no : false ≡ true = h.0.0 in cc
missing Truths (Plain (plain.Vector v) ∷ js) f h gap = let no : false ≡ true = h.0.0 in cc
missing Truths (Plain (plain.Abstract x) ∷ js) f h gap = let no : false ≡ true = h.0.0 in cc
missing (Vectors w) [] f h gap = (plain.Vector (vector w 0), (eq-eqb w w refl, pow_pos w), refl)
missing (Vectors w) (Filled e ∷ js) f h gap = absurd h
missing (Vectors w) (Written a i e ∷ js) f h gap = absurd h
missing (Vectors w) (Plain (plain.Truth b) ∷ js) f h gap = let no : false ≡ true = h.0.0 in cc
missing (Vectors w) (Plain (plain.Integer z) ∷ js) f h gap = let no : false ≡ true = h.0.0 in cc
missing (Vectors w) (Plain (plain.Fraction n d) ∷ js) f h gap = let no : false ≡ true = h.0.0 in cc
missing (Vectors w) (Plain (plain.Abstract x) ∷ js) f h gap = let no : false ≡ true = h.0.0 in cc
missing (Vectors w) (Plain (plain.Vector v) ∷ js) f h gap =
    let r = vector_missing v.width (2 ^ v.width) (Plain (plain.Vector v) ∷ js) gap in
    (plain.Vector (vector v.width r.0), (h.0.0, subst (λ m. r.0 < 2 ^ m) (eqb-true v.width w h.0.0) r.1), r.2)

among_all : (kind : Kind) (i : plain.Element) (js : List Element) → IsIndex kind i → AreIndexes kind js
    → are_all js ≡ true → is_among (Plain i) js ≡ true
among_all kind i [] p h all = cc
among_all kind i (Filled e ∷ js) p h all = cc
among_all kind i (Written a j e ∷ js) p h all = cc
among_all kind i (Plain (plain.Integer z) ∷ js) p h all = cc
among_all kind i (Plain (plain.Fraction n d) ∷ js) p h all = cc
among_all kind i (Plain (plain.Abstract x) ∷ js) p h all = cc
among_all Integers i (Plain (plain.Truth b) ∷ js) p h all = let no : false ≡ true = h.0.0 in cc
among_all (Vectors w) i (Plain (plain.Truth b) ∷ js) p h all = let no : false ≡ true = h.0.0 in cc
among_all Truths (plain.Truth true) (Plain (plain.Truth b) ∷ js) p h all = (both_true _ _ all).0
among_all Truths (plain.Truth false) (Plain (plain.Truth b) ∷ js) p h all = (both_true _ _ all).1
among_all Truths (plain.Integer z) (Plain (plain.Truth b) ∷ js) p h all = let no : false ≡ true = p.0 in cc
among_all Truths (plain.Fraction n d) (Plain (plain.Truth b) ∷ js) p h all = let no : false ≡ true = p.0 in cc
among_all Truths (plain.Vector v) (Plain (plain.Truth b) ∷ js) p h all = let no : false ≡ true = p.0 in cc
among_all Truths (plain.Abstract x) (Plain (plain.Truth b) ∷ js) p h all = let no : false ≡ true = p.0 in cc
among_all Truths i (Plain (plain.Vector v) ∷ js) p h all = let no : false ≡ true = h.0.0 in cc
among_all Integers i (Plain (plain.Vector v) ∷ js) p h all = let no : false ≡ true = h.0.0 in cc
among_all (Vectors w) (plain.Truth b) (Plain (plain.Vector v) ∷ js) p h all = let no : false ≡ true = p.0 in cc
among_all (Vectors w) (plain.Integer z) (Plain (plain.Vector v) ∷ js) p h all = let no : false ≡ true = p.0 in cc
among_all (Vectors w) (plain.Fraction n d) (Plain (plain.Vector v) ∷ js) p h all = let no : false ≡ true = p.0 in cc
among_all (Vectors w) (plain.Abstract x) (Plain (plain.Vector v) ∷ js) p h all = let no : false ≡ true = p.0 in cc
among_all (Vectors w) (plain.Vector u) (Plain (plain.Vector v) ∷ js) p h all =
    let of_v = eqb-true v.width w h.0.0 in
    let of_u = eqb-true u.width w p.0 in
    let found = every_vector v.width (2 ^ v.width) u.number (Plain (plain.Vector v) ∷ js) all
    (subst (λ m. u.number < 2 ^ m) (sym of_v) p.1) in
    subst (λ m. is_among (Plain (plain.Vector (vector m u.number))) (Plain (plain.Vector v) ∷ js) ≡ true)
    (of_v ∙ sym of_u) found

-- ---- elements by their numbers

plain_value : (cells : List Cell) (v : Value) → AreOlder 0 cells → IsHeld (length cells) v
    → is_array (element_in (followed [] cells) v) ≡ false → element_in (followed [] cells) v ≡ Plain (element_of v)
plain_value cells v h held flat = by (place_of_array v) (sym (array_where cells v h held) ∙ flat)
  where
    by : (o : Option ℕ) → is_some o ≡ false → at_place (followed [] cells) v o ≡ Plain (element_of v)
    by None e = refl
    by (Some place) e = cc

one_number : (cells : List Cell) (elements : List Key) (n m : ℕ) (e f : Element) → AreOlder 0 cells
    → AreDistinct elements → is_array e ≡ false → is_array f ≡ false
    → IsFound cells elements n e → IsFound cells elements m f → is_same_plain e f ≡ true → n ≡ m
one_number cells elements n m e f h distinct flat flat' found found' same =
    let v = value_at elements n in
    let w = value_at elements m in
    let is_v = sym (plain_value cells v h found.held (ap is_array found.same ∙ flat)) ∙ found.same in
    let is_w = sym (plain_value cells w h found'.held (ap is_array found'.same ∙ flat')) ∙ found'.same in
    distinct n m found.within found'.within
    (same_value v w (sym (compares v w) ∙ ap (λ x. is_same_plain x (Plain (element_of w))) is_v
    ∙ ap (is_same_plain e) is_w ∙ same))

one_element : (cells : List Cell) (elements : List Key) (n m : ℕ) (e f : Element) → is_array f ≡ false
    → IsFound cells elements n e → IsFound cells elements m f → n ≡ m → is_same_plain e f ≡ true
one_element cells elements n m e f flat found found' same =
    let here : e ≡ f =
    sym found.same ∙ ap (λ k. element_in (followed [] cells) (value_at elements k)) same ∙ found'.same in
    ap (λ x. is_same_plain x f) here ∙ same_itself f flat

-- ---- two arrays

-- two arrays of elements that are none have diagrams of a kind
pub record ArePlain (cells : List Cell) (elements : List Key) (forks : List Fork) (kind : Kind) (a b : Element)
    (d e : Diagram) : Type 0 where
  pub older : AreOlder 0 cells
  pub distinct : AreDistinct elements
  pub first : IsDiagramOf cells elements forks a kind d
  pub second : IsDiagramOf cells elements forks b kind e
  pub first_flat : is_flat a ≡ true
  pub second_flat : is_flat b ≡ true

pub are_plain : (cells : List Cell) (elements : List Key) (forks : List Fork) (tables : List (Option Table)) (p q : ℕ)
    (t u : Table) (kind : Kind) → AreOlder 0 cells → AreTables cells elements forks tables
    → slice_get tables p ≡ Some (Some t) → slice_get tables q ≡ Some (Some u)
    → IsServed t.kind kind × IsServed u.kind kind × (t.is_flat ≡ true) × (u.is_flat ≡ true)
    → ArePlain cells elements forks kind (array_at (followed [] cells) p) (array_at (followed [] cells) q) t.diagram
    u.diagram
are_plain cells elements forks tables p q t u kind h are at at' is = record {
  older = h;
  distinct = are.distinct;
  first = (are.each p t at).serves kind is.0;
  second = (are.each q u at').serves kind is.1;
  first_flat = (are.each p t at).flat is.2;
  second_flat = (are.each q u at').flat is.3;
}

both_indexes_are : {cells : List Cell} {elements : List Key} {forks : List Fork} {kind : Kind} {a b : Element}
    {d e : Diagram} → ArePlain cells elements forks kind a b d e → AreIndexes kind (both_indexes a b)
both_indexes_are {kind} {a} {b} are =
    indexes_both kind (indexes a) (indexes b) are.first.written are.second.written

abbrev pub DiagramsAlike : List Fork → Kind → Diagram → Diagram → Type 0
DiagramsAlike forks kind d e =
    AreAlike (bits_of kind) (element_at forks (bits_of kind) d) (element_at forks (bits_of kind) e)

-- where the diagrams are alike, so are the arrays at each index
same_at : {cells : List Cell} {elements : List Key} {forks : List Fork} {kind : Kind} {a b : Element}
    {d e : Diagram} → ArePlain cells elements forks kind a b d e → DiagramsAlike forks kind d e
    → (i : plain.Element) → IsIndex kind i → is_same_plain (read a (Plain i)) (read b (Plain i)) ≡ true
same_at {cells} {elements} {a} {b} are alike i at =
    one_element cells elements _ _ (read a (Plain i)) (read b (Plain i)) (read_flat b (Plain i) are.second_flat)
    (are.first.found i at) (are.second.found i at) (alike (number_of i) at.1)

-- what arrays that are the same have at an index
read_same : {cells : List Cell} {elements : List Key} {forks : List Fork} {kind : Kind} {a b : Element}
    {d e : Diagram} → ArePlain cells elements forks kind a b d e → are_alike is_same_plain a b ≡ true
    → (i : plain.Element) → IsIndex kind i → is_same_plain (read a (Plain i)) (read b (Plain i)) ≡ true
read_same {kind} {a} {b} are h i at = by (is_among (Plain i) (both_indexes a b)) refl
  where
    parts : (list_all (λ i. is_same_plain (read a i) (read b i)) (both_indexes a b) ≡ true)
        × ((are_all (both_indexes a b) || is_same_plain (default_of a) (default_of b)) ≡ true)
    parts = both_true _ _ h

    left : (c : Bool) → are_all (both_indexes a b) ≡ c
        → (c || is_same_plain (default_of a) (default_of b)) ≡ true
        → is_among (Plain i) (both_indexes a b) ≡ false → is_same_plain (default_of a) (default_of b) ≡ true
    left false x k m = k
    left true x k m =
        absurd (true≢false (sym (among_all kind i (both_indexes a b) at (both_indexes_are are) x) ∙ m))

    by : (c : Bool) → is_among (Plain i) (both_indexes a b) ≡ c
        → is_same_plain (read a (Plain i)) (read b (Plain i)) ≡ true
    by true x = of_one (λ i. is_same_plain (read a i) (read b i)) (Plain i) (both_indexes a b) parts.0 x
    by false x =
        both_default is_same_plain a b (Plain i) x ∙ left (are_all (both_indexes a b)) refl parts.1 x

-- arrays that are the same have diagrams that are alike
alike_diagrams : {cells : List Cell} {elements : List Key} {forks : List Fork} {kind : Kind} {a b : Element}
    {d e : Diagram} → ArePlain cells elements forks kind a b d e → are_alike is_same_plain a b ≡ true
    → DiagramsAlike forks kind d e
alike_diagrams {cells} {elements} {forks} {kind} {a} {b} {d} {e} are h n less =
    let i = index_with kind n less in
    subst (λ m. element_at forks (bits_of kind) d m ≡ element_at forks (bits_of kind) e m) i.2
    (one_number cells elements _ _ (read a (Plain i.0)) (read b (Plain i.0)) are.older are.distinct
    (read_flat a (Plain i.0) are.first_flat) (read_flat b (Plain i.0) are.second_flat)
    (are.first.found i.0 i.1) (are.second.found i.0 i.1) (read_same are h i.0 i.1))

written_same : {cells : List Cell} {elements : List Key} {forks : List Fork} {kind : Kind} {a b : Element}
    {d e : Diagram} → ArePlain cells elements forks kind a b d e → DiagramsAlike forks kind d e
    → list_all (λ i. is_same_plain (read a i) (read b i)) (both_indexes a b) ≡ true
written_same {kind} {a} {b} are alike =
    each_one kind (λ i. is_same_plain (read a i) (read b i)) (both_indexes a b) (both_indexes_are are)
    (same_at are alike)

-- where there are only so many indexes, the diagrams decide
same_finite : {cells : List Cell} {elements : List Key} {forks : List Fork} {kind : Kind} {a b : Element}
    {d e : Diagram} → ArePlain cells elements forks kind a b d e → DiagramsAlike forks kind d e
    → is_finite kind ≡ true → are_alike is_same_plain a b ≡ true
same_finite {kind} {a} {b} are alike few =
    ap (λ c. c && (are_all (both_indexes a b) || is_same_plain (default_of a) (default_of b))) (written_same are alike)
    ∙ by (are_all (both_indexes a b)) refl
  where
    by : (c : Bool) → are_all (both_indexes a b) ≡ c → (c || is_same_plain (default_of a) (default_of b)) ≡ true
    by true x = refl
    by false x =
        let i = missing kind (both_indexes a b) few (both_indexes_are are) x in
        sym (both_default is_same_plain a b (Plain i.0) i.2) ∙ same_at are alike i.0 i.1

-- else the defaults do
same_default : {cells : List Cell} {elements : List Key} {forks : List Fork} {a b : Element}
    {d e : Diagram} → ArePlain cells elements forks Integers a b d e → DiagramsAlike forks Integers d e
    → are_alike is_same_plain a b ≡ is_same_plain (default_of a) (default_of b)
same_default {a} {b} are alike =
    ap (λ c. c && (are_all (both_indexes a b) || is_same_plain (default_of a) (default_of b))) (written_same are alike)
    ∙ ap (λ c. c || is_same_plain (default_of a) (default_of b)) (never_all (both_indexes a b) (both_indexes_are are))

alike_by : {cells : List Cell} {elements : List Key} {forks : List Fork} {kind : Kind} {a b : Element}
    {d e : Diagram} → ArePlain cells elements forks kind a b d e → (depth : ℕ)
    → known_alike (known_same_in depth) a b ≡ Some (are_alike is_same_plain a b)
alike_by {kind} {a} {b} are depth =
    alike_flat depth a b are.first_flat (none_named kind (both_indexes a b) (both_indexes_are are))

-- ---- what is compared

pub compared_so : (forks : List Fork) (kind : Kind) (bits : ℕ) (d e : Diagram) (r : Bool) → bits ≡ bits_of kind
    → (r ≡ true) ↔ AreAlike bits (element_at forks bits d) (element_at forks bits e)
    → (r ≡ true) ↔ DiagramsAlike forks kind d e
compared_so forks kind bits d e r same h =
    subst (λ n. (r ≡ true) ↔ AreAlike n (element_at forks n d) (element_at forks n e)) same h

pub known_different : {cells : List Cell} {elements : List Key} {forks : List Fork} {kind : Kind} {a b : Element}
    {d e : Diagram} → ArePlain cells elements forks kind a b d e → (r : Bool)
    → (r ≡ true) ↔ DiagramsAlike forks kind d e → r ≡ false
    → (depth : ℕ) → known_alike (known_same_in depth) a b ≡ Some false
known_different {a} {b} are r compared differ depth =
    alike_by are depth ∙ ap Some (by (are_alike is_same_plain a b) (λ h. compared.1 (alike_diagrams are h)))
  where
    by : (x : Bool) → (x ≡ true → r ≡ true) → x ≡ false
    by false f = refl
    by true f = absurd (true≢false (sym (f refl) ∙ differ))

pub known_finite : {cells : List Cell} {elements : List Key} {forks : List Fork} {kind : Kind} {a b : Element}
    {d e : Diagram} → ArePlain cells elements forks kind a b d e → (r : Bool)
    → (r ≡ true) ↔ DiagramsAlike forks kind d e → r ≡ true → is_finite kind ≡ true
    → (depth : ℕ) → known_alike (known_same_in depth) a b ≡ Some true
known_finite are r compared alike few depth =
    alike_by are depth ∙ ap Some (same_finite are (compared.0 alike) few)

pub known_by_defaults : {cells : List Cell} {elements : List Key} {forks : List Fork} {a b : Element}
    {d e : Diagram} → ArePlain cells elements forks Integers a b d e → (r : Bool)
    → (r ≡ true) ↔ DiagramsAlike forks Integers d e → r ≡ true → (n m : ℕ)
    → IsFound cells elements n (default_of a) → IsFound cells elements m (default_of b)
    → (depth : ℕ) → known_alike (known_same_in depth) a b ≡ Some (n == m)
known_by_defaults {cells} {elements} {a} {b} are r compared alike n m found found' depth =
    alike_by are depth
    ∙ ap Some (same_default are (compared.0 alike)
    ∙ by (is_same_plain (default_of a) (default_of b)) (n == m)
    (λ h. eq-eqb n m (one_number cells elements n m _ _ are.older are.distinct
    (default_flat a are.first_flat) (default_flat b are.second_flat) found found' h))
    (λ h. one_element cells elements n m _ _ (default_flat b are.second_flat) found found' (eqb-true n m h)))
  where
    by : (x y : Bool) → (x ≡ true → y ≡ true) → (y ≡ true → x ≡ true) → x ≡ y
    by true true f g = refl
    by false false f g = refl
    by true false f g = sym (f refl)
    by false true f g = g refl
