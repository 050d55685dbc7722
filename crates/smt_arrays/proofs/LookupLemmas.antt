-- How arrays are looked up.
use Rattle.std.proofs.Common.{◌≡◌, ◌⊎◌, inl, inr, ◌<◌, ◌/◌, ◌%◌, ◌^◌, ℕ, zero, suc, ℤ, pos, negsuc, Bool, true}
use Rattle.std.proofs.Common.{false, not, is_none, is_some}
use Rattle.std.proofs.Common.{cond, ◌&&◌, List, [], ◌∷◌, ◌++◌, Option, Some, None, length, slice_get, refl, sym}
use Rattle.std.proofs.Common.{ap, ◌∙◌}
use Rattle.std.proofs.Common.{subst, arith, eqb, eqb-true, eq-eqb}
use Rattle.std.proofs.Math.ListN.{get_or-append}
use Rattle.std.proofs.Math.Seq.{get_or-append_seam}
use Rattle.std.proofs.lemmas.Bool.Decides.{Decides-int_eq}
use Rattle.std.proofs.lemmas.List.{length-append}
use Rattle.std.proofs.lemmas.Option.{slice_get_within}
use Rattle.std.specs.Bool.{◌==◌, beq}
use Rattle.std.specs.Int.{from_bool}
use Rattle.std.specs.Ordering.{int_eq}
use Rattle.std.specs.Prelude.{Result, Ok, Err, IfOk, OnErr}
use Rattle.smt_diagrams.specs.Diagram.{Grows, IsDiagram, IsWritten, element_at}
use Rattle.smt_diagrams.specs.declared.diagram.Diagram.{Diagram}
use Rattle.smt_diagrams.specs.declared.diagram.Diagram.TheVariants.{Leaf}
use Rattle.smt_diagrams.specs.declared.diagram.Fork.{Fork}
use Rattle.smt_values.specs.Element as plain
use Rattle.smt_values.specs.Element.{element_of}
use Rattle.smt_values.specs.Operations as plain_operations
use Rattle.smt_values.specs.declared.value.Value.{Value}
use Rattle.smt_values.specs.declared.value.Value.TheVariants.{Bool as BoolValue}
use Rattle.smt_arrays.specs.Cells.{AreOlder, followed, made}
use Rattle.smt_arrays.specs.Element.{Element, Plain, Filled, Written, is_array}
use Rattle.smt_arrays.specs.Elements.{AreDistinct, Extends, number_of, value_at, zigzag}
use Rattle.smt_arrays.specs.Lookup.{AreTables, IsDiagramOf, IsFound, IsServed, IsTable, IsTableIfAny, bits_of}
use Rattle.smt_arrays.specs.Lookup.{is_of_kind}
use Rattle.smt_arrays.specs.Operations.{truth}
use Rattle.smt_arrays.specs.Reading.{read}
use Rattle.smt_arrays.specs.Tables.{IsBefore, IsHeld, array_at, at_place, element_in, place_of_array}
use Rattle.smt_arrays.specs.declared.arrays.Cell.{Cell}
use Rattle.smt_arrays.specs.declared.elements.Key.{Key}
use Rattle.smt_arrays.specs.declared.lookup.Kind.{Kind}
use Rattle.smt_arrays.specs.declared.lookup.Kind.TheVariants.{Truths, Integers, Vectors}
use Rattle.smt_arrays.specs.declared.lookup.Table.{Table}
use Rattle.smt_arrays.proofs.CellLemmas.{array_where, as_many, held_below, one_array_more, written_here, written_off}

-- ---- numbers

zigzag_one : (a b : ℤ) → zigzag a ≡ zigzag b → a ≡ b
zigzag_one (pos n) (pos m) e = ap pos (omega (arith, e))
zigzag_one (negsuc n) (negsuc m) e = ap negsuc (omega (arith, e))
zigzag_one (pos n) (negsuc m) e = absurd (omega (arith, e))
zigzag_one (negsuc n) (pos m) e = absurd (omega (arith, e))

zigzag_alike : (a b : ℤ) → (zigzag a == zigzag b) ≡ int_eq a b
zigzag_alike a b =
    by (eqb (zigzag a) (zigzag b)) (int_eq a b)
    (λ e. (Decides-int_eq a b).1 (zigzag_one a b (eqb-true (zigzag a) (zigzag b) e)))
    (λ e. eq-eqb (zigzag a) (zigzag b) (ap zigzag ((Decides-int_eq a b).0 e)))
  where
    by : (x y : Bool) → (x ≡ true → y ≡ true) → (y ≡ true → x ≡ true) → x ≡ y
    by true true f g = refl
    by false false f g = refl
    by true false f g = sym (f refl)
    by false true f g = g refl

truths_alike : (a b : Bool) → (from_bool a == from_bool b) ≡ beq a b
truths_alike true true = refl
truths_alike true false = refl
truths_alike false true = refl
truths_alike false false = refl

one_width : (n m width : ℕ) (b : Bool) → (n == width) ≡ true → (m == width) ≡ true → b ≡ ((n == m) && b)
one_width n m width b h k =
    ap (λ c. c && b) (sym (eq-eqb n m (eqb-true n width h ∙ sym (eqb-true m width k))))

-- two indexes of a kind are the same where their numbers are
pub numbers_alike : (k : Kind) (i j : plain.Element) → is_of_kind k i ≡ true → is_of_kind k j ≡ true
    → (number_of i == number_of j) ≡ plain_operations.is_same i j
numbers_alike Truths (plain.Truth a) (plain.Truth b) h g = truths_alike a b
numbers_alike Truths (plain.Truth a) j h g = cc
numbers_alike Truths i j h g = cc
numbers_alike Integers (plain.Integer a) (plain.Integer b) h g = zigzag_alike a b
numbers_alike Integers (plain.Integer a) j h g = cc
numbers_alike Integers i j h g = cc
numbers_alike (Vectors width) (plain.Vector s) (plain.Vector t) h g =
    one_width s.width t.width width (s.number == t.number) h g
numbers_alike (Vectors width) (plain.Vector s) j h g = cc
numbers_alike (Vectors width) i j h g = cc

-- ---- one cell more

held_more : (cells : List Cell) (c : Cell) (v : Value) → IsHeld (length cells) v
    → element_in (followed [] (cells ++ (c ∷ []))) v ≡ element_in (followed [] cells) v
held_more cells c v h = by (place_of_array v) h
  where
    n : length (followed [] cells) ≡ length cells
    n = let e = as_many [] cells in omega (arith, e)

    by : (o : Option ℕ) → IsBefore (length cells) o
        → at_place (followed [] (cells ++ (c ∷ []))) v o ≡ at_place (followed [] cells) v o
    by (Some place) less =
        ap (λ l. array_at l place) (one_array_more [] cells c)
        ∙ get_or-append (followed [] cells) (made (followed [] cells) c ∷ []) (truth false) place
        (omega (arith, n, less))
    by None less = refl

array_more : (cells : List Cell) (c : Cell) (place : ℕ) → place < length cells
    → array_at (followed [] (cells ++ (c ∷ []))) place ≡ array_at (followed [] cells) place
array_more cells c place less =
    let n = as_many [] cells in
    ap (λ l. array_at l place) (one_array_more [] cells c)
    ∙ get_or-append (followed [] cells) (made (followed [] cells) c ∷ []) (truth false) place (omega (arith, n, less))

last_array : (cells : List Cell) (c : Cell)
    → array_at (followed [] (cells ++ (c ∷ []))) (length cells) ≡ made (followed [] cells) c
last_array cells c =
    let n = as_many [] cells in
    let e : length cells ≡ length (followed [] cells) = omega (arith, n) in
    ap (λ l. array_at l (length cells)) (one_array_more [] cells c)
    ∙ ap (array_at (followed [] cells ++ (made (followed [] cells) c ∷ []))) e
    ∙ get_or-append_seam (followed [] cells) (made (followed [] cells) c) [] (truth false)

longer : (cells : List Cell) (c : Cell) → length (cells ++ (c ∷ [])) ≡ suc (length cells)
longer [] c = refl
longer (d ∷ cells) c = ap suc (longer cells c)

found_more : (cells : List Cell) (elements : List Key) (c : Cell) (k : ℕ) (e : Element) → IsFound cells elements k e
    → IsFound (cells ++ (c ∷ [])) elements k e
found_more cells elements c k e f = record {
  within = f.within;
  held = held_below (place_of_array (value_at elements k)) (omega (arith, longer cells c)) f.held;
  same = held_more cells c (value_at elements k) f.held ∙ f.same;
}

table_more : (cells : List Cell) (elements : List Key) (forks : List Fork) (c : Cell) (a : Element) (t : Table)
    → IsTable cells elements forks a t → IsTable (cells ++ (c ∷ [])) elements forks a t
table_more cells elements forks c a t table = record {
  serves = λ kind s. let d = table.serves kind s in record {
    written = d.written;
    diagram = d.diagram;
    found = λ i h. found_more cells elements c _ _ (d.found i h);
  };
  other = found_more cells elements c _ _ table.other;
  flat = table.flat;
}

last_slice : {A : Type 0} (xs : List A) (y v : A) (k : ℕ) → slice_get (xs ++ (y ∷ [])) k ≡ Some v
    → (slice_get xs k ≡ Some v) ⊎ ((k ≡ length xs) × (y ≡ v))
last_slice [] y v zero e = inr (refl, cc)
last_slice [] y v (suc k) e = cc
last_slice (x ∷ xs) y v zero e = inl e
last_slice (x ∷ xs) y v (suc k) e = elim (last_slice xs y v k e) [ inl h ↦ inl h | inr h ↦ inr (ap suc h.0, h.1) ]

longer_by_one : {A : Type 0} (xs : List A) (y : A) → length (xs ++ (y ∷ [])) ≡ suc (length xs)
longer_by_one [] y = refl
longer_by_one (x ∷ xs) y = ap suc (longer_by_one xs y)

any_table_more : (cells : List Cell) (elements : List Key) (forks : List Fork) (c : Cell) (a : Element)
    (t : Option Table) → IsTableIfAny cells elements forks a t → IsTableIfAny (cells ++ (c ∷ [])) elements forks a t
any_table_more cells elements forks c a None h = tt
any_table_more cells elements forks c a (Some t) h = table_more cells elements forks c a t h

tables_more : (cells : List Cell) (elements : List Key) (forks : List Fork) (tables : List (Option Table)) (c : Cell)
    (t : Option Table) → AreTables cells elements forks tables
    → IsTableIfAny cells elements forks (made (followed [] cells) c) t
    → AreTables (cells ++ (c ∷ [])) elements forks (tables ++ (t ∷ []))
tables_more cells elements forks tables c t are is = record {
  distinct = are.distinct;
  count = longer_by_one tables t ∙ ap suc are.count ∙ sym (longer cells c);
  each = λ place table e. elim (last_slice tables t (Some table) place e) [
    | inl old ↦
        let less = slice_get_within tables place (Some table) old in
        subst (λ a. IsTable (cells ++ (c ∷ [])) elements forks a table)
        (sym (array_more cells c place (omega (arith, less, are.count))))
        (table_more cells elements forks c _ table (are.each place table old))
    | inr new ↦
        subst (λ a. IsTable (cells ++ (c ∷ [])) elements forks a table)
        (sym (ap (array_at (followed [] (cells ++ (c ∷ [])))) (new.0 ∙ are.count) ∙ last_array cells c))
        (subst (IsTableIfAny (cells ++ (c ∷ [])) elements forks (made (followed [] cells) c)) new.1
        (any_table_more cells elements forks c _ t is))
  ];
}

-- ---- more forks

-- what the law of the crate below says
abbrev pub DiagramsStay : Type 0
DiagramsStay = (forks more : List Fork) (n : ℕ) (d : Diagram) → IsDiagram forks n d
    → IsDiagram (forks ++ more) n d × ((i : ℕ) → element_at (forks ++ more) n d i ≡ element_at forks n d i)

table_forks : (cells : List Cell) (elements : List Key) (old more : List Fork) (a : Element) (t : Table) → DiagramsStay
    → IsTable cells elements old a t → IsTable cells elements (old ++ more) a t
table_forks cells elements old more a t law table = record {
  serves = λ kind s. let d = table.serves kind s in
      let stay = law old more (bits_of kind) t.diagram d.diagram in record {
        written = d.written;
        diagram = stay.0;
        found = λ i h. subst (λ leaf. IsFound cells elements leaf (read a (Plain i))) (sym (stay.1 (number_of i)))
            (d.found i h);
      };
  other = table.other;
  flat = table.flat;
}

pub tables_forks : (cells : List Cell) (elements : List Key) (old new : List Fork) (tables : List (Option Table))
    → DiagramsStay → Grows old new → AreTables cells elements old tables → AreTables cells elements new tables
tables_forks cells elements old new tables law grows are = record {
  distinct = are.distinct;
  count = are.count;
  each = λ place table e. subst (λ forks. IsTable cells elements forks (array_at (followed [] cells) place) table)
      (sym grows.1) (table_forks cells elements old grows.0 _ table law (are.each place table e));
}

-- ---- more elements

found_after : (cells : List Cell) (old more : List Key) (k : ℕ) (e : Element) → IsFound cells old k e
    → IsFound cells (old ++ more) k e
found_after cells old more k e f =
    let same : value_at (old ++ more) k ≡ value_at old k =
    ap (λ (key : Key). key.value) (get_or-append old more (record { value = BoolValue false }) k f.within) in
    record {
      within = omega (arith, f.within, length-append old more);
      held = subst (IsHeld (length cells)) (sym same) f.held;
      same = ap (element_in (followed [] cells)) same ∙ f.same;
    }

table_after : (cells : List Cell) (old more : List Key) (forks : List Fork) (a : Element) (t : Table)
    → IsTable cells old forks a t → IsTable cells (old ++ more) forks a t
table_after cells old more forks a t table = record {
  serves = λ kind s. let d = table.serves kind s in record {
    written = d.written;
    diagram = d.diagram;
    found = λ i h. found_after cells old more _ _ (d.found i h);
  };
  other = found_after cells old more _ _ table.other;
  flat = table.flat;
}

pub tables_elements : (cells : List Cell) (old new : List Key) (forks : List Fork) (tables : List (Option Table))
    → Extends old new → AreDistinct new → AreTables cells old forks tables → AreTables cells new forks tables
tables_elements cells old new forks tables grows distinct are = record {
  distinct = distinct;
  count = are.count;
  each = λ place table e. subst (λ elements. IsTable cells elements forks (array_at (followed [] cells) place) table)
      (sym grows.1) (table_after cells old grows.0 forks _ table (are.each place table e));
}

-- ---- an array that is written nowhere

leaf_everywhere : (forks : List Fork) (n e i : ℕ) → element_at forks n (Leaf e) i ≡ e
leaf_everywhere forks zero e i = refl
leaf_everywhere forks (suc n) e i = by (i % 2 == 0) (leaf_everywhere forks n e (i / 2))
  where
    by : (b : Bool) → element_at forks n (Leaf e) (i / 2) ≡ e
        → cond b (element_at forks n (Leaf e) (i / 2)) (element_at forks n (Leaf e) (i / 2)) ≡ e
    by true half = half
    by false half = half

not_some : {A : Type 0} (o : Option A) → is_none o ≡ true → not (is_some o) ≡ true
not_some None h = refl
not_some (Some x) h = cc

-- an element is no array where its value is none
no_array : (cells : List Cell) (v : Value) → AreOlder 0 cells → IsHeld (length cells) v
    → is_none (place_of_array v) ≡ true → not (is_array (element_in (followed [] cells) v)) ≡ true
no_array cells v h held none = ap not (array_where cells v h held) ∙ not_some (place_of_array v) none

found_here : (cells : List Cell) (elements : List Key) (v : Value) (number : ℕ) → IsHeld (length cells) v
    → number < length elements → value_at elements number ≡ v
    → IsFound cells elements number (element_in (followed [] cells) v)
found_here cells elements v number held less same = record {
  within = less;
  held = subst (IsHeld (length cells)) (sym same) held;
  same = ap (element_in (followed [] cells)) same;
}

pub filled_is_table : (cells : List Cell) (elements : List Key) (forks : List Fork) (v : Value) (number : ℕ)
    (flat : Bool) → AreOlder 0 cells → IsHeld (length cells) v → number < length elements
    → value_at elements number ≡ v → flat ≡ is_none (place_of_array v)
    → IsTable cells elements forks (Filled (element_in (followed [] cells) v))
    (record { kind = None; diagram = Leaf number; default = number; is_flat = flat })
filled_is_table cells elements forks v number flat h held less same is = record {
  serves = λ kind s. record {
    written = tt;
    diagram = tt;
    found = λ i b. subst (λ leaf. IsFound cells elements leaf (element_in (followed [] cells) v))
        (sym (leaf_everywhere forks (bits_of kind) number (number_of i)))
        (found_here cells elements v number held less same);
  };
  other = found_here cells elements v number held less same;
  flat = λ yes. no_array cells v h held (sym is ∙ yes);
}

-- ---- a write

both : (a b : Bool) → (a && b) ≡ true → (a ≡ true) × (b ≡ true)
both true b h = (refl, h)
both false b h = cc

pub next_is_table : (cells : List Cell) (elements : List Key) (old new : List Fork) (a : Element) (index : Value)
    (t : Table) (kind : Kind) (number leaf : ℕ) (d : Diagram) (v : Value) (flat : Bool) → AreOlder 0 cells
    → IsTable cells elements old a t → IsServed t.kind kind → is_of_kind kind (element_of index) ≡ true
    → number ≡ number_of (element_of index) → number < 2 ^ bits_of kind
    → IsWritten old new (bits_of kind) t.diagram number leaf d → leaf < length elements → value_at elements leaf ≡ v
    → IsHeld (length cells) v → flat ≡ (t.is_flat && is_none (place_of_array v))
    → IsTable cells elements new (Written a (Plain (element_of index)) (element_in (followed [] cells) v))
    (record { kind = Some kind; diagram = d; default = t.default; is_flat = flat })
next_is_table cells elements old new a index t kind number leaf d v flat h table serves of_kind same below written less
    value held is = record {
      serves = λ k s. subst (λ k. IsDiagramOf cells elements new w k d) s here;
      other = table.other;
      flat = λ yes.
          let parts = both t.is_flat (is_none (place_of_array v)) (sym is ∙ yes) in
          ap (λ b. b && not (is_array e)) (table.flat parts.0) ∙ no_array cells v h held parts.1;
    }
  where
    j : plain.Element
    j = element_of index

    e : Element
    e = element_in (followed [] cells) v

    w : Element
    w = Written a (Plain j) e

    base : IsDiagramOf cells elements old a kind t.diagram
    base = table.serves kind serves

    by : (i : plain.Element) (b : Bool) → b ≡ plain_operations.is_same i j
        → IsFound cells elements (element_at old (bits_of kind) t.diagram (number_of i)) (read a (Plain i))
        → IsFound cells elements (cond b leaf (element_at old (bits_of kind) t.diagram (number_of i)))
        (read w (Plain i))
    by i true k before =
        subst (IsFound cells elements leaf) (sym (written_here a e i j true k refl))
        (found_here cells elements v leaf held less value)
    by i false k before =
        subst (IsFound cells elements (element_at old (bits_of kind) t.diagram (number_of i)))
        (sym (written_off a e i j false k refl)) before

    here : IsDiagramOf cells elements new w kind d
    here = record {
      written = ((of_kind, subst (λ n. n < 2 ^ bits_of kind) same below), base.written);
      diagram = written.0;
      found = λ i at. subst (λ n. IsFound cells elements n (read w (Plain i))) (sym (written.1 (number_of i) at.1))
          (by i (eqb (number_of i) number)
          (ap (eqb (number_of i)) same ∙ numbers_alike kind i j at.0 of_kind) (base.found i at));
    }

-- ---- looked up

pub looked_up : (cells : List Cell) (elements : List Key) (number : ℕ) (e : Element) (result : Value)
    → IsFound cells elements number e → result ≡ value_at elements number
    → (element_in (followed [] cells) result ≡ e) × IsHeld (length cells) result
looked_up cells elements number e result f is = (
  ap (element_in (followed [] cells)) is ∙ f.same,
  subst (IsHeld (length cells)) (sym is) f.held,
)

pub looked_up_at : (cells : List Cell) (elements : List Key) (forks : List Fork) (tables : List (Option Table))
    (place : ℕ) (t : Table) (kind : Kind) (index : Value) (number leaf : ℕ) (result : Value)
    → AreTables cells elements forks tables → slice_get tables place ≡ Some (Some t) → IsServed t.kind kind
    → is_of_kind kind (element_of index) ≡ true → number ≡ number_of (element_of index) → number < 2 ^ bits_of kind
    → leaf ≡ element_at forks (bits_of kind) t.diagram number → result ≡ value_at elements leaf
    → (element_in (followed [] cells) result ≡ read (array_at (followed [] cells) place) (Plain (element_of index)))
    × IsHeld (length cells) result
looked_up_at cells elements forks tables place t kind index number leaf result are at serves of_kind same below e is =
    looked_up cells elements leaf _ result
    (subst (λ n. IsFound cells elements n (read (array_at (followed [] cells) place) (Plain (element_of index))))
    (sym (e ∙ ap (element_at forks (bits_of kind) t.diagram) same))
    (((are.each place t at).serves kind serves).found (element_of index)
    (of_kind, subst (λ n. n < 2 ^ bits_of kind) same below)))
    is

-- ---- a cell and its table are added, or neither

pub tables_added : {V E : Type 0} (r : Result V E) (cells new : List Cell) (elements : List Key) (forks : List Fork)
    (tables new_tables : List (Option Table)) (c : Cell) (t : Option Table) → AreTables cells elements forks tables
    → IsTableIfAny cells elements forks (made (followed [] cells) c) t
    → IfOk r (λ _. new ≡ cells ++ (c ∷ [])) → IfOk r (λ _. new_tables ≡ tables ++ (t ∷ []))
    → OnErr r (new ≡ cells) → OnErr r (new_tables ≡ tables) → AreTables new elements forks new_tables
tables_added (Ok v) cells new elements forks tables new_tables c t are is e k f g =
    subst (λ (xs : List Cell). AreTables xs elements forks new_tables) (sym e)
    (subst (λ ts. AreTables (cells ++ (c ∷ [])) elements forks ts) (sym k)
    (tables_more cells elements forks tables c t are is))
tables_added (Err x) cells new elements forks tables new_tables c t are is e k f g =
    subst (λ (xs : List Cell). AreTables xs elements forks new_tables) (sym f)
    (subst (λ ts. AreTables cells elements forks ts) (sym g) are)
