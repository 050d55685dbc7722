-- Tests of sorts, and the ranks that are computed beside the table, shape by shape.
use Rattle.std.proofs.Common.{◌≡◌, ◌↔◌, ◌⊎◌, inl, inr, ℕ, ◌+◌, ◌-◌, ◌*◌, ◌<◌, ◌≤◌, ◌==◌, Bool, true, false, cond, ◌&&◌, ◌||◌, List}
use Rattle.std.proofs.Common.{[], ◌∷◌, Option, Some, None, length, map, get_or, nat_lt, nat_le, option_map, refl, sym}
use Rattle.std.proofs.Common.{ap, ◌∙◌, subst, arith, rules}
use Rattle.std.specs.Prelude.{All}
use Rattle.std.specs.Bool.{Decides, then_some}
use Rattle.std.specs.List.{list_all, sum}
use Rattle.std.specs.Option.{option_and_then}
use Rattle.std.proofs.lemmas.Bool.Decides.{Decides-eqb}
use Rattle.std.proofs.lemmas.List.Sums.{AllPass-from_list_all, list_all-from_AllPass, sum_by-cons}
use Rattle.std.proofs.lemmas.Slice.Eq.{slice_eq-Decides}
use Rattle.smt_theory.specs.Shapes.{AreNumbers, AreOf, HasShape, IsCount, IsMade, IsNumber, all_are, are_alike}
use Rattle.smt_theory.specs.Shapes.{are_exactly, are_numbers, are_of, calculated_rank, choice_rank, counts}
use Rattle.smt_theory.specs.Shapes.{filled_rank, selected_rank, stored_rank, takes_count}
use Rattle.smt_theory.specs.Shapes.{common_width, joined_width, made_by, rank_by, slice_width, times_width}
use Rattle.smt_theory.specs.Shapes.{width_behind, within_limit}
use Rattle.smt_theory.specs.Sort.{Sort, Boolean, Int, Real, Bits, Free, Array, is_number, is_same_sort}
use Rattle.smt_theory.specs.declared.shapes.Arity.{Arity}
use Rattle.smt_theory.specs.declared.shapes.Arity.TheVariants.{One, Two, OneOrMore, Several}
use Rattle.smt_theory.specs.declared.shapes.Made.{Made}
use Rattle.smt_theory.specs.declared.shapes.Made.TheVariants.{Same, Given, Slice, Times, Longer}
use Rattle.smt_theory.specs.declared.shapes.Shape.{Shape}
use Rattle.smt_theory.specs.declared.shapes.Shape.TheVariants.{Constant, Uniform, Calculated, Numbers, Alike}
use Rattle.smt_theory.specs.declared.shapes.Shape.TheVariants.{Choice, Vectors, Joined, Selected, Stored, Filled}
use Rattle.smt_theory.specs.declared.shapes.Shape.TheVariants.{OutOfRange}

pub is_same_sort-Decides : (a b : Sort) → Decides (is_same_sort a b) (a ≡ b)
is_same_sort-Decides Boolean Boolean = (λ _. refl, λ _. refl)
is_same_sort-Decides Boolean Int = (λ h. cc, λ h. cc)
is_same_sort-Decides Boolean Real = (λ h. cc, λ h. cc)
is_same_sort-Decides Boolean (Bits n) = (λ h. cc, λ h. cc)
is_same_sort-Decides Boolean (Free n) = (λ h. cc, λ h. cc)
is_same_sort-Decides Boolean (Array i e) = (λ h. cc, λ h. cc)
is_same_sort-Decides Int Boolean = (λ h. cc, λ h. cc)
is_same_sort-Decides Int Int = (λ _. refl, λ _. refl)
is_same_sort-Decides Int Real = (λ h. cc, λ h. cc)
is_same_sort-Decides Int (Bits n) = (λ h. cc, λ h. cc)
is_same_sort-Decides Int (Free n) = (λ h. cc, λ h. cc)
is_same_sort-Decides Int (Array i e) = (λ h. cc, λ h. cc)
is_same_sort-Decides Real Boolean = (λ h. cc, λ h. cc)
is_same_sort-Decides Real Int = (λ h. cc, λ h. cc)
is_same_sort-Decides Real Real = (λ _. refl, λ _. refl)
is_same_sort-Decides Real (Bits n) = (λ h. cc, λ h. cc)
is_same_sort-Decides Real (Free n) = (λ h. cc, λ h. cc)
is_same_sort-Decides Real (Array i e) = (λ h. cc, λ h. cc)
is_same_sort-Decides (Bits m) Boolean = (λ h. cc, λ h. cc)
is_same_sort-Decides (Bits m) Int = (λ h. cc, λ h. cc)
is_same_sort-Decides (Bits m) Real = (λ h. cc, λ h. cc)
is_same_sort-Decides (Bits m) (Bits n) = (λ h. ap Bits ((Decides-eqb m n).0 h), λ h. (Decides-eqb m n).1 (cc))
is_same_sort-Decides (Bits m) (Free n) = (λ h. cc, λ h. cc)
is_same_sort-Decides (Bits m) (Array i e) = (λ h. cc, λ h. cc)
is_same_sort-Decides (Free m) Boolean = (λ h. cc, λ h. cc)
is_same_sort-Decides (Free m) Int = (λ h. cc, λ h. cc)
is_same_sort-Decides (Free m) Real = (λ h. cc, λ h. cc)
is_same_sort-Decides (Free m) (Bits n) = (λ h. cc, λ h. cc)
is_same_sort-Decides (Free m) (Free n) = (λ h. ap Free ((Decides-eqb m n).0 h), λ h. (Decides-eqb m n).1 (cc))
is_same_sort-Decides (Free m) (Array i e) = (λ h. cc, λ h. cc)
is_same_sort-Decides (Array i e) Boolean = (λ h. cc, λ h. cc)
is_same_sort-Decides (Array i e) Int = (λ h. cc, λ h. cc)
is_same_sort-Decides (Array i e) Real = (λ h. cc, λ h. cc)
is_same_sort-Decides (Array i e) (Bits n) = (λ h. cc, λ h. cc)
is_same_sort-Decides (Array i e) (Free n) = (λ h. cc, λ h. cc)
is_same_sort-Decides (Array i e) (Array j f) =
    both_parts (is_same_sort i j) (is_same_sort e f) (is_same_sort-Decides i j) (is_same_sort-Decides e f)
  where
    both_parts : (p q : Bool) → Decides p (i ≡ j) → Decides q (e ≡ f) → Decides (p && q) (Array i e ≡ Array j f)
    both_parts true q d g = (λ h. ap (λ s. Array s e) (d.0 refl) ∙ ap (Array j) (g.0 h), λ h. let p : e ≡ f = cc in g.1 p)
    both_parts false q d g = (λ h. cc, λ h. let p : i ≡ j = cc in d.1 p)

pub are_exactly-Decides : (sorts args : List Sort) → Decides (are_exactly sorts args) (args ≡ sorts)
are_exactly-Decides sorts args =
    slice_eq-Decides is_same_sort-Decides args sorts (are_exactly sorts args) refl

-- of two tests and two facts
Decides-and : {P Q : Type 0} (p q : Bool) → Decides p P → Decides q Q → Decides (p && q) (P × Q)
Decides-and true q d e = (λ h. (d.0 refl, e.0 h), λ h. e.1 h.1)
Decides-and false q d e = (λ h. cc, λ h. d.1 h.0)

pub nat_le-Decides : (m n : ℕ) → Decides (nat_le m n) (m ≤ n)
nat_le-Decides m n = search rules

pub nat_lt-Decides : (m n : ℕ) → Decides (nat_lt m n) (m < n)
nat_lt-Decides m n = search rules

all_same-Decides : (sort : Sort) (args : List Sort) → Decides (all_are sort args) (All (λ arg. arg ≡ sort) args)
all_same-Decides sort args = (
  λ h k d below. (is_same_sort-Decides (get_or args k d) sort).0
      (AllPass-from_list_all (λ arg. is_same_sort arg sort) args h k d below),
  λ h. list_all-from_AllPass (λ arg. is_same_sort arg sort) args
      (λ k d below. (is_same_sort-Decides (get_or args k d) sort).1 (h k d below)),
)

pub both : (a b : Bool) → (a && b) ≡ true → (a ≡ true) × (b ≡ true)
both true b h = (refl, h)
both false b h = cc

-- a list of three or more has neither one nor two items
longer : (n k : ℕ) (b : Bool) → ((n == k) && b) ≡ true → k < n → ⊥
longer n k b h more = let e = (Decides-eqb n k).0 (both _ _ h).0 in omega arith

-- one or two arguments of a sort
one-Decides : (sort : Sort) (args : List Sort) → Decides (are_of One sort args) (args ≡ sort ∷ [])
one-Decides sort [] = (λ h. cc, λ h. cc)
one-Decides sort (a ∷ []) = by (is_same_sort a sort) (is_same_sort-Decides a sort)
  where
    by : (b : Bool) → Decides b (a ≡ sort) → Decides (b && true) (a ∷ [] ≡ sort ∷ [])
    by true d = (λ h. ap (λ s. s ∷ []) (d.0 refl), λ h. refl)
    by false d = (λ h. cc, λ h. d.1 (cc))
one-Decides sort (a ∷ b ∷ args) = (λ h. absurd (longer (length (a ∷ b ∷ args)) 1 _ h (omega arith)), λ h. cc)

two-Decides : (sort : Sort) (args : List Sort) → Decides (are_of Two sort args) (args ≡ sort ∷ sort ∷ [])
two-Decides sort [] = (λ h. cc, λ h. cc)
two-Decides sort (a ∷ []) = (λ h. cc, λ h. cc)
two-Decides sort (a ∷ b ∷ []) =
    by (is_same_sort a sort) (is_same_sort b sort) (is_same_sort-Decides a sort) (is_same_sort-Decides b sort)
  where
    by : (p q : Bool) → Decides p (a ≡ sort) → Decides q (b ≡ sort)
        → Decides (p && (q && true)) (a ∷ b ∷ [] ≡ sort ∷ sort ∷ [])
    by true true d e = (λ h. ap (λ s. s ∷ b ∷ []) (d.0 refl) ∙ ap (λ s. sort ∷ s ∷ []) (e.0 refl), λ h. refl)
    by true false d e = (λ h. cc, λ h. e.1 (cc))
    by false q d e = (λ h. cc, λ h. d.1 (cc))
two-Decides sort (a ∷ b ∷ c ∷ args) =
    (λ h. absurd (longer (length (a ∷ b ∷ c ∷ args)) 2 _ h (omega arith)), λ h. cc)

pub are_of-Decides : (arity : Arity) (sort : Sort) (args : List Sort)
    → Decides (are_of arity sort args) (AreOf arity sort args)
are_of-Decides One sort args = one-Decides sort args
are_of-Decides Two sort args = two-Decides sort args
are_of-Decides OneOrMore sort args =
    Decides-and (nat_le 1 (length args)) _ (nat_le-Decides 1 (length args)) (all_same-Decides sort args)
are_of-Decides Several sort args =
    Decides-and (nat_le 2 (length args)) _ (nat_le-Decides 2 (length args)) (all_same-Decides sort args)

-- the first of so many arguments of a sort is of that sort, and there is one
pub first_is : (arity : Arity) (sort first : Sort) (args : List Sort) → AreOf arity sort (first ∷ args) → first ≡ sort
first_is One sort first args h = cc
first_is Two sort first args h = cc
first_is OneOrMore sort first args h = h.1 0 sort (omega arith)
first_is Several sort first args h = h.1 0 sort (omega arith)

none_are : (arity : Arity) (sort : Sort) → AreOf arity sort [] → ⊥
none_are One sort h = absurd_of h
  where
    absurd_of : [] ≡ sort ∷ [] → ⊥
    absurd_of h = cc
none_are Two sort h = absurd_of h
  where
    absurd_of : [] ≡ sort ∷ sort ∷ [] → ⊥
    absurd_of h = cc
none_are OneOrMore sort h = let some = h.0 in omega arith
none_are Several sort h = let some = h.0 in omega arith

-- ---- numbers

pub is_number-Decides : (sort : Sort) → Decides (is_number sort) (IsNumber sort)
is_number-Decides Boolean = (λ h. cc, λ h. elim h [ inl e ↦ cc | inr e ↦ cc ])
is_number-Decides Int = (λ h. inl refl, λ h. refl)
is_number-Decides Real = (λ h. inr refl, λ h. refl)
is_number-Decides (Bits n) = (λ h. cc, λ h. elim h [ inl e ↦ cc | inr e ↦ cc ])
is_number-Decides (Free n) = (λ h. cc, λ h. elim h [ inl e ↦ cc | inr e ↦ cc ])
is_number-Decides (Array i f) = (λ h. cc, λ h. elim h [ inl e ↦ cc | inr e ↦ cc ])

all_numbers-Decides : (args : List Sort) → Decides (list_all is_number args) (All IsNumber args)
all_numbers-Decides args = (
  λ h k d below. (is_number-Decides (get_or args k d)).0 (AllPass-from_list_all is_number args h k d below),
  λ h. list_all-from_AllPass is_number args (λ k d below. (is_number-Decides (get_or args k d)).1 (h k d below)),
)

count-Decides : (arity : Arity) (n : ℕ) → Decides (takes_count (counts arity) n) (IsCount arity n)
count-Decides One n = Decides-eqb n 1
count-Decides Two n = Decides-eqb n 2
count-Decides OneOrMore n = nat_le-Decides 1 n
count-Decides Several n = nat_le-Decides 2 n

pub are_numbers-Decides : (arity : Arity) (args : List Sort) → Decides (are_numbers arity args) (AreNumbers arity args)
are_numbers-Decides arity args =
    Decides-and (takes_count (counts arity) (length args)) _ (count-Decides arity (length args))
    (all_numbers-Decides args)

calculated-row : (arity : Arity) (args : List Sort) (sort : Sort) → (calculated_rank arity args ≡ Some sort)
    ↔ HasShape (Calculated arity) args sort
calculated-row arity args sort =
    by (are_of arity Int args) (are_numbers arity args) (are_of-Decides arity Int args) (are_numbers-Decides arity args)
  where
    by : (p q : Bool) → Decides p (AreOf arity Int args) → Decides q (AreNumbers arity args)
        → (cond p (Some Int) (then_some q Real) ≡ Some sort) ↔ HasShape (Calculated arity) args sort
    by true q d e = (
      λ h. inl (d.0 refl, cc),
      λ h. elim h [ inl a ↦ (let is = a.1 in cc) | inr n ↦ absurd (n.1 (d.0 refl)) ],
    )
    by false true d e = (
      λ h. inr (e.0 refl, (λ a. let x : false ≡ true = d.1 a in cc), cc),
      λ h. elim h [ inl a ↦ (let x : false ≡ true = d.1 a.0 in cc) | inr n ↦ (let is = n.2 in cc) ],
    )
    by false false d e = (
      λ h. cc,
      λ h. elim h [
        | inl a ↦ (let x : false ≡ true = d.1 a.0 in cc)
        | inr n ↦ (let x : false ≡ true = e.1 n.0 in cc)
      ],
    )

-- of two tests of which one passes
Decides-or : {P Q : Type 0} (p q : Bool) → Decides p P → Decides q Q → Decides (p || q) (P ⊎ Q)
Decides-or true q d e = (λ h. inl (d.0 refl), λ h. refl)
Decides-or false q d e =
    (λ h. inr (e.0 h), λ h. elim h [ inl x ↦ (let y : false ≡ true = d.1 x in cc) | inr y ↦ e.1 y ])

alike-Decides : (args : List Sort) → Decides (are_alike args) ((sort : Sort) × AreOf Several sort args)
alike-Decides [] = (λ h. cc, λ h. absurd (none_are Several h.0 h.1))
alike-Decides (arg ∷ args) = (
  λ h. (arg, (are_of-Decides Several arg (arg ∷ args)).0 h),
  λ h. (are_of-Decides Several arg (arg ∷ args)).1
      (subst (λ one. AreOf Several one (arg ∷ args)) (sym (first_is Several h.0 arg args h.1)) h.1),
)

-- ---- shapes without widths

-- one row of the table, computed
row : {P : Type 0} (b : Bool) (given sort : Sort) → Decides b P → (then_some b given ≡ Some sort)
    ↔ (P × (sort ≡ given))
row true given sort d = (λ h. (d.0 refl, cc), λ h. cc)
row false given sort d = (λ h. cc, λ h. absurd (none (d.1 h.0)))
  where
    none : false ≡ true → ⊥
    none h = cc

choice-row : (args : List Sort) (sort : Sort) → (choice_rank args ≡ Some sort) ↔ HasShape Choice args sort
choice-row [] sort = (λ h. cc, λ h. elim h [ inl e ↦ cc | inr m ↦ (let e = m.2 in cc) ])
choice-row (a ∷ []) sort = (λ h. cc, λ h. elim h [ inl e ↦ cc | inr m ↦ (let e = m.2 in cc) ])
choice-row (a ∷ b ∷ []) sort = (λ h. cc, λ h. elim h [ inl e ↦ cc | inr m ↦ (let e = m.2 in cc) ])
choice-row (a ∷ b ∷ c ∷ d ∷ args) sort = (λ h. cc, λ h. elim h [ inl e ↦ cc | inr m ↦ (let e = m.2 in cc) ])
choice-row (a ∷ b ∷ c ∷ []) sort =
    by (is_same_sort a Boolean) (is_same_sort b c) (is_number b && is_number c) (is_same_sort-Decides a Boolean)
    (is_same_sort-Decides b c) (Decides-and _ _ (is_number-Decides b) (is_number-Decides c))
  where
    by : (t u v : Bool) → Decides t (a ≡ Boolean) → Decides u (b ≡ c) → Decides v (IsNumber b × IsNumber c)
        → (cond t (cond u (Some b) (then_some v Real)) None ≡ Some sort) ↔ HasShape Choice (a ∷ b ∷ c ∷ []) sort
    by true true v d e f = (
      λ h. inl (let x = d.0 refl in let y = e.0 refl in cc),
      λ h. elim h [
        | inl is ↦ cc
        | inr m ↦ absurd (m.3.2 (let x = e.0 refl in let is = m.2 in cc))
      ],
    )
    by true false true d e f = (
      λ h. inr (b, c, (let x = d.0 refl in cc), ((f.0 refl).0, (f.0 refl).1, λ y. let z : false ≡ true = e.1 y in cc), cc),
      λ h. elim h [
        | inl is ↦ (let z : false ≡ true = e.1 (cc) in cc)
        | inr m ↦ (let is = m.4 in cc)
      ],
    )
    by true false false d e f = (
      λ h. cc,
      λ h. elim h [
        | inl is ↦ (let z : false ≡ true = e.1 (cc) in cc)
        | inr m ↦ (let z : false ≡ true = f.1 (
          subst IsNumber (first m.0 m.1 m.2) m.3.0,
          subst IsNumber (second m.0 m.1 m.2) m.3.1,
        ) in cc)
      ],
    )
      where
        first : (x y : Sort) → a ∷ b ∷ c ∷ [] ≡ Boolean ∷ x ∷ y ∷ [] → x ≡ b
        first x y is = cc

        second : (x y : Sort) → a ∷ b ∷ c ∷ [] ≡ Boolean ∷ x ∷ y ∷ [] → y ≡ c
        second x y is = cc
    by false u v d e f = (
      λ h. cc,
      λ h. elim h [
        | inl is ↦ (let z : false ≡ true = d.1 (cc) in cc)
        | inr m ↦ (let z : false ≡ true = d.1 (let is = m.2 in cc) in cc)
      ],
    )

-- ---- shapes with widths

-- the width of so many bit vectors of one width
common_width-is : (arity : Arity) (args : List Sort) (m : ℕ) → (common_width arity args ≡ Some m)
    ↔ AreOf arity (Bits m) args
common_width-is arity [] m = (λ h. cc, λ h. absurd (none_are arity (Bits m) h))
common_width-is arity (Boolean ∷ args) m = (λ h. cc, λ h. let e = first_is arity (Bits m) Boolean args h in cc)
common_width-is arity (Int ∷ args) m = (λ h. cc, λ h. let e = first_is arity (Bits m) Int args h in cc)
common_width-is arity (Real ∷ args) m = (λ h. cc, λ h. let e = first_is arity (Bits m) Real args h in cc)
common_width-is arity (Free f ∷ args) m = (λ h. cc, λ h. let e = first_is arity (Bits m) (Free f) args h in cc)
common_width-is arity (Array i f ∷ args) m = (λ h. cc, λ h. let e = first_is arity (Bits m) (Array i f) args h in cc)
common_width-is arity (Bits n ∷ args) m =
    by (are_of arity (Bits n) (Bits n ∷ args)) (are_of-Decides arity (Bits n) (Bits n ∷ args))
  where
    same : AreOf arity (Bits m) (Bits n ∷ args) → AreOf arity (Bits n) (Bits n ∷ args)
    same h = subst (λ s. AreOf arity s (Bits n ∷ args)) (sym (first_is arity (Bits m) (Bits n) args h)) h

    by : (b : Bool) → Decides b (AreOf arity (Bits n) (Bits n ∷ args)) → (cond b (Some n) None ≡ Some m)
        ↔ AreOf arity (Bits m) (Bits n ∷ args)
    by true d = (
      λ h. let e : n ≡ m = cc in subst (λ k. AreOf arity (Bits k) (Bits n ∷ args)) e (d.0 refl),
      λ h. let e = first_is arity (Bits m) (Bits n) args h in cc,
    )
    by false d = (λ h. cc, λ h. let e : false ≡ true = d.1 (same h) in cc)

-- what is made of bit vectors of one width
when-row : {P : Type 0} (b : Bool) (width : ℕ) (sort : Sort) → Decides b P
    → (option_map Bits (cond b (Some width) None) ≡ Some sort) ↔ (P × (sort ≡ Bits width))
when-row true width sort d = (λ h. (d.0 refl, cc), λ h. let e = h.1 in cc)
when-row false width sort d = (λ h. cc, λ h. let e : false ≡ true = d.1 h.0 in cc)

same-row : (given sort : Sort) → (Some given ≡ Some sort) ↔ (sort ≡ given)
same-row given sort = (λ h. cc, λ h. cc)

slice-row : (i j m : ℕ) (sort : Sort) → (option_map Bits (slice_width i j m) ≡ Some sort)
    ↔ ((j ≤ i) × (i < m) × (sort ≡ Bits (i - j + 1)))
slice-row i j m sort =
    let row = when-row (nat_le j i && nat_lt i m) (i - j + 1) sort
    (Decides-and (nat_le j i) (nat_lt i m) (nat_le-Decides j i) (nat_lt-Decides i m)) in
    (λ h. let r = row.0 h in (r.0.0, r.0.1, r.1), λ h. row.1 ((h.0, h.1), h.2))

within-row : (width : ℕ) (sort : Sort) → (option_map Bits (within_limit width) ≡ Some sort)
    ↔ ((width ≤ 128) × (sort ≡ Bits width))
within-row width sort = when-row (nat_le width 128) width sort (nat_le-Decides width 128)

times-row : (i m : ℕ) (sort : Sort) → (option_map Bits (times_width i m) ≡ Some sort)
    ↔ ((1 ≤ i) × (i * m ≤ 128) × (sort ≡ Bits (i * m)))
times-row i m sort = by (nat_le 1 i) (nat_le-Decides 1 i) (within-row (i * m) sort)
  where
    by : (b : Bool) → Decides b (1 ≤ i)
        → ((option_map Bits (within_limit (i * m)) ≡ Some sort) ↔ ((i * m ≤ 128) × (sort ≡ Bits (i * m))))
        → (option_map Bits (cond b (within_limit (i * m)) None) ≡ Some sort)
        ↔ ((1 ≤ i) × (i * m ≤ 128) × (sort ≡ Bits (i * m)))
    by true d row = (λ h. let r = row.0 h in (d.0 refl, r.0, r.1), λ h. row.1 (h.1, h.2))
    by false d row = (λ h. cc, λ h. let e : false ≡ true = d.1 h.0 in cc)

made-row : (made : Made) (m : ℕ) (sort : Sort) → (made_by made m ≡ Some sort) ↔ IsMade made m sort
made-row Same m sort = same-row (Bits m) sort
made-row (Given given) m sort = same-row given sort
made-row (Slice i j) m sort = slice-row i j m sort
made-row (Times i) m sort = times-row i m sort
made-row (Longer i) m sort = within-row (m + i) sort

vectors-row : (arity : Arity) (made : Made) (args : List Sort) (sort : Sort)
    → (option_and_then (made_by made) (common_width arity args) ≡ Some sort)
    ↔ HasShape (Vectors arity made) args sort
vectors-row arity made args sort = by (common_width arity args) (common_width-is arity args)
  where
    by : (o : Option ℕ) → ((m : ℕ) → (o ≡ Some m) ↔ AreOf arity (Bits m) args)
        → (option_and_then (made_by made) o ≡ Some sort) ↔ HasShape (Vectors arity made) args sort
    by None is = (λ h. cc, λ h. let e : None ≡ Some h.0 = (is h.0).1 h.1 in cc)
    by (Some n) is = (
      λ h. (n, (is n).0 refl, (made-row made n sort).0 h),
      λ h. let e : Some n ≡ Some h.0 = (is h.0).1 h.1 in made_of h.0 e h.2,
    )
      where
        made_of : (m : ℕ) → Some n ≡ Some m → IsMade made m sort → made_by made n ≡ Some sort
        made_of m e h = ap (option_and_then (made_by made)) e ∙ (made-row made m sort).1 h

-- ---- bit vectors one behind the other

sum-cons : (m : ℕ) (widths : List ℕ) → sum (m ∷ widths) ≡ m + sum widths
sum-cons m widths = sum_by-cons (λ n. n) m widths

width_behind-own : (args : List Sort) (before width : ℕ) → width_behind before args ≡ Some width
    → (widths : List ℕ) × (args ≡ map Bits widths) × (width ≡ before + sum widths)
    × (before ≤ 128 → width ≤ 128)
width_behind-own [] before width h = (
  [],
  refl,
  (let e : before ≡ width = cc in omega arith),
  λ le.
      (let e : before ≡ width = cc in omega arith),
)
width_behind-own (Boolean ∷ args) before width h = cc
width_behind-own (Int ∷ args) before width h = cc
width_behind-own (Real ∷ args) before width h = cc
width_behind-own (Free f ∷ args) before width h = cc
width_behind-own (Array i f ∷ args) before width h = cc
width_behind-own (Bits m ∷ args) before width h = by (nat_le (before + m) 128)
    (nat_le-Decides (before + m) 128).0 (width_behind-own args (before + m) width) h
  where
    by : (b : Bool) → (b ≡ true → before + m ≤ 128)
        → (width_behind (before + m) args ≡ Some width
        → (widths : List ℕ) × (args ≡ map Bits widths) × (width ≡ before + m + sum widths)
        × (before + m ≤ 128 → width ≤ 128))
        → option_and_then (λ w. width_behind w args) (cond b (Some (before + m)) None) ≡ Some width
        → (widths : List ℕ) × (Bits m ∷ args ≡ map Bits widths) × (width ≡ before + sum widths)
        × (before ≤ 128 → width ≤ 128)
    by true le own h = let r = own h
        in (
          m ∷ r.0,
          ap (λ ss. Bits m ∷ ss) r.1,
          (let e = r.2 in let s = sum-cons m r.0 in omega arith),
          λ _. r.3 (le refl),
        )
    by false le own h = cc

width_behind-found : (widths : List ℕ) (before : ℕ) → before + sum widths ≤ 128
    → width_behind before (map Bits widths) ≡ Some (before + sum widths)
width_behind-found [] before h = ap Some (omega arith)
width_behind-found (m ∷ widths) before h =
    let s = sum-cons m widths in
    let le : nat_le (before + m) 128 ≡ true = (nat_le-Decides (before + m) 128).1 (omega arith) in
    let rest = width_behind-found widths (before + m) (omega arith) in
    let e : before + m + sum widths ≡ before + sum (m ∷ widths) = omega arith in
    rw le (rest ∙ ap Some e)

joined-own : (args : List Sort) (width : ℕ) → joined_width args ≡ Some width
    → (widths : List ℕ) × (args ≡ map Bits widths) × (2 ≤ length widths) × (sum widths ≤ 128)
    × (width ≡ sum widths)
joined-own [] width h = cc
joined-own (Boolean ∷ args) width h = cc
joined-own (Int ∷ args) width h = cc
joined-own (Real ∷ args) width h = cc
joined-own (Free f ∷ args) width h = cc
joined-own (Array i f ∷ args) width h = cc
joined-own (Bits m ∷ []) width h = cc
joined-own (Bits m ∷ Boolean ∷ args) width h = cc
joined-own (Bits m ∷ Int ∷ args) width h = cc
joined-own (Bits m ∷ Real ∷ args) width h = cc
joined-own (Bits m ∷ Free f ∷ args) width h = cc
joined-own (Bits m ∷ Array i f ∷ args) width h = cc
joined-own (Bits m ∷ Bits n ∷ args) width h = by (nat_le (m + n) 128) (nat_le-Decides (m + n) 128).0 h
  where
    by : (b : Bool) → (b ≡ true → m + n ≤ 128)
        → option_and_then (λ w. width_behind w args) (cond b (Some (m + n)) None) ≡ Some width
        → (widths : List ℕ) × (Bits m ∷ Bits n ∷ args ≡ map Bits widths) × (2 ≤ length widths)
        × (sum widths ≤ 128) × (width ≡ sum widths)
    by false le h = cc
    by true le h =
        let r = width_behind-own args (m + n) width h in
        let within = r.3 (le refl) in
        let is = r.2 in
        let s = sum-cons m (n ∷ r.0) in
        let t = sum-cons n r.0 in
        (m ∷ n ∷ r.0, ap (λ ss. Bits m ∷ Bits n ∷ ss) r.1, omega arith, omega arith, omega arith)

joined-found : (widths : List ℕ) → 2 ≤ length widths → sum widths ≤ 128
    → joined_width (map Bits widths) ≡ Some (sum widths)
joined-found [] h le = absurd (none h)
  where
    none : 2 ≤ 0 → ⊥
    none h = omega arith
joined-found (m ∷ []) h le = absurd (none h)
  where
    none : 2 ≤ 1 → ⊥
    none h = omega arith
joined-found (m ∷ n ∷ widths) h le =
    let s = sum-cons m (n ∷ widths) in width_behind-found (n ∷ widths) m (omega arith) ∙ ap Some (sym s)

joined-row : (args : List Sort) (sort : Sort) → (option_map Bits (joined_width args) ≡ Some sort)
    ↔ HasShape Joined args sort
joined-row args sort = (
  λ h. own (joined_width args) refl h,
  λ h. rw (h.1, h.4)
      (ap (option_map Bits) (joined-found h.0 h.2 h.3)),
)
  where
    own : (o : Option ℕ) → joined_width args ≡ o → option_map Bits o ≡ Some sort
        → HasShape Joined args sort
    own None e h = cc
    own (Some width) e h = let r = joined-own args width e in (r.0, r.1, r.2, r.3, (let is = r.4 in cc))

-- ---- arrays

selected-own : (args : List Sort) (sort : Sort) → selected_rank args ≡ Some sort → HasShape Selected args sort
selected-own [] sort h = cc
selected-own (Boolean ∷ args) sort h = cc
selected-own (Int ∷ args) sort h = cc
selected-own (Real ∷ args) sort h = cc
selected-own (Bits m ∷ args) sort h = cc
selected-own (Free f ∷ args) sort h = cc
selected-own (Array i e ∷ []) sort h = cc
selected-own (Array i e ∷ j ∷ k ∷ args) sort h = cc
selected-own (Array i e ∷ j ∷ []) sort h = by (is_same_sort i j) (is_same_sort-Decides i j).0 h
  where
    by : (b : Bool) → (b ≡ true → i ≡ j) → then_some b e ≡ Some sort → HasShape Selected (Array i e ∷ j ∷ []) sort
    by true same h =
        let own : e ≡ sort = cc in
        (i, ap (λ s. Array i s ∷ j ∷ []) own ∙ ap (λ k. Array i sort ∷ k ∷ []) (sym (same refl)))
    by false same h = cc

selected-row : (args : List Sort) (sort : Sort) → (selected_rank args ≡ Some sort) ↔ HasShape Selected args sort
selected-row args sort = (
  selected-own args sort,
  λ h. rw h.1 (ap (λ b. then_some b sort) ((is_same_sort-Decides h.0 h.0).1 refl)),
)

stored-own : (args : List Sort) (sort : Sort) → stored_rank args ≡ Some sort → HasShape Stored args sort
stored-own [] sort h = cc
stored-own (Boolean ∷ args) sort h = cc
stored-own (Int ∷ args) sort h = cc
stored-own (Real ∷ args) sort h = cc
stored-own (Bits m ∷ args) sort h = cc
stored-own (Free f ∷ args) sort h = cc
stored-own (Array i e ∷ []) sort h = cc
stored-own (Array i e ∷ j ∷ []) sort h = cc
stored-own (Array i e ∷ j ∷ f ∷ k ∷ args) sort h = cc
stored-own (Array i e ∷ j ∷ f ∷ []) sort h =
    by (is_same_sort i j) (is_same_sort e f) (is_same_sort-Decides i j).0 (is_same_sort-Decides e f).0 h
  where
    by : (b c : Bool) → (b ≡ true → i ≡ j) → (c ≡ true → e ≡ f) → then_some (b && c) (Array i e) ≡ Some sort
        → HasShape Stored (Array i e ∷ j ∷ f ∷ []) sort
    by true true same alike h = (
      i,
      e,
      ap (λ k. Array i e ∷ k ∷ f ∷ []) (sym (same refl)) ∙ ap (λ k. Array i e ∷ i ∷ k ∷ []) (sym (alike refl)),
      (let own : Array i e ≡ sort = cc in sym own),
    )
    by true false same alike h = cc
    by false c same alike h = cc

stored-row : (args : List Sort) (sort : Sort) → (stored_rank args ≡ Some sort) ↔ HasShape Stored args sort
stored-row args sort = (
  stored-own args sort,
  λ h. rw (h.2, h.3)
      (ap (λ b. then_some (b && is_same_sort h.1 h.1) (Array h.0 h.1)) ((is_same_sort-Decides h.0 h.0).1 refl)
      ∙ ap (λ b. then_some b (Array h.0 h.1)) ((is_same_sort-Decides h.1 h.1).1 refl)),
)

filled-own : (given : Sort) (args : List Sort) (sort : Sort) → filled_rank given args ≡ Some sort
    → HasShape (Filled given) args sort
filled-own Boolean args sort h = cc
filled-own Int args sort h = cc
filled-own Real args sort h = cc
filled-own (Bits m) args sort h = cc
filled-own (Free f) args sort h = cc
filled-own (Array i e) [] sort h = cc
filled-own (Array i e) (f ∷ g ∷ args) sort h = cc
filled-own (Array i e) (f ∷ []) sort h = by (is_same_sort e f) (is_same_sort-Decides e f).0 h
  where
    by : (b : Bool) → (b ≡ true → e ≡ f) → then_some b (Array i e) ≡ Some sort
        → HasShape (Filled (Array i e)) (f ∷ []) sort
    by true same h =
        (i, e, refl, ap (λ k. k ∷ []) (sym (same refl)), (let own : Array i e ≡ sort = cc in sym own))
    by false same h = cc

filled-row : (given : Sort) (args : List Sort) (sort : Sort) → (filled_rank given args ≡ Some sort)
    ↔ HasShape (Filled given) args sort
filled-row given args sort = (
  filled-own given args sort,
  λ h. rw (h.4, h.3, h.2) (ap (λ b. then_some b (Array h.0 h.1)) ((is_same_sort-Decides h.1 h.1).1 refl)),
)

-- ---- all shapes

pub shape-row : (shape : Shape) (args : List Sort) (sort : Sort) → (rank_by shape args ≡ Some sort)
    ↔ HasShape shape args sort
shape-row (Constant given) args sort = row (are_exactly [] args) given sort (are_exactly-Decides [] args)
shape-row (Uniform arity of given) args sort = row (are_of arity of args) given sort (are_of-Decides arity of args)
shape-row (Calculated arity) args sort = calculated-row arity args sort
shape-row (Numbers arity given) args sort = row (are_numbers arity args) given sort (are_numbers-Decides arity args)
shape-row Alike args sort =
    row (are_alike args || are_numbers Several args) Boolean sort
    (Decides-or (are_alike args) (are_numbers Several args) (alike-Decides args) (are_numbers-Decides Several args))
shape-row Choice args sort = choice-row args sort
shape-row (Vectors arity made) args sort = vectors-row arity made args sort
shape-row Joined args sort = joined-row args sort
shape-row Selected args sort = selected-row args sort
shape-row Stored args sort = stored-row args sort
shape-row (Filled given) args sort = filled-row given args sort
shape-row OutOfRange args sort = (λ h. cc, λ h. absurd h)

-- what is computed has one answer, and so has a shape
pub one_rank : (shape : Shape) (args : List Sort) (a b : Sort) → HasShape shape args a → HasShape shape args b → a ≡ b
one_rank shape args a b x y = by (rank_by shape args) ((shape-row shape args a).1 x) ((shape-row shape args b).1 y)
  where
    by : (o : Option Sort) → o ≡ Some a → o ≡ Some b → a ≡ b
    by o e f = cc
