-- Why an operator has no rank is told exactly where it has none.
use Rattle.std.proofs.Common.{◌≡◌, ◌↔◌, inl, inr, ℕ, Bool, true, false, not, cond, ◌&&◌, List, [], ◌∷◌, Option}
use Rattle.std.proofs.Common.{Some, None, is_some, length, map, nat_lt, nat_le, option_map, refl, sym, ap, subst, ◌∙◌}
use Rattle.std.proofs.Common.{arith, rules}
use Rattle.std.specs.List.{list_all, position, position_or_len}
use Rattle.std.specs.Option.{option_or}
use Rattle.std.proofs.lemmas.List.{length-map}
use Rattle.std.proofs.lemmas.List.Sums.{AllPass-from_list_all, position_or_len_is}
use Rattle.smt_theory.specs.Misfits.{argument, argument_misfit, counts_of, first_no_number, first_other}
use Rattle.smt_theory.specs.Misfits.{first_other_width}
use Rattle.smt_theory.specs.Misfits.{is_bits, misfit_by, other_at, unless_ranked}
use Rattle.smt_theory.specs.Shapes.{AreNumbers, AreOf, HasShape, IsNumber, all_are, branch_sort, counts, rank_by}
use Rattle.smt_theory.specs.Shapes.{takes_count}
use Rattle.std.specs.Bool.{then_some}
use Rattle.smt_theory.specs.Sort.{Sort, Boolean, Int, Real, Bits, Array, is_number, is_same_sort}
use Rattle.smt_theory.specs.declared.misfits.RankFlaw.{RankFlaw}
use Rattle.smt_theory.specs.declared.misfits.RankFlaw.TheVariants.{Argument}
use Rattle.smt_theory.specs.declared.misfits.Wanted.TheVariants.{Only, AnyBits}
use Rattle.smt_theory.specs.declared.shapes.Arity.{Arity}
use Rattle.smt_theory.specs.declared.shapes.Arity.TheVariants.{Several}
use Rattle.smt_theory.specs.declared.shapes.Shape.{Shape}
use Rattle.smt_theory.specs.declared.shapes.Shape.TheVariants.{Constant, Uniform, Calculated, Numbers, Alike}
use Rattle.smt_theory.specs.declared.shapes.Shape.TheVariants.{Choice, Vectors, Joined, Selected, Stored, Filled}
use Rattle.smt_theory.specs.declared.shapes.Shape.TheVariants.{OutOfRange}
use Rattle.smt_theory.proofs.RankLemmas.{are_numbers-Decides, are_of-Decides, both, first_is, is_same_sort-Decides}
use Rattle.smt_theory.proofs.RankLemmas.{is_number-Decides, nat_le-Decides}
use Rattle.smt_theory.proofs.RankLemmas.{shape-row}

-- ---- each argument fits

lt_self : (n : ℕ) → nat_lt n n ≡ false
lt_self n = search rules

-- where all pass, none is the first that does not
none_other : (f : Sort → Bool) (xs : List Sort) → list_all f xs ≡ true → position (λ x. not (f x)) xs ≡ None
none_other f xs h =
    ap (λ n. cond (nat_lt n (length xs)) (Some n) None) ends
    ∙ ap (λ b. cond b (Some (length xs)) None) (lt_self (length xs))
  where
    ends : position_or_len (λ x. not (f x)) xs ≡ length xs
    ends = position_or_len_is (λ x. not (f x)) xs (length xs) Boolean (omega arith)
        (λ k below. ap not (AllPass-from_list_all f xs h k Boolean below)) (λ below. absurd (omega (arith, below)))

-- an operator of a shape takes so many arguments, and each one fits
abbrev Fits : Shape → List Sort → Type 0
Fits shape args = (takes_count (counts_of shape) (length args) ≡ true) × (argument_misfit shape args ≡ None)

none_but : (arity : Arity) (sort : Sort) (args : List Sort) → AreOf arity sort args
    → (takes_count (counts arity) (length args) ≡ true) × (first_other sort args ≡ None)
none_but arity sort args h =
    let passed = both _ _ ((are_of-Decides arity sort args).1 h) in
    (passed.0, ap (option_map (argument (Only sort))) (none_other (λ arg. is_same_sort arg sort) args passed.1))

-- the first of several arguments of one sort is of that sort
of_first : (arity : Arity) (sort first : Sort) (args : List Sort) → AreOf arity sort (first ∷ args)
    → first_other first (first ∷ args) ≡ None
of_first arity sort first args h =
    subst (λ s. first_other s (first ∷ args) ≡ None) (sym (first_is arity sort first args h))
    (none_but arity sort (first ∷ args) h).1

is_same_self : (sort : Sort) → is_same_sort sort sort ≡ true
is_same_self sort = (is_same_sort-Decides sort sort).1 refl

-- arguments of a number's sort are numbers
same_are_numbers : (sort : Sort) (args : List Sort) → is_number sort ≡ true → all_are sort args ≡ true
    → list_all is_number args ≡ true
same_are_numbers sort [] number h = refl
same_are_numbers sort (a ∷ args) number h =
    let passed = both (is_same_sort a sort) (all_are sort args) h in
    let here : is_number a ≡ true = ap is_number ((is_same_sort-Decides a sort).0 passed.0) ∙ number in
    rw here (same_are_numbers sort args number passed.1)

numbers_fit : (arity : Arity) (sort : Sort) (args : List Sort) → AreNumbers arity args
    → (takes_count (counts arity) (length args) ≡ true) × (first_no_number sort args ≡ None)
numbers_fit arity sort args h =
    let passed = both _ _ ((are_numbers-Decides arity args).1 h) in
    (passed.0, ap (option_map (argument (Only sort))) (none_other is_number args passed.1))

-- so many of a number's sort
same_fit : (arity : Arity) (own sort : Sort) (args : List Sort) → is_number own ≡ true → AreOf arity own args
    → (takes_count (counts arity) (length args) ≡ true) × (first_no_number sort args ≡ None)
same_fit arity own sort args number h =
    let passed = both _ _ ((are_of-Decides arity own args).1 h) in
    (passed.0, ap (option_map (argument (Only sort))) (none_other is_number args (same_are_numbers own args number passed.1)))

-- of two or more arguments of one sort
alike_fit : (sort a : Sort) (args : List Sort) → AreOf Several sort (a ∷ args) → Fits Alike (a ∷ args)
alike_fit sort a args h =
    ((none_but Several sort (a ∷ args) h).0, by (is_number a) (λ e. e))
  where
    own : AreOf Several a (a ∷ args)
    own = subst (λ s. AreOf Several s (a ∷ args)) (sym (first_is Several sort a args h)) h

    by : (b : Bool) → (b ≡ true → is_number a ≡ true)
        → cond b (first_no_number a (a ∷ args)) (first_other a (a ∷ args)) ≡ None
    by true number = (same_fit Several a a (a ∷ args) (number refl) own).1
    by false number = of_first Several sort a args h

numbers_alike : (a : Sort) (args : List Sort) → AreNumbers Several (a ∷ args) → Fits Alike (a ∷ args)
numbers_alike a args h =
    let fit = numbers_fit Several a (a ∷ args) h in
    let passed = both _ _ ((are_numbers-Decides Several (a ∷ args)).1 h) in
    let first = both (is_number a) (list_all is_number args) passed.1 in
    (fit.0, ap (λ b. cond b (first_no_number a (a ∷ args)) (first_other a (a ∷ args))) first.0 ∙ fit.1)

-- two branches that a choice takes
same_branch : (sort : Sort) → is_some (branch_sort sort sort) ≡ true
same_branch sort = ap (λ b. is_some (cond b (Some sort) (then_some (is_number sort && is_number sort) Real)))
    (is_same_self sort)

mixed_branch : (a b : Sort) → IsNumber a → IsNumber b → is_some (branch_sort a b) ≡ true
mixed_branch a b x y = by (is_same_sort a b) (is_number a) (is_number b) ((is_number-Decides a).1 x)
    ((is_number-Decides b).1 y)
  where
    by : (same p q : Bool) → p ≡ true → q ≡ true → is_some (cond same (Some a) (then_some (p && q) Real)) ≡ true
    by true p q h i = refl
    by false true true h i = refl
    by false true false h i = cc
    by false false q h i = cc

-- bit vectors are bit vectors
all_bits : (widths : List ℕ) → list_all is_bits (map Bits widths) ≡ true
all_bits [] = refl
all_bits (m ∷ widths) = all_bits widths

width_fits : (arity : Arity) (m : ℕ) (args : List Sort) → AreOf arity (Bits m) args → first_other_width args ≡ None
width_fits arity m [] h = refl
width_fits arity m (a ∷ args) h =
    subst (λ s. first_other_width (s ∷ args) ≡ None) (sym first)
    (none_but arity (Bits m) (Bits m ∷ args) (subst (λ s. AreOf arity (Bits m) (s ∷ args)) first h)).1
  where
    first : a ≡ Bits m
    first = first_is arity (Bits m) a args h

-- a sort is none other than itself
not_other : (place : ℕ) (sort : Sort) → other_at place sort sort ≡ None
not_other place sort = ap (λ b. cond b None (Some (Argument place (Only sort)))) (is_same_self sort)

fits : (shape : Shape) (args : List Sort) (sort : Sort) → HasShape shape args sort → Fits shape args
fits (Constant given) args sort h = subst (Fits (Constant given)) (sym h.0) (refl, refl)
fits (Uniform arity of given) args sort h = none_but arity of args h.0
fits (Calculated arity) args sort h = elim h [
  | inl a ↦ same_fit arity Int _ args refl a.0
  | inr n ↦ numbers_fit arity _ args n.0
]
fits (Numbers arity given) args sort h = numbers_fit arity _ args h.0
fits Alike [] sort h = absurd (elim h.0 [ inl a ↦ omega (arith, a.1.0) | inr n ↦ omega (arith, n.0) ])
fits Alike (a ∷ args) sort h =
    elim h.0 [ inl one ↦ alike_fit one.0 a args one.1 | inr n ↦ numbers_alike a args n ]
fits Choice args sort h = elim h [
  | inl is ↦ subst (Fits Choice) (sym is)
      (refl, ap (λ b. cond (not b) (Some (Argument 2 (Only sort))) None) (same_branch sort))
  | inr m ↦ subst (Fits Choice) (sym m.2)
      (refl, ap (λ b. cond (not b) (Some (Argument 2 (Only m.0))) None) (mixed_branch m.0 m.1 m.3.0 m.3.1))
]
fits (Vectors arity made) args sort h =
    ((none_but arity (Bits h.0) args h.1).0, width_fits arity h.0 args h.1)
fits Joined args sort h =
    subst (Fits Joined) (sym h.1) (
      ap (nat_le 2) (length-map h.0 Bits) ∙ (nat_le-Decides 2 (length h.0)).1 h.2,
      ap (option_map (argument AnyBits)) (none_other is_bits (map Bits h.0) (all_bits h.0)),
    )
fits Selected args sort h = subst (Fits Selected) (sym h.1) (refl, not_other 1 h.0)
fits Stored args sort h =
    subst (Fits Stored) (sym h.2) (refl, ap (λ r. option_or r (other_at 2 h.1 h.1)) (not_other 1 h.0) ∙ not_other 2 h.1)
fits (Filled given) args sort h =
    subst (λ (g : Sort). Fits (Filled g) args) (sym h.2)
    (subst (Fits (Filled (Array h.0 h.1))) (sym h.3) (refl, not_other 0 h.1))
fits OutOfRange args sort h = absurd h

-- ---- nothing is told exactly where there is a rank

nothing_told : (b : Bool) (m : Option RankFlaw) (r : Option Sort) (sort : Sort) (other : RankFlaw) → b ≡ true
    → m ≡ None → r ≡ Some sort → cond b (option_or m (unless_ranked r)) (Some other) ≡ None
nothing_told true None (Some s) sort other h i j = refl
nothing_told true None None sort other h i j = cc
nothing_told true (Some x) r sort other h i j = cc
nothing_told false m r sort other h i j = cc

pub exact : (shape : Shape) (args : List Sort) → (misfit_by shape args ≡ None) ↔ ((sort : Sort) × HasShape shape args sort)
exact shape args = (
  λ h. by (takes_count (counts_of shape) (length args)) (argument_misfit shape args) (rank_by shape args) refl _ h,
  λ r. let f = fits shape args r.0 r.1 in nothing_told _ _ _ r.0 _ f.0 f.1 ((shape-row shape args r.0).1 r.1),
)
  where
    by : (b : Bool) (m : Option RankFlaw) (r : Option Sort) → r ≡ rank_by shape args → (other : RankFlaw)
        → cond b (option_or m (unless_ranked r)) (Some other) ≡ None → (sort : Sort) × HasShape shape args sort
    by true None (Some s) e other h = (s, (shape-row shape args s).0 (sym e))
    by true None None e other h = cc
    by true (Some x) r e other h = cc
    by false m r e other h = cc
