-- A loop over arguments that may be open gives what is defined of all of them, where they are known.
use Rattle.std.proofs.Common.{◌≡◌, ◌≢◌, ℕ, ◌+◌, ◌<◌, ◌≤◌, ◌-◌, ℤ, Bool, true, false, not, ◌&&◌, ◌||◌, List}
use Rattle.std.proofs.Common.{[], ◌∷◌, ◌++◌, Option, Some, None, is_some, length, take, drop, get_or, refl}
use Rattle.std.proofs.Common.{sym, ap, ◌∙◌, add-one, drop-cons, arith}
use Rattle.std.proofs.lemmas.Grind.{common_steps}
use Rattle.std.proofs.lemmas.List.{length-map}
use Rattle.std.specs.Option.{MatchOption}
use Rattle.smt_theory.specs.declared.op.Arithmetic.{Arithmetic}
use Rattle.smt_theory.specs.declared.op.Arithmetic.TheVariants.{Minus, Plus, Times, Div}
use Rattle.smt_values.specs.Internal.Same.{is_same_known}
use Rattle.std.specs.Prelude.{if◌then◌else◌, map, fold, option_map, option_and_then}
use Rattle.std.specs.List.{list_all, list_any}
use Rattle.smt_values.specs.declared.value.Value.{Value}
use Rattle.smt_values.specs.Element.{Element, Truth, Integer, Fraction, Vector, Abstract, element_of, known_element}
use Rattle.smt_values.specs.Element.{known_elements}
use Rattle.smt_values.specs.KnownOperations.{as_disjunction, decided, is_known, known_abs, known_arithmetic}
use Rattle.smt_values.specs.KnownOperations.{known_divisible, known_from_left, known_integer, known_integers}
use Rattle.smt_values.specs.KnownOperations.{known_mod, known_truth}
use Rattle.smt_values.specs.Operations.{is_same, exclusive_or}
use Rattle.smt_values.specs.Lists.{all_known, are_chained, are_distinct, only_one, steps_from}

pub list_any-map : {A B : Type 0} (p : B → Bool) (f : A → B) (xs : List A)
    → list_any p (map f xs) ≡ list_any (λ x. p (f x)) xs
list_any-map p f [] = refl
list_any-map p f (x ∷ xs) = ap (λ b. p (f x) || b) (list_any-map p f xs)

pub list_all-map : {A B : Type 0} (p : B → Bool) (f : A → B) (xs : List A)
    → list_all p (map f xs) ≡ list_all (λ x. p (f x)) xs
list_all-map p f [] = refl
list_all-map p f (x ∷ xs) = ap (λ b. p (f x) && b) (list_all-map p f xs)

-- ---- one more argument, which is known or open

pub map_more : {A B : Type 0} (f : List A → B) (x : Option A) (y : A) (xs : List (Option A)) → x ≡ Some y
    → option_map f (all_known (x ∷ xs)) ≡ option_map (λ ys. f (y ∷ ys)) (all_known xs)
map_more f x y xs e = ap (λ o. option_map f (all_known (o ∷ xs))) e ∙ by (all_known xs)
  where
    by : (o : _) → option_map f (option_map (λ ys. y ∷ ys) o) ≡ option_map (λ ys. f (y ∷ ys)) o
    by None = refl
    by (Some ys) = refl

pub map_open : {A B : Type 0} (f : List A → B) (x : Option A) (xs : List (Option A)) → x ≡ None
    → option_map f (all_known (x ∷ xs)) ≡ None
map_open f x xs e = ap (λ o. option_map f (all_known (o ∷ xs))) e

pub then_more : {A B : Type 0} (f : List A → Option B) (x : Option A) (y : A) (xs : List (Option A))
    → x ≡ Some y
    → option_and_then f (all_known (x ∷ xs)) ≡ option_and_then (λ ys. f (y ∷ ys)) (all_known xs)
then_more f x y xs e = ap (λ o. option_and_then f (all_known (o ∷ xs))) e ∙ by (all_known xs)
  where
    by : (o : _) → option_and_then f (option_map (λ ys. y ∷ ys) o) ≡ option_and_then (λ ys. f (y ∷ ys)) o
    by None = refl
    by (Some ys) = refl

pub then_open : {A B : Type 0} (f : List A → Option B) (x : Option A) (xs : List (Option A)) → x ≡ None
    → option_and_then f (all_known (x ∷ xs)) ≡ None
then_open f x xs e = ap (λ o. option_and_then f (all_known (o ∷ xs))) e

pub then_none : {A B : Type 0} (o : Option A) → option_and_then {T = A} {U = B} (λ x. None) o ≡ None
then_none None = refl
then_none (Some x) = refl

-- ---- the argument at a place

pub drop_at : (xs : List (Option Value)) (i : ℕ) (x : Option Value) → i < length xs → x ≡ get_or xs i x
    → drop i xs ≡ x ∷ drop (i + 1) xs
drop_at xs i x below is = drop-cons xs i x below ∙ ap (λ n. get_or xs i x ∷ drop n xs) (sym (add-one i)) ∙ ap
    (λ y. y ∷ drop (i + 1) xs) (sym is)

-- where g makes what is known of one argument, and of each
module _ {A : Type 0} (one : Option Value → Option A) (g : List (Option Value) → List (Option A))
    (each : (x : Option Value) (xs : List (Option Value)) → g (x ∷ xs) ≡ one x ∷ g xs) where
  pub map_at : {B : Type 0} (f : List A → B) (xs : List (Option Value)) (i : ℕ) (x : Option Value) (y : A)
      → i < length xs → x ≡ get_or xs i x → one x ≡ Some y
      → option_map f (all_known (g (drop i xs)))
      ≡ option_map (λ ys. f (y ∷ ys)) (all_known (g (drop (i + 1) xs)))
  map_at f xs i x y below is e =
      ap (λ zs. option_map f (all_known (g zs))) (drop_at xs i x below is) ∙ ap
      (λ zs. option_map f (all_known zs)) (each x (drop (i + 1) xs))
      ∙ map_more f (one x) y (g (drop (i + 1) xs)) e

  pub then_at : {B : Type 0} (f : List A → Option B) (xs : List (Option Value)) (i : ℕ) (x : Option Value)
      (y : A) → i < length xs → x ≡ get_or xs i x → one x ≡ Some y
      → option_and_then f (all_known (g (drop i xs)))
      ≡ option_and_then (λ ys. f (y ∷ ys)) (all_known (g (drop (i + 1) xs)))
  then_at f xs i x y below is e =
      ap (λ zs. option_and_then f (all_known (g zs))) (drop_at xs i x below is) ∙ ap
      (λ zs. option_and_then f (all_known zs)) (each x (drop (i + 1) xs))
      ∙ then_more f (one x) y (g (drop (i + 1) xs)) e

-- ---- the steps of the loops

pub parity_at : (xs : List (Option Value)) (i : ℕ) (x : Option Value) (odd b : Bool) → i < length xs
    → x ≡ get_or xs i x → known_truth (known_element x) ≡ Some b
    → option_map (λ bs. Truth (fold exclusive_or odd bs))
    (all_known (map known_truth (known_elements (drop i xs))))
    ≡ option_map (λ bs. Truth (fold exclusive_or (exclusive_or odd b) bs))
    (all_known (map known_truth (known_elements (drop (i + 1) xs))))
parity_at xs i x odd b below is e =
    map_at (λ x. known_truth (known_element x)) (λ xs. map known_truth (known_elements xs)) (λ x xs. refl)
    (λ bs. Truth (fold exclusive_or odd bs)) xs i x b below is e

pub and_assoc : (a b c : Bool) → (a && (b && c)) ≡ ((a && b) && c)
and_assoc true b c = refl
and_assoc false b c = refl

-- a chain of what is known of each argument
module _ {A : Type 0} (one : Option Element → Option A) (relation : A → A → Bool) where
  pub chained_at : (xs : List (Option Value)) (i : ℕ) (x : Option Value) (holds still : Bool) (last next now : A)
      → i < length xs → x ≡ get_or xs i x → one (known_element x) ≡ Some next
      → (holds && relation last next) ≡ still → next ≡ now
      → option_map (λ zs. holds && are_chained relation (last ∷ zs))
      (all_known (map one (known_elements (drop i xs))))
      ≡ option_map (λ zs. still && are_chained relation (now ∷ zs))
      (all_known (map one (known_elements (drop (i + 1) xs))))
  chained_at xs i x holds still last next now below is e s n =
      map_at (λ x. one (known_element x)) (λ xs. map one (known_elements xs)) (λ x xs. refl)
      (λ zs. holds && are_chained relation (last ∷ zs)) xs i x next below is e
      ∙ (λ j. option_map (λ zs. and_assoc holds (relation last next) (are_chained relation (next ∷ zs)) j)
      (all_known (map one (known_elements (drop (i + 1) xs)))))
      ∙ ap (λ b. option_map (λ zs. b && are_chained relation (next ∷ zs))
      (all_known (map one (known_elements (drop (i + 1) xs))))) s
      ∙ ap (λ x. option_map (λ zs. still && are_chained relation (x ∷ zs))
      (all_known (map one (known_elements (drop (i + 1) xs))))) n

pub chain_at : (relation : ℤ → ℤ → Bool) (xs : List (Option Value)) (i : ℕ) (x : Option Value)
    (holds still : Bool) (last next now : ℤ) → i < length xs → x ≡ get_or xs i x
    → known_integer (known_element x) ≡ Some next
    → (holds && relation last next) ≡ still → next ≡ now
    → option_map (λ zs. holds && are_chained relation (last ∷ zs))
    (known_integers (known_elements (drop i xs)))
    ≡ option_map (λ zs. still && are_chained relation (now ∷ zs))
    (known_integers (known_elements (drop (i + 1) xs)))
chain_at = chained_at known_integer

pub steps_at : {A : Type 0} (one : Option Element → Option A) (combine : A → A → Option A)
    (xs : List (Option Value)) (i : ℕ) (x : Option Value) (total next sum : A) → i < length xs
    → x ≡ get_or xs i x
    → one (known_element x) ≡ Some next → combine total next ≡ Some sum
    → option_and_then (steps_from combine total) (all_known (map one (known_elements (drop i xs))))
    ≡ option_and_then (steps_from combine sum) (all_known (map one (known_elements (drop (i + 1) xs))))
steps_at one combine xs i x total next sum below is e combined =
    then_at (λ x. one (known_element x)) (λ xs. map one (known_elements xs)) (λ x xs. refl)
    (steps_from combine total) xs i x next below is e
    ∙ ap (λ o. option_and_then (λ zs. option_and_then (λ c. steps_from combine c zs) o)
    (all_known (map one (known_elements (drop (i + 1) xs))))) combined

-- ---- arguments of another number

pub length_known : {A : Type 0} (xs : List (Option A)) (ys : List A) → all_known xs ≡ Some ys
    → length ys ≡ length xs
length_known [] ys e = let n : [] ≡ ys = cc in sym (ap length n)
length_known (None ∷ xs) ys e = cc
length_known (Some x ∷ xs) ys e = by (all_known xs) (length_known xs) e
  where
    by : (o : _) → ((zs : _) → o ≡ Some zs → length zs ≡ length xs) → option_map (λ zs. x ∷ zs) o ≡ Some ys
        → length ys ≡ length (Some x ∷ xs)
    by None f e = cc
    by (Some zs) f e = let n : x ∷ zs ≡ ys = cc in let m = f zs refl in omega (arith, ap length n)

then_same : {A B : Type 0} (f g : A → Option B) (o : Option A) → ((x : A) → o ≡ Some x → f x ≡ g x)
    → option_and_then f o ≡ option_and_then g o
then_same f g None h = refl
then_same f g (Some x) h = h x refl

-- as many as the arguments, where each is known
module _ {A : Type 0} (one : Option Element → Option A) where
  length_of : (xs : List (Option Value)) (ys : List A) → all_known (map one (known_elements xs)) ≡ Some ys
      → length ys ≡ length xs
  length_of xs ys e = length_known (map one (known_elements xs)) ys e ∙ length-map
      (known_elements xs) one ∙ length-map xs known_element

  pub none_of : {B : Type 0} (f : List A → Option B) (xs : List (Option Value))
      → ((ys : List A) → length ys ≡ length xs → f ys ≡ None)
      → None ≡ option_and_then f (all_known (map one (known_elements xs)))
  none_of {B} f xs h =
      let all = all_known (map one (known_elements xs)) in
      sym (then_same f (λ ys. None) all (λ ys e. h ys (length_of xs ys e)) ∙ then_none {B = B} all)

pub one_none : {A : Type 0} (xs : List A) → length xs ≢ 1 → only_one xs ≡ None
one_none [] n = refl
one_none (a ∷ []) n = absurd (n refl)
one_none (a ∷ b ∷ xs) n = refl

pub mod_none : (zs : List ℤ) → length zs ≢ 2 → known_mod zs ≡ None
mod_none [] n = refl
mod_none (a ∷ []) n = refl
mod_none (a ∷ b ∷ []) n = absurd (n refl)
mod_none (a ∷ b ∷ c ∷ zs) n = refl

pub abs_none : (zs : List ℤ) → length zs ≢ 1 → known_abs zs ≡ None
abs_none [] n = refl
abs_none (a ∷ []) n = absurd (n refl)
abs_none (a ∷ b ∷ zs) n = refl

pub divisible_none : (k : ℕ) (zs : List ℤ) → length zs ≢ 1 → known_divisible k zs ≡ None
divisible_none k [] n = refl
divisible_none k (a ∷ []) n = absurd (n refl)
divisible_none k (a ∷ b ∷ zs) n = refl

-- ---- two arguments or more, from the left

pub from_left_many : (op : Arithmetic) (a b : ℤ) (zs : List ℤ)
    → known_from_left op (a ∷ b ∷ zs) ≡ steps_from (known_arithmetic op) a (b ∷ zs)
from_left_many Minus a b zs = refl
from_left_many Plus a b zs = refl
from_left_many Times a b zs = refl
from_left_many Div a b zs = refl

-- where f makes of two arguments or more what g makes of the first and the others
module _ {A B : Type 0} (one : Option Element → Option A) (f : List A → Option B) (g : A → List A → Option B) where
  pub first_steps : ((a b : A) (zs : List A) → f (a ∷ b ∷ zs) ≡ g a (b ∷ zs)) → (xs : List (Option Value))
      (item : Option Value) (first : A) → 2 ≤ length xs → item ≡ get_or xs 0 item
      → one (known_element item) ≡ Some first
      → option_and_then (g first) (all_known (map one (known_elements (drop 1 xs))))
      ≡ option_and_then f (all_known (map one (known_elements xs)))
  first_steps many [] item first two is e = absurd (omega arith)
  first_steps many (x ∷ []) item first two is e = absurd (omega arith)
  first_steps many (x ∷ y ∷ xs) item first two is e =
      then_same (g first) (λ zs. f (first ∷ zs)) (all_known (map one (known_elements (y ∷ xs))))
      (λ zs k. by zs (length_of one (y ∷ xs) zs k))
      ∙ sym (then_more f (one (known_element x)) first (map one (known_elements (y ∷ xs)))
      (ap (λ z. one (known_element z)) (sym is) ∙ e))
    where
      by : (zs : List A) → length zs ≡ length (y ∷ xs) → g first zs ≡ f (first ∷ zs)
      by [] n = absurd (none n)
        where
          none : 0 ≡ length (y ∷ xs) → ⊥
          none n = omega arith
      by (b ∷ zs) n = sym (many first b zs)

pub from_left_steps : (op : Arithmetic) (xs : List (Option Value)) (item : Option Value) (first : ℤ)
    → 2 ≤ length xs → item ≡ get_or xs 0 item → known_integer (known_element item) ≡ Some first
    → option_and_then (steps_from (known_arithmetic op) first) (known_integers (known_elements (drop 1 xs)))
    ≡ option_and_then (known_from_left op) (known_integers (known_elements xs))
from_left_steps op = first_steps known_integer (known_from_left op) (steps_from (known_arithmetic op))
    (from_left_many op)

pub rest_is : (xs : List (Option Value)) → take (length xs - 1) (drop 1 xs) ≡ drop 1 xs
rest_is xs = grind (arith, common_steps)

-- ---- `=>` as a disjunction

not_known : (b : Bool) (k : Option Element)
    → is_known b (option_map (λ c. Truth (not c)) (known_truth k)) ≡ is_known (not b) k
not_known b None = refl
not_known true (Some (Truth true)) = refl
not_known true (Some (Truth false)) = refl
not_known false (Some (Truth true)) = refl
not_known false (Some (Truth false)) = refl
not_known b (Some (Integer z)) = refl
not_known b (Some (Vector v)) = refl
not_known b (Some (Fraction top low)) = refl
not_known b (Some (Abstract name)) = refl

or_false : (b : Bool) → (b || false) ≡ b
or_false true = refl
or_false false = refl

and_true : (b : Bool) → (b && true) ≡ b
and_true true = refl
and_true false = refl

-- with one more argument in front
module _ (x : Option Element) (c : Option Value) where
  disjunction_more : (ps : List (Option Value))
      → as_disjunction (x ∷ known_elements (ps ++ c ∷ []))
      ≡ option_map (λ b. Truth (not b)) (known_truth x) ∷ as_disjunction (known_elements (ps ++ c ∷ []))
  disjunction_more [] = refl
  disjunction_more (p ∷ ps) = refl

or_assoc : (a b c : Bool) → (a || (b || c)) ≡ ((a || b) || c)
or_assoc true b c = refl
or_assoc false b c = refl

some_of_disjunction : (ps : List (Option Value)) (c : Option Value)
    → list_any (is_known true) (as_disjunction (known_elements (ps ++ c ∷ [])))
    ≡ (list_any (λ p. is_known false (known_element p)) ps || is_known true (known_element c))
some_of_disjunction [] c = or_false (is_known true (known_element c))
some_of_disjunction (p ∷ ps) c =
    ap (list_any (is_known true)) (disjunction_more (known_element p) c ps)
    ∙ ap (λ b. b || list_any (is_known true) (as_disjunction (known_elements (ps ++ c ∷ []))))
    (not_known true (known_element p))
    ∙ ap (λ b. is_known false (known_element p) || b) (some_of_disjunction ps c)
    ∙ or_assoc (is_known false (known_element p)) (list_any (λ p. is_known false (known_element p)) ps)
    (is_known true (known_element c))

all_of_disjunction : (ps : List (Option Value)) (c : Option Value)
    → list_all (is_known false) (as_disjunction (known_elements (ps ++ c ∷ [])))
    ≡ (list_all (λ p. is_known true (known_element p)) ps && is_known false (known_element c))
all_of_disjunction [] c = and_true (is_known false (known_element c))
all_of_disjunction (p ∷ ps) c =
    ap (list_all (is_known false)) (disjunction_more (known_element p) c ps)
    ∙ ap (λ b. b && list_all (is_known false) (as_disjunction (known_elements (ps ++ c ∷ []))))
    (not_known false (known_element p))
    ∙ ap (λ b. is_known true (known_element p) && b) (all_of_disjunction ps c)
    ∙ and_assoc (is_known true (known_element p)) (list_all (λ p. is_known true (known_element p)) ps)
    (is_known false (known_element c))

-- `=>` of premises and a conclusion, where it is tested whether it is met, and whether it is missed
pub implication_is : (xs ps : List (Option Value)) (c : Option Value) (met missed : Bool) → xs ≡ ps ++ c ∷ []
    → met ≡ (list_any (λ p. is_known false (known_element p)) ps || is_known true (known_element c))
    → missed ≡ (list_all (λ p. is_known true (known_element p)) ps && is_known false (known_element c))
    → (if met then Some (Truth true) else if missed then Some (Truth false) else None)
    ≡ decided true (as_disjunction (known_elements xs))
implication_is xs ps c met missed e m n =
    ap (λ o. if o then Some (Truth true) else if missed then Some (Truth false) else None)
    (m ∙ sym (some_of_disjunction ps c))
    ∙ ap (λ o. if list_any (is_known true) (as_disjunction (known_elements (ps ++ c ∷ [])))
    then Some (Truth true) else if o then Some (Truth false) else None)
    (n ∙ sym (all_of_disjunction ps c))
    ∙ ap (λ ys. decided true (as_disjunction (known_elements ys))) (sym e)

-- ---- `distinct`, where all are known

any_known : (e : Element) (ks : List (Option Element)) (es : List Element) → all_known ks ≡ Some es
    → list_any (is_same_known (Some e)) ks ≡ list_any (is_same e) es
any_known e [] es h = let n : [] ≡ es = cc in ap (list_any (is_same e)) n
any_known e (None ∷ ks) es h = cc
any_known e (Some k ∷ ks) es h = by (all_known ks) (any_known e ks) h
  where
    by : (o : _) → ((fs : _) → o ≡ Some fs → list_any (is_same_known (Some e)) ks ≡ list_any (is_same e) fs)
        → option_map (λ fs. k ∷ fs) o ≡ Some es
        → list_any (is_same_known (Some e)) (Some k ∷ ks) ≡ list_any (is_same e) es
    by None f h = cc
    by (Some fs) f h =
        let n : k ∷ fs ≡ es = cc in ap (λ b. is_same e k || b) (f fs refl) ∙ ap (list_any (is_same e)) n

distinct_known : (ks : List (Option Element)) (es : List Element) → all_known ks ≡ Some es
    → are_distinct is_same_known ks ≡ are_distinct is_same es
distinct_known [] es h = let n : [] ≡ es = cc in ap (are_distinct is_same) n
distinct_known (None ∷ ks) es h = cc
distinct_known (Some k ∷ ks) es h = by (all_known ks) (any_known k ks) (distinct_known ks) h
  where
    by : (o : _) → ((fs : _) → o ≡ Some fs → list_any (is_same_known (Some k)) ks ≡ list_any (is_same k) fs)
        → ((fs : _) → o ≡ Some fs → are_distinct is_same_known ks ≡ are_distinct is_same fs)
        → option_map (λ fs. k ∷ fs) o ≡ Some es
        → are_distinct is_same_known (Some k ∷ ks) ≡ are_distinct is_same es
    by None f g h = cc
    by (Some fs) f g h =
        let n : k ∷ fs ≡ es = cc in
        ap (λ b. not b && are_distinct is_same_known ks) (f fs refl) ∙ ap
        (λ b. not (list_any (is_same k) fs) && b) (g fs refl) ∙ ap (are_distinct is_same) n

-- whether all are known
all_some : (xs : List (Option Value))
    → MatchOption (all_known (known_elements xs)) (list_all is_some xs ≡ false)
    (λ es. list_all is_some xs ≡ true)
all_some [] = refl
all_some (None ∷ xs) = refl
all_some (Some x ∷ xs) = by (all_known (known_elements xs)) (all_some xs)
  where
    by : (o : _) → MatchOption o (list_all is_some xs ≡ false) (λ es. list_all is_some xs ≡ true)
        → MatchOption (option_map (λ es. element_of x ∷ es) o) (list_all is_some xs ≡ false)
        (λ es. list_all is_some xs ≡ true)
    by None h = h
    by (Some es) h = h

-- a test of elements that are all known, by one of what is known of them
module _ (known_test : List (Option Element) → Bool) (test : List Element → Bool)
    (same : (ks : List (Option Element)) (es : List Element) → all_known ks ≡ Some es
    → known_test ks ≡ test es) where
  tested : (xs : List (Option Value)) → list_all is_some xs ≡ true
      → Some (Truth (known_test (known_elements xs)))
      ≡ option_map (λ es. Truth (test es)) (all_known (known_elements xs))
  tested xs h = by (all_known (known_elements xs)) (all_some xs) (same (known_elements xs))
    where
      by : (o : _) → MatchOption o (list_all is_some xs ≡ false) (λ es. list_all is_some xs ≡ true)
          → ((es : _) → o ≡ Some es → known_test (known_elements xs) ≡ test es)
          → Some (Truth (known_test (known_elements xs))) ≡ option_map (λ es. Truth (test es)) o
      by None k f = cc
      by (Some es) k f = ap (λ b. Some (Truth b)) (f es refl)

  untested : (xs : List (Option Value)) → list_all is_some xs ≡ false
      → None ≡ option_map (λ es. Truth (test es)) (all_known (known_elements xs))
  untested xs h = by (all_known (known_elements xs)) (all_some xs)
    where
      by : (o : _) → MatchOption o (list_all is_some xs ≡ false) (λ es. list_all is_some xs ≡ true)
          → None ≡ option_map (λ es. Truth (test es)) o
      by None k = refl
      by (Some es) k = cc

pub distinct_all : (xs : List (Option Value)) → list_all is_some xs ≡ true
    → Some (Truth (are_distinct is_same_known (known_elements xs)))
    ≡ option_map (λ es. Truth (are_distinct is_same es)) (all_known (known_elements xs))
distinct_all = tested (are_distinct is_same_known) (are_distinct is_same) distinct_known

pub distinct_open : (xs : List (Option Value)) → list_all is_some xs ≡ false
    → None ≡ option_map (λ es. Truth (are_distinct is_same es)) (all_known (known_elements xs))
distinct_open = untested (are_distinct is_same_known) (are_distinct is_same) distinct_known

-- so for `=`
chained_known : (ks : List (Option Element)) (es : List Element) → all_known ks ≡ Some es
    → are_chained is_same_known ks ≡ are_chained is_same es
chained_known [] es h = let n : [] ≡ es = cc in ap (are_chained is_same) n
chained_known (None ∷ ks) es h = cc
chained_known (Some k ∷ []) es h = let n : k ∷ [] ≡ es = cc in ap (are_chained is_same) n
chained_known (Some k ∷ None ∷ ks) es h = cc
chained_known (Some k ∷ Some l ∷ ks) es h =
    by (all_known ks) (λ fs e. chained_known (Some l ∷ ks) (l ∷ fs) (ap (option_map (λ gs. l ∷ gs)) e)) h
  where
    by : (o : _) → ((fs : _) → o ≡ Some fs
        → are_chained is_same_known (Some l ∷ ks) ≡ are_chained is_same (l ∷ fs))
        → option_map (λ gs. k ∷ gs) (option_map (λ gs. l ∷ gs) o) ≡ Some es
        → are_chained is_same_known (Some k ∷ Some l ∷ ks) ≡ are_chained is_same es
    by None f h = cc
    by (Some fs) f h =
        let n : k ∷ l ∷ fs ≡ es = cc in ap (λ b. is_same k l && b) (f fs refl) ∙ ap (are_chained is_same) n

pub chained_all : (xs : List (Option Value)) → list_all is_some xs ≡ true
    → Some (Truth (are_chained is_same_known (known_elements xs)))
    ≡ option_map (λ es. Truth (are_chained is_same es)) (all_known (known_elements xs))
chained_all = tested (are_chained is_same_known) (are_chained is_same) chained_known

pub chained_open : (xs : List (Option Value)) → list_all is_some xs ≡ false
    → None ≡ option_map (λ es. Truth (are_chained is_same es)) (all_known (known_elements xs))
chained_open = untested (are_chained is_same_known) (are_chained is_same) chained_known

pub chained_short : (xs : List (Option Value)) → length xs < 2
    → true ≡ are_chained is_same_known (known_elements xs)
chained_short [] h = refl
chained_short (x ∷ []) h = refl
chained_short (x ∷ y ∷ xs) h = absurd (omega arith)

pub ruleset tests = (list_any-map, list_all-map)
