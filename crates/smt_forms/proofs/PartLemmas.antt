-- The terms of which a term is made, its labels, and the variables that occur free in it.
use Rattle.std.proofs.Common.{◌≡◌, ◌⊎◌, ◌↔◌, ℕ, zero, suc, ◌<◌, Bool, true, false, not, cond, ◌&&◌, ◌||◌}
use Rattle.std.proofs.Common.{List, [], ◌∷◌, ◌++◌, map, length, Some, is_some, refl, ap, sym, ◌∙◌, subst}
use Rattle.std.proofs.Common.{append-nil, inl, inr, arith}
use Rattle.std.proofs.lemmas.Grind.{flat_map-append}
use Rattle.std.proofs.lemmas.List.Elements.{Contains-append_cases, Contains-append_left}
use Rattle.std.proofs.lemmas.List.Elements.{Contains-append_right, Contains-push, Contains-push_cases}
use Rattle.std.specs.List.{Contains, flat_map}
use Rattle.std.specs.Prelude.{slice_index_or, codes}
use Rattle.std.specs.Str.{bytes_eq}
use Rattle.smt_theory.specs.Sort.{Sort}
use Rattle.smt_trees.specs.Sexp.{Sexp, Sexps, Atom, Reserved, Items, Nil, Cons, Symbol, Keyword, append}
use Rattle.smt_trees.specs.declared.reserved.Word.TheVariants.{As, Bang, Let, Underscore}
use Rattle.smt_theory.specs.Words.{look_up}
use Rattle.smt_forms.specs.Bindings.{is_label, named_trees}
use Rattle.smt_forms.specs.Variables.{any_uses_outer, bindings_use_outer, is_among, uses_outer, uses_variable}
use Rattle.smt_forms.specs.Labels.{label_at, labels_among, labels_in, labels_in_all, labels_in_bindings}
use Rattle.smt_forms.specs.Parts.{IsLabelled, IsNamedBy, OccursFree, Alone, Inside, StandsIn, Itself, InPart}
use Rattle.smt_forms.specs.Parts.{own_labels, parts_of, trees_of}
use Rattle.std.specs.Cmp.Lexicographic.{same_text}
use Rattle.std.proofs.lemmas.Cmp.{nat_list_eq_equiv}

-- names that pass the test are the same, and one passes it with itself
same_name : (x y : List ℕ) → bytes_eq x y ≡ true → x ≡ y
same_name x y h = same_text x y (sym h)

same_self : (x : List ℕ) → bytes_eq x x ≡ true
same_self x = nat_list_eq_equiv.refl x

neither : (a b : Bool) → a || b ≡ false → (a ≡ false) × (b ≡ false)
neither true b h = cc
neither false b h = (refl, h)

-- variables with their sorts
abbrev Scope : Type 0
Scope = List (List ℕ × Sort)

-- the names of variables
abbrev names_in : Scope → List (List ℕ)
names_in scope = map (λ v. v.0) scope

-- a term with the names that are bound for it
abbrev Part : Type 0
Part = List (List ℕ) × Sexp

-- a label with the term that it annotates
abbrev Labelled : Type 0
Labelled = List ℕ × Sexp

-- the parts that arguments are, and those that the terms of bindings are
abbrev arguments : Sexps → List Part
arguments ts = map (λ t. ([], t)) (trees_of ts)

abbrev terms_bound : Sexps → List Part
terms_bound bs = map (λ b. ([], b.1)) (named_trees bs)

either : {A B C : Type 0} → A ⊎ B → (A → C) → (B → C) → C
either (inl a) f g = f a
either (inr b) f g = g b

-- ## Members of lists

-- the first is one
first : {A : Type 0} (y : A) (ys : List A) (x : A) → y ≡ x → Contains (y ∷ ys) x
first y ys x is = (zero, omega arith, is)

later : {A : Type 0} (y : A) (ys : List A) (x : A) → Contains ys x → Contains (y ∷ ys) x
later y ys x h = Contains-append_right (y ∷ []) ys x h

none : {A : Type 0} (x : A) → Contains [] x → ⊥
none x h = omega arith

-- one of a list is the first or a later one
one_of : {A : Type 0} (y : A) (ys : List A) (x : A) → Contains (y ∷ ys) x → (y ≡ x) ⊎ Contains ys x
one_of y ys x h = by h.0 h.1 h.2
  where
    by : (k : ℕ) → k < length (y ∷ ys) → slice_index_or (y ∷ ys) k x ≡ x → (y ≡ x) ⊎ Contains ys x
    by zero l is = inl is
    by (suc k) l is = inr (k, omega arith, is)

-- one of what a function gives for a list
mapped : {A B : Type 0} (f : A → B) (xs : List A) (y : B) → Contains (map f xs) y
    → (x : A) × Contains xs x × (f x ≡ y)
mapped f [] y h = absurd (none y h)
mapped f (x ∷ xs) y h =
    either (one_of (f x) (map f xs) y h) (λ is. (x, first x xs x refl, is))
    (λ more. let m = mapped f xs y more in (m.0, later x xs m.0 m.1, m.2))

map-contains : {A B : Type 0} (f : A → B) (xs : List A) (x : A) → Contains xs x → Contains (map f xs) (f x)
map-contains f [] x h = absurd (none x h)
map-contains f (y ∷ ys) x h =
    either (one_of y ys x h) (λ is. first (f y) (map f ys) (f x) (ap f is))
    (λ more. later (f y) (map f ys) (f x) (map-contains f ys x more))

flat-contains : {A B : Type 0} (f : A → List B) (xs : List A) (x : A) (y : B) → Contains xs x
    → Contains (f x) y → Contains (flat_map f xs) y
flat-contains f [] x y h i = absurd (none x h)
flat-contains f (z ∷ zs) x y h i =
    either (one_of z zs x h)
    (λ is. Contains-append_left (f z) (flat_map f zs) y (subst (λ a. Contains (f a) y) (sym is) i))
    (λ more. Contains-append_right (f z) (flat_map f zs) y (flat-contains f zs x y more i))

-- ## Labels

abbrev labels_of : List Part → List Labelled
labels_of parts = flat_map (λ p. labels_in p.1) parts

ordered_all : (ts : Sexps) → labels_in_all ts ≡ labels_of (arguments ts)
ordered_all Nil = refl
ordered_all (Cons t ts) = ap (λ ls. labels_in t ++ ls) (ordered_all ts)

ordered_bindings : (bs : Sexps) → labels_in_bindings bs ≡ labels_of (terms_bound bs)
ordered_bindings (Cons (Items (Cons (Atom Symbol x) (Cons term Nil))) rest) =
    ap (λ ls. labels_in term ++ ls) (ordered_bindings rest)
ordered_bindings _ = refl

-- the labels of a term are those of its parts, in order, and then its own
pub ordered : (t : Sexp) → labels_in t ≡ flat_map (λ p. labels_in p.1) (parts_of t) ++ own_labels t
ordered (Atom kind bytes) = refl
ordered (Reserved word) = refl
ordered (Items Nil) = refl
ordered (Items (Cons (Reserved Underscore) indexes)) = refl
ordered (Items (Cons (Reserved As) parts)) = refl
ordered (Items (Cons (Reserved Let) (Cons (Items bindings) (Cons body Nil)))) =
    let parts = terms_bound bindings in
    let last = (map (λ b. b.0) (named_trees bindings), body) ∷ [] in
    ap (λ ls. ls ++ labels_in body) (ordered_bindings bindings) ∙ ap (λ ls. labels_of parts ++ ls)
    (sym (append-nil (labels_in body))) ∙ sym (flat_map-append (λ (p : Part). labels_in p.1) parts last)
    ∙ sym (append-nil (labels_of (parts ++ last)))
ordered (Items (Cons (Reserved Let) args)) = ordered_all args ∙ sym (append-nil (labels_of (arguments args)))
ordered (Items (Cons (Reserved Bang) (Cons term attributes))) =
    ap (λ ls. ls ++ map (λ x. (x, term)) (labels_among attributes)) (sym (append-nil (labels_in term)))
ordered (Items (Cons (Reserved Bang) args)) = refl
ordered (Items (Cons head args)) = ordered_all args ∙ sym (append-nil (labels_of (arguments args)))

-- ## Attributes

behind_one : (v : Sexp) (rest : Sexps) (x : List ℕ) → IsNamedBy rest x → IsNamedBy (Cons v rest) x
behind_one v rest x h = (Cons v h.0, h.1, ap (Cons v) h.2)

only : {A : Type 0} (y x : A) → Contains (y ∷ []) x → y ≡ x
only y x h = either (one_of y [] x h) (λ is. is) (λ more. absurd (none x more))

at_front : (k : List ℕ) (rest : Sexps) (x : List ℕ) → Contains (label_at k rest) x
    → IsNamedBy (Cons (Atom Keyword k) rest) x
at_front k (Cons (Atom Symbol y) after) x h = by (is_label k) refl h
  where
    by : (b : Bool) → is_label k ≡ b → Contains (cond b (y ∷ []) []) x
        → IsNamedBy (Cons (Atom Keyword k) (Cons (Atom Symbol y) after)) x
    by false is g = absurd (none x g)
    by true is g =
        let first =
        ap (λ z. Cons (Atom Keyword z) (Cons (Atom Symbol y) after)) (same_name k (codes "named") is) in
        let second =
        ap (λ z. Cons (Atom Keyword (codes "named")) (Cons (Atom Symbol z) after)) (only y x g) in
        (Nil, after, first ∙ second)
at_front k _ x h = absurd (none x h)

-- a label among attributes stands behind `:named`
named_so : (attributes : Sexps) (x : List ℕ) → Contains (labels_among attributes) x → IsNamedBy attributes x
named_so Nil x h = absurd (none x h)
named_so (Cons (Atom Keyword k) rest) x h =
    either (Contains-append_cases (label_at k rest) (labels_among rest) x h) (λ g. at_front k rest x g)
    (λ g. behind_one (Atom Keyword k) rest x (named_so rest x g))
named_so (Cons value rest) x h = behind_one value rest x (named_so rest x h)

-- and what stands there is one
label_so : (before after : Sexps) (x : List ℕ)
    → Contains (labels_among
    (append before (Cons (Atom Keyword (codes "named")) (Cons (Atom Symbol x) after)))) x
label_so Nil after x =
    Contains-append_left (label_at (codes "named") (Cons (Atom Symbol x) after))
    (labels_among (Cons (Atom Symbol x) after)) x
    (subst (λ ls. Contains ls x) (sym (ap (λ b. cond b (x ∷ []) []) (same_self (codes "named"))))
    (first x [] x refl))
label_so (Cons (Atom Keyword k) rest) after x =
    let more = append rest (Cons (Atom Keyword (codes "named")) (Cons (Atom Symbol x) after)) in
    Contains-append_right (label_at k more) (labels_among more) x (label_so rest after x)
label_so (Cons value rest) after x = label_so rest after x

-- ## Labels and where they stand

in_part : (t : Sexp) (bound : List (List ℕ)) (part : Sexp) (l : Labelled)
    → Contains (parts_of t) (bound, part) → IsLabelled part l → IsLabelled t l
in_part t bound part l is h = (h.0, InPart bound part t is h.1, h.2)

own : (term : Sexp) (attributes : Sexps) (l : Labelled)
    → Contains (map (λ x. (x, term)) (labels_among attributes)) l
    → IsLabelled (Items (Cons (Reserved Bang) (Cons term attributes))) l
own term attributes l h =
    let m = mapped (λ x. (x, term)) (labels_among attributes) l h in
    subst (λ k. IsLabelled (Items (Cons (Reserved Bang) (Cons term attributes))) k) m.2
    (attributes, Itself, named_so attributes m.0 m.1)

mutual
  labelled : (t : Sexp) (l : Labelled) → Contains (labels_in t) l → IsLabelled t l
  labelled (Atom kind bytes) l h = absurd (none l h)
  labelled (Reserved word) l h = absurd (none l h)
  labelled (Items Nil) l h = absurd (none l h)
  labelled (Items (Cons (Reserved Underscore) indexes)) l h = absurd (none l h)
  labelled (Items (Cons (Reserved As) parts)) l h = absurd (none l h)
  labelled (Items (Cons (Reserved Let) (Cons (Items bindings) (Cons body Nil)))) l h =
      let t = Items (Cons (Reserved Let) (Cons (Items bindings) (Cons body Nil))) in
      let parts = terms_bound bindings in
      let names = map (λ b. b.0) (named_trees bindings) in
      either (Contains-append_cases (labels_in_bindings bindings) (labels_in body) l h)
      (λ g. let p = labelled_bindings bindings l g
      in in_part t [] p.0 l (Contains-append_left parts ((names, body) ∷ []) ([], p.0) p.1) p.2)
      (λ g. in_part t names body l (Contains-push parts (names, body)) (labelled body l g))
  labelled (Items (Cons (Reserved Let) args)) l h =
      let p = labelled_all args l h in in_part (Items (Cons (Reserved Let) args)) [] p.0 l p.1 p.2
  labelled (Items (Cons (Reserved Bang) (Cons term attributes))) l h =
      either (Contains-append_cases (labels_in term) (map (λ x. (x, term)) (labels_among attributes)) l h)
      (λ g. in_part (Items (Cons (Reserved Bang) (Cons term attributes))) [] term l
      (first ([], term) [] ([], term) refl) (labelled term l g)) (λ g. own term attributes l g)
  labelled (Items (Cons (Reserved Bang) args)) l h = absurd (none l h)
  labelled (Items (Cons head args)) l h =
      let p = labelled_all args l h in in_part (Items (Cons head args)) [] p.0 l p.1 p.2

  labelled_all : (ts : Sexps) (l : Labelled) → Contains (labels_in_all ts) l
      → (t : Sexp) × Contains (arguments ts) ([], t) × IsLabelled t l
  labelled_all Nil l h = absurd (none l h)
  labelled_all (Cons t ts) l h =
      either (Contains-append_cases (labels_in t) (labels_in_all ts) l h)
      (λ g. (t, first ([], t) (arguments ts) ([], t) refl, labelled t l g))
      (λ g. let p = labelled_all ts l g in (p.0, later ([], t) (arguments ts) ([], p.0) p.1, p.2))

  labelled_bindings : (bs : Sexps) (l : Labelled) → Contains (labels_in_bindings bs) l
      → (t : Sexp) × Contains (terms_bound bs) ([], t) × IsLabelled t l
  labelled_bindings (Cons (Items (Cons (Atom Symbol x) (Cons term Nil))) rest) l h =
      either (Contains-append_cases (labels_in term) (labels_in_bindings rest) l h)
      (λ g. (term, first ([], term) (terms_bound rest) ([], term) refl, labelled term l g))
      (λ g. let p = labelled_bindings rest l g
      in (p.0, later ([], term) (terms_bound rest) ([], p.0) p.1, p.2))
  labelled_bindings _ l h = absurd (none l h)

-- the labels of a term that stands in another are among those of that one
within : (s t : Sexp) (l : Labelled) → StandsIn s t → Contains (labels_in s) l → Contains (labels_in t) l
within s _ l Itself h = h
within s _ l (InPart bound part t is stands) h =
    subst (λ ls. Contains ls l) (sym (ordered t))
    (Contains-append_left (labels_of (parts_of t)) (own_labels t) l
    (flat-contains (λ (p : Part). labels_in p.1) (parts_of t) (bound, part) l is (within s part l stands h)))

-- a term has exactly the labels that annotations in it give
pub labels_stand : (t : Sexp) (l : Labelled) → Contains (labels_in t) l ↔ IsLabelled t l
labels_stand t l = (labelled t l, back)
  where
    back : IsLabelled t l → Contains (labels_in t) l
    back h =
        within (Items (Cons (Reserved Bang) (Cons l.1 h.0))) t l h.1
        (Contains-append_right (labels_in l.1) (map (λ x. (x, l.1)) (labels_among h.0)) l
        (map-contains (λ x. (x, l.1)) (labels_among h.0) l.0
        (subst (λ attributes. Contains (labels_among attributes) l.0) (sym h.2.2)
        (label_so h.2.0 h.2.1 l.0))))

-- ## Variables

both : (a b : Bool) → a && b ≡ true → (a ≡ true) × (b ≡ true)
both true b h = (refl, h)
both false b h = cc

not_so : (b : Bool) → not b ≡ true → b ≡ false
not_so false h = refl
not_so true h = cc

one_true : (a b : Bool) → a || b ≡ true → (a ≡ true) ⊎ (b ≡ true)
one_true true b h = inl refl
one_true false b h = inr h

second_true : (a b : Bool) → b ≡ true → a || b ≡ true
second_true true b h = refl
second_true false b h = h

name_among : (xs : List (List ℕ)) (x : List ℕ) → is_among xs x ≡ true → Contains xs x
name_among [] x h = cc
name_among (y ∷ ys) x h =
    either (one_true (bytes_eq x y) (is_among ys x) h) (λ is. first y ys x (sym (same_name x y is)))
    (λ more. later y ys x (name_among ys x more))

among_name : (xs : List (List ℕ)) (x : List ℕ) → Contains xs x → is_among xs x ≡ true
among_name [] x h = absurd (none x h)
among_name (y ∷ ys) x h =
    either (one_of y ys x h) (λ is. ap (λ b. b || is_among ys x) (ap (λ z. bytes_eq x z) is ∙ same_self x))
    (λ more. second_true (bytes_eq x y) (is_among ys x) (among_name ys x more))

look_name : (scope : Scope) (x : List ℕ) → is_some (look_up scope x) ≡ is_among (names_in scope) x
look_name [] x = refl
look_name (v ∷ scope) x = by (bytes_eq x v.0) (look_name scope x)
  where
    by : (b : Bool) → is_some (look_up scope x) ≡ is_among (names_in scope) x
        → is_some (cond b (Some v.1) (look_up scope x)) ≡ b || is_among (names_in scope) x
    by true rest = refl
    by false rest = rest

among_append : (xs ys : List (List ℕ)) (x : List ℕ) → is_among (xs ++ ys) x ≡ is_among xs x || is_among ys x
among_append [] ys x = refl
among_append (z ∷ xs) ys x = by (bytes_eq x z) (among_append xs ys x)
  where
    by : (b : Bool) → is_among (xs ++ ys) x ≡ is_among xs x || is_among ys x
        → b || is_among (xs ++ ys) x ≡ (b || is_among xs x) || is_among ys x
    by true rest = refl
    by false rest = rest

-- a variable of the outer ones, not hidden by the inner ones, occurs free in the term
abbrev IsUsed : List (List ℕ) → Scope → Sexp → Type 0
IsUsed inner outer t =
    (x : List ℕ) × Contains (names_in outer) x × (is_among inner x ≡ false) × OccursFree x t

-- the same of one of the parts
abbrev IsUsedInPart : List (List ℕ) → Scope → List Part → Type 0
IsUsedInPart inner outer parts = (bound : List (List ℕ)) × (part : Sexp) × Contains parts (bound, part)
    × IsUsed (bound ++ inner) outer part

used_in : (inner : List (List ℕ)) (outer : Scope) (t : Sexp) → IsUsedInPart inner outer (parts_of t)
    → IsUsed inner outer t
used_in inner outer t h =
    let x = h.3.0 in
    let n = neither (is_among h.0 x) (is_among inner x) (sym (among_append h.0 inner x) ∙ h.3.2) in
    (x, h.3.1, n.1, Inside h.0 h.1 t h.2 (λ is. let a = among_name h.0 x is in let f = n.0 in cc) h.3.3)

here : (inner : List (List ℕ)) (outer : Scope) (bound : List (List ℕ)) (part : Sexp) (parts : List Part)
    → IsUsed (bound ++ inner) outer part → IsUsedInPart inner outer ((bound, part) ∷ parts)
here inner outer bound part parts h = (bound, part, first (bound, part) parts (bound, part) refl, h)

further : (inner : List (List ℕ)) (outer : Scope) (p : Part) (parts : List Part)
    → IsUsedInPart inner outer parts → IsUsedInPart inner outer (p ∷ parts)
further inner outer p parts h = (h.0, h.1, later p parts (h.0, h.1) h.2, h.3)

before_last : (inner : List (List ℕ)) (outer : Scope) (p : Part) (parts : List Part)
    → IsUsedInPart inner outer parts → IsUsedInPart inner outer (parts ++ p ∷ [])
before_last inner outer p parts h = (h.0, h.1, Contains-append_left parts (p ∷ []) (h.0, h.1) h.2, h.3)

-- what the test finds occurs free
mutual
  free : (inner : List (List ℕ)) (outer : Scope) (t : Sexp) → uses_outer inner outer t ≡ true
      → IsUsed inner outer t
  free inner outer (Atom Symbol x) h =
      let p = both (not (is_among inner x)) (is_some (look_up outer x)) h in
      (x, name_among (names_in outer) x (sym (look_name outer x) ∙ p.1), not_so (is_among inner x) p.0, Alone)
  free inner outer (Atom kind bytes) h = cc
  free inner outer (Reserved word) h = cc
  free inner outer (Items Nil) h = cc
  free inner outer (Items (Cons (Reserved Underscore) indexes)) h = cc
  free inner outer (Items (Cons (Reserved As) parts)) h = cc
  free inner outer (Items (Cons (Reserved Let) (Cons (Items bindings) (Cons body Nil)))) h =
      let parts = terms_bound bindings in
      let names = map (λ b. b.0) (named_trees bindings) in
      used_in inner outer (Items (Cons (Reserved Let) (Cons (Items bindings) (Cons body Nil))))
      (either (one_true (bindings_use_outer inner outer bindings) (uses_outer (names ++ inner) outer body) h)
      (λ g. before_last inner outer (names, body) parts (free_bindings inner outer bindings g))
      (λ g. (names, body, Contains-push parts (names, body), free (names ++ inner) outer body g)))
  free inner outer (Items (Cons (Reserved Let) args)) h =
      used_in inner outer (Items (Cons (Reserved Let) args)) (free_all inner outer args h)
  free inner outer (Items (Cons (Reserved Bang) (Cons term attributes))) h =
      used_in inner outer (Items (Cons (Reserved Bang) (Cons term attributes)))
      (here inner outer [] term [] (free inner outer term h))
  free inner outer (Items (Cons (Reserved Bang) args)) h = cc
  free inner outer (Items (Cons head args)) h =
      used_in inner outer (Items (Cons head args)) (free_all inner outer args h)

  free_all : (inner : List (List ℕ)) (outer : Scope) (ts : Sexps) → any_uses_outer inner outer ts ≡ true
      → IsUsedInPart inner outer (arguments ts)
  free_all inner outer Nil h = cc
  free_all inner outer (Cons t ts) h =
      let parts = arguments ts in
      either (one_true (uses_outer inner outer t) (any_uses_outer inner outer ts) h)
      (λ g. here inner outer [] t parts (free inner outer t g))
      (λ g. further inner outer ([], t) parts (free_all inner outer ts g))

  free_bindings : (inner : List (List ℕ)) (outer : Scope) (bs : Sexps)
      → bindings_use_outer inner outer bs ≡ true → IsUsedInPart inner outer (terms_bound bs)
  free_bindings inner outer (Cons (Items (Cons (Atom Symbol x) (Cons term Nil))) rest) h =
      let parts = terms_bound rest in
      either (one_true (uses_outer inner outer term) (bindings_use_outer inner outer rest) h)
      (λ g. here inner outer [] term parts (free inner outer term g))
      (λ g. further inner outer ([], term) parts (free_bindings inner outer rest g))
  free_bindings inner outer _ h = cc

-- a term one of whose parts uses a variable uses it
abbrev Uses : List (List ℕ) → Scope → Part → Type 0
Uses inner outer p = uses_outer (p.0 ++ inner) outer p.1 ≡ true

used_all : (inner : List (List ℕ)) (outer : Scope) (ts : Sexps) (p : Part) → Contains (arguments ts) p
    → Uses inner outer p → any_uses_outer inner outer ts ≡ true
used_all inner outer Nil p is h = absurd (none p is)
used_all inner outer (Cons t ts) p is h =
    either (one_of ([], t) (arguments ts) p is)
    (λ here. ap (λ b. b || any_uses_outer inner outer ts) (subst (λ q. Uses inner outer q) (sym here) h))
    (λ more. second_true (uses_outer inner outer t) (any_uses_outer inner outer ts)
    (used_all inner outer ts p more h))

used_bindings : (inner : List (List ℕ)) (outer : Scope) (bs : Sexps) (p : Part) → Contains (terms_bound bs) p
    → Uses inner outer p → bindings_use_outer inner outer bs ≡ true
used_bindings inner outer (Cons (Items (Cons (Atom Symbol x) (Cons term Nil))) rest) p is h =
    either (one_of ([], term) (terms_bound rest) p is)
    (λ here. ap (λ b. b || bindings_use_outer inner outer rest)
    (subst (λ q. Uses inner outer q) (sym here) h))
    (λ more. second_true (uses_outer inner outer term) (bindings_use_outer inner outer rest)
    (used_bindings inner outer rest p more h))
used_bindings inner outer _ p is h = absurd (none p is)

used_part : (inner : List (List ℕ)) (outer : Scope) (t : Sexp) (p : Part) → Contains (parts_of t) p
    → Uses inner outer p → uses_outer inner outer t ≡ true
used_part inner outer (Atom kind bytes) p is h = absurd (none p is)
used_part inner outer (Reserved word) p is h = absurd (none p is)
used_part inner outer (Items Nil) p is h = absurd (none p is)
used_part inner outer (Items (Cons (Reserved Underscore) indexes)) p is h = absurd (none p is)
used_part inner outer (Items (Cons (Reserved As) parts)) p is h = absurd (none p is)
used_part inner outer (Items (Cons (Reserved Let) (Cons (Items bindings) (Cons body Nil)))) p is h =
    let parts = terms_bound bindings in
    let names = map (λ b. b.0) (named_trees bindings) in
    either (Contains-push_cases parts (names, body) p is)
    (λ more. ap (λ b. b || uses_outer (names ++ inner) outer body)
    (used_bindings inner outer bindings p more h))
    (λ here. second_true (bindings_use_outer inner outer bindings) (uses_outer (names ++ inner) outer body)
    (subst (λ q. Uses inner outer q) (sym here) h))
used_part inner outer (Items (Cons (Reserved Let) args)) p is h = used_all inner outer args p is h
used_part inner outer (Items (Cons (Reserved Bang) (Cons term attributes))) p is h =
    subst (λ q. Uses inner outer q) (sym (only ([], term) p is)) h
used_part inner outer (Items (Cons (Reserved Bang) args)) p is h = absurd (none p is)
used_part inner outer (Items (Cons head args)) p is h = used_all inner outer args p is h

-- what occurs free is found
used : (x : List ℕ) (t : Sexp) → OccursFree x t → (inner : List (List ℕ)) (outer : Scope)
    → is_among inner x ≡ false → is_some (look_up outer x) ≡ true → uses_outer inner outer t ≡ true
used x _ Alone inner outer hidden some = ap (λ b. not b && is_some (look_up outer x)) hidden ∙ some
used x _ (Inside bound part t is fresh occurs) inner outer hidden some =
    used_part inner outer t (bound, part) is
    (used x part occurs (bound ++ inner) outer
    (among_append bound inner x ∙ ap (λ b. b || is_among inner x) (by (is_among bound x) refl) ∙ hidden)
    some)
  where
    by : (b : Bool) → is_among bound x ≡ b → b ≡ false
    by false h = refl
    by true h = absurd (fresh (name_among bound x h))

pub variables_used : (scope : Scope) (t : Sexp) → (uses_variable scope t ≡ true)
    ↔ ((x : List ℕ) × Contains (map (λ v. v.0) scope) x × OccursFree x t)
variables_used scope t = (found, back)
  where
    found : uses_variable scope t ≡ true → (x : List ℕ) × Contains (names_in scope) x × OccursFree x t
    found h = let f = free [] scope t h in (f.0, f.1, f.3)

    back : (x : List ℕ) × Contains (names_in scope) x × OccursFree x t → uses_variable scope t ≡ true
    back h = used h.0 t h.2 [] scope refl (look_name scope h.0 ∙ among_name (names_in scope) h.0 h.1)
