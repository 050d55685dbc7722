-- The value of a term is that of it with terms in place of its variables, and of a call that of a `let`.
use Rattle.std.proofs.Common.{◌≡◌, ◌≢◌, ℕ, Bool, true, false, cond, List, [], ◌∷◌, ◌++◌, Option, Some, None}
use Rattle.std.proofs.Common.{refl, sym, ap, ap₂, ◌∙◌, map, subst, ◌||◌}
use Rattle.std.proofs.lemmas.List.{append-nil}
use Rattle.std.specs.List.{zip}
use Rattle.std.specs.Prelude.{All, bytes_eq, unwrap_or}
use Rattle.std.proofs.lemmas.List.Elements.{All-head, All-tail}
use Rattle.std.proofs.lemmas.Slice.Eq.{bytes_eq-Decides}
use Rattle.smt_trees.specs.Sexp as sexp
use Rattle.smt_trees.specs.Sexp.{Sexp, Sexps, Atom, Reserved, Items, Nil, Cons, Symbol, Keyword, Numeral}
use Rattle.smt_trees.specs.Sexp.{Hexadecimal, Binary}
use Rattle.smt_trees.specs.declared.reserved.Word.TheVariants.{As, Bang, Let, Underscore}
use Rattle.smt_theory.specs.Words.{look_up}
use Rattle.smt_arrays.specs.Element.{Element}
use Rattle.smt_values.specs.Operations.{DivisionByZero}
use Rattle.smt_forms.specs.Bindings.{named_trees}
use Rattle.smt_forms.specs.Identifier.{Plain, applied}
use Rattle.smt_forms.specs.Parts.{trees_of}
use Rattle.smt_eval.specs.Substitution.{Replacing, bindings_of, hiding, let_of, put_in, put_in_all, put_in_bindings}
use Rattle.smt_forms.specs.Variables.{is_among}
use Rattle.smt_terms.specs.Signature.{Defined, Entry, Signature, with_entry}
use Rattle.smt_eval.specs.Meaning.{Meaning, defined_value, element_by, meaning_after, meaning_in, operators, value_of}
use Rattle.smt_eval.specs.Meaning.{value_over, values_bound, values_of, with_definition}

-- variables with their values
abbrev pub Variables : Type 0
Variables = List (List ℕ × Element)

-- what a list applies is the same with other terms in place of its arguments
applied_put : (put : Replacing) (head : Sexp) (args : Sexps) → applied head args ≡ applied head (put_in_all put args)
applied_put put head Nil = refl
applied_put put (Atom Symbol name) (Cons x xs) = refl
applied_put put (Items (Cons (Reserved As) parts)) (Cons x Nil) = refl
applied_put put (Items (Cons (Reserved As) parts)) (Cons x (Cons y xs)) = refl
applied_put put (Items (Cons (Reserved Underscore) parts)) (Cons x xs) = refl
applied_put put (Reserved word) (Cons x xs) = refl
applied_put put _ (Cons x xs) = refl

module _ (m : Meaning) where
  -- the value of a term is the same whatever the variables are
  abbrev pub IsClosed : Sexp → Type 0
  IsClosed t = (r : Variables) → value_of m r t ≡ value_of m [] t

  -- what is found of a variable is the value of the term that is put in its place, or what is found without it
  abbrev IsPutFor : Option Sexp → Option Element → Option Element → Type 0
  IsPutFor None v w = v ≡ w
  IsPutFor (Some t) v w = (v ≡ Some (value_of m [] t)) × IsClosed t

  abbrev pub ArePut : Replacing → Variables → Variables → Type 0
  ArePut put s r = (x : List ℕ) → IsPutFor (put x) (look_up s x) (look_up r x)

  symbol_put : (x : List ℕ) (r : Variables) (o : Option Sexp) (v : Option Element) → IsPutFor o v (look_up r x)
      → unwrap_or v (m (Plain x) []) ≡ value_of m r (unwrap_or o (Atom Symbol x))
  symbol_put x r None v h = ap (λ w. unwrap_or w (m (Plain x) [])) h
  symbol_put x r (Some t) v h = ap (λ w. unwrap_or w (m (Plain x) [])) h.0 ∙ sym (h.1 r)

  put_by_name : (b c : Bool) (o : Option Sexp) (v w : Element) (p q : Option Element) → v ≡ w
      → IsPutFor (cond c None o) p q → IsPutFor (cond b None (cond c None o)) (cond b (Some v) p) (cond b (Some w) q)
  put_by_name true c o v w p q here rest = ap Some here
  put_by_name false c o v w p q here rest = rest

  either_hides : (b c : Bool) (o : Option Sexp) → cond b None (cond c None o) ≡ cond (b || c) None o
  either_hides true c o = refl
  either_hides false c o = refl

  mutual
    pub value_put : (put : Replacing) (s r : Variables) → ArePut put s r → (t : Sexp)
        → value_of m s t ≡ value_of m r (put_in put t)
    value_put put s r are (Atom Symbol x) = symbol_put x r (put x) (look_up s x) (are x)
    value_put put s r are (Atom Numeral x) = refl
    value_put put s r are (Atom Hexadecimal x) = refl
    value_put put s r are (Atom Binary x) = refl
    value_put put s r are (Atom sexp.Decimal x) = refl
    value_put put s r are (Atom sexp.Text x) = refl
    value_put put s r are (Atom Keyword x) = refl
    value_put put s r are (Reserved word) = refl
    value_put put s r are (Items Nil) = refl
    value_put put s r are (Items (Cons (Reserved Let) (Cons (Items bindings) (Cons body Nil)))) =
        value_put (hiding bindings put) (values_bound m s bindings ++ s)
        (values_bound m r (put_in_bindings put bindings) ++ r) (bound_put put s r are bindings) body
    value_put put s r are (Items (Cons (Reserved Bang) (Cons term attributes))) = value_put put s r are term
    value_put put s r are (Items (Cons (Reserved word) parts)) = refl
    value_put put s r are (Items (Cons head args)) =
        ap₂ (λ o vs. element_by o (λ f. m f vs)) (applied_put put head args) (all_put put s r are args)

    all_put : (put : Replacing) (s r : Variables) → ArePut put s r → (ts : Sexps)
        → values_of m s ts ≡ values_of m r (put_in_all put ts)
    all_put put s r are Nil = refl
    all_put put s r are (Cons x xs) = ap₂ (λ v vs. v ∷ vs) (value_put put s r are x) (all_put put s r are xs)

    bound_put : (put : Replacing) (s r : Variables) → ArePut put s r → (bs : Sexps)
        → ArePut (hiding bs put) (values_bound m s bs ++ s) (values_bound m r (put_in_bindings put bs) ++ r)
    bound_put put s r are (Cons (Items (Cons (Atom Symbol y) (Cons t Nil))) rest) x =
        subst (λ o. IsPutFor o (look_up ((y, value_of m s t) ∷ values_bound m s rest ++ s) x)
        (look_up ((y, value_of m r (put_in put t)) ∷ values_bound m r (put_in_bindings put rest) ++ r) x))
        (either_hides (bytes_eq x y) (is_among (map (λ b. b.0) (named_trees rest)) x) (put x))
        (put_by_name (bytes_eq x y) (is_among (map (λ b. b.0) (named_trees rest)) x) (put x) (value_of m s t)
        (value_of m r (put_in put t)) (look_up (values_bound m s rest ++ s) x)
        (look_up (values_bound m r (put_in_bindings put rest) ++ r) x) (value_put put s r are t)
        (bound_put put s r are rest x))
    bound_put put s r are _ x = are x

  -- bindings of closed terms put these in the places of their names
  bindings_put : (bs : List (List ℕ × Sexp)) (r : Variables) → All (λ b. IsClosed b.1) bs
      → ArePut (look_up bs) (values_bound m r (bindings_of bs) ++ r) r
  bindings_put [] r closed x = refl
  bindings_put (b ∷ bs) r closed x =
      by (bytes_eq x b.0) (All-head (λ b. IsClosed b.1) b bs closed)
      (bindings_put bs r (All-tail (λ b. IsClosed b.1) b bs closed) x)
    where
      by : (c : Bool) → IsClosed b.1
          → IsPutFor (look_up bs x) (look_up (values_bound m r (bindings_of bs) ++ r) x) (look_up r x)
          → IsPutFor (cond c (Some b.1) (look_up bs x))
          (cond c (Some (value_of m r b.1)) (look_up (values_bound m r (bindings_of bs) ++ r) x)) (look_up r x)
      by true here rest = (ap Some (here r), here)
      by false here rest = rest

  pub let_put : (bs : List (List ℕ × Sexp)) (r : Variables) (body : Sexp) → All (λ b. IsClosed b.1) bs
      → value_of m r (let_of bs body) ≡ value_of m r (put_in (look_up bs) body)
  let_put bs r body closed =
      value_put (look_up bs) (values_bound m r (bindings_of bs) ++ r) r (bindings_put bs r closed) body

  -- ---- the order of bindings

  abbrev SayTheSame : Variables → Variables → Type 0
  SayTheSame r s = (x : List ℕ) → look_up r x ≡ look_up s x

  same_by_name : (b : Bool) (v w : Element) (o p : Option Element) → v ≡ w → o ≡ p
      → cond b (Some v) o ≡ cond b (Some w) p
  same_by_name true v w o p here rest = ap Some here
  same_by_name false v w o p here rest = rest

  mutual
    value_same : (r s : Variables) → SayTheSame r s → (t : Sexp) → value_of m r t ≡ value_of m s t
    value_same r s same (Atom Symbol x) = ap (λ o. unwrap_or o (m (Plain x) [])) (same x)
    value_same r s same (Atom Numeral x) = refl
    value_same r s same (Atom Hexadecimal x) = refl
    value_same r s same (Atom Binary x) = refl
    value_same r s same (Atom sexp.Decimal x) = refl
    value_same r s same (Atom sexp.Text x) = refl
    value_same r s same (Atom Keyword x) = refl
    value_same r s same (Reserved word) = refl
    value_same r s same (Items Nil) = refl
    value_same r s same (Items (Cons (Reserved Underscore) parts)) = refl
    value_same r s same (Items (Cons (Reserved As) parts)) = refl
    value_same r s same (Items (Cons (Reserved Let) (Cons (Items bindings) (Cons body Nil)))) =
        value_same (values_bound m r bindings ++ r) (values_bound m s bindings ++ s)
        (bound_same r s same bindings) body
    value_same r s same (Items (Cons (Reserved Bang) (Cons term attributes))) = value_same r s same term
    value_same r s same (Items (Cons head args)) =
        ap (λ vs. element_by (applied head args) (λ f. m f vs)) (all_same r s same args)

    all_same : (r s : Variables) → SayTheSame r s → (ts : Sexps) → values_of m r ts ≡ values_of m s ts
    all_same r s same Nil = refl
    all_same r s same (Cons x xs) = ap₂ (λ v vs. v ∷ vs) (value_same r s same x) (all_same r s same xs)

    bound_same : (r s : Variables) → SayTheSame r s → (bs : Sexps)
        → SayTheSame (values_bound m r bs ++ r) (values_bound m s bs ++ s)
    bound_same r s same (Cons (Items (Cons (Atom Symbol y) (Cons t Nil))) rest) x =
        same_by_name (bytes_eq x y) (value_of m r t) (value_of m s t) (look_up (values_bound m r rest ++ r) x)
        (look_up (values_bound m s rest ++ s) x) (value_same r s same t) (bound_same r s same rest x)
    bound_same r s same _ x = same x

  exchanged : (b c : Bool) (v w o : Option Element) → (b ≡ true → c ≡ true → ⊥)
      → cond b v (cond c w o) ≡ cond c w (cond b v o)
  exchanged true true v w o not_both = absurd (not_both refl refl)
  exchanged true false v w o not_both = refl
  exchanged false c v w o not_both = refl

  pub let_exchanged : (r : Variables) (x y : List ℕ) (s t : Sexp) (bs : List (List ℕ × Sexp)) (body : Sexp)
      → x ≢ y
      → value_of m r (let_of ((x, s) ∷ (y, t) ∷ bs) body) ≡ value_of m r (let_of ((y, t) ∷ (x, s) ∷ bs) body)
  let_exchanged r x y s t bs body differ =
      let rest = values_bound m r (bindings_of bs) in
      value_same ((x, value_of m r s) ∷ (y, value_of m r t) ∷ rest ++ r)
      ((y, value_of m r t) ∷ (x, value_of m r s) ∷ rest ++ r)
      (λ n. exchanged (bytes_eq n x) (bytes_eq n y) (Some (value_of m r s)) (Some (value_of m r t))
      (look_up (rest ++ r) n)
      (λ e f. differ (sym ((bytes_eq-Decides n x).0 e) ∙ (bytes_eq-Decides n y).0 f))) body

  -- ---- calls

  pub zipped : (ps : List (List ℕ)) (ts : Sexps)
      → values_bound m [] (bindings_of (zip ps (trees_of ts))) ≡ zip ps (values_of m [] ts)
  zipped [] ts = refl
  zipped (p ∷ ps) Nil = refl
  zipped (p ∷ ps) (Cons t ts) = ap (λ vs. (p, value_of m [] t) ∷ vs) (zipped ps ts)

-- the last definition is the outermost
meaning_last : (m : Meaning) (es : List Entry) (e : Entry)
    → meaning_after m (es ++ e ∷ []) ≡ with_definition (meaning_after m es) e
meaning_last m [] e = refl
meaning_last m (d ∷ es) e = meaning_last (with_definition m d) es e

by_own_name : (m : Meaning) (e : Entry) (args : List Element)
    → with_definition m e (Plain e.name) args ≡ defined_value m e.origin args
by_own_name m e args = by (bytes_eq e.name e.name) ((bytes_eq-Decides e.name e.name).1 refl)
  where
    by : (b : Bool) → b ≡ true
        → cond b (defined_value m e.origin args) (m (Plain e.name) args) ≡ defined_value m e.origin args
    by true h = refl
    by false h = cc

pub by_other_name : (m : Meaning) (e : Entry) (f : List ℕ) (args : List Element) → f ≢ e.name
    → with_definition m e (Plain f) args ≡ m (Plain f) args
by_other_name m e f args other = by (bytes_eq f e.name) (bytes_eq-Decides f e.name).0
  where
    by : (b : Bool) → (b ≡ true → f ≡ e.name)
        → cond b (defined_value m e.origin args) (m (Plain f) args) ≡ m (Plain f) args
    by true h = absurd (other (h refl))
    by false h = refl

pub other_names_stay : (z : DivisionByZero) (s : Signature) (e : Entry) (f : List ℕ) (args : List Element)
    → f ≢ e.name → meaning_in z (with_entry s e) (Plain f) args ≡ meaning_in z s (Plain f) args
other_names_stay z s e f args other =
    ap (λ (m : Meaning). m (Plain f) args) (meaning_last (operators z s.theories) s.entries e)
    ∙ by_other_name (meaning_in z s) e f args other

last_call : (z : DivisionByZero) (s : Signature) (e : Entry) (ps : List (List ℕ)) (body : Sexp)
    (args : List Element) → e.origin ≡ Defined ps body
    → meaning_in z (with_entry s e) (Plain e.name) args ≡ value_of (meaning_in z s) (zip ps args) body
last_call z s e ps body args is =
    ap (λ (m : Meaning). m (Plain e.name) args) (meaning_last (operators z s.theories) s.entries e)
    ∙ by_own_name (meaning_in z s) e args ∙ ap (λ o. defined_value (meaning_in z s) o args) is

pub constant_is_body : (z : DivisionByZero) (s : Signature) (e : Entry) (body : Sexp) → e.origin ≡ Defined [] body
    → value_over z (with_entry s e) [] (Atom Symbol e.name) ≡ value_over z s [] body
constant_is_body z s e body is = last_call z s e [] body [] is

pub call_is_let : (z : DivisionByZero) (s : Signature) (e : Entry) (ps : List (List ℕ)) (body first : Sexp)
    (rest : Sexps) → e.origin ≡ Defined ps body
    → values_of (meaning_in z (with_entry s e)) [] (Cons first rest) ≡ values_of (meaning_in z s) [] (Cons first rest)
    → value_over z (with_entry s e) [] (Items (Cons (Atom Symbol e.name) (Cons first rest)))
    ≡ value_over z s [] (let_of (zip ps (trees_of (Cons first rest))) body)
call_is_let z s e ps body first rest is same =
    let args = Cons first rest in
    let m = meaning_in z s in
    last_call z s e ps body (values_of (meaning_in z (with_entry s e)) [] args) is
    ∙ ap (λ vs. value_of m (zip ps vs) body) same
    ∙ ap (λ (r : Variables). value_of m r body)
    (sym (zipped m ps args) ∙ sym (append-nil (values_bound m [] (bindings_of (zip ps (trees_of args))))))
