-- A term that uses no variable of the outer ones has its sort without them.
use Rattle.std.proofs.Common.{◌≡◌, ℕ, Bool, true, false, cond, not, ◌&&◌, ◌||◌, List, [], ◌∷◌, ◌++◌, map}
use Rattle.std.proofs.Common.{Option, Some, None, is_some, Result, Ok, Err, refl, ap, sym, ◌∙◌, append_assoc}
use Rattle.std.proofs.Common.{append-nil}
use Rattle.std.proofs.lemmas.List.{map-append}
use Rattle.std.specs.Str.{bytes_eq}
use Rattle.smt_trees.specs.Sexp as sexp
use Rattle.smt_trees.specs.Sexp.{Sexp, Sexps, Atom, Reserved, Items, Nil, Cons, Symbol, Keyword, Numeral}
use Rattle.smt_trees.specs.Sexp.{Hexadecimal, Binary}
use Rattle.smt_trees.specs.declared.reserved.Word.TheVariants.{As, Bang, Let, Underscore}
use Rattle.smt_theory.specs.Words.{look_up, result_and_then}
use Rattle.smt_theory.specs.Sort.{Sort}
use Rattle.smt_forms.specs.Bindings.{are_attributes, are_bindings, named_trees}
use Rattle.smt_terms.specs.Checking.{bound_in, flaw_of_labels, sort_applied, sort_in, sort_of_call}
use Rattle.smt_terms.specs.Checking.{sort_of_symbol, sort_unless_variable, sorts_in, unless}
use Rattle.smt_forms.specs.Identifier.{Identifier, Plain, Indexed, Qualified, applied_in}
use Rattle.smt_terms.specs.Labels.{Unread}
use Rattle.smt_forms.specs.Variables.{any_uses_outer, bindings_use_outer, is_among, uses_outer}
use Rattle.smt_forms.specs.Labels.{labels_among, labels_in, labels_in_bindings}
use Rattle.smt_terms.specs.Signature.{Names, behind}
use Rattle.smt_faults.specs.declared.term_flaw.TermFlaw.{TermFlaw}
use Rattle.smt_faults.specs.declared.term_flaw.TermFlaw.TheVariants.{BoundTwice, Form}
use Rattle.smt_terms.proofs.CheckerLemmas.{Scope}
use Rattle.smt_terms.proofs.KeptLemmas.{Unread-behind, answered, kept-else, kept-steps, kept-then}
use Rattle.smt_terms.proofs.KeptLemmas.{unless-none, unread_faults}

-- the names of variables
abbrev pub names_in : Scope → List (List ℕ)
names_in scope = map (λ v. v.0) scope

-- ## Tests

pub neither : (a b : Bool) → a || b ≡ false → (a ≡ false) × (b ≡ false)
neither true b h = cc
neither false b h = (refl, h)

-- ## Variables

-- a name that is no outer variable's, unless an inner one hides it, is looked up among the inner ones
inner_alone : (inner outer : Scope) (x : List ℕ)
    → not (is_among (names_in inner) x) && is_some (look_up outer x) ≡ false
    → look_up (inner ++ outer) x ≡ look_up inner x
inner_alone [] outer x h = none (look_up outer x) h
  where
    none : (o : Option Sort) → is_some o ≡ false → o ≡ None
    none None g = refl
    none (Some s) g = cc
inner_alone (v ∷ inner) outer x h = by (bytes_eq x v.0) h (inner_alone inner outer x)
  where
    by : (b : Bool) → not (b || is_among (names_in inner) x) && is_some (look_up outer x) ≡ false
        → (not (is_among (names_in inner) x) && is_some (look_up outer x) ≡ false
        → look_up (inner ++ outer) x ≡ look_up inner x)
        → cond b (Some v.1) (look_up (inner ++ outer) x) ≡ cond b (Some v.1) (look_up inner x)
    by true g rest = refl
    by false g rest = rest g

-- a name that stands for no variable stands for none of the inner ones
inner_none : (inner outer : Scope) (x : List ℕ) → look_up (inner ++ outer) x ≡ None → look_up inner x ≡ None
inner_none [] outer x h = refl
inner_none (v ∷ inner) outer x h = by (bytes_eq x v.0) h (inner_none inner outer x)
  where
    by : (b : Bool) → cond b (Some v.1) (look_up (inner ++ outer) x) ≡ None
        → (look_up (inner ++ outer) x ≡ None → look_up inner x ≡ None)
        → cond b (Some v.1) (look_up inner x) ≡ None
    by true g rest = cc
    by false g rest = rest g

closed-unless : (o p : Option Sort) (r : Result Sort TermFlaw) (sort : Sort) → (o ≡ None → p ≡ None)
    → sort_unless_variable o r ≡ Ok sort → sort_unless_variable p r ≡ Ok sort
closed-unless (Some s) p r sort none h = cc
closed-unless None p r sort none h = ap (λ q. sort_unless_variable q r) (none refl) ∙ h

closed-call : (names : Names) (inner outer : Scope) (f : Identifier) (args : List Sort) (sort : Sort)
    → sort_of_call names (inner ++ outer) f args ≡ Ok sort → sort_of_call names inner f args ≡ Ok sort
closed-call names inner outer (Plain f) args sort h = closed-unless (look_up (inner ++ outer) f)
    (look_up inner f) (sort_applied names (Plain f) args) sort (inner_none inner outer f) h
closed-call names inner outer (Indexed f is) args sort h = h
closed-call names inner outer (Qualified o) args sort h = h

-- ## Bound names

names-push : (scope : Scope) (x : List ℕ) (s : Sort) (xs : List (List ℕ))
    → names_in (scope ++ (x, s) ∷ []) ++ xs ≡ names_in scope ++ x ∷ xs
names-push [] x s xs = refl
names-push (v ∷ scope) x s xs = ap (λ ys. v.0 ∷ ys) (names-push scope x s xs)

-- what is the same answer
pub of_ok : {A : Type 0} (x y : A) (r : Result A TermFlaw) → r ≡ Ok x → r ≡ Ok y → x ≡ y
of_ok x y r h i = cc

-- bindings bring variables of their names
pub bound-names : (names : Names) (scope bound : Scope) (bs : Sexps) (vs : Scope)
    → bound_in names scope bound bs ≡ Ok vs → names_in vs ≡ names_in bound ++ map (λ b. b.0) (named_trees bs)
bound-names names scope bound Nil vs h =
    ap names_in (of_ok vs bound (Ok bound) h refl) ∙ sym (append-nil (names_in bound))
bound-names names scope bound (Cons (Items (Cons (Atom Symbol x) (Cons term Nil))) rest) vs h =
    by (is_some (look_up bound x)) (sort_in names scope term) h
    (λ s g. bound-names (behind (labels_in term) names) scope
    (bound ++ (x, s) ∷ []) rest vs g ∙ names-push bound x s (map (λ b. b.0) (named_trees rest)))
  where
    by : (b : Bool) (r : Result Sort TermFlaw)
        → cond b (Err BoundTwice)
        (result_and_then r (λ s. bound_in (behind (labels_in term) names) scope (bound ++ (x, s) ∷ []) rest))
        ≡ Ok vs
        → ((s : Sort) → bound_in (behind (labels_in term) names) scope (bound ++ (x, s) ∷ []) rest ≡ Ok vs
        → names_in vs ≡ names_in bound ++ x ∷ map (λ b. b.0) (named_trees rest))
        → names_in vs ≡ names_in bound ++ x ∷ map (λ b. b.0) (named_trees rest)
    by true r g next = cc
    by false (Err f) g next = cc
    by false (Ok s) g next = next s g
bound-names names scope bound _ vs h = cc

-- ## Terms

-- what a list applies
closed-application : (names : Names) (inner outer : Scope) (head : Sexp) (args : Sexps) (sort : Sort)
    → ((ss : List Sort) → sorts_in names (inner ++ outer) args ≡ Ok ss → sorts_in names inner args ≡ Ok ss)
    → result_and_then (applied_in names.theories.wide head args)
    (λ f. result_and_then (sorts_in names (inner ++ outer) args)
    (λ ss. sort_of_call names (inner ++ outer) f ss)) ≡ Ok sort
    → result_and_then (applied_in names.theories.wide head args)
    (λ f. result_and_then (sorts_in names inner args) (λ ss. sort_of_call names inner f ss)) ≡ Ok sort
closed-application names inner outer head args sort sorts h =
    kept-steps (applied_in names.theories.wide head args) (applied_in names.theories.wide head args)
    (λ f. result_and_then (sorts_in names (inner ++ outer) args)
    (λ ss. sort_of_call names (inner ++ outer) f ss))
    (λ f. result_and_then (sorts_in names inner args) (λ ss. sort_of_call names inner f ss)) sort (λ f is. is)
    (λ f i. kept-steps (sorts_in names (inner ++ outer) args) (sorts_in names inner args)
    (λ ss. sort_of_call names (inner ++ outer) f ss) (λ ss. sort_of_call names inner f ss) sort sorts
    (λ ss. closed-call names inner outer f ss sort) i) h

mutual
  pub closed-sort : (names : Names) (inner outer : Scope) (t : Sexp) (sort : Sort) → names.labels ≡ Unread
      → uses_outer (names_in inner) outer t ≡ false → sort_in names (inner ++ outer) t ≡ Ok sort
      → sort_in names inner t ≡ Ok sort
  closed-sort names inner outer (Atom Symbol x) sort u unused h =
      ap (λ o. sort_of_symbol names x o) (sym (inner_alone inner outer x unused)) ∙ h
  closed-sort names inner outer (Atom Numeral x) sort u unused h = h
  closed-sort names inner outer (Atom Hexadecimal x) sort u unused h = h
  closed-sort names inner outer (Atom Binary x) sort u unused h = h
  closed-sort names inner outer (Atom sexp.Decimal x) sort u unused h = h
  closed-sort names inner outer (Atom sexp.Text x) sort u unused h = cc
  closed-sort names inner outer (Atom Keyword x) sort u unused h = cc
  closed-sort names inner outer (Reserved word) sort u unused h = cc
  closed-sort names inner outer (Items Nil) sort u unused h = cc
  closed-sort names inner outer (Items (Cons (Reserved Underscore) parts)) sort u unused h = h
  closed-sort names inner outer (Items (Cons (Reserved As) parts)) sort u unused h = h
  closed-sort names inner outer
      (Items (Cons (Reserved Let) (Cons (Items bindings) (Cons body Nil)))) sort u unused h =
      let later = behind (labels_in_bindings bindings) names in
      let n =
      neither (bindings_use_outer (names_in inner) outer bindings)
      (uses_outer (map (λ b. b.0) (named_trees bindings) ++ names_in inner) outer body) unused in
      let bodies = λ (bound : Scope) (is : bound_in names (inner ++ outer) [] bindings ≡ Ok bound).
      λ (g : sort_in later (bound ++ (inner ++ outer)) body ≡ Ok sort).
      closed-sort later (bound ++ inner) outer body sort
      (Unread-behind (labels_in_bindings bindings) names.labels u)
      (ap (λ xs. uses_outer xs outer body)
      (map-append (λ v. v.0) bound inner ∙ ap (λ xs. xs ++ names_in inner)
      (bound-names names (inner ++ outer) [] bindings bound is)) ∙ n.1)
      (ap (λ vs. sort_in later vs body) (append_assoc bound inner outer) ∙ g) in
      kept-then (are_bindings bindings)
      (result_and_then (bound_in names (inner ++ outer) [] bindings)
      (λ bound. sort_in later (bound ++ (inner ++ outer)) body))
      (result_and_then (bound_in names inner [] bindings) (λ bound. sort_in later (bound ++ inner) body)) Form
      sort
      (λ g. let a = answered (bound_in names (inner ++ outer) [] bindings)
      (λ bound. sort_in later (bound ++ (inner ++ outer)) body) sort g in
      ap (λ q. result_and_then q (λ bound. sort_in later (bound ++ inner) body))
      (closed-bound names inner outer [] bindings a.0 u n.0 a.1) ∙ bodies a.0 a.1 a.2) h
  closed-sort names inner outer (Items (Cons (Reserved Let) args)) sort u unused h = cc
  closed-sort names inner outer (Items (Cons (Reserved Bang) (Cons term attributes))) sort u unused h =
      let later = behind (labels_in term) names in
      let xs = labels_among attributes in
      kept-then (are_attributes attributes)
      (result_and_then (sort_in names (inner ++ outer) term)
      (λ s. unless (flaw_of_labels later (inner ++ outer) term xs) (Ok s)))
      (result_and_then (sort_in names inner term) (λ s. unless (flaw_of_labels later inner term xs) (Ok s)))
      Form sort
      (kept-steps (sort_in names (inner ++ outer) term) (sort_in names inner term)
      (λ s. unless (flaw_of_labels later (inner ++ outer) term xs) (Ok s))
      (λ s. unless (flaw_of_labels later inner term xs) (Ok s)) sort
      (λ s i. closed-sort names inner outer term s u unused i)
      (λ s i. ap (λ o. unless o (Ok s))
      (unread_faults later inner term xs (Unread-behind (labels_in term) names.labels u)) ∙
      (unless-none (flaw_of_labels later (inner ++ outer) term xs) (Ok s) sort i).1)) h
  closed-sort names inner outer (Items (Cons (Reserved Bang) args)) sort u unused h = cc
  closed-sort names inner outer (Items (Cons head args)) sort u unused h = closed-application names inner
      outer head args sort (λ ss. closed-sorts names inner outer args ss u unused) h

  closed-sorts : (names : Names) (inner outer : Scope) (ts : Sexps) (sorts : List Sort)
      → names.labels ≡ Unread → any_uses_outer (names_in inner) outer ts ≡ false
      → sorts_in names (inner ++ outer) ts ≡ Ok sorts → sorts_in names inner ts ≡ Ok sorts
  closed-sorts names inner outer Nil sorts u unused h = h
  closed-sorts names inner outer (Cons x xs) sorts u unused h =
      let later = behind (labels_in x) names in
      let n =
      neither (uses_outer (names_in inner) outer x) (any_uses_outer (names_in inner) outer xs) unused in
      kept-steps (sort_in names (inner ++ outer) x) (sort_in names inner x)
      (λ s. result_and_then (sorts_in later (inner ++ outer) xs) (λ ss. Ok (s ∷ ss)))
      (λ s. result_and_then (sorts_in later inner xs) (λ ss. Ok (s ∷ ss))) sorts
      (λ s. closed-sort names inner outer x s u n.0)
      (λ s. kept-steps (sorts_in later (inner ++ outer) xs) (sorts_in later inner xs) (λ ss. Ok (s ∷ ss))
      (λ ss. Ok (s ∷ ss)) sorts
      (λ ss. closed-sorts later inner outer xs ss (Unread-behind (labels_in x) names.labels u) n.1)
      (λ ss i. i)) h

  closed-bound : (names : Names) (inner outer bound : Scope) (bs : Sexps) (vs : Scope) → names.labels ≡ Unread
      → bindings_use_outer (names_in inner) outer bs ≡ false
      → bound_in names (inner ++ outer) bound bs ≡ Ok vs → bound_in names inner bound bs ≡ Ok vs
  closed-bound names inner outer bound Nil vs u unused h = h
  closed-bound names inner outer bound
      (Cons (Items (Cons (Atom Symbol x) (Cons term Nil))) rest) vs u unused h =
      let later = behind (labels_in term) names in
      let n =
      neither (uses_outer (names_in inner) outer term)
      (bindings_use_outer (names_in inner) outer rest) unused in
      kept-else (is_some (look_up bound x))
      (result_and_then (sort_in names (inner ++ outer) term)
      (λ s. bound_in later (inner ++ outer) (bound ++ (x, s) ∷ []) rest))
      (result_and_then (sort_in names inner term) (λ s. bound_in later inner (bound ++ (x, s) ∷ []) rest))
      BoundTwice vs
      (kept-steps (sort_in names (inner ++ outer) term) (sort_in names inner term)
      (λ s. bound_in later (inner ++ outer) (bound ++ (x, s) ∷ []) rest)
      (λ s. bound_in later inner (bound ++ (x, s) ∷ []) rest) vs
      (λ s. closed-sort names inner outer term s u n.0)
      (λ s. closed-bound later inner outer (bound ++ (x, s) ∷ []) rest vs
      (Unread-behind (labels_in term) names.labels u) n.1)) h
  closed-bound names inner outer bound _ vs u unused h = cc

-- a term that uses no variable has its sort over none
pub closed : (names : Names) (scope : Scope) (t : Sexp) (sort : Sort) → names.labels ≡ Unread
    → uses_outer [] scope t ≡ false → sort_in names scope t ≡ Ok sort → sort_in names [] t ≡ Ok sort
closed names scope t sort u unused h = closed-sort names [] scope t sort u unused h
