-- What the name of an element means, and what is known of it.
use Rattle.std.proofs.Common.{◌≡◌, ◌≢◌, ◌↔◌, inl, inr, ℕ, Bool, true, false, cond, ◌&&◌, List}
use Rattle.std.proofs.Common.{[], ◌∷◌, map, Option, Some, None, Result, Ok, Err, codes, refl, ap, ap₂, sym, ◌∙◌}
use Rattle.std.proofs.Common.{subst}
use Rattle.std.specs.List.{All}
use Rattle.std.specs.Prelude.{bytes_eq, option_and_then, option_map, unwrap_or}
use Rattle.std.proofs.lemmas.List.Elements.{All-head, All-tail}
use Rattle.std.proofs.lemmas.Slice.Eq.{bytes_eq-Decides}
use Rattle.smt_trees.specs.Sexp.{Sexp, Atom, Reserved, Items, Nil, Cons, Symbol}
use Rattle.smt_trees.specs.declared.reserved.Word.TheVariants.{As}
use Rattle.smt_theory.specs.Operators.{op_by}
use Rattle.smt_theory.specs.Words.{look_up}
use Rattle.smt_theory.specs.declared.op.Op.{Op}
use Rattle.smt_theory.specs.declared.op.OpFault.{OpFault}
use Rattle.smt_theory.specs.declared.theories.Theories.{Theories}
use Rattle.smt_values.specs.Element.{Abstract}
use Rattle.smt_values.specs.Operations.{DivisionByZero}
use Rattle.smt_arrays.specs.Element.{Element, Plain as NoArray}
use Rattle.smt_arrays.specs.Known.{are_all_so}
use Rattle.smt_arrays.specs.Operations.{truth}
use Rattle.smt_arrays.specs.Reading.{is_same}
use Rattle.smt_forms.specs.ElementNames.{sort_of_element}
use Rattle.smt_forms.specs.Identifier.{Plain}
use Rattle.smt_values.specs.Element.{Naming}
use Rattle.smt_terms.specs.Signature.{Entry, Signature}
use Rattle.smt_eval.specs.Known.{KnownMeaning, by_name, known_after, known_defined, known_in, known_of, known_of_op}
use Rattle.smt_eval.specs.Known.{known_operators, with_known}
use Rattle.smt_eval.specs.Meaning.{Meaning, meaning_after, meaning_in, meaning_of_op, operators, value_over}
use Rattle.smt_eval.specs.Meaning.{with_definition}
use Rattle.smt_eval.specs.NamedElements.{IsNoOther, NamesElement, equation}
use Rattle.smt_eval.proofs.EvaluatorLemmas.{element_kept}
use Rattle.smt_eval.proofs.LetLemmas.{by_other_name}

-- ---- names without a meaning of their own

no_variable : {A : Type 0} (r : List (List ℕ × A)) (x : List ℕ) → All (λ y. y ≢ x) (map (λ v. v.0) r)
    → look_up r x ≡ None
no_variable [] x none = refl
no_variable (v ∷ r) x none = by (bytes_eq x v.0) (bytes_eq-Decides x v.0).0
    (no_variable r x (All-tail (λ y. y ≢ x) v.0 (map (λ w. w.0) r) none))
  where
    by : (b : Bool) → (b ≡ true → x ≡ v.0) → look_up r x ≡ None → cond b (Some v.1) (look_up r x) ≡ None
    by true is rest = absurd (All-head (λ y. y ≢ x) v.0 (map (λ w. w.0) r) none (sym (is refl)))
    by false is rest = rest

undefined_name : (m : Meaning) (es : List Entry) (x : List ℕ) (args : List Element)
    → All (λ (e : Entry). e.name ≢ x) es → meaning_after m es (Plain x) args ≡ m (Plain x) args
undefined_name m [] x args none = refl
undefined_name m (e ∷ es) x args none =
    undefined_name (with_definition m e) es x args (All-tail (λ (d : Entry). d.name ≢ x) e es none)
    ∙ by_other_name m e x args (λ is. All-head (λ (d : Entry). d.name ≢ x) e es none (sym is))

no_operator : (z : DivisionByZero) (theories : Theories) (x : List ℕ)
    → ((op : Op) → op_by theories x [] ≢ Ok op) → operators z theories (Plain x) [] ≡ NoArray (Abstract x)
no_operator z theories x none = by (op_by theories x []) refl
  where
    by : (o : Result Op OpFault) → op_by theories x [] ≡ o → meaning_of_op z o (Plain x) [] ≡ NoArray (Abstract x)
    by (Ok op) is = absurd (none op is)
    by (Err fault) is = refl

pub alone_value : (z : DivisionByZero) (s : Signature) (r : List (List ℕ × Element)) (x : List ℕ)
    → IsNoOther s (map (λ v. v.0) r) x → value_over z s r (Atom Symbol x) ≡ NoArray (Abstract x)
alone_value z s r x none =
    ap (λ (o : Option Element). unwrap_or o (meaning_in z s (Plain x) [])) (no_variable r x none.variable)
    ∙ undefined_name (operators z s.theories) s.entries x [] none.definition
    ∙ no_operator z s.theories x none.operator

pub named_value : (z : DivisionByZero) (s : Signature) (r : List (List ℕ × Element)) (t : Sexp) (x : List ℕ)
    → NamesElement s (map (λ v. v.0) r) t x → value_over z s r t ≡ NoArray (Abstract x)
named_value z s r t x (inl (sort, is)) = ap (value_over z s r) is
named_value z s r t x (inr (is, none)) = ap (value_over z s r) is ∙ alone_value z s r x none

-- ---- two names

equation_value : (z : DivisionByZero) (s : Signature) (r : List (List ℕ × Element)) (t u : Sexp)
    → All (λ (e : Entry). e.name ≢ codes "=") s.entries
    → value_over z s r (equation t u) ≡ truth (is_same (value_over z s r t) (value_over z s r u) && true)
equation_value z s r t u none =
    undefined_name (operators z s.theories) s.entries (codes "=")
    (value_over z s r t ∷ value_over z s r u ∷ []) none

same_name : (x y : List ℕ) (b : Bool) → (b ≡ true → x ≡ y) → (x ≡ y → b ≡ true)
    → ((truth (b && true) ≡ truth true) ↔ (x ≡ y)) × ((truth (b && true) ≡ truth false) ↔ (x ≢ y))
same_name x y true is has =
    ((λ h. is refl, λ h. refl), (λ h. cc, λ differ. absurd (differ (is refl))))
same_name x y false is has =
    ((λ h. cc, λ same. let k = has same in cc), (λ h same. let k = has same in cc, λ differ. refl))

module _ (z : DivisionByZero) (s : Signature) (r : List (List ℕ × Element)) (t u : Sexp) (x y : List ℕ)
    (left : NamesElement s (map (λ v. v.0) r) t x) (right : NamesElement s (map (λ v. v.0) r) u y) where
  pub names_apart : (value_over z s r t ≡ value_over z s r u) ↔ (x ≡ y)
  names_apart = (
    λ same. let p = named_value z s r t x left in let q = named_value z s r u y right in cc,
    λ same. named_value z s r t x left ∙ ap (λ (n : List ℕ). NoArray (Abstract n)) same ∙ sym (named_value z s r u y right),
  )

  equated : All (λ (e : Entry). e.name ≢ codes "=") s.entries
      → value_over z s r (equation t u) ≡ truth (bytes_eq x y && true)
  equated none = equation_value z s r t u none
      ∙ ap₂ (λ (d e : Element). truth (is_same d e && true)) (named_value z s r t x left) (named_value z s r u y right)

  pub compared : All (λ (e : Entry). e.name ≢ codes "=") s.entries
      → ((value_over z s r (equation t u) ≡ truth true) ↔ (x ≡ y))
      × ((value_over z s r (equation t u) ≡ truth false) ↔ (x ≢ y))
  compared none = subst (λ (e : Element). ((e ≡ truth true) ↔ (x ≡ y)) × ((e ≡ truth false) ↔ (x ≢ y)))
      (sym (equated none)) (same_name x y (bytes_eq x y) (bytes_eq-Decides x y).0 (bytes_eq-Decides x y).1)

-- ---- what is known

undefined_known : (m : KnownMeaning) (es : List Entry) (x : List ℕ) (args : List (Option Element))
    → All (λ (e : Entry). e.name ≢ x) es → (known_after m es).gives (Plain x) args ≡ m.gives (Plain x) args
undefined_known m [] x args none = refl
undefined_known m (e ∷ es) x args none =
    undefined_known (with_known m e) es x args (All-tail (λ (d : Entry). d.name ≢ x) e es none)
    ∙ by (bytes_eq x e.name) (bytes_eq-Decides x e.name).0
  where
    by : (b : Bool) → (b ≡ true → x ≡ e.name)
        → cond b (known_defined m e.origin args) (m.gives (Plain x) args) ≡ m.gives (Plain x) args
    by true is = absurd (All-head (λ (d : Entry). d.name ≢ x) e es none (sym (is refl)))
    by false is = refl

-- what is known of the name of an element, by its form
abbrev known_alone : List ℕ → Option Element
known_alone x = option_map NoArray (option_and_then (λ sort. by_name x) (sort_of_element x))

no_known_operator : (theories : Theories) (x : List ℕ) → ((op : Op) → op_by theories x [] ≢ Ok op)
    → (known_operators by_name theories).gives (Plain x) [] ≡ known_alone x
no_known_operator theories x none = by (op_by theories x []) refl
  where
    by : (o : Result Op OpFault) → op_by theories x [] ≡ o → known_of_op by_name o (Plain x) [] ≡ known_alone x
    by (Ok op) is = absurd (none op is)
    by (Err fault) is = refl

module _ (s : Signature) (r : List (List ℕ × Option Element)) where
  abbrev known_here : Sexp → Option Element
  known_here t = known_of (known_in s) r t

  known_by_name : (x : List ℕ) → IsNoOther s (map (λ v. v.0) r) x → known_here (Atom Symbol x) ≡ known_alone x
  known_by_name x none =
      ap (λ (o : Option (Option Element)). unwrap_or o ((known_in s).gives (Plain x) [])) (no_variable r x none.variable)
      ∙ undefined_known (known_operators by_name s.theories) s.entries x [] none.definition
      ∙ no_known_operator s.theories x none.operator

  alone_kept : (x : List ℕ) (e : Element) (o : Option (List ℕ))
      → option_map NoArray (option_and_then (λ sort. by_name x) o) ≡ Some e → e ≡ NoArray (Abstract x)
  alone_kept x e None h = cc
  alone_kept x e (Some sort) h = cc

  -- behind an `as` every element is known
  pub qualified_name : (x : List ℕ) (sort : Sexp)
      → known_here (Items (Cons (Reserved As) (Cons (Atom Symbol x) (Cons sort Nil)))) ≡ Some (NoArray (Abstract x))
  qualified_name x sort = ap (λ (f : Naming). option_map NoArray (f x)) (element_kept (known_operators by_name s.theories) s.entries)

  pub known_name : (t : Sexp) (x : List ℕ) (e : Element) → NamesElement s (map (λ v. v.0) r) t x
      → known_here t ≡ Some e → e ≡ NoArray (Abstract x)
  known_name t x e (inl (sort, is)) h =
      let same : Some (NoArray (Abstract x)) ≡ Some e = sym (qualified_name x sort) ∙ sym (ap known_here is) ∙ h in cc
  known_name t x e (inr (is, none)) h =
      alone_kept x e (sort_of_element x) (sym (ap known_here is ∙ known_by_name x none) ∙ h)

  pub alone_held : (x sort : List ℕ) → IsNoOther s (map (λ v. v.0) r) x → sort_of_element x ≡ Some sort
      → known_here (Atom Symbol x) ≡ Some (NoArray (Abstract x))
  alone_held x sort other form = known_by_name x other
      ∙ ap (λ (o : Option (List ℕ)). option_map NoArray (option_and_then (λ sort. by_name x) o)) form

  -- ---- two names of which is known

  pub known_apart : (t u : Sexp) (x y : List ℕ) (d e : Element) → NamesElement s (map (λ v. v.0) r) t x
      → NamesElement s (map (λ v. v.0) r) u y → known_here t ≡ Some d → known_here u ≡ Some e
      → (d ≡ e) ↔ (x ≡ y)
  known_apart t u x y d e left right p q =
      let f = known_name t x d left p in
      let g = known_name u y e right q in (λ same. cc, λ same. f ∙ ap (λ (n : List ℕ). NoArray (Abstract n)) same ∙ sym g)

  pub known_compared : (t u : Sexp) (x y : List ℕ) (d e : Element) → NamesElement s (map (λ v. v.0) r) t x
      → NamesElement s (map (λ v. v.0) r) u y → known_here t ≡ Some d → known_here u ≡ Some e
      → All (λ (e : Entry). e.name ≢ codes "=") s.entries
      → ((known_here (equation t u) ≡ Some (truth true)) ↔ (x ≡ y))
      × ((known_here (equation t u) ≡ Some (truth false)) ↔ (x ≢ y))
  known_compared t u x y d e left right p q none =
      let f = p ∙ ap Some (known_name t x d left p) in
      let g = q ∙ ap Some (known_name u y e right q) in
      subst (λ (o : Option Element). ((o ≡ Some (truth true)) ↔ (x ≡ y)) × ((o ≡ Some (truth false)) ↔ (x ≢ y)))
      (sym (undefined_known (known_operators by_name s.theories) s.entries (codes "=")
      (known_here t ∷ known_here u ∷ []) none
      ∙ ap₂ (λ (a b : Option Element). (known_operators by_name s.theories).gives (Plain (codes "=")) (a ∷ b ∷ [])) f g))
      (same_known x y (bytes_eq x y) (bytes_eq-Decides x y).0 (bytes_eq-Decides x y).1)
    where
      same_known : (x y : List ℕ) (b : Bool) → (b ≡ true → x ≡ y) → (x ≡ y → b ≡ true)
          → ((option_map truth (are_all_so (Some b ∷ [])) ≡ Some (truth true)) ↔ (x ≡ y))
          × ((option_map truth (are_all_so (Some b ∷ [])) ≡ Some (truth false)) ↔ (x ≢ y))
      same_known x y true is has =
          ((λ h. is refl, λ h. refl), (λ h. cc, λ differ. absurd (differ (is refl))))
      same_known x y false is has =
          ((λ h. cc, λ same. let k = has same in cc), (λ h same. let k = has same in cc, λ differ. refl))
