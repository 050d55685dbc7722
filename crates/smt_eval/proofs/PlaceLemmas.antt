-- Where the definitions of a structure stand, and in which library.
use Rattle.std.proofs.Common.{◌≡◌, ◌<◌, ℕ, zero, suc, ◌+◌, true, false, cond, not, Bool, List, [], ◌∷◌, ◌++◌}
use Rattle.std.proofs.Common.{length, slice_get, Some, None, refl, ap, sym, ◌∙◌, subst, arith}
use Rattle.std.specs.Prelude.{bytes_eq}
use Rattle.smt_terms.specs.Library.{declared_among, defined_among}
use Rattle.smt_terms.specs.Library.{is_declared}
use Rattle.smt_terms.specs.Signature.{AreDistinct, Entry, Origin, Declared, Defined, IsDeclared}
use Rattle.smt_terms.specs.Signature.{entry_named}
use Rattle.smt_eval.proofs.EntryLemmas.{entry_named-skip}
use Rattle.smt_eval.proofs.NameLemmas.{none_step, same_name}
use Rattle.smt_eval.specs.Internal.DefinitionValues.{AllDefined, IsDefined}

-- ---- entries that are declared or defined

-- definitions are all defined
pub all_defined : (es : List Entry) → AllDefined es → defined_among es ≡ es
all_defined [] k = refl
all_defined (e ∷ es) k = by e.origin k.0 (all_defined es k.1)
  where
    by : (o : Origin) → IsDefined o → defined_among es ≡ es
        → cond (not (is_declared o)) (e ∷ defined_among es) (defined_among es) ≡ e ∷ es
    by (Declared command) c h = absurd c
    by (Defined ps body) c h = ap (λ (xs : List Entry). e ∷ xs) h

-- what is found for a name has it
pub name_of_found : (es : List Entry) (x : List ℕ) (e : Entry) → entry_named es x ≡ Some e → e.name ≡ x
name_of_found [] x e h = cc
name_of_found (d ∷ es) x e h = by (bytes_eq x d.name) refl h (name_of_found es x e)
  where
    by : (b : Bool) → bytes_eq x d.name ≡ b → cond b (Some d) (entry_named es x) ≡ Some e
        → (entry_named es x ≡ Some e → e.name ≡ x) → e.name ≡ x
    by true same h next =
        let here : d ≡ e = cc in sym (same_name x d.name same ∙ ap (λ (f : Entry). f.name) here)
    by false same h next = next h

-- a name without an entry is not defined
pub none_among : (es : List Entry) (x : List ℕ) → entry_named es x ≡ None
    → entry_named (defined_among es) x ≡ None
none_among [] x h = refl
none_among (d ∷ es) x h = let p = none_step (bytes_eq x d.name) d (entry_named es x) h
    in by (not (is_declared d.origin)) p.0 (none_among es x p.1)
  where
    by : (b : Bool) → bytes_eq x d.name ≡ false → entry_named (defined_among es) x ≡ None
        → entry_named (cond b (d ∷ defined_among es) (defined_among es)) x ≡ None
    by true other rest = entry_named-skip d (defined_among es) x other ∙ rest
    by false other rest = rest

-- nor is one that is declared
pub declared_alone : (es : List Entry) (x : List ℕ) (e : Entry) → AreDistinct es → entry_named es x ≡ Some e
    → IsDeclared e.origin → entry_named (defined_among es) x ≡ None
declared_alone [] x e distinct at is = refl
declared_alone (d ∷ es) x e distinct at is =
    by (bytes_eq x d.name) refl d.origin refl at (λ h. declared_alone es x e distinct.1 h is)
  where
    by : (b : Bool) → bytes_eq x d.name ≡ b → (o : Origin) → d.origin ≡ o
        → cond b (Some d) (entry_named es x) ≡ Some e
        → (entry_named es x ≡ Some e → entry_named (defined_among es) x ≡ None)
        → entry_named (cond (not (is_declared o)) (d ∷ defined_among es) (defined_among es)) x ≡ None
    by true same (Declared command) from h next =
        none_among es x (ap (λ n. entry_named es n) (same_name x d.name same) ∙ distinct.0)
    by true same (Defined ps body) from h next =
        let here : e ≡ d = cc in absurd (subst IsDeclared (ap (λ (f : Entry). f.origin) here ∙ from) is)
    by false same (Declared command) from h next = next h
    by false same (Defined ps body) from h next = entry_named-skip d (defined_among es) x same ∙ next h

-- what stands among the declared is declared
pub declared_is : (es : List Entry) (n : ℕ) (e : Entry) → slice_get (declared_among es) n ≡ Some e
    → IsDeclared e.origin
declared_is [] n e at = cc
declared_is (d ∷ es) n e at = by d.origin refl n at (λ k h. declared_is es k e h)
  where
    by : (o : Origin) → d.origin ≡ o → (n : ℕ)
        → slice_get (cond (is_declared o) (d ∷ declared_among es) (declared_among es)) n ≡ Some e
        → ((k : ℕ) → slice_get (declared_among es) k ≡ Some e → IsDeclared e.origin) → IsDeclared e.origin
    by (Declared command) from zero at next =
        let here : d ≡ e = cc in subst IsDeclared (sym from ∙ ap (λ (f : Entry). f.origin) here) tt
    by (Declared command) from (suc k) at next = next k at
    by (Defined ps body) from n at next = next n at

-- ---- places

-- what stands at a place stands within the list
pub within : {A : Type 0} (xs : List A) (k : ℕ) (x : A) → slice_get xs k ≡ Some x → k < length xs
within [] k x h = cc
within (y ∷ xs) zero x h = omega arith
within (y ∷ xs) (suc k) x h = let w = within xs k x h in omega (arith, w)

-- ---- two lists

pub at_left : {A : Type 0} (xs ys : List A) (p : ℕ) (x : A) → slice_get xs p ≡ Some x
    → slice_get (xs ++ ys) p ≡ Some x
at_left [] ys p x h = cc
at_left (y ∷ xs) ys zero x h = h
at_left (y ∷ xs) ys (suc p) x h = at_left xs ys p x h

at_right_of : {A : Type 0} (xs ys : List A) (p q : ℕ) → p ≡ length xs + q
    → slice_get (xs ++ ys) p ≡ slice_get ys q
at_right_of [] ys p q h = let is : p ≡ q = omega (arith, h) in ap (slice_get ys) is
at_right_of (x ∷ xs) ys zero q h = absurd (omega (arith, h))
at_right_of (x ∷ xs) ys (suc p) q h = at_right_of xs ys p q (omega (arith, h))

pub at_right : {A : Type 0} (xs ys : List A) (p q : ℕ) (x : A) → p ≡ length xs + q → slice_get ys q ≡ Some x
    → slice_get (xs ++ ys) p ≡ Some x
at_right xs ys p q x is h = at_right_of xs ys p q is ∙ h

-- a name that is in neither
pub none_in_both : (es fs : List Entry) (x : List ℕ) → entry_named es x ≡ None → entry_named fs x ≡ None
    → entry_named (es ++ fs) x ≡ None
none_in_both [] fs x h i = i
none_in_both (e ∷ es) fs x h i = let p = none_step (bytes_eq x e.name) e (entry_named es x) h
    in entry_named-skip e (es ++ fs) x p.0 ∙ none_in_both es fs x p.1 i
