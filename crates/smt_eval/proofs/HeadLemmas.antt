-- Where the names of a table of terms stand among the entries of its signature, and the bodies of those that
-- are defined.
use Rattle.std.proofs.Common.{◌≡◌, ◌<◌, ℕ, zero, suc, ◌+◌, Bool, true, false, cond, List, [], ◌∷◌, length, take}
use Rattle.std.proofs.Common.{slice_get, Some, refl, sym, subst, arith}
use Rattle.std.specs.Prelude.{bytes_eq}
use Rattle.smt_trees.specs.Sexp.{Sexp}
use Rattle.smt_theory.specs.Words.{look_up}
use Rattle.smt_terms.specs.Denotes.{Head, Table}
use Rattle.smt_terms.specs.Library.{declared_among, is_declared}
use Rattle.smt_terms.specs.Signature.{Entry, Origin, Declared, Defined}
use Rattle.smt_terms.specs.TermsOf.{AreBodies, IsBody, IsNextBody, heads_from, place_behind, with_declared}
use Rattle.smt_terms.specs.TermsOf.{with_defined}
use Rattle.smt_terms.specs.declared.library.Found.{Found}
use Rattle.smt_terms.specs.declared.library.Found.TheVariants as place
use Rattle.smt_eval.proofs.NameLemmas.{same_name}
use Rattle.smt_eval.specs.Internal.DefinitionValues.{AllDefined, IsDefined}

-- node j is the body of the entry, which is a definition that sees the first n names
abbrev pub IsBodyOf : Table → ℕ → Entry → ℕ → Type 0
IsBodyOf t n e j = (ps : List (List ℕ)) × (body : Sexp) × (e.origin ≡ Defined ps body)
    × IsBody t n (length e.parameters) ps body j

-- an entry at place q behind others stands at this place among those that are declared, or its body among
-- the bodies
abbrev pub IsHeadAt : Table → List Entry → (declared defined before : ℕ) → List ℕ → ℕ → Entry → Found → Type 0
IsHeadAt t ds declared defined before bodies q e (place.Declared p) =
    (i : ℕ) × (p ≡ declared + i) × (slice_get ds i ≡ Some e)
IsHeadAt t ds declared defined before bodies q e (place.Defined p) = (i : ℕ) × (p ≡ defined + i)
    × ((j : ℕ) → slice_get bodies i ≡ Some j → IsBodyOf t (before + q) e j)

-- the head is that of one of the first n entries, which has the name
pub record IsNamed (t : Table) (es ds : List Entry) (declared defined before : ℕ) (bodies : List ℕ) (n : ℕ)
    (x : List ℕ) (head : Head) : Type 0 where
  pub place : ℕ
  pub entry : Entry
  pub at : slice_get es place ≡ Some entry
  pub within : place < n
  pub name : entry.name ≡ x
  pub counted : head.arity ≡ length entry.parameters
  pub stands : IsHeadAt t ds declared defined before bodies place entry head.place

-- ---- behind one more entry

module _ (t : Table) (e : Entry) (es ds : List Entry) (declared defined before : ℕ) (bodies : List ℕ) where
  head_behind_declared : (q : ℕ) (a : Entry) (f : Found)
      → IsHeadAt t ds (declared + 1) defined (before + 1) bodies q a f
      → IsHeadAt t (e ∷ ds) declared defined before bodies (suc q) a f
  head_behind_declared q a (place.Declared p) h = (suc h.0, omega (arith, h.1), h.2)
  head_behind_declared q a (place.Defined p) h =
      (h.0, h.1, λ j at. subst (λ n. IsBodyOf t n a j) (omega arith) (h.2 j at))

  head_behind_defined : (b q : ℕ) (a : Entry) (f : Found)
      → IsHeadAt t ds declared (defined + 1) (before + 1) bodies q a f
      → IsHeadAt t ds declared defined before (b ∷ bodies) (suc q) a f
  head_behind_defined b q a (place.Declared p) h = (h.0, h.1, h.2)
  head_behind_defined b q a (place.Defined p) h =
      (suc h.0, omega (arith, h.1), λ j at. subst (λ n. IsBodyOf t n a j) (omega arith) (h.2 j at))

  behind_declared : (n : ℕ) (x : List ℕ) (h : Head)
      → IsNamed t es ds (declared + 1) defined (before + 1) bodies n x h
      → IsNamed t (e ∷ es) (e ∷ ds) declared defined before bodies (suc n) x h
  behind_declared n x h f = record {
    place = suc f.place;
    entry = f.entry;
    at = f.at;
    within = omega (arith, f.within);
    name = f.name;
    counted = f.counted;
    stands = head_behind_declared f.place f.entry h.place f.stands;
  }

  behind_defined : (b n : ℕ) (x : List ℕ) (h : Head)
      → IsNamed t es ds declared (defined + 1) (before + 1) bodies n x h
      → IsNamed t (e ∷ es) ds declared defined before (b ∷ bodies) (suc n) x h
  behind_defined b n x h f = record {
    place = suc f.place;
    entry = f.entry;
    at = f.at;
    within = omega (arith, f.within);
    name = f.name;
    counted = f.counted;
    stands = head_behind_defined b f.place f.entry h.place f.stands;
  }

-- ---- what is found

-- the first entry
module _ (t : Table) (e : Entry) (es : List Entry) (declared defined before n : ℕ) (x : List ℕ) where
  first_declared : (command : ℕ) (bodies : List ℕ) → e.origin ≡ Declared command → e.name ≡ x
      → IsNamed t (e ∷ es) (e ∷ declared_among es) declared defined before bodies (suc n) x
      (record { place = place.Declared declared; arity = length e.parameters })
  first_declared command bodies from is = record {
    place = zero;
    entry = e;
    at = refl;
    within = omega arith;
    name = is;
    counted = refl;
    stands = (zero, omega arith, refl);
  }

  first_defined : (ps : List (List ℕ)) (body : Sexp) (b : ℕ) (bodies : List ℕ) → e.origin ≡ Defined ps body
      → e.name ≡ x → IsBody t before (length e.parameters) ps body b
      → IsNamed t (e ∷ es) (declared_among es) declared defined before (b ∷ bodies) (suc n) x
      (record { place = place.Defined defined; arity = length e.parameters })
  first_defined ps body b bodies from is here = record {
    place = zero;
    entry = e;
    at = refl;
    within = omega arith;
    name = is;
    counted = refl;
    stands = (
      zero,
      omega arith,
      λ j at. let same : b ≡ j = cc in
          subst (λ k. IsBodyOf t k e j) (omega arith)
          (subst (IsBodyOf t before e) same (ps, body, from, here)),
    );
  }

pub found : (t : Table) (es : List Entry) (declared defined before : ℕ) (bodies : List ℕ) (n : ℕ)
    (x : List ℕ) (h : Head) → AreBodies t before bodies es
    → look_up (take n (heads_from declared defined es)) x ≡ Some h
    → IsNamed t es (declared_among es) declared defined before bodies n x h
found t [] declared defined before bodies zero x h b at = cc
found t [] declared defined before bodies (suc n) x h b at = cc
found t (e ∷ es) declared defined before bodies zero x h b at = cc
found t (e ∷ es) declared defined before bodies (suc n) x h b at =
    by (bytes_eq x e.name) refl e.origin refl bodies b at
    (λ d f rest c there. found t es d f (before + 1) rest n x h c there)
  where
    by : (b : Bool) → bytes_eq x e.name ≡ b → (o : Origin) → e.origin ≡ o → (bs : List ℕ)
        → IsNextBody t before (length e.parameters) o bs (λ rest. AreBodies t (before + 1) rest es)
        → cond b (Some (record { place = place_behind declared defined o; arity = length e.parameters }))
        (look_up (take n (heads_from (with_declared declared o) (with_defined defined o) es)) x) ≡ Some h
        → ((d f : ℕ) (rest : List ℕ) → AreBodies t (before + 1) rest es
        → look_up (take n (heads_from d f es)) x ≡ Some h
        → IsNamed t es (declared_among es) d f (before + 1) rest n x h)
        → IsNamed t (e ∷ es) (cond (is_declared o) (e ∷ declared_among es) (declared_among es)) declared
        defined before bs (suc n) x h
    by true same (Declared command) from bs c at next =
        let is : record { place = place.Declared declared; arity = length e.parameters } ≡ h = cc in
        subst (IsNamed t (e ∷ es) (e ∷ declared_among es) declared defined before bs (suc n) x) is
        (first_declared t e es declared defined before n x command bs from (sym (same_name x e.name same)))
    by true same (Defined ps body) from [] c at next = absurd c
    by true same (Defined ps body) from (j ∷ js) c at next =
        let is : record { place = place.Defined defined; arity = length e.parameters } ≡ h = cc in
        subst (IsNamed t (e ∷ es) (declared_among es) declared defined before (j ∷ js) (suc n) x) is
        (first_defined t e es declared defined before n x ps body j js from (sym (same_name x e.name same))
        c.0)
    by false same (Declared command) from bs c at next =
        behind_declared t e es (declared_among es) declared defined before bs n x h
        (next (declared + 1) defined bs c at)
    by false same (Defined ps body) from [] c at next = absurd c
    by false same (Defined ps body) from (j ∷ js) c at next =
        behind_defined t e es (declared_among es) declared defined before js j n x h
        (next declared (defined + 1) js c.1 at)

-- ---- where all are defined

-- the body at a place is that of the entry there
pub body_at : (t : Table) (es : List Entry) (before : ℕ) (bodies : List ℕ) (q : ℕ) (e : Entry) (j : ℕ)
    → AllDefined es → AreBodies t before bodies es → slice_get es q ≡ Some e → slice_get bodies q ≡ Some j
    → IsBodyOf t (before + q) e j
body_at t [] before bodies q e j all b at is = cc
body_at t (c ∷ es) before bodies q e j all b at is =
    by c.origin refl all.0 bodies b q at is
    (λ k rest d there here. body_at t es (before + 1) rest k e j all.1 d there here)
  where
    by : (o : Origin) → c.origin ≡ o → IsDefined o → (bs : List ℕ)
        → IsNextBody t before (length c.parameters) o bs (λ rest. AreBodies t (before + 1) rest es)
        → (q : ℕ) → slice_get (c ∷ es) q ≡ Some e → slice_get bs q ≡ Some j
        → ((k : ℕ) (rest : List ℕ) → AreBodies t (before + 1) rest es → slice_get es k ≡ Some e
        → slice_get rest k ≡ Some j → IsBodyOf t (before + 1 + k) e j)
        → IsBodyOf t (before + q) e j
    by (Declared command) from is bs d q there here next = absurd is
    by (Defined ps body) from is [] d q there here next = absurd d
    by (Defined ps body) from is (b ∷ bs) d zero there here next =
        let entry : c ≡ e = cc in
        let number : b ≡ j = cc in
        subst (λ n. IsBodyOf t n e j) (omega arith)
        (subst (λ a. IsBodyOf t before a j) entry
        (subst (IsBodyOf t before c) number (ps, body, from, d.0)))
    by (Defined ps body) from is (b ∷ bs) d (suc k) there here next =
        subst (λ n. IsBodyOf t n e j) (omega arith) (next k bs d.1 there here)

-- no entry is declared
pub none_declared : (es : List Entry) (k : ℕ) (e : Entry) → AllDefined es
    → slice_get (declared_among es) k ≡ Some e → ⊥
none_declared [] k e all at = cc
none_declared (c ∷ es) k e all at = by c.origin all.0 at (λ there. none_declared es k e all.1 there)
  where
    by : (o : Origin) → IsDefined o
        → slice_get (cond (is_declared o) (c ∷ declared_among es) (declared_among es)) k ≡ Some e
        → (slice_get (declared_among es) k ≡ Some e → ⊥) → ⊥
    by (Declared command) is at next = is
    by (Defined ps body) is at next = next at
