-- The declarations of a library, one at a time.
use Rattle.std.proofs.Common.{◌≡◌, ◌≤◌, ℕ, zero, suc, ◌+◌, Bool, true, false, cond, List, [], ◌∷◌, ◌++◌}
use Rattle.std.proofs.Common.{length, slice_get, Option, Some, None, is_some, refl, ap, sym, ◌∙◌, arith}
use Rattle.std.specs.Option.{option_or}
use Rattle.smt_trees.specs.Sexp.{Sexp}
use Rattle.smt_terms.specs.Contents.{Declaration}
use Rattle.smt_terms.specs.Library.{declaration_at, declarations_from}
use Rattle.smt_terms.specs.Signature.{Entry, Origin, Declared, Defined, declared_among, entry_named}
use Rattle.smt_terms.specs.Signature.{is_declared}
use Rattle.smt_eval.specs.Model.{command_of_origin, first_lacking, lacking_at}

-- a place of an entry is within
pub within : (es : List Entry) (n : ℕ) (e : Entry) → slice_get es n ≡ Some e → n + 1 ≤ length es
within [] n e h = cc
within (c ∷ es) zero e h = omega arith
within (c ∷ es) (suc n) e h = let w = within es n e h in omega (arith, w)

-- ---- declarations

-- entries that stand from a place on
abbrev pub StandFrom : ℕ → List Entry → List Entry → Type 0
StandFrom k rest es = (j : ℕ) (e : Entry) → slice_get rest j ≡ Some e → slice_get es (k + j) ≡ Some e

-- the next declaration is that of the next entry that is declared
pub record IsNext (rest es : List Entry) (v : Declaration) (vs : List Declaration) : Type 0 where
  pub entry : Entry
  pub at : slice_get es v.name ≡ Some entry
  pub origin : entry.origin ≡ Declared v.command
  pub place : ℕ
  pub later : List Entry
  pub stand : StandFrom place later es
  pub others : vs ≡ declarations_from place later
  pub among : declared_among rest ≡ entry ∷ declared_among later
  pub lacking : (items : List Entry)
      → first_lacking rest items ≡ option_or (lacking_at items entry) (first_lacking later items)

head_of : {A : Type 0} {x y : A} {xs ys : List A} → x ∷ xs ≡ y ∷ ys → x ≡ y
head_of h = cc

tail_of : {A : Type 0} {x y : A} {xs ys : List A} → x ∷ xs ≡ y ∷ ys → xs ≡ ys
tail_of h = cc

stand_later : (k : ℕ) (e : Entry) (rest es : List Entry) → StandFrom k (e ∷ rest) es
    → StandFrom (k + 1) rest es
stand_later k e rest es stand j x at = ap (λ (n : ℕ). slice_get es n) (omega arith) ∙ stand (suc j) x at

not_declared : (items : List Entry) (e : Entry) (ps : List (List ℕ)) (t : Sexp) → e.origin ≡ Defined ps t
    → lacking_at items e ≡ None
not_declared items e ps t is = ap
    (λ (o : Origin). cond (is_some (entry_named items e.name)) None (command_of_origin o)) is ∙ by
    (is_some (entry_named items e.name))
  where
    by : (b : Bool) → cond b None (command_of_origin (Defined ps t)) ≡ None
    by true = refl
    by false = refl

pub next_declared : (k : ℕ) (rest es : List Entry) (v : Declaration) (vs : List Declaration)
    → StandFrom k rest es → declarations_from k rest ≡ v ∷ vs → IsNext rest es v vs
next_declared k [] es v vs stand h = cc
next_declared k (e ∷ rest) es v vs stand h =
    by e.origin refl h (λ g. next_declared (k + 1) rest es v vs (stand_later k e rest es stand) g)
  where
    by : (o : Origin) → e.origin ≡ o → declaration_at k e o ++ declarations_from (k + 1) rest ≡ v ∷ vs
        → (declarations_from (k + 1) rest ≡ v ∷ vs → IsNext rest es v vs) → IsNext (e ∷ rest) es v vs
    by (Declared command) is h next =
        let same : record { name = k; parameters = e.parameters; sort = e.sort; command = command } ≡ v =
        head_of h in
        let name : k + 0 ≡ v.name = omega (arith, ap (λ (d : Declaration). d.name) same) in
        record {
          entry = e;
          at = ap (λ (n : ℕ). slice_get es n) (sym name) ∙ stand zero e refl;
          origin = is ∙ ap (λ (d : Declaration). Declared d.command) same;
          place = k + 1;
          later = rest;
          stand = stand_later k e rest es stand;
          others = sym (tail_of h);
          among = ap (λ (p : Origin). cond (is_declared p) (e ∷ declared_among rest) (declared_among rest)) is;
          lacking = λ items. refl;
        }
    by (Defined ps t) is h next =
        let g = next h in
        record {
          entry = g.entry;
          at = g.at;
          origin = g.origin;
          place = g.place;
          later = g.later;
          stand = g.stand;
          others = g.others;
          among = ap (λ (p : Origin). cond (is_declared p) (e ∷ declared_among rest) (declared_among rest)) is
              ∙ g.among;
          lacking = λ items. ap (λ (o : Option ℕ). option_or o (first_lacking rest items))
              (not_declared items e ps t is) ∙ g.lacking items;
        }

-- where no declaration is left, nothing is lacking
pub none_declared_left : (k : ℕ) (rest items : List Entry) → declarations_from k rest ≡ []
    → first_lacking rest items ≡ None
none_declared_left k [] items h = refl
none_declared_left k (e ∷ rest) items h = by e.origin refl h (λ g. none_declared_left (k + 1) rest items g)
  where
    by : (o : Origin) → e.origin ≡ o → declaration_at k e o ++ declarations_from (k + 1) rest ≡ []
        → (declarations_from (k + 1) rest ≡ [] → first_lacking rest items ≡ None)
        → first_lacking (e ∷ rest) items ≡ None
    by (Declared command) is h next = cc
    by (Defined ps t) is h next =
        ap (λ (o : Option ℕ). option_or o (first_lacking rest items)) (not_declared items e ps t is) ∙ next h

-- a declared name that is defined, or is not
pub found_is_not_lacking : (items : List Entry) (e : Entry) (f : Entry) → entry_named items e.name ≡ Some f
    → lacking_at items e ≡ None
found_is_not_lacking items e f h =
    ap (λ (o : Option Entry). cond (is_some o) None (command_of_origin e.origin)) h

pub absent_is_lacking : (items : List Entry) (e : Entry) (command : ℕ) → entry_named items e.name ≡ None
    → e.origin ≡ Declared command → lacking_at items e ≡ Some command
absent_is_lacking items e command h is =
    ap (λ (o : Option Entry). cond (is_some o) None (command_of_origin e.origin)) h ∙ ap command_of_origin is

-- where no declaration is left, no entry is declared
pub none_among_left : (k : ℕ) (rest : List Entry) → declarations_from k rest ≡ [] → declared_among rest ≡ []
none_among_left k [] h = refl
none_among_left k (e ∷ rest) h = by e.origin h (λ g. none_among_left (k + 1) rest g)
  where
    by : (o : Origin) → declaration_at k e o ++ declarations_from (k + 1) rest ≡ []
        → (declarations_from (k + 1) rest ≡ [] → declared_among rest ≡ [])
        → cond (is_declared o) (e ∷ declared_among rest) (declared_among rest) ≡ []
    by (Declared command) h next = cc
    by (Defined ps t) h next = next h
