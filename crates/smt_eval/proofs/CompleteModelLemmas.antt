-- A model that is read is well sorted, and defines each declared name with its rank.
use Rattle.std.proofs.Common.{◌≡◌, ◌↔◌, ℕ, zero, suc, ◌+◌, Bool, true, false, cond, List, [], ◌∷◌, ◌++◌}
use Rattle.std.proofs.Common.{Option, Some, None, is_some, slice_get, Result, Ok, Err, refl, ap, sym, ◌∙◌}
use Rattle.std.proofs.Common.{subst, append_assoc, append-nil}
use Rattle.std.specs.Prelude.{bytes_eq, option_and_then}
use Rattle.std.specs.Option.{option_or}
use Rattle.smt_trees.specs.Sexp.{Sexp, Sexps, Nil, Cons}
use Rattle.smt_theory.specs.Words.{result_and_then}
use Rattle.smt_theory.specs.declared.theories.Theories.{Theories}
use Rattle.smt_terms.specs.Elements.{ElementNames}
use Rattle.smt_terms.specs.Items.{item_in, items_before, list_of}
use Rattle.smt_terms.specs.Signature.{AreDistinct, Entry, Origin, Declared, Defined, IsDeclared, KeepsRank}
use Rattle.smt_terms.specs.Signature.{Signature, declared_named, entry_named, if_declared, names_of}
use Rattle.smt_terms.specs.Freshness.{is_taken, item_elements}
use Rattle.smt_terms.specs.WellSorted.{AreWellSorted, IsWellSorted}
use Rattle.smt_faults.specs.declared.term_flaw.TermFlaw.{TermFlaw}
use Rattle.smt_eval.proofs.EntryLemmas.{entry_named-skip}
use Rattle.smt_eval.proofs.NameLemmas.{same_name, same_flip, none_step}
use Rattle.smt_eval.specs.CompleteModel.{IsModelOf}
use Rattle.smt_eval.specs.Model.{AreDefined, AreItems, command_of_origin, complete_or, first_lacking}
use Rattle.smt_eval.specs.Model.{items_from, items_of, lacking_at, model_in, or_item}
use Rattle.smt_eval.specs.declared.model_fault.ModelFlaw.{ModelFlaw}

-- what is defined keeps the rank of a declaration of its name
abbrev pub IsRanked : Signature → Entry → Type 0
IsRanked script e = (d : Entry) → declared_named script.entries e.name ≡ Some d → KeepsRank d (Some e)

-- its name is free in the script, unless it was declared there
abbrev pub IsFree : Signature → Entry → Type 0
IsFree script e = declared_named script.entries e.name ≡ None → is_taken (names_of script) e.name ≡ false

-- what an item that is taken defines
pub record IsItem (script : Signature) (earlier : List Entry) (e : Entry) : Type 0 where
  pub fresh : entry_named earlier e.name ≡ None
  pub sorted : IsWellSorted script.theories (item_elements script) earlier e
  pub ranked : IsRanked script e
  pub free : IsFree script e

-- the law of items
abbrev pub TakenAreItems : Type 0
TakenAreItems = (script : Signature) (earlier : List Entry) (tree : Sexp) (e : Entry)
    → item_in script earlier tree ≡ Ok (Some e) → IsItem script earlier e

-- one more at the end
AreWellSorted-more : (theories : Theories) (elements : Option ElementNames) (before xs : List Entry) (e : Entry)
    → AreWellSorted theories elements before xs → IsWellSorted theories elements (before ++ xs) e
    → AreWellSorted theories elements before (xs ++ e ∷ [])
AreWellSorted-more theories elements before [] e h i =
    (subst (λ es. IsWellSorted theories elements es e) (append-nil before) i, tt)
AreWellSorted-more theories elements before (x ∷ xs) e h i = (
  h.0,
  AreWellSorted-more theories elements (before ++ x ∷ []) xs e h.1
      (subst (λ es. IsWellSorted theories elements es e) (sym (append_assoc before (x ∷ []) xs)) i),
)

-- another name at the end is not found
entry_named-more : (es : List Entry) (e : Entry) (x : List ℕ) → entry_named es x ≡ None
    → bytes_eq x e.name ≡ false → entry_named (es ++ e ∷ []) x ≡ None
entry_named-more [] e x h n = entry_named-skip e [] x n
entry_named-more (d ∷ es) e x h n =
    let p =
    none_step (bytes_eq x d.name) d (entry_named es x) h
    in entry_named-skip d (es ++ e ∷ []) x p.0 ∙ entry_named-more es e x p.1 n

-- a new name at the end keeps names distinct
AreDistinct-more : (es : List Entry) (e : Entry) → AreDistinct es → entry_named es e.name ≡ None
    → AreDistinct (es ++ e ∷ [])
AreDistinct-more [] e d h = (refl, tt)
AreDistinct-more (c ∷ es) e d h =
    let p = none_step (bytes_eq e.name c.name) c (entry_named es e.name) h in
    (entry_named-more es e c.name d.0 (same_flip e.name c.name p.0), AreDistinct-more es e d.1 p.1)

-- each keeps the rank of a declaration of its name
abbrev pub AreRanked : Signature → List Entry → Type 0
AreRanked script [] = Unit {0}
AreRanked script (e ∷ es) = IsRanked script e × AreRanked script es

-- one more at the end that keeps its rank
AreRanked-more : (script : Signature) (es : List Entry) (e : Entry) → AreRanked script es → IsRanked script e
    → AreRanked script (es ++ e ∷ [])
AreRanked-more script [] e h i = (i, tt)
AreRanked-more script (d ∷ es) e h i = (h.0, AreRanked-more script es e h.1 i)

-- each name is free in the script, unless it was declared there
abbrev pub AreFree : Signature → List Entry → Type 0
AreFree script [] = Unit {0}
AreFree script (e ∷ es) = IsFree script e × AreFree script es

AreFree-more : (script : Signature) (es : List Entry) (e : Entry) → AreFree script es → IsFree script e
    → AreFree script (es ++ e ∷ [])
AreFree-more script [] e h i = (i, tt)
AreFree-more script (d ∷ es) e h i = (h.0, AreFree-more script es e h.1 i)

-- what holds of the items that were read
pub record AreSound (script : Signature) (items : List Entry) : Type 0 where
  pub sorted : AreWellSorted script.theories (item_elements script) [] items
  pub distinct : AreDistinct items
  pub ranked : AreRanked script items
  pub free : AreFree script items

-- it holds of the items after any more are read
pub AreSound-from : TakenAreItems
    → (script : Signature) (earlier : List Entry) (number : ℕ) (trees : Sexps) (items : List Entry)
    → AreSound script earlier → items_from script earlier number trees ≡ Ok items → AreSound script items
AreSound-from law script earlier number Nil items so_far h =
    let is : earlier ≡ items = cc in subst (AreSound script) is so_far
AreSound-from law script earlier number (Cons x xs) items so_far h = by (item_in script earlier x) refl h
    (λ o more rest. AreSound-from law script (earlier ++ list_of o) (number + 1) xs items more rest)
  where
    by : (r : Result (Option Entry) TermFlaw) → item_in script earlier x ≡ r
        → or_item number r (λ o. items_from script (earlier ++ list_of o) (number + 1) xs) ≡ Ok items
        → ((o : Option Entry) → AreSound script (earlier ++ list_of o)
        → items_from script (earlier ++ list_of o) (number + 1) xs ≡ Ok items → AreSound script items)
        → AreSound script items
    by (Err f) is h next = cc
    by (Ok None) is h next = next None (subst (AreSound script) (sym (append-nil earlier)) so_far) h
    by (Ok (Some e)) is h next =
        let i = law script earlier x e is in
        next (Some e) (record {
          sorted = AreWellSorted-more script.theories (item_elements script) [] earlier e so_far.sorted i.sorted;
          distinct = AreDistinct-more earlier e so_far.distinct i.fresh;
          ranked = AreRanked-more script earlier e so_far.ranked i.ranked;
          free =
              AreFree-more script earlier e so_far.free i.free;
        }) h

-- ---- names that are lacking

-- where nothing is lacking, nothing is lacking at the first name, and nothing behind it
none_of_both : (a b : Option ℕ) → option_or a b ≡ None → (a ≡ None) × (b ≡ None)
none_of_both None b h = (refl, h)
none_of_both (Some n) b h = cc

-- a declaration that is not lacking is defined
defined_here : (b : Bool) (o : Origin) → IsDeclared o → cond b None (command_of_origin o) ≡ None → b ≡ true
defined_here true o is h = refl
defined_here false (Declared command) is h = cc
defined_here false (Defined ps body) is h = absurd is

-- where nothing is lacking, each declared entry is defined
pub none_lacking : (names items : List Entry) → first_lacking names items ≡ None → AreDefined names items
none_lacking [] items h place e at is = cc
none_lacking (d ∷ ds) items h zero e at is =
    let here : d ≡ e = cc in
    defined_here (is_some (entry_named items e.name)) e.origin is
    (subst (λ (f : Entry). lacking_at items f ≡ None) here
    (none_of_both (lacking_at items d) (first_lacking ds items) h).0)
none_lacking (d ∷ ds) items h (suc place) e at is =
    none_lacking ds items (none_of_both (lacking_at items d) (first_lacking ds items) h).1 place e at is

-- and the other way round
pub not_lacking : (b : Bool) (o : Origin) → (IsDeclared o → b ≡ true)
    → cond b None (command_of_origin o) ≡ None
not_lacking true o h = refl
not_lacking false (Declared command) h = let no : false ≡ true = h tt in cc
not_lacking false (Defined ps body) h = refl

pub lacking_none : (names items : List Entry) → AreDefined names items → first_lacking names items ≡ None
lacking_none [] items h = refl
lacking_none (d ∷ ds) items h =
    ap (λ o. option_or o (first_lacking ds items))
    (not_lacking (is_some (entry_named items d.name)) d.origin (h zero d refl)) ∙ lacking_none ds items
    (λ place e at is. h (suc place) e at is)

-- a name that is found stands in some place
pub place_of : (es : List Entry) (x : List ℕ) (e : Entry) → entry_named es x ≡ Some e
    → (place : ℕ) × (slice_get es place ≡ Some e) × (x ≡ e.name)
place_of [] x e at = cc
place_of (d ∷ es) x e at = by (bytes_eq x d.name) refl at (λ h. place_of es x e h)
  where
    by : (b : Bool) → bytes_eq x d.name ≡ b → cond b (Some d) (entry_named es x) ≡ Some e
        → (entry_named es x ≡ Some e → (place : ℕ) × (slice_get es place ≡ Some e) × (x ≡ e.name))
        → (place : ℕ) × (slice_get (d ∷ es) place ≡ Some e) × (x ≡ e.name)
    by true same at next = let here : d ≡ e = cc
        in (zero, ap (λ (f : Entry). Some f) here, same_name x d.name same ∙ ap (λ (f : Entry). f.name) here)
    by false same at next = let p = next at in (suc p.0, p.1, p.2)

-- an item of a declared name keeps its rank
KeepsRank-found : (script : Signature) (items : List Entry) (x : List ℕ) (e : Entry) → AreRanked script items
    → declared_named script.entries x ≡ Some e → is_some (entry_named items x) ≡ true
    → KeepsRank e (entry_named items x)
KeepsRank-found script [] x e ranked at some = cc
KeepsRank-found script (i ∷ is) x e ranked at some =
    by (bytes_eq x i.name) refl some (λ some. KeepsRank-found script is x e ranked.1 at some)
  where
    by : (b : Bool) → bytes_eq x i.name ≡ b → is_some (cond b (Some i) (entry_named is x)) ≡ true
        → (is_some (entry_named is x) ≡ true → KeepsRank e (entry_named is x))
        → KeepsRank e (cond b (Some i) (entry_named is x))
    by true same some next =
        ranked.0 e (ap (λ n. declared_named script.entries n) (sym (same_name x i.name same)) ∙ at)
    by false same some next = next some

-- a declared entry that is found is found among the declared
declared_found : (es : List Entry) (x : List ℕ) (e : Entry) → entry_named es x ≡ Some e → IsDeclared e.origin
    → declared_named es x ≡ Some e
declared_found es x e at is = ap (λ o. option_and_then (λ d. if_declared d d.origin) o) at ∙ by e.origin is
  where
    by : (o : Origin) → IsDeclared o → if_declared e o ≡ Some e
    by (Declared command) is = refl
    by (Defined ps body) is = absurd is

-- what holds of the definitions of a model that is read
pub sound : TakenAreItems → (script : Signature) (parts : Sexps) (definitions : Signature)
    → model_in script parts ≡ Ok definitions → AreSound script definitions.entries
sound law script parts definitions whole = by (items_from script [] 1 (items_of parts)) refl whole
  where
    lacks : (found : List Entry) (o : Option ℕ) → items_from script [] 1 (items_of parts) ≡ Ok found
        → complete_or o (items_before script found) ≡ Ok definitions → AreSound script definitions.entries
    lacks found (Some command) read h = cc
    lacks found None read h =
        let is : items_before script found ≡ definitions = cc in
        subst (λ (d : Signature). AreSound script d.entries) is
        (AreSound-from law script [] 1 (items_of parts) found
        (record { sorted = tt; distinct = tt; ranked = tt; free = tt }) read)

    by : (r : Result (List Entry) ModelFlaw) → items_from script [] 1 (items_of parts) ≡ r
        → result_and_then r (λ items. complete_or (first_lacking script.entries items)
        (items_before script items)) ≡ Ok definitions → AreSound script definitions.entries
    by (Err f) read h = cc
    by (Ok found) read h = lacks found (first_lacking script.entries found) read h

-- so a model that is read is one of the script's names
pub complete : TakenAreItems → (script : Signature) (parts : Sexps) (definitions : Signature)
    → model_in script parts ≡ Ok definitions → IsModelOf script parts definitions
complete law script parts definitions whole = by (items_from script [] 1 (items_of parts)) refl whole
  where
    lacks : (found : List Entry) (o : Option ℕ) → first_lacking script.entries found ≡ o
        → items_from script [] 1 (items_of parts) ≡ Ok found
        → complete_or o (items_before script found) ≡ Ok definitions → IsModelOf script parts definitions
    lacks found (Some command) none read h = cc
    lacks found None none read h =
        let is : items_before script found ≡ definitions = cc in
        let all =
        AreSound-from law script [] 1 (items_of parts) found
        (record { sorted = tt; distinct = tt; ranked = tt; free = tt }) read in
        subst (IsModelOf script parts) is (record {
          read = whole ∙ ap (λ (d : Signature). Ok d) (sym is);
          theories = refl;
          elements = refl;
          well_sorted = all.sorted;
          distinct = all.distinct;
          complete = λ x e at is_declared.
              let p = place_of script.entries x e at in
              KeepsRank-found script found x e all.ranked (declared_found script.entries x e at is_declared)
              (ap (λ n. is_some (entry_named found n)) p.2 ∙ none_lacking script.entries found none p.0 e
              p.1 is_declared);
        })

    by : (r : Result (List Entry) ModelFlaw) → items_from script [] 1 (items_of parts) ≡ r
        → result_and_then r (λ items. complete_or (first_lacking script.entries items)
        (items_before script items)) ≡ Ok definitions → IsModelOf script parts definitions
    by (Err f) read h = cc
    by (Ok found) read h = lacks found (first_lacking script.entries found) refl read h

-- ---- the items are the definitions

-- what is read behind earlier items
pub items_read : (script : Signature) (earlier : List Entry) (number : ℕ) (trees : Sexps) (items : List Entry)
    → items_from script earlier number trees ≡ Ok items
    → (es : List Entry) × AreItems script earlier trees es × (items ≡ earlier ++ es)
items_read script earlier number Nil items h =
    let is : earlier ≡ items = cc in ([], refl, sym is ∙ sym (append-nil earlier))
items_read script earlier number (Cons x xs) items h = by (item_in script earlier x) refl h
    (λ o g. items_read script (earlier ++ list_of o) (number + 1) xs items g)
  where
    by : (r : Result (Option Entry) TermFlaw) → item_in script earlier x ≡ r
        → or_item number r (λ o. items_from script (earlier ++ list_of o) (number + 1) xs) ≡ Ok items
        → ((o : Option Entry) → items_from script (earlier ++ list_of o) (number + 1) xs ≡ Ok items
        → (es : List Entry) × AreItems script (earlier ++ list_of o) xs es
        × (items ≡ (earlier ++ list_of o) ++ es))
        → (es : List Entry) × AreItems script earlier (Cons x xs) es × (items ≡ earlier ++ es)
    by (Err f) is h next = cc
    by (Ok o) is h next =
        let p = next o h in (
          list_of o ++ p.0,
          (o, p.0, is, refl, p.1),
          p.2 ∙ append_assoc earlier (list_of o) p.0,
        )

-- and what items are is read
pub items_back : (script : Signature) (earlier : List Entry) (number : ℕ) (trees : Sexps) (es : List Entry)
    → AreItems script earlier trees es → items_from script earlier number trees ≡ Ok (earlier ++ es)
items_back script earlier number Nil es h =
    ap (λ (xs : List Entry). Ok xs) (sym (append-nil earlier) ∙ ap (λ xs. earlier ++ xs) (sym h))
items_back script earlier number (Cons x xs) es h =
    ap (λ r. or_item number r (λ o. items_from script (earlier ++ list_of o) (number + 1) xs)) h.2
    ∙ items_back script (earlier ++ list_of h.0) (number + 1) xs h.1 h.4 ∙ ap (λ (xs : List Entry). Ok xs)
    (append_assoc earlier (list_of h.0) h.1 ∙ ap (λ xs. earlier ++ xs) (sym h.3))

-- a model is its items
pub model_is_items : (script : Signature) (parts : Sexps) (es : List Entry)
    → (model_in script parts ≡ Ok (items_before script es))
    ↔ (AreItems script [] (items_of parts) es × AreDefined script.entries es)
model_is_items script parts es = (λ h. by (items_from script [] 1 (items_of parts)) refl h, back)
  where
    lacks : (found : List Entry) (o : Option ℕ) → first_lacking script.entries found ≡ o
        → items_from script [] 1 (items_of parts) ≡ Ok found
        → complete_or o (items_before script found) ≡ Ok (items_before script es)
        → AreItems script [] (items_of parts) es × AreDefined script.entries es
    lacks found (Some command) none read h = cc
    lacks found None none read h =
        let is : items_before script found ≡ items_before script es = cc in
        let same : found ≡ es = ap (λ (s : Signature). s.entries) is in
        let p = items_read script [] 1 (items_of parts) found read in (
          subst (AreItems script [] (items_of parts)) (sym p.2 ∙ same) p.1,
          subst
              (AreDefined script.entries) same (none_lacking script.entries found none),
        )

    by : (r : Result (List Entry) ModelFlaw) → items_from script [] 1 (items_of parts) ≡ r
        → result_and_then r (λ items. complete_or (first_lacking script.entries items)
        (items_before script items)) ≡ Ok (items_before script es)
        → AreItems script [] (items_of parts) es × AreDefined script.entries es
    by (Err f) read h = cc
    by (Ok found) read h = lacks found (first_lacking script.entries found) refl read h

    back : AreItems script [] (items_of parts) es × AreDefined script.entries es
        → model_in script parts ≡ Ok (items_before script es)
    back h =
        ap (λ r. result_and_then r
        (λ items. complete_or (first_lacking script.entries items) (items_before script items)))
        (items_back script [] 1 (items_of parts) es h.0)
        ∙ ap (λ o. complete_or o (items_before script es)) (lacking_none script.entries es h.1)
